-- The request that was sent first, one server more.
use Rattle.std.proofs.Common.{◌≡◌, ℕ, ◌+◌, ◌≤◌, ◌<◌, Bool, cond, List, Option, Some, None, refl, sym, ap, subst, ⊎_elim, ◌∙◌, arith}
use Rattle.std.specs.Prelude.{slice_get}
use Rattle.std.proofs.lemmas.Bool.{cases_lt}
use Rattle.std.proofs.lemmas.Bool.Decides.{leb_tells}
use Rattle.bng_rad_client.specs.declared.due.LastSend.{LastSend}
use Rattle.bng_rad_client.specs.declared.due.Sought.TheVariants.{Any}
use Rattle.bng_rad_client.specs.declared.pending.Pending.{Pending}
use Rattle.bng_rad_client.specs.Due.{is_sought, IsOldestBelow, NoneBelow, IsOldestOrNone}
use Rattle.bng_rad_client.specs.Table.{request_of}
use Rattle.bng_failover.specs.declared.server.Server.{Server}
use Rattle.bng_failover.specs.Servers.{held_by, request_at}
use Rattle.bng_failover.specs.Due.{NoneInHandBelow, WasSentFirst, IsEarliest, earlier}

module _ (servers : List Server) (n : ℕ) (s : Server) (is : slice_get servers n ≡ Some s) where
  -- a request of the server at n is one of that server
  at_n : (at id : ℕ) (r : Pending) → at < n + 1 → n ≤ at → request_at servers at id ≡ Some r → request_of s.requests.places id ≡ Some r
  at_n at id r below from held =
      let e : at ≡ n = omega arith in
      sym (ap (λ (o : Option Server). held_by o id) is) ∙ sym (ap (λ (k : ℕ). request_at servers k id) e) ∙ held

  skipped : (best : Option ℕ) → NoneBelow (is_sought Any 0) s.requests.places 256 → IsEarliest servers n best → IsEarliest servers (n + 1) best
  skipped None none so_far = λ at id r here below held. ⊎_elim
      (λ lt. so_far at id r lt below held)
      (λ le. none id r below (at_n at id r here le held) refl)
      (cases_lt at n)
  skipped (Some moment) none so_far = record {
    at = so_far.at;
    id = so_far.id;
    request = so_far.request;
    here = omega (arith, so_far.here);
    below = so_far.below;
    is = so_far.is;
    moment = so_far.moment;
    first = λ at id r here below held. ⊎_elim
        (λ lt. so_far.first at id r lt below held)
        (λ le. absurd (none id r below (at_n at id r here le held) refl))
        (cases_lt at n);
  }

  module _ (d : LastSend) (oldest : IsOldestBelow (is_sought Any 0) s.requests.places 256 d) where
    mine : (at id : ℕ) (r : Pending) → at < n + 1 → id < 256 → n ≤ at → request_at servers at id ≡ Some r → d.sent_at ≤ r.sent_at
    mine at id r here below from held = (oldest.first id r below (at_n at id r here from held) refl).0

    alone : NoneInHandBelow servers n → WasSentFirst servers (n + 1) d.sent_at
    alone none = record {
      at = n;
      id = d.id;
      request = oldest.request;
      here = omega arith;
      below = oldest.below;
      is = ap (λ (o : Option Server). held_by o d.id) is ∙ oldest.is;
      moment = oldest.moment;
      first = λ at id r here below held. ⊎_elim
          (λ lt. absurd (none at id r lt below held))
          (λ le. mine at id r here below le held)
          (cases_lt at n);
    }

    kept : (moment : ℕ) → WasSentFirst servers n moment → moment ≤ d.sent_at → WasSentFirst servers (n + 1) moment
    kept moment so_far before = record {
      at = so_far.at;
      id = so_far.id;
      request = so_far.request;
      here = omega (arith, so_far.here);
      below = so_far.below;
      is = so_far.is;
      moment = so_far.moment;
      first = λ at id r here below held. ⊎_elim
          (λ lt. so_far.first at id r lt below held)
          (λ le. omega (arith, before, mine at id r here below le held))
          (cases_lt at n);
    }

    replaced : (moment : ℕ) → WasSentFirst servers n moment → d.sent_at < moment → WasSentFirst servers (n + 1) d.sent_at
    replaced moment so_far before = record {
      at = n;
      id = d.id;
      request = oldest.request;
      here = omega arith;
      below = oldest.below;
      is = ap (λ (o : Option Server). held_by o d.id) is ∙ oldest.is;
      moment = oldest.moment;
      first = λ at id r here below held. ⊎_elim
          (λ lt. omega (arith, before, so_far.first at id r lt below held))
          (λ le. mine at id r here below le held)
          (cases_lt at n);
    }

    taken_in : (best : Option ℕ) → IsEarliest servers n best → IsEarliest servers (n + 1) (earlier best (Some d))
    taken_in None so_far = alone so_far
    taken_in (Some moment) so_far = ⊎_elim
        (λ yes. subst (IsEarliest servers (n + 1)) (ap (λ (t : Bool). cond t (Some moment) (Some d.sent_at)) (sym yes.0)) (kept moment so_far yes.1))
        (λ no. subst (IsEarliest servers (n + 1)) (ap (λ (t : Bool). cond t (Some moment) (Some d.sent_at)) (sym no.0)) (replaced moment so_far no.1))
        (leb_tells moment d.sent_at)

  nothing : (best : Option ℕ) → IsEarliest servers (n + 1) best → IsEarliest servers (n + 1) (earlier best None)
  nothing None h = h
  nothing (Some moment) h = h

  pub earlier_more : (best : Option ℕ) (other : Option LastSend) → IsEarliest servers n best → IsOldestOrNone (is_sought Any 0) s.requests.places 256 other → IsEarliest servers (n + 1) (earlier best other)
  earlier_more best None so_far h = nothing best (skipped best h so_far)
  earlier_more best (Some d) so_far h = taken_in d h best so_far
