-- How often an Access-Request in hand was sent to each server, where one times out, and where none does.
use Rattle.std.proofs.Common.{◌≡◌, ⊎_elim, ℕ, ◌+◌, ◌≤◌, ◌<◌, ◌++◌, Bool, true, false, List, length, take, replicate, Some, refl, sym, ap, ◌∙◌, arith, get_or}
use Rattle.std.specs.Prelude.{sum_by, ◌&&◌, nat_le}
use Rattle.std.proofs.lemmas.Bool.{leb-true, le-leb}
use Rattle.std.proofs.lemmas.Bool.Decides.{leb_tells}
use Rattle.std.proofs.lemmas.List.{length-append, length-map, length-replicate, take_all}
use Rattle.std.proofs.lemmas.List.Concat.{length-flat_map}
use Rattle.std.proofs.lemmas.List.Sums.{sum_by_more, sum_by_more_le}
use Rattle.std.proofs.lemmas.Option.{slice_get_within}
use Rattle.bng_base.specs.Chain.{Chain}
use Rattle.bng_base.specs.declared.address.Peer.{Peer}
use Rattle.bng_rad_client.specs.declared.pending.Pending.{Pending}
use Rattle.bng_rad_client.specs.declared.rules.Lane.TheVariants.{Auth}
use Rattle.bng_rad_client.specs.declared.rules.Owner.{Owner}
use Rattle.bng_failover.specs.declared.rules.FailoverRules.{FailoverRules}
use Rattle.bng_failover.specs.declared.server.Server.{Server}
use Rattle.bng_failover.specs.Calls.{Call, Does}
use Rattle.bng_failover.specs.Due.{IsGivenUp, NoneGivenUp}
use Rattle.bng_failover.specs.Sends.{Sending, sending, WentInTurn, WentToEach, each_times, trails_of}
use Rattle.bng_failover.specs.Servers.{request_at}
use Rattle.bng_failover.specs.State.{State, IsOpened}
use Rattle.bng_failover.proofs.Held.{holder, at_holder}
use Rattle.bng_failover.proofs.Turns.{each_more, peers_of, InTurn, asked_in_turn, sent_in_turn}
use Rattle.bng_failover.proofs.Ways.{BeginsSo, GoesOnSo, followed, last_rules}

both_true : (a b : Bool) → (a && b) ≡ true → (a ≡ true) × (b ≡ true)
both_true true true e = (refl, refl)
both_true true false e = absurd (let no : false ≡ true = e in cc)
both_true false b e = absurd (let no : false ≡ true = e in cc)

are_both : (a b : Bool) → a ≡ true → b ≡ true → (a && b) ≡ true
are_both true true e f = refl
are_both true false e f = f
are_both false b e f = e

module _ (peers : List Peer) (tries : ℕ) where
  abbrev times : Peer → ℕ
  times p = length (replicate tries p)

  each_length : (xs : List Peer) → length (each_times tries xs) ≡ sum_by times xs
  each_length xs = length-flat_map (λ (p : Peer). replicate tries p) xs

  -- at the last server, sent as often as it is to be
  pub to_each : (sends : List Sending) (at now : ℕ) (r : Pending) → WentInTurn peers tries sends at r → at + 1 ≡ length peers → tries ≤ r.sends → r.sent_at + 3000 ≤ now → WentToEach peers tries now sends
  to_each sends at now r w end full over =
      let all : r.sends ≡ tries = omega (arith, full, w.most) in
      let whole : take (at + 1) peers ≡ peers = take_all (at + 1) peers (omega (arith, end)) in
      record {
        to = w.to
            ∙ ap (λ (n : ℕ). each_times tries (take at peers) ++ replicate n w.server) all
            ∙ sym (each_more tries peers at w.server w.is)
            ∙ ap (λ (l : List Peer). each_times tries l) whole;
        last = w.last;
        is_last = w.is_last;
        over = omega (arith, w.moment, over);
      }

  module _ (sends : List Sending) (at now : ℕ) (r : Pending) (w : WentInTurn peers tries sends at r) (e : WentToEach peers tries now sends) where
    within : at < length peers
    within = slice_get_within peers at w.server w.is

    here : times (get_or peers at w.server) ≡ tries
    here = length-replicate tries (get_or peers at w.server)

    counts : sum_by times (take at peers) + r.sends ≡ sum_by times peers
    counts =
        let same : length (each_times tries (take at peers) ++ replicate r.sends w.server) ≡ length (each_times tries peers) = ap (λ (l : List Peer). length l) (sym w.to ∙ e.to) in
        let split = length-append (each_times tries (take at peers)) (replicate r.sends w.server) in
        omega (arith, same, split, length-replicate r.sends w.server, each_length (take at peers), each_length peers)

    more : sum_by times (take (at + 1) peers) ≡ sum_by times (take at peers) + tries
    more = let m = sum_by_more times peers at w.server within in omega (arith, m, here)

    at_end : 0 < tries → length peers ≤ at + 1
    at_end some = ⊎_elim (λ h. h.1) (λ h. absurd (further h.1)) (leb_tells (length peers) (at + 1))
      where
        further : at + 1 < length peers → ⊥
        further lt =
            let next = sum_by_more_le times peers (at + 1) w.server lt in
            let there : times (get_or peers (at + 1) w.server) ≡ tries = length-replicate tries (get_or peers (at + 1) w.server) in
            absurd (omega (arith, counts, more, next, there, w.most, some))

    pub is_end : 0 < tries → at + 1 ≡ length peers
    is_end some = omega (arith, at_end some, within)

    pub is_full : 0 < tries → tries ≤ r.sends
    is_full some =
        let whole : sum_by times (take (at + 1) peers) ≡ sum_by times peers = ap (λ (l : List Peer). sum_by times l) (take_all (at + 1) peers (at_end some)) in
        omega (arith, whole, more, counts)

    pub is_over : r.sent_at + 3000 ≤ now
    is_over =
        let both : Some w.last ≡ Some e.last = sym w.is_last ∙ e.is_last in
        let one : w.last ≡ e.last = cc in
        let moments : w.last.moment ≡ e.last.moment = ap (λ (s : Sending). s.moment) one in
        omega (arith, moments, w.moment, e.over)

module _ (rules : FailoverRules) (opening last : State) (calls : List Call) (some : 0 < rules.tries) (byte : rules.tries < 256) (opened : IsOpened rules opening) (chain : Chain Does opening calls last) where
  abbrev sends_of : (at id : ℕ) → List Sending
  sends_of at id = (trails_of Auth calls at id).sends

  begins_so : BeginsSo Auth rules.auth rules.tries (InTurn rules.auth rules.tries)
  begins_so old new c is w =
      asked_in_turn rules.auth rules.tries old.auth new.auth w.owner w.request old.secret w.moment w.peer w.frame w.asked (sending w.owner w.peer w.moment w.frame) refl refl is.servers some

  goes_on_so : GoesOnSo Auth rules.auth rules.tries (InTurn rules.auth rules.tries)
  goes_on_so old new c is w t was =
      sent_in_turn rules.auth rules.tries old.auth new.auth old.secret old.tries w.moment w.whose.owner w.peer w.frame w.from.sent is.servers is.count some byte t was (sending w.whose.owner w.peer w.moment w.frame) refl refl

  pub in_turn : (at id : ℕ) (r : Pending) → request_at last.auth at id ≡ Some r → WentInTurn rules.auth rules.tries (sends_of at id) at r
  in_turn at id r there = (followed rules opening last calls Auth opened chain (InTurn rules.auth rules.tries) begins_so goes_on_so at id r there).1

  as_many : length last.auth ≡ length rules.auth
  as_many =
      let map_length : length (peers_of last.auth) ≡ length last.auth = length-map last.auth (λ (s : Server). s.peer) in
      let same : length (peers_of last.auth) ≡ length rules.auth = ap (λ (l : List Peer). length l) (last_rules rules opening last calls Auth opened chain).servers in
      omega (arith, map_length, same)

  tries_are : last.tries ≡ rules.tries
  tries_are = (last_rules rules opening last calls Auth opened chain).count

  pub timed_out : (left : List Server) (now : ℕ) (owner : Owner) (g : IsGivenUp last.auth left last.tries now owner) → WentToEach rules.auth rules.tries now (sends_of g.at g.due.id)
  timed_out left now owner g =
      let r : Pending = g.first.oldest.request in
      let w = in_turn g.at g.due.id r (at_holder last.auth g.at g.due.id g.first.server r g.first.is g.first.oldest.is) in
      let wants = both_true (nat_le (r.sent_at + 3000) now) (nat_le last.tries r.sends) g.first.oldest.wants in
      to_each rules.auth rules.tries (sends_of g.at g.due.id) g.at now r w
      (omega (arith, g.first.last, as_many))
      (omega (arith, leb-true last.tries r.sends wants.1, tries_are))
      (leb-true (r.sent_at + 3000) now wants.0)

  pub not_out : (now at id : ℕ) (r : Pending) → NoneGivenUp last.auth last.tries now → id < 256 → request_at last.auth at id ≡ Some r → WentToEach rules.auth rules.tries now (sends_of at id) → ⊥
  not_out now at id r none small there e =
      let w = in_turn at id r there in
      let end = is_end rules.auth rules.tries (sends_of at id) at now r w e some in
      let full = is_full rules.auth rules.tries (sends_of at id) at now r w e some in
      let over = is_over rules.auth rules.tries (sends_of at id) at now r w e in
      let h = holder last.auth at id r there in
      let enough : last.tries ≤ r.sends = omega (arith, full, tries_are) in
      none at h.server (omega (arith, end, as_many)) h.is id r small h.request
      (are_both (nat_le (r.sent_at + 3000) now) (nat_le last.tries r.sends) (le-leb (r.sent_at + 3000) now over) (le-leb last.tries r.sends enough))
