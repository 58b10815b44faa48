-- A shard is sound at its opening.
use Rattle.std.proofs.Common.{◌≡◌, ◌≢◌, ℕ, zero, suc, ◌+◌, ◌*◌, ◌<◌, List, [], Option, Some, None, All, AllPairs, find, refl, sym, subst, arith}
use Rattle.std.specs.Prelude.{◌==◌}
use Rattle.std.specs.FinMap.{empty}
use Rattle.bng_base.specs.declared.book.Profile.{Profile}
use Rattle.bng_base.specs.declared.settings.Static.{Static}
use Rattle.bng_sessions.specs.Sessions.{Sessions, IsNumberOf, with_value}
use Rattle.bng_steps.specs.declared.session.Session.{Session}
use Rattle.bng_steps.specs.Granting.{HasQuestion, IsSound}
use Rattle.bng_steps.specs.Opening.{in_order, no_tunnels, none_passed, opened_meters, opened_slots, provisioned, tenures_after}
use Rattle.bng_steps.specs.State.{State}
use Rattle.bng_steps.proofs.Circuits.{Opens, circuit_found, circuit_none, opened_is, opened_of_shard, opened_own, opens_more, opens_none, opens_other, stands_for}

module _ (now number : ℕ) (circuits : List Static) (apart : AllPairs (λ a b. a.session ≢ b.session) circuits) where
  -- circuits one after another
  record Opened (k : ℕ) : Type 0 where
    sessions : Sessions Session
    begun : ℕ
    opens : Opens now number circuits k sessions begun

  opened_next : (k : ℕ) → Opened k → (o : Option Static) → find (λ c. c.session.0 == number * 1024 + 1 + k) circuits ≡ o → Opened (suc k)
  opened_next k h None e = record {
    sessions = h.sessions;
    begun = h.begun;
    opens = opens_other now number circuits k h.sessions h.begun h.opens (circuit_none circuits (number * 1024 + 1 + k) apart e);
  }
  opened_next k h (Some c) e = record {
    sessions = with_value h.sessions (number * 1024 + 1 + k) (provisioned now c (h.begun + 1));
    begun = h.begun + 1;
    opens = opens_more now number circuits k h.sessions h.begun h.opens (number * 1024 + 1 + k) c refl (circuit_found circuits (number * 1024 + 1 + k) c apart e) (h.begun + 1) refl;
  }

  opened_all : (k : ℕ) → Opened k
  opened_all zero =
      let none : Sessions Session = record { shard = number; by_number = empty } in
      record { sessions = none; begun = 0; opens = opens_none now number circuits none refl refl }
  opened_all (suc k) = opened_next k (opened_all k) (find (λ c. c.session.0 == number * 1024 + 1 + k) circuits) refl

  pub opened_sound : (profiles : List Profile) → number < 64 → All (λ c. IsNumberOf number c.session.0) circuits → IsSound (opened_slots number profiles circuits now)
  opened_sound profiles low own =
      let h = opened_all 1022 in
      let shard : h.sessions.shard ≡ number = h.opens.shard in
      let sound : IsSound (record { sessions = h.sessions; begun = h.begun; question_count = 0; terms = tenures_after now 0 (in_order number circuits); news = []; passed = none_passed; meters = opened_meters number profiles circuits now; tunnels = no_tunnels number }) = record {
        shard = omega (arith, shard, low);
        own = opened_own now number circuits h.sessions h.begun h.opens;
        of_shard = opened_of_shard now number circuits h.sessions h.begun h.opens;
        questions = λ n x at. subst (λ (y : Session). HasQuestion y.service) (sym (stands_for now number circuits 1022 h.sessions h.begun h.opens n x at).is) tt;
      } in
      subst (λ (s : State). IsSound s) (opened_is now number circuits h.sessions h.begun h.opens profiles own) sound
