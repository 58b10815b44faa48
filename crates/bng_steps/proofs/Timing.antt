-- What a Tick and an End did so far, and what follows on it.
use Rattle.std.proofs.Common.{◌≡◌, ◌<◌, ◌≤◌, ◌+◌, ◌-◌, ℕ, suc, true, false, List, [], ◌++◌, length, Option, Some, None, refl, inl, inr, sym, ap, subst, ◌∙◌, arith, append_assoc, append-nil, length-append, add-zero, zero-add}
use Rattle.bng_base.specs.declared.item.Entry.{Entry}
use Rattle.bng_base.specs.declared.item.OutRecord.{OutRecord}
use Rattle.bng_lns.specs.Tunnels.{TunnelsState}
use Rattle.bng_steps.specs.declared.rules.Rules.{Rules}
use Rattle.bng_base.specs.declared.item.At.{At}
use Rattle.bng_steps.specs.declared.session.Service.{Service}
use Rattle.bng_steps.specs.declared.session.Service.TheVariants.{Provisioned, Linked}
use Rattle.bng_steps.specs.declared.session.Session.{Session}
use Rattle.bng_steps.specs.State.{State, with_driven, with_tunnels}
use Rattle.bng_steps.specs.Deed.{at_of}
use Rattle.bng_steps.specs.Passing.{cause_at, passed_at}
use Rattle.bng_steps.specs.Timers.{Ticks, Ends, TellsEnd, IsFirstDue, IsTimed, LooksAt, LosesTerm, TimesIn, NoneIsDue, StopsTunnels, at_once}
use Rattle.bng_steps.specs.Timed.{TickedOnce, EndedOnce, Ticked, Ended, TickDone, EndDone, RemindedInTurn}

-- whose outs they are stays while the shard's number stays
same_at : (s s₀ : State) (e : Entry) → s.sessions.shard ≡ s₀.sessions.shard → at_of s e ≡ at_of s₀ e
same_at s s₀ e same = ap (λ (n : ℕ). let a : At = record { shard = n; seat = e.seat; place = e.place } in a) same

-- how many were sent
few_more : (outs₀ sent outs : List OutRecord) (most : ℕ) → outs ≡ outs₀ ++ sent → length outs ≤ length outs₀ + most → length sent ≤ most
few_more outs₀ sent outs most e few = omega (arith, length-append outs₀ sent, ap length e)

pub more_sent : (outs₀ sent outs first outs₁ : List OutRecord) → outs ≡ outs₀ ++ sent → outs₁ ≡ outs ++ first → outs₁ ≡ outs₀ ++ (sent ++ first)
more_sent outs₀ sent outs first outs₁ e f = f ∙ ap (λ (front : List OutRecord). front ++ first) e ∙ append_assoc outs₀ sent first

-- an end of a term keeps the shard's number, and so does a look, and the handling of a deadline
loses_number : (v : Service) (cause : ℕ) (r : Rules) (e : Entry) (s : State) (n : ℕ) (x : Session) (outs : List OutRecord) (s' : State) → LosesTerm v cause r e s n x outs s' → s'.sessions.shard ≡ s.sessions.shard
loses_number (Provisioned over) cause r e s n x outs s' h = ap (λ (q : State). q.sessions.shard) h.1
loses_number (Linked m) cause r e s n x outs s' h = ap (λ (q : State). q.sessions.shard) h.4

looks_number : (k : Option ℕ) (r : Rules) (e : Entry) (s : State) (n : ℕ) (x : Session) (outs : List OutRecord) (s' : State) → LooksAt k r e s n x outs s' → s'.sessions.shard ≡ s.sessions.shard
looks_number None r e s n x outs s' h = ap (λ (q : State). q.sessions.shard) h.1
looks_number (Some cause) r e s n x outs s' h = loses_number x.service cause r e s n x outs s' h

times_number : (v : Service) (r : Rules) (e : Entry) (s : State) (n : ℕ) (x : Session) (outs : List OutRecord) (s' : State) → TimesIn v r e s n x outs s' → s'.sessions.shard ≡ s.sessions.shard
times_number (Provisioned over) r e s n x outs s' h = looks_number (cause_at (passed_at s.passed x.number) x.lease e.moment) r e s n x outs s' h
times_number (Linked m) r e s n x outs s' h =
    looks_number (cause_at (passed_at s.passed h.after.number) h.after.lease e.moment) r e (with_driven s n x.lease h.cause h.after h.beside) n h.after h.then s' h.looks

timed_number : (r : Rules) (e : Entry) (s : State) (n : ℕ) (outs : List OutRecord) (s' : State) → IsTimed r e s n outs s' → s'.sessions.shard ≡ s.sessions.shard
timed_number r e s n outs s' (x, at, h) = times_number x.service r e s n x outs s' h

-- After n deadlines this is the state and this is what was sent: whatever Ticks go on from there are so many more from the first
-- state on.
pub record TicksOn (n : ℕ) (r : Rules) (a : At) (now : ℕ) (random : List ℕ) (s₀ s : State) (outs₀ outs : List OutRecord) : Type 0 where
  pub sent : List OutRecord
  pub outs_are : outs ≡ outs₀ ++ sent
  pub number : (e : Entry) → e.moment ≡ now → e.item.random ≡ random → at_of s₀ e ≡ a → s.sessions.shard ≡ s₀.sessions.shard
  pub go_on : (e : Entry) → e.moment ≡ now → e.item.random ≡ random → at_of s₀ e ≡ a → (m : ℕ) (more : List OutRecord) (s' : State) → Ticks m r e s more s' → Ticks (n + m) r e s₀ (sent ++ more) s'

pub ticks_begin : (r : Rules) (a : At) (now : ℕ) (random : List ℕ) (s : State) (outs : List OutRecord) → TicksOn 0 r a now random s s outs outs
ticks_begin r a now random s outs = record {
  sent = [];
  outs_are = sym (append-nil outs);
  number = λ e moment octets at. refl;
  go_on = λ e moment octets at m more s' h. subst (λ (k : ℕ). Ticks k r e s more s') (sym (zero-add m)) h;
}

module _ (r : Rules) (a : At) (now : ℕ) (random : List ℕ) (s₀ s : State) (outs₀ outs : List OutRecord) where
  pub ticks_more : (n : ℕ) (s₁ : State) (outs₁ : List OutRecord) → TicksOn n r a now random s₀ s outs₀ outs → TickedOnce true r a now random s s₁ outs outs₁ → TicksOn (n + 1) r a now random s₀ s₁ outs₀ outs₁
  ticks_more n s₁ outs₁ on (m₀, first, said, timed, sent) =
      record {
        sent = on.sent ++ said;
        outs_are = more_sent outs₀ on.sent outs said outs₁ on.outs_are sent;
        number = λ e moment octets at.
            let before = on.number e moment octets at in
            timed_number r e s m₀ said s₁ (timed e moment octets (same_at s s₀ e before ∙ at)) ∙ before;
        go_on = λ e moment octets at m more s' h.
            let now_at = same_at s s₀ e (on.number e moment octets at) ∙ at in
            let due = subst (λ (t : ℕ). IsFirstDue s t m₀) (sym moment) first in
            let once : Ticks (suc m) r e s (said ++ more) s' = inr (m₀, due, said, s₁, timed e moment octets now_at, more, h, refl) in
            let all = on.go_on e moment octets at (suc m) (said ++ more) s' once in
            let count : n + suc m ≡ n + 1 + m = omega arith in
            subst (λ (outs' : List OutRecord). Ticks (n + 1 + m) r e s₀ outs' s') (sym (append_assoc on.sent said more)) (subst (λ (k : ℕ). Ticks k r e s₀ (on.sent ++ (said ++ more)) s') count all);
      }

  pub ticks_done : (n : ℕ) → TicksOn n r a now random s₀ s outs₀ outs → length outs ≤ length outs₀ + 192 → Ticked n r a now random s₀ s outs₀ outs
  ticks_done n on few = record {
    more = on.sent;
    ticks = λ e moment octets at.
        subst (λ (k : ℕ). Ticks k r e s₀ on.sent s) (add-zero n) (subst (λ (outs' : List OutRecord). Ticks (n + 0) r e s₀ outs' s) (append-nil on.sent) (on.go_on e moment octets at 0 [] s (refl, refl)));
    outs_are = on.outs_are;
    few = few_more outs₀ on.sent outs 192 on.outs_are few;
  }

  pub ticks_stop : (n most : ℕ) (s₁ : State) (outs₁ : List OutRecord) → n < most → TicksOn n r a now random s₀ s outs₀ outs → TickedOnce false r a now random s s₁ outs outs₁ → length outs₁ ≤ length outs₀ + 192 → Ticked most r a now random s₀ s₁ outs₀ outs₁
  ticks_stop n most s₁ outs₁ lt on (none, same, still) few = record {
    more = on.sent;
    ticks = λ e moment octets at.
        let count : n + suc (most - n - 1) ≡ most = omega arith in
        let end : Ticks (suc (most - n - 1)) r e s [] s₁ = inl (subst (λ (t : ℕ). NoneIsDue s t) (sym moment) none, refl, same) in
        subst (λ (k : ℕ). Ticks k r e s₀ on.sent s₁) count (subst (λ (outs' : List OutRecord). Ticks (n + suc (most - n - 1)) r e s₀ outs' s₁) (append-nil on.sent) (on.go_on e moment octets at (suc (most - n - 1)) [] s₁ end));
    outs_are = still ∙ on.outs_are;
    few = few_more outs₀ on.sent outs₁ 192 (still ∙ on.outs_are) few;
  }

-- After n sessions ended, likewise.
pub record EndsOn (n : ℕ) (r : Rules) (a : At) (s₀ s : State) (outs₀ outs : List OutRecord) : Type 0 where
  pub sent : List OutRecord
  pub outs_are : outs ≡ outs₀ ++ sent
  pub number : s.sessions.shard ≡ s₀.sessions.shard
  pub go_on : (e : Entry) → at_of s₀ e ≡ a → (m : ℕ) (more : List OutRecord) (s' : State) → Ends m r e s more s' → Ends (n + m) r e s₀ (sent ++ more) s'

pub ends_begin : (r : Rules) (a : At) (s : State) (outs : List OutRecord) → EndsOn 0 r a s s outs outs
ends_begin r a s outs = record {
  sent = [];
  outs_are = sym (append-nil outs);
  number = refl;
  go_on = λ e at m more s' h. subst (λ (k : ℕ). Ends k r e s more s') (sym (zero-add m)) h;
}

module _ (r : Rules) (a : At) (s₀ s : State) (outs₀ outs : List OutRecord) where
  pub ends_more : (n : ℕ) (s₁ : State) (outs₁ : List OutRecord) → EndsOn n r a s₀ s outs₀ outs → EndedOnce true r a s s₁ outs outs₁ → EndsOn (n + 1) r a s₀ s₁ outs₀ outs₁
  ends_more n s₁ outs₁ on (m₀, low, x, at_n, padt, ends, next, sent) =
      record {
        sent = on.sent ++ padt;
        outs_are = more_sent outs₀ on.sent outs padt outs₁ on.outs_are sent;
        number = ap (λ (t : State). t.sessions.shard) next ∙ on.number;
        go_on = λ e at m more s' h.
            let told_so : TellsEnd x.service r (at_of s e) x padt = subst (λ (c : At). TellsEnd x.service r c x padt) (sym (same_at s s₀ e on.number ∙ at)) ends in
            let once : Ends (suc m) r e s (padt ++ more) s' = inr (m₀, low, x, at_n, padt, more, told_so, subst (λ (t : State). Ends m r e t more s') next h, refl) in
            let all = on.go_on e at (suc m) (padt ++ more) s' once in
            let count : n + suc m ≡ n + 1 + m = omega arith in
            subst (λ (outs' : List OutRecord). Ends (n + 1 + m) r e s₀ outs' s') (sym (append_assoc on.sent padt more)) (subst (λ (k : ℕ). Ends k r e s₀ (on.sent ++ (padt ++ more)) s') count all);
      }

  pub ends_done : (n : ℕ) → EndsOn n r a s₀ s outs₀ outs → length outs ≤ length outs₀ + 64 → Ended n r a s₀ s outs₀ outs
  ends_done n on few = record {
    more = on.sent;
    ends = λ e at.
        subst (λ (k : ℕ). Ends k r e s₀ on.sent s) (add-zero n) (subst (λ (outs' : List OutRecord). Ends (n + 0) r e s₀ outs' s) (append-nil on.sent) (on.go_on e at 0 [] s (refl, refl)));
    outs_are = on.outs_are;
    few = few_more outs₀ on.sent outs 64 on.outs_are few;
  }

  pub ends_stop : (n most : ℕ) (s₁ : State) (outs₁ : List OutRecord) → n < most → EndsOn n r a s₀ s outs₀ outs → EndedOnce false r a s s₁ outs outs₁ → length outs₁ ≤ length outs₀ + 64 → Ended most r a s₀ s₁ outs₀ outs₁
  ends_stop n most s₁ outs₁ lt on (none, same, still) few = record {
    more = on.sent;
    ends = λ e at.
        let count : n + suc (most - n - 1) ≡ most = omega arith in
        let end : Ends (suc (most - n - 1)) r e s [] s₁ = inl (none, refl, same) in
        subst (λ (k : ℕ). Ends k r e s₀ on.sent s₁) count (subst (λ (outs' : List OutRecord). Ends (n + suc (most - n - 1)) r e s₀ outs' s₁) (append-nil on.sent) (on.go_on e at (suc (most - n - 1)) [] s₁ end));
    outs_are = still ∙ on.outs_are;
    few = few_more outs₀ on.sent outs₁ 64 (still ∙ on.outs_are) few;
  }

-- What a Tick and an End did in all ---------------------------------------------------------------------------------------

-- the tunnels spoke first
pub tick_done : (r : Rules) (a : At) (now : ℕ) (random : List ℕ) (s s₁ s' : State) (outs outs₁ outs' : List OutRecord) → s₁.sessions.shard ≡ s.sessions.shard
    → RemindedInTurn a now s s₁ outs outs₁ → length outs₁ ≤ length outs + 128 → Ticked at_once r a now random s₁ s' outs₁ outs' → TickDone r a now random s s' outs outs'
tick_done r a now random s s₁ s' outs outs₁ outs' number told few ticked = record {
  first = told.more;
  next = s₁;
  reminds = told.reminds;
  rest = ticked.more;
  ticks = λ e moment octets at. ticked.ticks e moment octets (same_at s₁ s e number ∙ at);
  outs_are = ticked.outs_are ∙ ap (λ (os : List OutRecord). os ++ ticked.more) told.outs_are ∙ append_assoc outs told.more ticked.more;
  few = omega (arith, few, ap length told.outs_are, length-append outs told.more, length-append told.more ticked.more, ticked.few);
}

-- and they speak last
pub end_done : (r : Rules) (a : At) (now : ℕ) (s s₁ s' : State) (t : TunnelsState) (outs outs₁ outs' more : List OutRecord) → Ended at_once r a s s₁ outs outs₁
    → StopsTunnels a now s₁ more t → outs' ≡ outs₁ ++ more → length outs' ≤ length outs₁ + 16 → s' ≡ with_tunnels s₁ t → EndDone r a now s s' outs outs'
end_done r a now s s₁ s' t outs outs₁ outs' more ended stops are few same = record {
  first = ended.more;
  next = s₁;
  ends = ended.ends;
  rest = more;
  tunnels = t;
  stops = stops;
  after = same;
  outs_are = are ∙ ap (λ (os : List OutRecord). os ++ more) ended.outs_are ∙ append_assoc outs ended.more more;
  few = omega (arith, few, ap length are, length-append outs₁ more, length-append ended.more more, ended.few);
}
