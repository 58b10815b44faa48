-- What lasts in each shard of a run: no term outlasts its session, each is of one of the shard's sessions and ends by one of the causes that
-- there are, and those of circuits end by the gateway's own stop.
use Rattle.std.proofs.Common.{◌≡◌, ◌≢◌, inl, inr, ℕ, ◌+◌, ◌/◌, ◌<◌, ◌≤◌, Bool, true, false, not, cond, List, [], ◌∷◌, ◌++◌, map, filter, length, Option, Some, None, IfSome, is_some, refl, sym, ap, subst, ◌∙◌, arith}
use Rattle.std.specs.List.{All, AllByRecursion, AllPairs, AllZip}
use Rattle.std.proofs.lemmas.Bool.{false≢true}
use Rattle.std.proofs.lemmas.List.Elements.{recursion_from_All}
use Rattle.bng_base.specs.declared.book.Profile.{Profile}
use Rattle.bng_base.specs.declared.settings.Static.{Static}
use Rattle.bng_engine.specs.Journals.{after, AreSteps}
use Rattle.bng_engine.specs.Terms.{Term, is_ended}
use Rattle.bng_engine.proofs.Everywhere.{all_append, all_filter}
use Rattle.bng_sessions.specs.Listed.{values}
use Rattle.bng_sessions.specs.Sessions.{IsNumberOf}
use Rattle.bng_steps.specs.declared.rules.Rules.{Rules}
use Rattle.bng_steps.specs.declared.session.Session.{Session}
use Rattle.bng_steps.specs.Deed.{Deed}
use Rattle.bng_steps.specs.Granting.{IsSound}
use Rattle.bng_steps.specs.Lasting.{AreHoused, CircuitsLast, IsCause, IsCircuitCause, IsHousedIn}
use Rattle.bng_steps.specs.Opening.{in_order, opened_slots, tenures_after}
use Rattle.bng_steps.specs.Protocol.{ShardState, Handled, cause_in, pppoe, sessions_of, term_in, terms_of}
use Rattle.bng_steps.specs.State.{State, count_in, settled}
use Rattle.bng_steps.specs.Tenures.{Tenure, is_over}
use Rattle.bng_steps.proofs.CircuitsKept.{circuits_kept, circuits_opened, circuits_settled}
use Rattle.bng_steps.proofs.ClaimedTerms.{step_by_claims}
use Rattle.bng_steps.proofs.GrantLaws.{settled_sound, step_sound}
use Rattle.bng_steps.proofs.HousedSettled.{housed_opened, housed_settled}
use Rattle.bng_steps.proofs.Housing.{housed_kept}
use Rattle.bng_steps.proofs.InOrder.{all_in_order}
use Rattle.bng_steps.proofs.OpenedKeys.{of_shard}
use Rattle.bng_steps.proofs.SoundOpening.{opened_sound}
use Rattle.bng_steps.proofs.TermLaws.{AnyCause, Lasts, Moves, step_moves}
use Rattle.bng_steps.proofs.Values.{stands}
use Rattle.bng_gate.proofs.Lists.{all_right}
use Rattle.bng_gate.proofs.Openings.{IsLive}

-- the term is of a session of the shard with this number
abbrev pub IsOfShard : ℕ → Tenure → Type 0
IsOfShard n t = t.term.session.0 / 1024 ≡ n

-- The state of the shard with this number, which has so many circuits: it is sound, no term outlasts its session, each ends by one of the
-- causes that there are, those of the circuits end by the gateway's own stop, and each is of a session of the shard.
pub record Keeps (n circuits : ℕ) (s : State) : Type 0 where
  pub sound : IsSound s
  pub housed : AreHoused s
  pub lasting : CircuitsLast circuits s
  pub shard : s.sessions.shard ≡ n
  pub own : AllByRecursion (IsOfShard n) s.terms

-- Steps ----------------------------------------------------------------------------------------------------------------------

module _ (n : ℕ) where
  own_still : (ts us : List Tenure) → AllZip (Lasts AnyCause) ts us → AllByRecursion (IsOfShard n) ts → AllByRecursion (IsOfShard n) us
  own_still [] [] zip h = tt
  own_still [] (u ∷ us) zip h = absurd zip
  own_still (t ∷ ts) [] zip h = absurd zip
  own_still (t ∷ ts) (u ∷ us) zip h = (still t u zip.0 h.0, own_still ts us zip.1 h.1)
    where
      still : (t u : Tenure) → Lasts AnyCause t u → IsOfShard n t → IsOfShard n u
      still t u (inl e) h = subst (IsOfShard n) (sym e) h
      still t u (inr (live, profile, cause, is, e)) h = subst (IsOfShard n) (sym e) h

  -- a term that has a session there is of the shard
  housed_own : (s : State) (t : Tenure) → IsSound s → s.sessions.shard ≡ n → IsHousedIn s t → IsOfShard n t
  housed_own s t sound shard (x, l, at, leases, serial) =
      let m = t.term.session.0 in
      of_shard n m (subst (λ (k : ℕ). IsNumberOf k m) shard (sound.of_shard m (ap (λ (o : Option Session). is_some o) at)))

  moves_own : (r : Rules) (s : State) (limited : Bool) (d : Deed) → Moves r s limited d → IsSound d.next → AreHoused d.next → d.next.sessions.shard ≡ n → AllByRecursion (IsOfShard n) s.terms → AllByRecursion (IsOfShard n) d.next.terms
  moves_own r s limited d (inl (none, m)) sound housed shard own = own_still s.terms d.next.terms m.terms own
  moves_own r s limited d (inr (a, is, may, m)) sound housed shard own =
      let IsThere : Tenure → Type 0 = λ t. (t.cause ≡ None) → IsHousedIn d.next t in
      let there : AllByRecursion IsThere (s.terms ++ m.one ∷ []) = subst (AllByRecursion IsThere) m.terms (recursion_from_All IsThere d.next.terms housed.housed) in
      let new : IsOfShard n m.one = housed_own d.next m.one sound shard ((all_right IsThere s.terms (m.one ∷ []) there).0 m.live) in
      subst (AllByRecursion (IsOfShard n)) (sym m.terms) (all_append (IsOfShard n) s.terms (m.one ∷ []) own (new, tt))

  module _ (circuits : ℕ) where
    step_keeps : (s : ShardState) (e : Handled) → pppoe.is_step s e → Keeps n circuits s.slots → Keeps n circuits e.deed.next
    step_keeps s e is h =
        let sound = step_sound s.rules s.slots e.limited e.deed is.step h.sound in
        let housed = housed_kept s.rules s.slots e.limited e.deed is.step h.sound h.housed in
        let shard = (step_by_claims s.rules s.slots e.limited e.deed is.step).shard ∙ h.shard in
        record {
          sound = sound;
          housed = housed;
          lasting = circuits_kept circuits s.rules s.slots e.limited e.deed is.step h.lasting;
          shard = shard;
          own = moves_own s.rules s.slots e.limited e.deed (step_moves s.rules s.slots e.limited e.deed is.step) sound housed shard h.own;
        }

    pub run_keeps : (s : ShardState) (es : List Handled) → AreSteps pppoe s es → Keeps n circuits s.slots → Keeps n circuits (after pppoe s es).slots
    run_keeps s [] is h = h
    run_keeps s (e ∷ es) is h = run_keeps (pppoe.next s e) es is.1 (step_keeps s e is.0 h)

    pub settled_keeps : (s : State) → Keeps n circuits s → Keeps n circuits (settled s)
    settled_keeps s h = record {
      sound = settled_sound s h.sound;
      housed = housed_settled s h.housed;
      lasting = circuits_settled circuits s h.lasting;
      shard = h.shard;
      own = all_filter (IsOfShard n) (λ (t : Tenure). not (is_over t)) s.terms h.own;
    }

-- The opening ----------------------------------------------------------------------------------------------------------------

each_own : (n now k : ℕ) (cs : List Static) → AllByRecursion (λ c. IsNumberOf n c.session.0) cs → AllByRecursion (IsOfShard n) (tenures_after now k cs)
each_own n now k [] own = tt
each_own n now k (c ∷ cs) own = (of_shard n c.session.0 own.0, each_own n now (k + 1) cs own.1)

pub opened_keeps : (n : ℕ) (profiles : List Profile) (cs : List Static) (now : ℕ) → n < 64 → All (λ c. IsNumberOf n c.session.0) cs → AllPairs (λ a b. a.session ≢ b.session) cs → Keeps n (length cs) (opened_slots n profiles cs now)
opened_keeps n profiles cs now low own apart = record {
  sound = opened_sound now n cs apart profiles low own;
  housed = housed_opened n profiles cs now apart;
  lasting = circuits_opened n profiles cs now apart;
  shard = refl;
  own = each_own n now 0 (in_order n cs) (all_in_order (λ c. IsNumberOf n c.session.0) n cs (recursion_from_All (λ c. IsNumberOf n c.session.0) cs own));
}

-- Terms that have ended ------------------------------------------------------------------------------------------------------

-- it is of the shard, one of the causes that there are ended it, and if it is a circuit's, one that no subscriber gives
pub record EndsWell (n circuits : ℕ) (t : Term) : Type 0 where
  pub session : t.key.term.session.0 / 1024 ≡ n
  pub known : IsCause t.cause
  pub cause : t.key.term.serial ≤ circuits → IsCircuitCause t.cause

its_cause : (o : Option ℕ) → is_some o ≡ true → IfSome o IsCircuitCause → IsCircuitCause (cause_in o)
its_cause None over known = absurd (false≢true over)
its_cause (Some cause) over known = known

its_known : (o : Option ℕ) → is_some o ≡ true → IfSome o IsCause → IsCause (cause_in o)
its_known None over known = absurd (false≢true over)
its_known (Some cause) over known = known

abbrev IsKnown : Tenure → Type 0
IsKnown t = IfSome t.cause IsCause

module _ (n circuits : ℕ) where
  abbrev IsCircuitLasting : Tenure → Type 0
  IsCircuitLasting t = t.term.serial ≤ circuits → IfSome t.cause IsCircuitCause

  over_well : (t : Tenure) (b : Bool) (us : List Term) → is_over t ≡ b → IsOfShard n t → IsKnown t → IsCircuitLasting t → AllByRecursion (EndsWell n circuits) us → AllByRecursion (EndsWell n circuits) (cond b (term_in t ∷ us) us)
  over_well t true us over own known lasting rest = (record { session = own; known = its_known t.cause over known; cause = λ few. its_cause t.cause over (lasting few) }, rest)
  over_well t false us over own known lasting rest = rest

  all_over_well : (ts : List Tenure) → AllByRecursion (IsOfShard n) ts → AllByRecursion IsKnown ts → AllByRecursion IsCircuitLasting ts → AllByRecursion (EndsWell n circuits) (filter is_ended (map term_in ts))
  all_over_well [] own known lasting = tt
  all_over_well (t ∷ ts) own known lasting = over_well t (is_over t) (filter is_ended (map term_in ts)) refl own.0 known.0 lasting.0 (all_over_well ts own.1 known.1 lasting.1)

  pub end_well : (s : ShardState) → Keeps n circuits s.slots → AllByRecursion (EndsWell n circuits) (filter is_ended (terms_of s))
  end_well s h =
      let ts = s.slots.terms in
      all_over_well ts h.own (recursion_from_All IsKnown ts h.lasting.known) (recursion_from_All IsCircuitLasting ts h.lasting.causes)

-- Where no session is left ---------------------------------------------------------------------------------------------------

none_stands : (s : State) → count_in s ≡ 0 → (t : Tenure) → IsHousedIn s t → ⊥
none_stands s none t (x, l, at, leases, serial) =
    let there = stands s.sessions t.term.session.0 x at in
    let within = there.1 in
    let short : length (values s.sessions) ≡ 0 = none in
    absurd (omega (arith, short, within))

none_live : (s : State) → count_in s ≡ 0 → (ts : List Tenure) → AllByRecursion (λ t. (t.cause ≡ None) → IsHousedIn s t) ts → AllByRecursion IsLive (map term_in ts) → map term_in ts ≡ []
none_live s none [] housed live = refl
none_live s none (t ∷ ts) housed live = absurd (none_stands s none t (housed.0 (not_over t.cause live.0)))
  where
    not_over : (o : Option ℕ) → is_some o ≡ false → o ≡ None
    not_over None e = refl
    not_over (Some cause) e = absurd (cc)

-- where all terms are live, none is there
pub none_there : (s : ShardState) → sessions_of s ≡ 0 → AreHoused s.slots → AllByRecursion IsLive (terms_of s) → terms_of s ≡ []
none_there s none housed live =
    none_live s.slots none s.slots.terms (recursion_from_All (λ (t : Tenure). (t.cause ≡ None) → IsHousedIn s.slots t) s.slots.terms housed.housed) live
