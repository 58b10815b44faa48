-- No term outlasts its session: at the opening, and once a round is settled.
use Rattle.std.proofs.Common.{◌≡◌, ◌≢◌, ℕ, ◌+◌, ◌*◌, true, false, not, T, List, [], ◌∷◌, length, filter, Option, Some, None, is_some, refl, sym, ap, subst, ◌∙◌, arith}
use Rattle.std.specs.FinMap.{get-from_sorted, is_sorted}
use Rattle.std.specs.FinMap.{find as find_at}
use Rattle.std.specs.List.{AllByRecursion, AllPairs}
use Rattle.std.specs.Ordering.{nat_cmp}
use Rattle.std.proofs.lemmas.List.Elements.{All-filter, All-from_recursion, All-weaker, filter_passes, recursion_from_All}
use Rattle.bng_base.specs.declared.book.Profile.{Profile}
use Rattle.bng_base.specs.declared.settings.Static.{Static}
use Rattle.bng_engine.proofs.Everywhere.{all_weaker}
use Rattle.bng_sessions.specs.Listed.{values}
use Rattle.bng_steps.specs.declared.session.Lease.{Lease}
use Rattle.bng_steps.specs.declared.session.Service.{Service}
use Rattle.bng_steps.specs.declared.session.Service.TheVariants.{Provisioned, Linked}
use Rattle.bng_steps.specs.declared.session.Session.{Session}
use Rattle.bng_steps.specs.Lasting.{AreHoused, HasPhases, KeepsTerm}
use Rattle.bng_steps.specs.Opening.{in_order, lease_from, numbered_after, opened_slots, provisioned, tenures_after}
use Rattle.bng_steps.specs.State.{State, count_in, leaves, leaves_in, settled}
use Rattle.bng_steps.specs.Tenures.{Tenure, is_over}
use Rattle.bng_steps.proofs.CircuitsKept.{are_circuits}
use Rattle.bng_steps.proofs.Housing.{Housed}
use Rattle.bng_steps.proofs.InOrder.{apart_of, rising_in_order, sorted}
use Rattle.bng_steps.proofs.Values.{behind, first, first_found, kept_from, second, stands, value_at-kept}

-- Settlements ------------------------------------------------------------------------------------------------------------

-- a session whose term is live stays
stays_in : (v : Service) → KeepsTerm v → leaves_in v ≡ false
stays_in (Provisioned over) h = h
stays_in (Linked m) h = h.1

stays : (s : State) → AreHoused s → (t : Tenure) → Housed s t → Housed (settled s) t
stays s h t housed live =
    let (x, l, at, leased, same) = housed live in
    (x, l, value_at-kept (λ (y : Session). not (leaves y)) s.sessions t.term.session.0 x at (ap not (stays_in x.service (h.lasting t.term.session.0 x l at leased))), leased, same)

pub housed_settled : (s : State) → AreHoused s → AreHoused (settled s)
housed_settled s h = record {
  phases = λ n x at. h.phases n x (kept_from (λ (y : Session). not (leaves y)) s.sessions n x at).0;
  lasting = λ n x l at. h.lasting n x l (kept_from (λ (y : Session). not (leaves y)) s.sessions n x at).0;
  housed = All-weaker (Housed s) (Housed (settled s)) (stays s h) (filter (λ t. not (is_over t)) s.terms) (All-filter (λ t. not (is_over t)) (Housed s) s.terms h.housed);
}

live_of : (o : Option ℕ) → not (is_some o) ≡ true → o ≡ None
live_of None e = refl
live_of (Some n) e = absurd cc

-- where there is no session there is no live term
none_live : (s : State) → length (values s.sessions) ≡ 0 → (ts : List Tenure) → AllByRecursion (Housed s) ts → AllByRecursion (λ (t : Tenure). not (is_over t) ≡ true) ts → ts ≡ []
none_live s none [] h live = refl
none_live s none (t ∷ ts) h live =
    let (x, l, at, leased, same) = h.0 (live_of t.cause live.0) in
    let (k, within, is) = stands s.sessions t.term.session.0 x at in
    absurd (omega (arith, none, within))

pub housed_none : (s : State) → AreHoused (settled s) → count_in (settled s) ≡ 0 → (settled s).terms ≡ []
housed_none s h none =
    let ts = filter (λ t. not (is_over t)) s.terms in
    none_live (settled s) none ts (recursion_from_All (Housed (settled s)) ts h.housed) (recursion_from_All (λ (t : Tenure). not (is_over t) ≡ true) ts (filter_passes (λ t. not (is_over t)) s.terms))

-- Openings ---------------------------------------------------------------------------------------------------------------

-- each term is that of a session among these
abbrev IsAmong : List (ℕ × Session) → Tenure → Type 0
IsAmong es t = (x : Session) × (l : Lease) × (find_at nat_cmp t.term.session.0 es ≡ Some x) × (x.lease ≡ Some l) × (l.serial ≡ t.term.serial)

among : (now k : ℕ) (cs : List Static) → T (is_sorted nat_cmp (numbered_after now k cs)) → AllByRecursion (IsAmong (numbered_after now k cs)) (tenures_after now k cs)
among now k [] sorts = tt
among now k (c ∷ cs) sorts =
    let e : ℕ × Session = (c.session.0, provisioned now c (k + 1)) in
    let es = numbered_after now (k + 1) cs in
    ((provisioned now c (k + 1), lease_from now c (k + 1), first_found e es, refl, refl), all_weaker (IsAmong es) (IsAmong (e ∷ es)) later (tenures_after now (k + 1) cs) (among now (k + 1) cs (second _ _ sorts)))
  where
    later : (t : Tenure) → IsAmong (numbered_after now (k + 1) cs) t → IsAmong (numbered_after now k (c ∷ cs)) t
    later t (x, l, at, leased, same) = (x, l, behind (c.session.0, provisioned now c (k + 1)) (numbered_after now (k + 1) cs) t.term.session.0 x (first _ _ sorts) at, leased, same)

pub housed_opened : (number : ℕ) (profiles : List Profile) (circuits : List Static) (now : ℕ) → AllPairs (λ a b. a.session ≢ b.session) circuits → AreHoused (opened_slots number profiles circuits now)
housed_opened number profiles circuits now apart =
    let s = opened_slots number profiles circuits now in
    let cs = in_order number circuits in
    let sorts = sorted now (number * 1024 + 1) 0 cs (rising_in_order number circuits (apart_of circuits apart)) in
    record {
      phases = λ n x at. subst HasPhases (sym (are_circuits number circuits now apart n x at)) tt;
      lasting = λ n x l at leased. subst KeepsTerm (sym (are_circuits number circuits now apart n x at)) refl;
      housed = All-from_recursion (Housed s) (tenures_after now 0 cs)
          (all_weaker (IsAmong (numbered_after now 0 cs)) (Housed s) (λ t (x, l, at, leased, same) live. (x, l, get-from_sorted nat_cmp (numbered_after now 0 cs) t.term.session.0 sorts ∙ at, leased, same)) (tenures_after now 0 cs) (among now 0 cs sorts));
    }
