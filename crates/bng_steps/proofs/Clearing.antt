-- What a tunnel that was cleared leaves, from its calls that end one after another.
use Rattle.std.proofs.Common.{◌≡◌, ◌≢◌, ◌⊎◌, inl, inr, ℕ, zero, suc, ◌+◌, ◌*◌, ◌<◌, ◌≤◌, ◌==◌, ◌&&◌, Bool, true, false, not, cond, List, [], ◌∷◌, Option, Some, None, is_some, map, refl, sym, ap, subst, ◌∙◌, arith}
use Rattle.std.specs.Prelude.{find, fold, if◌then◌else◌}
use Rattle.std.specs.List.{range_with_len}
use Rattle.std.specs.Option.{option_map_or}
use Rattle.std.proofs.lemmas.Bool.{cases_eq, false≢true, true≢false, and_parts, and_from, and_right, eqb-true, eq-eqb, ne_eqb, not_from_false}
use Rattle.std.proofs.lemmas.List.{map-id}
use Rattle.std.proofs.lemmas.Simd.{map-map}
use Rattle.bng_base.specs.declared.item.At.{At}
use Rattle.bng_base.specs.declared.item.Entry.{Entry}
use Rattle.bng_base.specs.declared.item.ItemKind.{ItemKind}
use Rattle.bng_base.specs.declared.item.ItemKind.TheVariants.{Tunnel}
use Rattle.bng_base.specs.declared.item.OutRecord.{OutRecord}
use Rattle.bng_engine.specs.Lists.{AnyOf}
use Rattle.bng_l2tp_wire.specs.View.{Said}
use Rattle.bng_l2tp_wire.specs.Messages.{ControlMessage}
use Rattle.bng_l2tp_wire.proofs.Exact.{one_control}
use Rattle.bng_lns.specs.Datagrams.{IsControlIn}
use Rattle.bng_lns.specs.Timed.{Telling, reminded}
use Rattle.bng_lns.specs.Tunnels.{Answer, Steps, TunnelsState}
use Rattle.bng_sessions.specs.Listed.{values}
use Rattle.bng_sessions.specs.Sessions.{value_at, IsNumberOf}
use Rattle.bng_sessions.proofs.SessionLaws.{value_at-with_value, value_at-with_other}
use Rattle.bng_steps.specs.declared.rules.Rules.{Rules}
use Rattle.bng_steps.specs.declared.session.Lease.{Lease}
use Rattle.bng_steps.specs.declared.session.Service.{Service}
use Rattle.bng_steps.specs.declared.session.Service.TheVariants.{Provisioned, Linked}
use Rattle.bng_steps.specs.declared.session.Session.{Session}
use Rattle.bng_steps.specs.Cutting.{Clears, cut_at, cut_if, cut_of, cut_off, cut_told, is_cut, is_lost, lost, loses_term, numbers_most}
use Rattle.bng_steps.specs.Datagrams.{HearsAnswer, HearsMessage, HearsTunnel, TakesStep, heard_by}
use Rattle.bng_steps.specs.Deed.{Deed}
use Rattle.bng_steps.specs.Granting.{IsSound}
use Rattle.bng_steps.specs.Link.{ended, ended_service, lost_carrier}
use Rattle.bng_steps.specs.Serving.{AreOfShard}
use Rattle.bng_steps.specs.State.{State, is_way_of, lives_in, with_ended, with_tunnels}
use Rattle.bng_steps.specs.Step.{Hears, Step}
use Rattle.bng_steps.specs.Tenures.{Tenure, closed, is_over, over_by}
use Rattle.bng_steps.specs.Timers.{RemindsOne}
use Rattle.bng_steps.proofs.Closing.{one_over}
use Rattle.bng_steps.proofs.Tunnelling.{not_both}
use Rattle.bng_steps.proofs.Values.{found_at, none_found, none_some, same_some}

-- Numbers ------------------------------------------------------------------------------------------------------------------

abbrev Among : ℕ → List ℕ → Type 0
Among m ns = AnyOf (λ (n : ℕ). m ≡ n) ns

among_range : (a k m : ℕ) → a ≤ m → m < a + k → Among m (range_with_len a k)
among_range a zero m low high = absurd (omega (arith, low, high))
among_range a (suc k) m low high = elim (cases_eq m a) [
  | inl e ↦ inl e
  | inr d ↦ inr (among_range (a + 1) k m (omega (arith, low, d)) (omega (arith, high)))
]

below_most : (a m : ℕ) → m ≤ a + 1021 → m < a + numbers_most
unfolding numbers_most
below_most a m h = omega (arith, h)

among_shard : (shard m : ℕ) → IsNumberOf shard m → Among m (range_with_len (shard * 1024 + 1) numbers_most)
among_shard shard m is = among_range (shard * 1024 + 1) numbers_most m is.0 (below_most (shard * 1024 + 1) m (omega (arith, is.1)))

-- Sessions -----------------------------------------------------------------------------------------------------------------

dead : (v : Service) → lives_in (ended_service v) ≡ false
dead (Provisioned over) = refl
dead (Linked m) = refl

module _ (tunnel : ℕ) where
  -- what stands at a number once its session has ended, where that is a call that lived
  abbrev cut_value : Option Session → Option Session
  cut_value None = None
  cut_value (Some x) = if is_cut tunnel x then Some (ended x) else Some x

  once : (x : Session) → is_cut tunnel (ended x) ≡ false
  once x = and_right (is_way_of tunnel x.way) (lives_in (ended_service x.service)) (dead x.service)

  cut_twice : (o : Option Session) → cut_value (cut_value o) ≡ cut_value o
  cut_twice None = refl
  cut_twice (Some x) =
      elim (is_cut tunnel x) as (λ b. is_cut tunnel x ≡ b → cut_value (if b then Some (ended x) else Some x) ≡ (if b then Some (ended x) else Some x)) [
        | true ↦ λ e. ap (λ b. if b then Some (ended (ended x)) else Some (ended x)) (once x)
        | false ↦ λ e. ap (λ b. if b then Some (ended x) else Some x) e
      ] refl

  cut_none : (o : Option Session) (x : Session) → cut_value o ≡ Some x → is_cut tunnel x ≡ false
  cut_none None x e = absurd (none_some x e)
  cut_none (Some y) x e =
      elim (is_cut tunnel y) as (λ b. is_cut tunnel y ≡ b → (if b then Some (ended y) else Some y) ≡ Some x → is_cut tunnel x ≡ false) [
        | true ↦ λ f h. ap (is_cut tunnel) (sym (same_some (ended y) x h)) ∙ once y
        | false ↦ λ f h. ap (is_cut tunnel) (sym (same_some y x h)) ∙ f
      ] refl e

  cut_here : (s : State) (n : ℕ) (o : Option Session) → value_at s.sessions n ≡ o → value_at (cut_of tunnel s n o).sessions n ≡ cut_value o
  cut_here s n None at = at
  cut_here s n (Some x) at =
      elim (is_cut tunnel x) as (λ b. value_at (if b then with_ended s n x.lease lost_carrier (ended x) else s).sessions n ≡ (if b then Some (ended x) else Some x)) [
        | true ↦ value_at-with_value s.sessions n (ended x)
        | false ↦ at
      ]

  here : (s : State) (n m : ℕ) → m ≡ n → value_at (cut_at tunnel s n).sessions m ≡ cut_value (value_at s.sessions m)
  here s n m e =
      ap (λ (k : ℕ). value_at (cut_at tunnel s n).sessions k) e ∙ cut_here s n (value_at s.sessions n) refl ∙ ap (λ (k : ℕ). cut_value (value_at s.sessions k)) (sym e)

  cut_there : (s : State) (n m : ℕ) (o : Option Session) → m ≢ n → value_at (cut_of tunnel s n o).sessions m ≡ value_at s.sessions m
  cut_there s n m None d = refl
  cut_there s n m (Some x) d =
      elim (is_cut tunnel x) as (λ b. value_at (if b then with_ended s n x.lease lost_carrier (ended x) else s).sessions m ≡ value_at s.sessions m) [
        | true ↦ value_at-with_other s.sessions n (ended x) m d
        | false ↦ refl
      ]

  there : (s : State) (n m : ℕ) → m ≢ n → value_at (cut_at tunnel s n).sessions m ≡ value_at s.sessions m
  there s n m d = cut_there s n m (value_at s.sessions n) d

  abbrev cuts : State → List ℕ → State
  cuts s ns = fold (cut_at tunnel) s ns

  -- what no cut changes stays
  uncut : (ns : List ℕ) (s : State) (m : ℕ) (o : Option Session) → cut_value o ≡ o → value_at s.sessions m ≡ o → value_at (cuts s ns).sessions m ≡ o
  uncut [] s m o still at = at
  uncut (n ∷ ns) s m o still at =
      uncut ns (cut_at tunnel s n) m o still (elim (cases_eq m n) [ inl e ↦ here s n m e ∙ ap cut_value at ∙ still | inr d ↦ there s n m d ∙ at ])

  cut : (ns : List ℕ) (s : State) (m : ℕ) → Among m ns → value_at (cuts s ns).sessions m ≡ cut_value (value_at s.sessions m)
  cut [] s m among = absurd among
  cut (n ∷ ns) s m among = elim (cases_eq m n) [
    | inl e ↦ uncut ns (cut_at tunnel s n) m (cut_value (value_at s.sessions m)) (cut_twice (value_at s.sessions m)) (here s n m e)
    | inr d ↦ cut ns (cut_at tunnel s n) m (elim among [ inl e ↦ absurd (d e) | inr later ↦ later ]) ∙ ap cut_value (there s n m d)
  ]

  -- Terms ------------------------------------------------------------------------------------------------------------------

  abbrev close_one : Option Lease → Tenure → Tenure
  close_one None t = t
  close_one (Some l) t = over_by l.serial lost_carrier t

  -- what a term becomes with the session of a number
  abbrev term_after : Option Session → Tenure → Tenure
  term_after None t = t
  term_after (Some x) t = if is_cut tunnel x then close_one x.lease t else t

  terms_closed : (o : Option Lease) (ts : List Tenure) → closed o (Some lost_carrier) ts ≡ map (close_one o) ts
  terms_closed None ts = sym (map-id ts)
  terms_closed (Some l) ts = refl

  terms_cut : (s : State) (n : ℕ) (o : Option Session) → (cut_of tunnel s n o).terms ≡ map (term_after o) s.terms
  terms_cut s n None = sym (map-id s.terms)
  terms_cut s n (Some x) =
      elim (is_cut tunnel x) as (λ b. (if b then with_ended s n x.lease lost_carrier (ended x) else s).terms ≡ map (λ t. if b then close_one x.lease t else t) s.terms) [
        | true ↦ terms_closed x.lease s.terms
        | false ↦ sym (map-id s.terms)
      ]

  -- and with those of several
  term_cut : State → List ℕ → Tenure → Tenure
  term_cut s [] t = t
  term_cut s (n ∷ ns) t = term_cut (cut_at tunnel s n) ns (term_after (value_at s.sessions n) t)

  terms_are : (ns : List ℕ) (s : State) → (cuts s ns).terms ≡ map (term_cut s ns) s.terms
  unfolding term_cut
  terms_are [] s = sym (map-id s.terms)
  terms_are (n ∷ ns) s =
      terms_are ns (cut_at tunnel s n) ∙ ap (map (term_cut (cut_at tunnel s n) ns)) (terms_cut s n (value_at s.sessions n))
      ∙ map-map (term_cut (cut_at tunnel s n) ns) (term_after (value_at s.sessions n)) s.terms

  lost_twice : (t : Tenure) → lost (lost t) ≡ lost t
  lost_twice t =
      elim (is_over t) as (λ b. is_over t ≡ b → lost (if b then t else record t { cause = Some lost_carrier }) ≡ (if b then t else record t { cause = Some lost_carrier })) [
        | true ↦ λ e. ap (λ b. if b then t else record t { cause = Some lost_carrier }) e
        | false ↦ λ e. refl
      ] refl

  over_this : (serial : ℕ) (t : Tenure) → t.term.serial ≡ serial → over_by serial lost_carrier t ≡ lost t
  over_this serial t e =
      ap (λ (b : Bool). cond (b && not (is_over t)) (record t { cause = Some lost_carrier }) t) (eq-eqb t.term.serial serial e)
      ∙ (elim (is_over t) as (λ b. cond (not b) (record t { cause = Some lost_carrier }) t ≡ (if b then t else record t { cause = Some lost_carrier })) [ true ↦ refl | false ↦ refl ])

  abbrev Either : Tenure → Tenure → Type 0
  Either t t' = (t' ≡ t) ⊎ (t' ≡ lost t)

  either_closed : (o : Option Lease) (t : Tenure) → Either t (close_one o t)
  either_closed None t = inl refl
  either_closed (Some l) t = elim (cases_eq t.term.serial l.serial) [ inl e ↦ inr (over_this l.serial t e) | inr d ↦ inl (one_over l.serial lost_carrier t d) ]

  either : (o : Option Session) (t : Tenure) → Either t (term_after o t)
  either None t = inl refl
  either (Some x) t = elim (is_cut tunnel x) as (λ b. Either t (if b then close_one x.lease t else t)) [ true ↦ either_closed x.lease t | false ↦ inl refl ]

  lost_stays : (ns : List ℕ) (s : State) (t : Tenure) → term_cut s ns (lost t) ≡ lost t
  unfolding term_cut
  lost_stays [] s t = refl
  lost_stays (n ∷ ns) s t =
      let same : term_after (value_at s.sessions n) (lost t) ≡ lost t = elim (either (value_at s.sessions n) (lost t)) [ inl e ↦ e | inr e ↦ e ∙ lost_twice t ] in
      ap (term_cut (cut_at tunnel s n) ns) same ∙ lost_stays ns (cut_at tunnel s n) t

  -- the term of a call that lived is lost
  term_lost : (ns : List ℕ) (s : State) (t : Tenure) (m : ℕ) (x : Session) (l : Lease) → Among m ns → value_at s.sessions m ≡ Some x → is_cut tunnel x ≡ true → x.lease ≡ Some l → t.term.serial ≡ l.serial
      → term_cut s ns t ≡ lost t
  unfolding term_cut
  term_lost [] s t m x l among at is lease own = absurd among
  term_lost (n ∷ ns) s t m x l among at is lease own =
      let s₁ = cut_at tunnel s n in
      elim (cases_eq m n) [
        | inl e ↦
            let now : term_after (value_at s.sessions n) t ≡ lost t = ap (λ (k : ℕ). term_after (value_at s.sessions k) t) (sym e)
            ∙ ap (λ (o : Option Session). term_after o t) at
            ∙ ap (λ (b : Bool). if b then close_one x.lease t else t) is
            ∙ ap (λ (o : Option Lease). close_one o t) lease
            ∙ over_this l.serial t own in
            ap (term_cut s₁ ns) now ∙ lost_stays ns s₁ t
        | inr d ↦
            let later : Among m ns = elim among [ inl e ↦ absurd (d e) | inr rest ↦ rest ] in
            elim (either (value_at s.sessions n) t) [
              | inl e ↦ ap (term_cut s₁ ns) e ∙ term_lost ns s₁ t m x l later (there s n m d ∙ at) is lease own
              | inr e ↦ ap (term_cut s₁ ns) e ∙ lost_stays ns s₁ t
            ]
      ]

  -- no call that lives has this term
  abbrev NoneHas : State → Tenure → Type 0
  NoneHas s t = (m : ℕ) (x : Session) (l : Lease) → value_at s.sessions m ≡ Some x → is_cut tunnel x ≡ true → x.lease ≡ Some l → t.term.serial ≢ l.serial

  other_closed : (o : Option Lease) (t : Tenure) → ((l : Lease) → o ≡ Some l → t.term.serial ≢ l.serial) → close_one o t ≡ t
  other_closed None t none = refl
  other_closed (Some l) t none = one_over l.serial lost_carrier t (none l refl)

  other_after : (s : State) (n : ℕ) (t : Tenure) (o : Option Session) → value_at s.sessions n ≡ o → NoneHas s t → term_after o t ≡ t
  other_after s n t None at none = refl
  other_after s n t (Some x) at none =
      elim (is_cut tunnel x) as (λ b. is_cut tunnel x ≡ b → (if b then close_one x.lease t else t) ≡ t) [
        | true ↦ λ e. other_closed x.lease t (λ l lease. none n x l at e lease)
        | false ↦ λ e. refl
      ] refl

  still_none : (s : State) (n : ℕ) (t : Tenure) → NoneHas s t → NoneHas (cut_at tunnel s n) t
  still_none s n t none m x l at is lease = elim (cases_eq m n) [
    | inl e ↦ absurd (false≢true (sym (cut_none (value_at s.sessions m) x (sym (here s n m e) ∙ at)) ∙ is))
    | inr d ↦ none m x l (sym (there s n m d) ∙ at) is lease
  ]

  term_kept : (ns : List ℕ) (s : State) (t : Tenure) → NoneHas s t → term_cut s ns t ≡ t
  unfolding term_cut
  term_kept [] s t none = refl
  term_kept (n ∷ ns) s t none =
      ap (term_cut (cut_at tunnel s n) ns) (other_after s n t (value_at s.sessions n) refl none) ∙ term_kept ns (cut_at tunnel s n) t (still_none s n t none)

  leases_it : (serial : ℕ) (o : Option Lease) → option_map_or (λ (l : Lease). l.serial == serial) o false ≡ true → (l : Lease) × (o ≡ Some l) × (serial ≡ l.serial)
  leases_it serial None e = absurd (false≢true e)
  leases_it serial (Some l) e = (l, refl, sym (eqb-true l.serial serial e))

  has_it : (serial : ℕ) (x : Session) (l : Lease) → is_cut tunnel x ≡ true → x.lease ≡ Some l → serial ≡ l.serial → loses_term tunnel serial x ≡ true
  has_it serial x l is lease own =
      and_from (is_cut tunnel x) (option_map_or (λ (k : Lease). k.serial == serial) x.lease false) is
      (ap (λ (o : Option Lease). option_map_or (λ (k : Lease). k.serial == serial) o false) lease ∙ eq-eqb l.serial serial (sym own))

  term_is : (ns : List ℕ) (s : State) → ((m : ℕ) (x : Session) → value_at s.sessions m ≡ Some x → Among m ns) → (t : Tenure) → term_cut s ns t ≡ (if is_lost tunnel s t then lost t else t)
  term_is ns s all t =
      let test = loses_term tunnel t.term.serial in
      elim (find test (values s.sessions)) as (λ o. find test (values s.sessions) ≡ o → term_cut s ns t ≡ (if is_some o then lost t else t)) [
        | None ↦ λ e. term_kept ns s t (λ m x l at is lease own. false≢true (sym (none_found test s.sessions e m x at) ∙ has_it t.term.serial x l is lease own))
        | Some x ↦ λ e.
            let found = found_at test s.sessions x e in
            let two = and_parts (is_cut tunnel x) (option_map_or (λ (k : Lease). k.serial == t.term.serial) x.lease false) found.2 in
            let its = leases_it t.term.serial x.lease two.1 in
            term_lost ns s t found.0 x its.0 (all found.0 x found.1) found.1 two.0 its.1 its.2
      ] refl

  -- The rest ---------------------------------------------------------------------------------------------------------------

  -- nothing but sessions and terms changed, and it is the same shard
  abbrev RestStays : State → State → Type 0
  RestStays s s' = (s' ≡ record s { sessions = s'.sessions; terms = s'.terms; tunnels = s'.tunnels }) × (s'.sessions.shard ≡ s.sessions.shard)

  rest_cut : (s : State) (n : ℕ) (o : Option Session) → RestStays s (cut_of tunnel s n o)
  rest_cut s n None = (refl, refl)
  rest_cut s n (Some x) = elim (is_cut tunnel x) as (λ b. RestStays s (if b then with_ended s n x.lease lost_carrier (ended x) else s)) [ true ↦ (refl, refl) | false ↦ (refl, refl) ]

  rest_cuts : (ns : List ℕ) (s : State) → RestStays s (cuts s ns)
  rest_cuts [] s = (refl, refl)
  rest_cuts (n ∷ ns) s =
      let one = rest_cut s n (value_at s.sessions n) in
      let more = rest_cuts ns (cut_at tunnel s n) in
      let s' = cuts (cut_at tunnel s n) ns in (
        more.0 ∙ ap (λ (u : State). let v : State = record u { sessions = s'.sessions; terms = s'.terms; tunnels = s'.tunnels } in v) one.0,
        more.1 ∙ one.1,
      )

  -- All of it --------------------------------------------------------------------------------------------------------------

  cleared : (ns : List ℕ) (s : State) → ((m : ℕ) (x : Session) → value_at s.sessions m ≡ Some x → Among m ns) → Clears tunnel s (cuts s ns)
  cleared ns s all =
      let at_last : (n : ℕ) → value_at (cuts s ns).sessions n ≡ cut_value (value_at s.sessions n) = λ n.
      elim (value_at s.sessions n) as (λ o. value_at s.sessions n ≡ o → value_at (cuts s ns).sessions n ≡ cut_value (value_at s.sessions n)) [
        | None ↦ λ e. uncut ns s n None refl e ∙ ap cut_value (sym e)
        | Some x ↦ λ e. cut ns s n (all n x e)
      ] refl in
      let each : ◌≡◌ {A = Tenure → Tenure} (term_cut s ns) (λ t. if is_lost tunnel s t then lost t else t) = λ i t. term_is ns s all t i in
      record {
        none_lives = λ n x at. cut_none (value_at s.sessions n) x (sym (at_last n) ∙ at);
        calls_end = λ n x at is. at_last n ∙ ap cut_value at ∙ ap (λ (b : Bool). if b then Some (ended x) else Some x) is;
        others_stay = λ n x at is. at_last n ∙ ap cut_value at ∙ ap (λ (b : Bool). if b then Some (ended x) else Some x) is;
        none_comes = λ n at. at_last n ∙ ap cut_value at;
        terms_end = terms_are ns s ∙ ap (λ (f : Tenure → Tenure). map f s.terms) each;
        shard = (rest_cuts ns s).1;
        rest = (rest_cuts ns s).0;
      }

pub cut_off_clears : (tunnel : ℕ) (s : State) → AreOfShard s.sessions → Clears tunnel s (cut_off tunnel s)
unfolding cut_off
cut_off_clears tunnel s own =
    cleared tunnel (range_with_len (s.sessions.shard * 1024 + 1) numbers_most) s (λ m x at. among_shard s.sessions.shard m (own m (ap is_some at)))

-- The steps that clear a tunnel --------------------------------------------------------------------------------------------

cut_if_clears : (cleared : Bool) (number : ℕ) (s : State) → AreOfShard s.sessions → cleared ≡ true → number ≢ 0 → Clears number s (cut_if cleared number s)
cut_if_clears cleared number s own is some =
    let test : (cleared && not (number == 0)) ≡ true = and_from cleared (not (number == 0)) is (not_from_false (number == 0) (ne_eqb number 0 some)) in
    subst (Clears number s) (sym (ap (λ (b : Bool). if b then cut_off number s else s) test)) (cut_off_clears number s own)

-- whatever became of the tunnels
beside_tunnels : (number : ℕ) (s : State) (t : TunnelsState) (s' : State) → Clears number (with_tunnels s t) s' → Clears number s s'
beside_tunnels number s t s' h = record {
  none_lives = h.none_lives;
  calls_end = h.calls_end;
  others_stay = h.others_stay;
  none_comes = h.none_comes;
  terms_end = h.terms_end;
  shard = h.shard;
  rest = h.rest;
}

-- by its timers
pub reminder_clears : (k : ℕ) (a : At) (now : ℕ) (s : State) (outs : List OutRecord) (s' : State) → RemindsOne k a now s outs s' → IsSound s
    → (t : Telling) → (reminded now s.tunnels k).told ≡ Some t → t.said.cleared ≡ true → t.number ≢ 0 → Clears t.number s s'
reminder_clears k a now s outs s' one sound t told is some =
    let u = with_tunnels s one.tunnels in
    subst (Clears t.number s) (sym (one.after ∙ ap (λ (o : Option Telling). cut_told o u) told))
    (beside_tunnels t.number s one.tunnels (cut_if t.said.cleared t.number u) (cut_if_clears t.said.cleared t.number u sound.of_shard is some))

-- by a control message
module _ (r : Rules) (s : State) (e : Entry) (d : Deed) (sound : IsSound s) (m : ControlMessage) (number : ℕ) (said : Said) (is : said.cleared ≡ true) (some : number ≢ 0) where
  takes_clears : (b : Bool) (t : TunnelsState) → b ≡ false → TakesStep b number said m r s e t d → Clears number s d.next
  takes_clears true t other h = absurd (true≢false other)
  takes_clears false t own (spelled, h) =
      let u = with_tunnels s t in
      subst (λ (x : Deed). Clears number s x.next) (sym h) (beside_tunnels number s t (cut_if said.cleared number u) (cut_if_clears said.cleared number u sound.of_shard is some))

  tunnel_clears : HearsTunnel r s e d → IsControlIn e.item.cut e.item.frame.payload m → (heard_by r s e m).answer ≡ Steps number said → said.call ≡ false → Clears number s d.next
  tunnel_clears (inl (neither, h)) its answer own = absurd (neither.no_control m its)
  tunnel_clears (inr (inl (m', its', h))) its answer own =
      let same = one_control m' m e.item.frame.payload its'.message its.message in
      let heard : HearsMessage r s e m d = subst (λ (q : ControlMessage). HearsMessage r s e q d) same h in
      takes_clears said.call (heard_by r s e m).after own (subst (λ (q : Answer). HearsAnswer q m r s e (heard_by r s e m).after d) answer heard)
  tunnel_clears (inr (inr (p, its', h))) its answer own = absurd (not_both e.item.frame.payload m p its.message its'.message)

pub message_clears : (r : Rules) (s : State) (limited : Bool) (d : Deed) → Step r s limited d → IsSound s → (m : ControlMessage) (number : ℕ) (said : Said) → d.entry.item.kind ≡ Tunnel
    → IsControlIn d.entry.item.cut d.entry.item.frame.payload m → (heard_by r s d.entry m).answer ≡ Steps number said → said.call ≡ false → said.cleared ≡ true → number ≢ 0 → Clears number s d.next
message_clears r s limited d h sound m number said kind its answer own is some =
    tunnel_clears r s d.entry d sound m number said is some (subst (λ (k : ItemKind). Hears k r s limited d.entry d) kind h.hears) its answer own
