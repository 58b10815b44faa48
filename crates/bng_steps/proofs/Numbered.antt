-- The terms of a shard are numbered in the order in which they began, and their Class attributes are whole.
use Rattle.std.proofs.Common.{◌≡◌, inl, inr, ⊎_elim, ℕ, zero, suc, ◌+◌, ◌<◌, ◌≤◌, Bool, true, false, not, List, [], ◌∷◌, ◌++◌, length, Option, Some, None, is_some, refl, sym, ap, subst, ◌∙◌, arith}
use Rattle.std.specs.List.{All, AllByRecursion, AllPairs, AllZip}
use Rattle.std.proofs.lemmas.List.Elements.{All-cons, All-filter, All-from_recursion, All-head, All-nil, All-push, All-tail, All-weaker, recursion_from_All}
use Rattle.std.proofs.lemmas.List.Kept.{AllPairs-cons, AllPairs-filter}
use Rattle.std.proofs.lemmas.List.Quantifiers.{all_pairs_push}
use Rattle.bng_base.specs.declared.address.Ip4.{Ip4}
use Rattle.bng_base.specs.declared.item.Claim.{Claim}
use Rattle.bng_base.specs.declared.item.Claim.TheVariants.{NoClaim, Claimed, Held, Exhausted}
use Rattle.bng_base.specs.declared.item.ItemKind.{ItemKind}
use Rattle.bng_base.specs.declared.item.ItemKind.TheVariants.{Verdict}
use Rattle.bng_base.specs.declared.settings.NamedRange.{NamedRange}
use Rattle.bng_base.specs.declared.book.Profile.{Profile}
use Rattle.bng_base.specs.declared.settings.Static.{Static}
use Rattle.bng_grant.specs.Classes.{AreClasses}
use Rattle.bng_grant.specs.Grants.{Gift, IsGrant, NoReply, Replied}
use Rattle.bng_grant.proofs.Fronts.{kept_are_classes}
use Rattle.bng_radius_wire.specs.Attributes.{Field}
use Rattle.bng_sessions.specs.Sessions.{IsNumberOf}
use Rattle.bng_steps.specs.declared.meters.Plan.{Plan}
use Rattle.bng_steps.specs.declared.rules.Rules.{Rules}
use Rattle.bng_steps.specs.declared.session.Session.{Session}
use Rattle.bng_steps.specs.Deed.{Deed, ignored}
use Rattle.bng_steps.specs.Granting.{IsSound}
use Rattle.bng_steps.specs.Lasting.{AreTenures, IsTenureOf, Precedes}
use Rattle.bng_steps.specs.Link.{Told}
use Rattle.bng_steps.specs.Metered.{meters_of, plan_for}
use Rattle.bng_steps.specs.Opening.{in_order, opened_slots, tenures_after}
use Rattle.bng_steps.specs.State.{State, settled}
use Rattle.bng_steps.specs.Step.{Hears, Step}
use Rattle.bng_steps.specs.Tenures.{Tenure, is_over}
use Rattle.bng_steps.specs.Verdicts.{HearsVerdict, Judges, next_lease, next_term, with_term}
use Rattle.bng_steps.specs.Wishes.{Decides, pool_for, refused_with, told_at, told_by, told_if, told_in, told_of}
use Rattle.bng_steps.proofs.InOrder.{all_in_order}
use Rattle.bng_steps.proofs.Naming.{next_of}
use Rattle.bng_steps.proofs.Opened.{in_order_count}
use Rattle.bng_steps.proofs.OpenedKeys.{of_shard}
use Rattle.bng_steps.proofs.TermLaws.{AnyCause, Lasts, Moves, Remains, claim_or, judged_remains, settled_as, step_moves}
use Rattle.bng_steps.proofs.Values.{none_some, same_some}

-- Class attributes -----------------------------------------------------------------------------------------------------------

-- whole Class attributes
abbrev AreWhole : List ℕ → Type 0
AreWhole octets = (classes : List Field) × AreClasses classes octets

none_whole : AreWhole []
none_whole = ([], record { whole = record { fit = tt; spelled = refl }; classes_all = tt; few = omega arith })

gift_whole : (octets : List ℕ) (g : Gift) → IsGrant octets (Some g) → AreWhole g.class
gift_whole octets g (Replied p reply h gives is) =
    let kept = kept_are_classes p.attributes h.class reply.packet.attributes.fit gives.class in
    subst AreWhole (ap (λ (k : Gift). k.class) (sym (same_some g h is))) kept
gift_whole octets g (NoReply never is) = absurd (none_some g (sym is))

module _ (text : List ℕ) (g : Gift) (whole : AreWhole g.class) where
  by_whole : (plan : Plan) (claim : Claim) → AreWhole (told_by plan claim text g).class
  by_whole plan NoClaim = none_whole
  by_whole plan (Claimed a) = whole
  by_whole plan (Held a) = none_whole
  by_whole plan (Exhausted k) = none_whole

  at_whole : (plan : Plan) (limited : Bool) (place : Option ℕ) (claim : Claim) → AreWhole (told_at plan limited place claim text g).class
  at_whole plan limited None claim = none_whole
  at_whole plan true (Some k) claim = none_whole
  at_whole plan false (Some k) claim = by_whole plan claim

  in_whole : (plan : Plan) (pools : List NamedRange) (limited : Bool) (claim : Claim) → AreWhole (told_in plan pools limited claim text g).class
  in_whole plan [] limited claim = whole
  in_whole plan (p ∷ ps) limited claim = at_whole plan limited (pool_for (p ∷ ps) g.pool) claim

  if_whole : (o : Option Plan) (pools : List NamedRange) (limited : Bool) (claim : Claim) → AreWhole (told_if o pools limited claim text g).class
  if_whole None pools limited claim = none_whole
  if_whole (Some plan) pools limited claim = in_whole plan pools limited claim

  told_whole : (r : Rules) (limited : Bool) (claim : Claim) → AreWhole (told_of r limited claim text g).class
  told_whole r limited claim = if_whole (plan_for r.profiles g.profile) r.pools limited claim

decided_whole : (r : Rules) (limited : Bool) (octets : List ℕ) (claim : Claim) (t : Told) → Decides r limited octets claim (Some t) → AreWhole t.class
decided_whole r limited octets claim t (inl (silent, none, e)) = absurd (none_some t (sym e))
decided_whole r limited octets claim t (inr (inl (v, says, refused, none, e))) =
    subst AreWhole (ap (λ (u : Told). u.class) (sym (same_some t (refused_with v.text) e))) none_whole
decided_whole r limited octets claim t (inr (inr (v, says, accepted, g, grants, answers, e))) =
    subst AreWhole (ap (λ (u : Told). u.class) (sym (same_some t (told_of r limited claim v.text g) e))) (told_whole v.text g (gift_whole octets g grants) r limited claim)

-- Terms side by side ---------------------------------------------------------------------------------------------------------

-- what holds of a term whatever its profile and its cause holds of each, whether it has ended meanwhile or not
module _ (P : Tenure → Type 0) (over : (t : Tenure) (place : ℕ) (cause : Option ℕ) → P t → P (record t { profile = place; cause = cause })) where
  one_still : (t u : Tenure) → Lasts AnyCause t u → P t → P u
  one_still t u (inl e) h = subst P (sym e) h
  one_still t u (inr (live, place, cause, is, e)) h = subst P (sym e) (over t place cause h)

  each_still : (ts us : List Tenure) → AllZip (Lasts AnyCause) ts us → All P ts → All P us
  each_still [] [] zip h = All-nil P
  each_still [] (u ∷ us) zip h = absurd zip
  each_still (t ∷ ts) [] zip h = absurd zip
  each_still (t ∷ ts) (u ∷ us) zip h = All-cons P u us (one_still t u zip.0 (All-head P t ts h)) (each_still ts us zip.1 (All-tail P t ts h))

-- the first of these precedes the others
first_precedes : (t : Tenure) (ts : List Tenure) → AllPairs Precedes (t ∷ ts) → All (Precedes t) ts
first_precedes t ts h k d within = h zero (suc k) d (omega arith) (omega (arith, within))

later_rise : (t : Tenure) (ts : List Tenure) → AllPairs Precedes (t ∷ ts) → AllPairs Precedes ts
later_rise t ts h i j d lt within = h (suc i) (suc j) d (omega (arith, lt)) (omega (arith, within))

none_rise : AllPairs Precedes []
none_rise i j d lt within = absurd (omega (arith, within))

rise_still : (ts us : List Tenure) → AllZip (Lasts AnyCause) ts us → AllPairs Precedes ts → AllPairs Precedes us
rise_still [] [] zip h = none_rise
rise_still [] (u ∷ us) zip h = absurd zip
rise_still (t ∷ ts) [] zip h = absurd zip
rise_still (t ∷ ts) (u ∷ us) zip h =
    let above = each_still (Precedes t) (λ v place cause lt. lt) ts us zip.1 (first_precedes t ts h) in
    let same : u.term.serial ≡ t.term.serial = one_still (λ (v : Tenure). v.term.serial ≡ t.term.serial) (λ v place cause e. e) t u zip.0 refl in
    AllPairs-cons Precedes u us (subst (λ (n : ℕ). All (λ (v : Tenure). n < v.term.serial) us) (sym same) above) (rise_still ts us zip.1 (later_rise t ts h))

-- a term of the shard is one later on, when others have begun
module _ (shard shard' begun begun' m n : ℕ) (same : shard' ≡ shard) (more : begun ≤ begun') (later : m ≤ n) where
  tenure_later : (t : Tenure) → IsTenureOf shard begun m t → IsTenureOf shard' begun' n t
  tenure_later t h =
      let number = h.number in
      let before = h.began in
      record { session = h.session ∙ sym same; number = omega (arith, number, more); began = omega (arith, before, later); classes = h.classes; class = h.class }

  each_later : (ts : List Tenure) → All (IsTenureOf shard begun m) ts → All (IsTenureOf shard' begun' n) ts
  each_later ts h = All-weaker (IsTenureOf shard begun m) (IsTenureOf shard' begun' n) tenure_later ts h

over_tenure : (shard begun n : ℕ) (t : Tenure) (place : ℕ) (cause : Option ℕ) → IsTenureOf shard begun n t → IsTenureOf shard begun n (record t { profile = place; cause = cause })
over_tenure shard begun n t place cause h = record { session = h.session; number = h.number; began = h.began; classes = h.classes; class = h.class }

-- a term with the next number stands behind the others
next_rise : (shard begun m : ℕ) (t : Tenure) (ts : List Tenure) → t.term.serial ≡ begun + 1 → All (IsTenureOf shard begun m) ts → AllPairs Precedes ts → AllPairs Precedes (ts ++ t ∷ [])
next_rise shard begun m t ts serial each rising =
    all_pairs_push Precedes ts t rising (λ k d within.
    let low = (each k d within).number in
    omega (arith, low, serial))

-- States ---------------------------------------------------------------------------------------------------------------------

pub tenures_later : (m n : ℕ) (s : State) → m ≤ n → AreTenures m s → AreTenures n s
tenures_later m n s le h = record {
  each = each_later s.sessions.shard s.sessions.shard s.begun s.begun m n refl (omega arith) le s.terms h.each;
  rising = h.rising;
  each_new = each_later s.sessions.shard s.sessions.shard s.begun s.begun m n refl (omega arith) le s.news h.each_new;
  rising_new = h.rising_new;
}

pub tenures_settled : (moment : ℕ) (s : State) → AreTenures moment s → AreTenures moment (settled s)
tenures_settled moment s h = record {
  each = All-filter (λ (t : Tenure). not (is_over t)) (IsTenureOf s.sessions.shard s.begun moment) s.terms h.each;
  rising = AllPairs-filter Precedes (λ (t : Tenure). not (is_over t)) s.terms h.rising;
  each_new = All-nil (IsTenureOf s.sessions.shard s.begun moment);
  rising_new = none_rise;
}

module _ (m n : ℕ) (s s' : State) (le : m ≤ n) (h : AreTenures m s) where
  -- no term begins
  tenures_remain : (r : Rules) → Remains AnyCause r s s' → AreTenures n s'
  tenures_remain r k =
      let grown : s.begun ≤ s'.begun = omega (arith, k.begun) in
      let its = each_later s.sessions.shard s'.sessions.shard s.begun s'.begun m n k.shard grown le in
      record {
        each = each_still (IsTenureOf s'.sessions.shard s'.begun n) (over_tenure s'.sessions.shard s'.begun n) s.terms s'.terms k.terms (its s.terms h.each);
        rising = rise_still s.terms s'.terms k.terms h.rising;
        each_new = subst (All (IsTenureOf s'.sessions.shard s'.begun n)) (sym k.news) (its s.news h.each_new);
        rising_new = subst (AllPairs Precedes) (sym k.news) h.rising_new;
      }

  -- one begins
  tenures_begin : (t : Tenure) → s'.sessions.shard ≡ s.sessions.shard → s'.begun ≡ s.begun + 1 → s'.terms ≡ s.terms ++ t ∷ [] → s'.news ≡ s.news ++ t ∷ [] → t.term.serial ≡ s.begun + 1
      → IsTenureOf s'.sessions.shard s'.begun n t → AreTenures n s'
  tenures_begin t shard begun terms news serial new =
      let grown : s.begun ≤ s'.begun = omega (arith, begun) in
      let its = each_later s.sessions.shard s'.sessions.shard s.begun s'.begun m n shard grown le in
      let Its = IsTenureOf s'.sessions.shard s'.begun n in
      record {
        each = subst (All Its) (sym terms) (All-push Its s.terms t (its s.terms h.each) new);
        rising = subst (AllPairs Precedes) (sym terms) (next_rise s.sessions.shard s.begun m t s.terms serial h.each h.rising);
        each_new = subst (All Its) (sym news) (All-push Its s.news t (its s.news h.each_new) new);
        rising_new = subst (AllPairs Precedes) (sym news) (next_rise s.sessions.shard s.begun m t s.news serial h.each_new h.rising_new);
      }

-- Steps ----------------------------------------------------------------------------------------------------------------------

module _ (r : Rules) (s : State) (limited : Bool) (d : Deed) (m : ℕ) (sound : IsSound s) (le : m ≤ d.entry.moment) (h : AreTenures m s) where
  module _ (t : Told) (whole : AreWhole t.class) (j : Judges r s d.entry t d) where
    -- the term that begins is of the session that the item names
    new_tenure : (a : Ip4) → IsTenureOf s.sessions.shard (s.begun + 1) d.entry.moment (next_term s j.x j.question t.plan t.class d.entry.moment a)
    new_tenure a =
        let own : j.x.number.0 ≡ d.entry.item.target = sound.own d.entry.item.target j.x j.found in
        let its = sound.of_shard d.entry.item.target (ap (λ (o : Option Session). is_some o) j.found) in
        record {
          session = of_shard s.sessions.shard j.x.number.0 (subst (IsNumberOf s.sessions.shard) (sym own) its);
          number = omega arith;
          began = omega arith;
          classes = whole.0;
          class = whole.1;
        }

    judged_tenures : (lease : Option Ip4) → t.lease ≡ lease → AreTenures d.entry.moment d.next
    judged_tenures None none = tenures_remain m d.entry.moment s d.next le h r (judged_remains r s d.entry t d j none)
    judged_tenures (Some a) is =
        let one = next_term s j.x j.question t.plan t.class d.entry.moment a in
        subst (AreTenures d.entry.moment) (sym (settled_as r s d.entry t d j (Some a) is))
        (tenures_begin m d.entry.moment s (with_term s d.entry.item.target j.after j.beside (next_lease s t.plan t.limits d.entry.moment a) one (meters_of t.plan d.entry.moment)) le h one refl refl refl refl refl (new_tenure a))

  unchanged : (f : Deed) → d ≡ f → f.next ≡ s → AreTenures d.entry.moment d.next
  unchanged f is next = subst (AreTenures d.entry.moment) (sym (next_of d f is ∙ next)) (tenures_later m d.entry.moment s le h)

  verdict_tenures : HearsVerdict r s d.entry limited d → AreTenures d.entry.moment d.next
  verdict_tenures (inl (asks, t, decides, judges)) = judged_tenures t (decided_whole r limited d.entry.item.frame.payload d.entry.claim t decides) judges t.lease refl
  verdict_tenures (inr (inl (asks, decides, is))) = unchanged (ignored s d.entry) is refl
  verdict_tenures (inr (inr (other, none, is))) = unchanged (ignored s d.entry) is refl

  -- where nothing is claimed, no term begins
  unclaimed_tenures : d.entry.claim ≡ NoClaim → Moves r s limited d → AreTenures d.entry.moment d.next
  unclaimed_tenures none (inl (nothing, k)) = tenures_remain m d.entry.moment s d.next le h r k
  unclaimed_tenures none (inr (a, is, may, k)) = absurd (claimed_none a (sym is ∙ none))
    where
      claimed_none : (a : Ip4) → Claimed a ≡ NoClaim → ⊥
      claimed_none a e = cc

  pub step_tenures : Step r s limited d → AreTenures d.entry.moment d.next
  step_tenures step =
      ⊎_elim
      (λ (is : d.entry.item.kind ≡ Verdict). verdict_tenures (subst (λ (kind : ItemKind). Hears kind r s limited d.entry d) is step.hears))
      (λ (none : d.entry.claim ≡ NoClaim). unclaimed_tenures none (step_moves r s limited d step))
      (claim_or d.entry.item.kind d.entry.claim step.claim)

-- Openings -------------------------------------------------------------------------------------------------------------------

module _ (shard now : ℕ) where
  each_opened : (begun k : ℕ) (cs : List Static) → k + length cs ≤ begun → AllByRecursion (λ c. IsNumberOf shard c.session.0) cs → AllByRecursion (IsTenureOf shard begun now) (tenures_after now k cs)
  each_opened begun k [] few own = tt
  each_opened begun k (c ∷ cs) few own = (
    record { session = of_shard shard c.session.0 own.0; number = omega (arith, few); began = omega arith; classes = none_whole.0; class = none_whole.1 },
    each_opened begun (k + 1) cs (omega (arith, few)) own.1,
  )

  above : (low k : ℕ) (cs : List Static) → low ≤ k → AllByRecursion (λ (t : Tenure). low < t.term.serial) (tenures_after now k cs)
  above low k [] le = tt
  above low k (c ∷ cs) le = (omega (arith, le), above low (k + 1) cs (omega (arith, le)))

  rise_opened : (k : ℕ) (cs : List Static) → AllPairs Precedes (tenures_after now k cs)
  rise_opened k [] = none_rise
  rise_opened k (c ∷ cs) =
      AllPairs-cons Precedes _ (tenures_after now (k + 1) cs)
      (All-from_recursion (λ (t : Tenure). k + 1 < t.term.serial) (tenures_after now (k + 1) cs) (above (k + 1) (k + 1) cs (omega arith))) (rise_opened (k + 1) cs)

  pub tenures_opened : (profiles : List Profile) (circuits : List Static) → All (λ c. IsNumberOf shard c.session.0) circuits → AreTenures now (opened_slots shard profiles circuits now)
  tenures_opened profiles circuits own =
      let count = in_order_count shard circuits own in
      let its = all_in_order (λ c. IsNumberOf shard c.session.0) shard circuits (recursion_from_All (λ c. IsNumberOf shard c.session.0) circuits own) in
      record {
        each = All-from_recursion (IsTenureOf shard (length circuits) now) (tenures_after now 0 (in_order shard circuits)) (each_opened (length circuits) 0 (in_order shard circuits) (omega (arith, count)) its);
        rising = rise_opened 0 (in_order shard circuits);
        each_new = All-nil (IsTenureOf shard (length circuits) now);
        rising_new = none_rise;
      }
