-- The terms of provisioned circuits end by the gateway's own stop alone, and each term by one of the causes that there are: what each entry
-- keeps of it.
use Rattle.std.proofs.Common.{◌≡◌, ◌≢◌, inl, inr, ℕ, zero, suc, ◌+◌, ◌<◌, ◌≤◌, Bool, true, false, not, ◌&&◌, ◌==◌, List, [], ◌∷◌, length, cond, map, Option, Some, None, IfSome, refl, sym, ap, subst, ◌∙◌, arith}
use Rattle.std.specs.List.{All, AllByRecursion, AllPairs, Contains}
use Rattle.std.proofs.lemmas.Bool.{cases_eq, ne_eqb}
use Rattle.std.proofs.lemmas.List.Elements.{All-filter, All-from_recursion, recursion_from_All, All-push}
use Rattle.bng_base.specs.declared.address.Ip4.{Ip4}
use Rattle.bng_base.specs.declared.item.Entry.{Entry}
use Rattle.bng_base.specs.declared.item.OutRecord.{OutRecord}
use Rattle.bng_base.specs.declared.book.Profile.{Profile}
use Rattle.bng_base.specs.declared.settings.Static.{Static}
use Rattle.bng_ppp.specs.declared.input.Input.TheVariants.{Close, Start, Timer}
use Rattle.bng_coa.specs.Wants.{wanted}
use Rattle.bng_radius_wire.specs.Grammar.{Packet}
use Rattle.bng_sessions.specs.Listed.{values}
use Rattle.bng_sessions.specs.Sessions.{value_at, with_value}
use Rattle.bng_sessions.proofs.SessionLaws.{value_at-with_value, value_at-with_other}
use Rattle.bng_steps.specs.declared.meters.Meters.{Meters}
use Rattle.bng_steps.specs.declared.rules.Rules.{Rules}
use Rattle.bng_base.specs.declared.item.At.{At}
use Rattle.bng_steps.specs.declared.session.Lease.{Lease}
use Rattle.bng_steps.specs.declared.session.Service.TheVariants.{Provisioned}
use Rattle.bng_steps.specs.declared.session.Session.{Session}
use Rattle.bng_steps.specs.Calls.{called_session, linked_anew, turned}
use Rattle.bng_steps.specs.Deed.{Deed, at_of, beside_of}
use Rattle.bng_steps.specs.Discovery.{new_session}
use Rattle.bng_steps.specs.Changes.{Found, changed_by, found_by, lease_after, place_of, recast_by}
use Rattle.bng_steps.specs.Lasting.{CircuitsLast, IsCause, IsCircuitCause, IsLapse}
use Rattle.bng_steps.specs.Link.{Drives, LinkStep, Told, ended, hears, nas_request, settles, told, lost_carrier}
use Rattle.bng_steps.specs.Metered.{meters_of}
use Rattle.bng_steps.specs.Opening.{in_order, numbered_after, opened_slots, tenures_after}
use Rattle.bng_steps.specs.Passing.{lapsed, looked}
use Rattle.bng_steps.specs.State.{Beside, beside_at, State, leaves, made_one, settled, with_driven, with_ended, with_session}
use Rattle.bng_steps.specs.Step.{Step}
use Rattle.bng_steps.specs.Tenures.{Tenure, closed, is_over, kept_lease, over_by}
use Rattle.bng_steps.specs.Verdicts.{Judges, next_lease, next_term, settled_by, with_term}
use Rattle.bng_steps.proofs.InOrder.{apart_of, opened_entries}
use Rattle.bng_steps.proofs.KnownCauses.{heard_known, lapse_known, told_known}
use Rattle.bng_steps.proofs.SeenLeases.{looked_was}
use Rattle.bng_steps.proofs.Changing.{found_is}
use Rattle.bng_steps.proofs.Values.{kept_from, none_some, same_some, stands}
use Rattle.bng_steps.proofs.Walking.{IsLost, Stops, WalksBy, change_walks_by, step_walks_by}

pub lease_was : (cause : Option ℕ) (lease : Option Lease) (l : Lease) → kept_lease cause lease ≡ Some l → lease ≡ Some l
lease_was None lease l e = e
lease_was (Some cause) lease l e = absurd (none_some l e)

-- Terms --------------------------------------------------------------------------------------------------------------------

-- What holds of each term, and of that of a lease once it has ended, holds of each once that one has ended.
module _ (P : Tenure → Type 0) where
  one_over : (b : Bool) (cause : ℕ) (t : Tenure) → P (record t { cause = Some cause }) → P t → P (cond b (record t { cause = Some cause }) t)
  one_over true cause t is h = is
  one_over false cause t is h = h

  over_holds : (serial cause : ℕ) (t : Tenure) → (t.term.serial ≡ serial → P (record t { cause = Some cause })) → P t → P (over_by serial cause t)
  over_holds serial cause t is h =
      elim (cases_eq t.term.serial serial) [
        | inl e ↦ one_over _ cause t (is e) h
        | inr ne ↦ subst P (sym (ap (λ (b : Bool). cond (b && not (is_over t)) (record t { cause = Some cause }) t) (ne_eqb t.term.serial serial ne))) h
      ]

  each_over : (serial cause : ℕ) (ts : List Tenure) → ((t : Tenure) → t.term.serial ≡ serial → P (record t { cause = Some cause })) → AllByRecursion P ts → AllByRecursion P (map (over_by serial cause) ts)
  each_over serial cause [] is h = tt
  each_over serial cause (t ∷ ts) is h = (over_holds serial cause t (is t) h.0, each_over serial cause ts is h.1)

  -- it holds of the term of this lease, once it has ended by this cause
  abbrev pub Ending : Option Lease → Option ℕ → Type 0
  Ending lease cause = (l : Lease) (c : ℕ) → lease ≡ Some l → cause ≡ Some c → (t : Tenure) → t.term.serial ≡ l.serial → P (record t { cause = Some c })

  each_closed : (lease : Option Lease) (cause : Option ℕ) (ts : List Tenure) → Ending lease cause → AllByRecursion P ts → AllByRecursion P (closed lease cause ts)
  each_closed None cause ts ends h = h
  each_closed (Some l) None ts ends h = h
  each_closed (Some l) (Some c) ts ends h = each_over l.serial c ts (ends l c refl refl) h

  pub closed_holds : (lease : Option Lease) (cause : Option ℕ) (ts : List Tenure) → Ending lease cause → All P ts → All P (closed lease cause ts)
  closed_holds lease cause ts ends h = All-from_recursion P (closed lease cause ts) (each_closed lease cause ts ends (recursion_from_All P ts h))

-- a session that is lost has such a cause
lost_known : (cause : ℕ) → IsLost cause → IsCause cause
lost_known cause (inl is) = inl is
lost_known cause (inr is) = inr (inl is)

-- a term that has ended has one of the causes that there are
abbrev HasKnownCause : Tenure → Type 0
HasKnownCause t = IfSome t.cause IsCause

closed_known : (lease : Option Lease) (cause : Option ℕ) (ts : List Tenure) → IfSome cause IsCause → All HasKnownCause ts → All HasKnownCause (closed lease cause ts)
closed_known lease cause ts known = closed_holds HasKnownCause lease cause ts (λ l c leased is t same. subst (λ (o : Option ℕ). IfSome o IsCause) is known)

module _ (circuits : ℕ) where
  -- a term of a circuit is live, or was ended by no subscriber
  abbrev Lasting : Tenure → Type 0
  Lasting t = t.term.serial ≤ circuits → IfSome t.cause IsCircuitCause

  -- no subscriber ends a term with the number of a circuit's
  abbrev Spares : Option Lease → Option ℕ → Type 0
  Spares lease cause = (l : Lease) (c : ℕ) → lease ≡ Some l → cause ≡ Some c → l.serial ≤ circuits → IsCircuitCause c

  closed_lasts : (lease : Option Lease) (cause : Option ℕ) (ts : List Tenure) → Spares lease cause → All Lasting ts → All Lasting (closed lease cause ts)
  closed_lasts lease cause ts spares = closed_holds Lasting lease cause ts (λ l c leased is t same low. spares l c leased is (omega (arith, same, low)))

  -- Sessions ---------------------------------------------------------------------------------------------------------------

  -- the lease of a session that discovery made is that of a later term
  abbrev IsLater : Session → Type 0
  IsLater x = (l : Lease) → made_one x.service ≡ 1 → x.lease ≡ Some l → circuits < l.serial

  abbrev AreLater : State → Type 0
  AreLater s = (n : ℕ) (x : Session) (l : Lease) → value_at s.sessions n ≡ Some x → made_one x.service ≡ 1 → x.lease ≡ Some l → circuits < l.serial

  later_with : (s : State) (n : ℕ) (y : Session) → IsLater y → AreLater s → AreLater (with_session s n y)
  later_with s n y later h m x l at =
      elim (cases_eq m n) [
        | inl e ↦
            let there : value_at (with_value s.sessions n y) n ≡ Some x = subst (λ (k : ℕ). value_at (with_value s.sessions n y) k ≡ Some x) e at in
            subst IsLater (same_some y x (sym (value_at-with_value s.sessions n y) ∙ there)) later l
        | inr ne ↦ h m x l (sym (value_at-with_other s.sessions n y m ne) ∙ at)
      ]

  -- a step of a link gives no lease
  drives_was : (r : Rules) (a : At) (beside : Beside) (x x' : Session) (outs : List OutRecord) (cause : Option ℕ) (beside' : Beside) (Steps : LinkStep) → Drives r a beside x Steps outs cause x' beside'
      → (l : Lease) → x'.lease ≡ Some l → x.lease ≡ Some l
  drives_was r a beside x x' outs cause beside' Steps h l leased = lease_was h.says.term_ended x.lease l (sym (ap (λ (y : Session). y.lease) h.session) ∙ leased)

  none_later : (x : Session) → x.lease ≡ None → IsLater x
  none_later x none l made leased = absurd (none_some l (sym none ∙ leased))

  -- Steps ------------------------------------------------------------------------------------------------------------------

  abbrev Keeps : State → State → Type 0
  Keeps s s' = CircuitsLast circuits s → CircuitsLast circuits s'

  -- a session is another one, and a term may have ended
  keeps_with : (s : State) (n : ℕ) (lease : Option Lease) (cause : Option ℕ) (y : Session) (beside : Beside) → IfSome cause IsCause → (CircuitsLast circuits s → IsLater y) → (CircuitsLast circuits s → Spares lease cause)
      → Keeps s (with_driven s n lease cause y beside)
  keeps_with s n lease cause y beside known later spares h = record {
    few = h.few;
    later = later_with s n y (later h) h.later;
    causes = closed_lasts lease cause s.terms (spares h) h.causes;
    known = closed_known lease cause s.terms known h.known;
  }

  keeps_ended : (s : State) (n : ℕ) (x : Session) (cause : ℕ) → IsCause cause → (CircuitsLast circuits s → Spares x.lease (Some cause)) → Keeps s (with_ended s n x.lease cause (ended x))
  keeps_ended s n x cause known spares = keeps_with s n x.lease (Some cause) (ended x) (beside_at 0 s.question_count s.tunnels) known (λ h. none_later (ended x) refl) spares

  -- what a session that discovery made ends is no circuit's
  made_spares : (s : State) (n : ℕ) (x : Session) (cause : Option ℕ) → value_at s.sessions n ≡ Some x → made_one x.service ≡ 1 → CircuitsLast circuits s → Spares x.lease cause
  made_spares s n x cause at made h l c leased is low = absurd (omega (arith, h.later n x l at made leased, low))

  -- the lease that has been looked at has the number of before
  looked_later : (s : State) (n at : ℕ) (x : Session) → value_at s.sessions n ≡ Some x → CircuitsLast circuits s → IsLater (looked at x)
  looked_later s n at x found h l made leased =
      let was = looked_was at x.lease l leased in
      omega (arith, h.later n x was.0 found made was.1, ap (λ (k : Lease). k.serial) was.2)

  -- a step of a link that ends its term by one of the causes that there are
  keeps_driven : (r : Rules) (a : At) (moment : ℕ) (s : State) (n : ℕ) (x x' : Session) (outs : List OutRecord) (cause : Option ℕ) (beside' : Beside) (Steps : LinkStep) → IfSome cause IsCause → value_at s.sessions n ≡ Some x
      → Drives r a (beside_at moment s.question_count s.tunnels) x Steps outs cause x' beside' → Keeps s (with_driven s n x.lease cause x' beside')
  keeps_driven r a moment s n x x' outs cause beside' Steps known at drives =
      let made : made_one x.service ≡ 1 = ap made_one drives.is_made in
      keeps_with s n x.lease cause x' beside' known (λ h l is leased. h.later n x l at made (drives_was r a (beside_at moment s.question_count s.tunnels) x x' outs cause beside' Steps drives l leased)) (made_spares s n x cause at made)

  keeps_walk : (r : Rules) → WalksBy r Keeps
  keeps_walk r = record {
    same = λ s s' e h. subst (CircuitsLast circuits) (sym e) h;
    then = λ s s' s'' f g h. g (f h);
    timed = λ e s n x x' outs cause beside' at drives.
        keeps_driven r (at_of s e) e.moment s n x x' outs cause beside' (told r e Timer) (told_known r e (at_of s e) (beside_of s e) x x' outs cause beside' Timer drives) at drives;
    heard = λ octets e s n x x' outs cause beside' at drives.
        keeps_driven r (at_of s e) e.moment s n x x' outs cause beside' (hears r e octets) (heard_known r e (at_of s e) (beside_of s e) x x' outs cause beside' octets drives) at drives;
    made = λ e s n port mac host_uniq link x' outs cause beside' vacant new drives.
        let x = new_session n port mac host_uniq link in
        keeps_with s n None cause x' beside' (told_known r e (at_of s e) (beside_of s e) x x' outs cause beside' Start drives)
        (λ h l is leased. absurd (none_some l (drives_was r (at_of s e) (beside_of s e) x x' outs cause beside' (told r e Start) drives l leased))) (λ h l c leased. absurd (none_some l leased));
    ends = λ s n x m cause lost at is. keeps_ended s n x cause (lost_known cause lost) (made_spares s n x (Some cause) at (ap made_one is));
    passes = λ s n moment ms h. record { few = h.few; later = h.later; causes = h.causes; known = h.known };
    looks = λ s n at x found h. record { few = h.few; later = later_with s n (looked at x) (looked_later s n at x found h) h.later; causes = h.causes; known = h.known };
    lapses = λ e s n x x' outs cause none beside' at over drives.
        keeps_with s n x.lease (Some cause) x' beside' (lapse_known cause over)
        (λ h l is leased. absurd (none_some l (drives_was r (at_of s e) (beside_of s e) (lapsed x) x' outs none beside' (told r e Close) drives l leased)))
        (made_spares s n x (Some cause) at (ap made_one drives.is_made));
    lapses_circuit = λ e s n x over cause at is lapse.
        keeps_with s n x.lease (Some cause) (lapsed x) (beside_of s e) (lapse_known cause lapse) (λ h. none_later (lapsed x) refl)
        (λ h l c leased same low. inl (subst IsLapse (same_some cause c same) lapse));
    tells = λ s t h. record { few = h.few; later = h.later; causes = h.causes; known = h.known };
    comes = λ e s n number peer t c link vacant new h.
        let y = called_session n peer number t c link in record { few = h.few; later = later_with s n y (none_later y refl) h.later; causes = h.causes; known = h.known };
    turns = λ s n x c call at way h. record { few = h.few; later = later_with s n (turned x c call) (λ l made leased. h.later n x l at made leased) h.later; causes = h.causes; known = h.known };
    over = λ s n x m c call at is way.
        let y = ended (turned x c call) in
        keeps_with s n x.lease (Some lost_carrier) y (beside_at 0 s.question_count s.tunnels) (inr (inl refl)) (λ h. none_later y refl) (made_spares s n x (Some lost_carrier) at (ap made_one is));
    connects = λ e s n x x' m c call link outs none beside' at is way new drives.
        keeps_with s n x.lease (Some lost_carrier) x' beside' (inr (inl refl))
        (λ h l made leased. absurd (none_some l (drives_was r (at_of s e) (beside_of s e) (linked_anew (turned x c call) link) x' outs none beside' (told r e Start) drives l leased)))
        (made_spares s n x (Some lost_carrier) at (ap made_one is));
  }

  keeps_stops : Stops Keeps
  keeps_stops s n x at = keeps_ended s n x nas_request (inr (inr (inr refl))) (λ h l c leased is low. inr (sym (same_some nas_request c is)))

  -- what holds of a term under whatever profile holds of each once one is under another
  each_recast : (P : Tenure → Type 0) (place : ℕ) → ((t : Tenure) → P t → P (record t { profile = place })) → (serial : ℕ) (ts : List Tenure) → AllByRecursion P ts → AllByRecursion P (map (recast_by serial place) ts)
  each_recast P place still serial [] h = tt
  each_recast P place still serial (t ∷ ts) h = (one_recast P place still ((t.term.serial == serial) && not (is_over t)) t h.0, each_recast P place still serial ts h.1)
    where
      one_recast : (P : Tenure → Type 0) (place : ℕ) → ((t : Tenure) → P t → P (record t { profile = place })) → (b : Bool) (t : Tenure) → P t → P (cond b (record t { profile = place }) t)
      one_recast P place still true t h = still t h
      one_recast P place still false t h = h

  recast_holds : (P : Tenure → Type 0) (place : ℕ) → ((t : Tenure) → P t → P (record t { profile = place })) → (serial : ℕ) (ts : List Tenure) → All P ts → All P (map (recast_by serial place) ts)
  recast_holds P place still serial ts h = All-from_recursion P (map (recast_by serial place) ts) (each_recast P place still serial ts (recursion_from_All P ts h))

  -- a term is under another profile, and within other limits
  keeps_recast : (r : Rules) (s : State) (e : Entry) (p : Packet) (f : Found) → found_by r s p.attributes ≡ Some f → Keeps s (changed_by r s e p f)
  keeps_recast r s e p f is h =
      let found = found_is r s p.attributes f is in
      let w = wanted r.profiles p in
      let place = place_of f.term.profile w in
      let k = lease_after f.lease w place in
      let n = f.term.term.session.0 in
      record {
        few = h.few;
        later = later_with s n (record f.session { lease = Some k }) (λ l made leased. omega (arith, h.later n f.session f.lease found.at made found.leased, ap (λ (j : Lease). j.serial) (same_some k l leased))) h.later;
        causes = recast_holds Lasting place (λ t lasts. lasts) k.serial s.terms h.causes;
        known = recast_holds HasKnownCause place (λ t known. known) k.serial s.terms h.known;
      }

  -- a term begins, numbered on
  begun_keeps : (s : State) (n : ℕ) (y : Session) (beside : Beside) (k : Lease) (t : Tenure) (ms : Meters) → k.serial ≡ s.begun + 1 → t.cause ≡ None → Keeps s (with_term s n y beside k t ms)
  begun_keeps s n y beside k t ms serial live h = record {
    few = omega (arith, h.few);
    later = later_with s n (record y { lease = Some k }) (λ l made is. omega (arith, h.few, serial, ap (λ (j : Lease). j.serial) (same_some k l is))) h.later;
    causes = All-push Lasting s.terms t h.causes (λ low. subst (λ (o : Option ℕ). IfSome o IsCircuitCause) (sym live) tt);
    known = All-push HasKnownCause s.terms t h.known (subst (λ (o : Option ℕ). IfSome o IsCause) (sym live) tt);
  }

  module _ (r : Rules) (s : State) (limited : Bool) (d : Deed) where
    judged_keeps : (t : Told) (h : Judges r s d.entry t d) → (lease : Option Ip4) → Keeps s (settled_by s d.entry.item.target h.x h.question t d.entry.moment h.after h.beside lease)
    judged_keeps t h None =
        let after : (l : Lease) → h.after.lease ≡ Some l → h.x.lease ≡ Some l = drives_was r (at_of s d.entry) (beside_of s d.entry) h.x h.after h.outs h.cause h.beside (settles r d.entry t) h.drives in
        keeps_with s d.entry.item.target None None h.after h.beside tt (λ k l made leased. absurd (none_some l (sym h.no_term ∙ after l leased))) (λ k l c leased. absurd (none_some l leased))
    judged_keeps t h (Some a) = begun_keeps s d.entry.item.target h.after h.beside (next_lease s t.plan t.limits d.entry.moment a) (next_term s h.x h.question t.plan t.class d.entry.moment a) (meters_of t.plan d.entry.moment) refl refl

    pub circuits_kept : Step r s limited d → CircuitsLast circuits s → CircuitsLast circuits d.next
    circuits_kept =
        step_walks_by r Keeps (keeps_walk r) keeps_stops s limited d (λ t decides h. judged_keeps t h t.lease)
        (λ is h. change_walks_by r Keeps (keeps_walk r) s limited d.entry d (λ p f found. keeps_recast r s d.entry p f found) h)

  pub circuits_settled : (s : State) → CircuitsLast circuits s → CircuitsLast circuits (settled s)
  circuits_settled s h = record {
    few = h.few;
    later = λ n x l at. h.later n x l (kept_from (λ (y : Session). not (leaves y)) s.sessions n x at).0;
    causes = All-filter (λ t. not (is_over t)) Lasting s.terms h.causes;
    known = All-filter (λ t. not (is_over t)) HasKnownCause s.terms h.known;
  }

-- Openings -----------------------------------------------------------------------------------------------------------------

each_live : (circuits now k : ℕ) (cs : List Static) → AllByRecursion (Lasting circuits) (tenures_after now k cs)
each_live circuits now k [] = tt
each_live circuits now k (c ∷ cs) = (λ low. tt, each_live circuits now (k + 1) cs)

none_over : (now k : ℕ) (cs : List Static) → AllByRecursion HasKnownCause (tenures_after now k cs)
none_over now k [] = tt
none_over now k (c ∷ cs) = (tt, none_over now (k + 1) cs)

-- each session is of a circuit
of_circuit : (now k : ℕ) (cs : List Static) (x : Session) → Contains (map (λ e. e.1) (numbered_after now k cs)) x → x.service ≡ Provisioned false
of_circuit now k [] x (i, within, is) = absurd (omega (arith, within))
of_circuit now k (c ∷ cs) x (zero, within, is) = ap (λ (y : Session). y.service) (sym is)
of_circuit now k (c ∷ cs) x (suc i, within, is) = of_circuit now (k + 1) cs x (i, omega (arith, within), is)

pub are_circuits : (number : ℕ) (circuits : List Static) (now : ℕ) → AllPairs (λ a b. a.session ≢ b.session) circuits → (n : ℕ) (x : Session)
    → value_at (opened_slots number [] circuits now).sessions n ≡ Some x → x.service ≡ Provisioned false
are_circuits number circuits now apart n x at =
    let s = opened_slots number [] circuits now in
    let same : values s.sessions ≡ map (λ e. e.1) (numbered_after now 0 (in_order number circuits)) = ap (λ es. map (λ e. e.1) es) (opened_entries number circuits now (apart_of circuits apart)) in
    of_circuit now 0 (in_order number circuits) x (subst (λ (xs : List Session). Contains xs x) same (stands s.sessions n x at))

pub circuits_opened : (number : ℕ) (profiles : List Profile) (circuits : List Static) (now : ℕ) → AllPairs (λ a b. a.session ≢ b.session) circuits → CircuitsLast (length circuits) (opened_slots number profiles circuits now)
circuits_opened number profiles circuits now apart = record {
  few = omega arith;
  later = λ n x l at made leased. absurd (omega (arith, ap made_one (are_circuits number circuits now apart n x at), made));
  causes = All-from_recursion (Lasting (length circuits)) (tenures_after now 0 (in_order number circuits)) (each_live (length circuits) now 0 (in_order number circuits));
  known = All-from_recursion HasKnownCause (tenures_after now 0 (in_order number circuits)) (none_over now 0 (in_order number circuits));
}
