-- Where the limits of a live term come from, at one step.
use Rattle.std.proofs.Common.{◌≡◌, ◌⊎◌, inl, inr, ℕ, Bool, true, false, List, [], ◌∷◌, Option, Some, None, refl, sym, ap, subst, ◌∙◌}
use Rattle.std.proofs.lemmas.Bool.{cases_eq}
use Rattle.bng_base.specs.declared.address.Ip4.{Ip4}
use Rattle.bng_base.specs.declared.item.At.{At}
use Rattle.bng_base.specs.declared.item.Claim.{Claim}
use Rattle.bng_base.specs.declared.item.Claim.TheVariants.{NoClaim, Claimed, Held, Exhausted}
use Rattle.bng_base.specs.declared.item.ItemKind.{ItemKind}
use Rattle.bng_base.specs.declared.item.ItemKind.TheVariants.{Change, End, Verdict}
use Rattle.bng_base.specs.declared.item.OutRecord.{OutRecord}
use Rattle.bng_base.specs.declared.settings.NamedRange.{NamedRange}
use Rattle.bng_coa.specs.Admission.{IsRequestIn}
use Rattle.bng_coa.specs.Wants.{wanted}
use Rattle.bng_grant.specs.Grants.{Gift, IsGrant}
use Rattle.bng_ppp.specs.declared.input.Input.TheVariants.{Close, Start, Timer}
use Rattle.bng_radius_wire.specs.Grammar.{Packet}
use Rattle.bng_sessions.specs.Sessions.{Sessions, value_at, with_value}
use Rattle.bng_sessions.proofs.SessionLaws.{value_at-with_value, value_at-with_other}
use Rattle.bng_term.specs.declared.limits.Limits.{Limits}
use Rattle.bng_steps.specs.declared.meters.Plan.{Plan}
use Rattle.bng_steps.specs.declared.rules.Rules.{Rules}
use Rattle.bng_steps.specs.declared.session.Lease.{Lease}
use Rattle.bng_steps.specs.declared.session.Session.{Session}
use Rattle.bng_steps.specs.Calls.{called_session, linked_anew, turned}
use Rattle.bng_steps.specs.Changes.{Applies, Found, HearsChange, Obeys, found_by, interim_after, lease_after, place_of, refusal_of}
use Rattle.bng_steps.specs.Deed.{Deed, at_of, beside_of}
use Rattle.bng_steps.specs.Discovery.{new_session}
use Rattle.bng_steps.specs.Limits.{limits_of}
use Rattle.bng_steps.specs.Link.{Drives, LinkStep, Told, admin_reset, ended, hears, lost_carrier, nas_request, settles, told}
use Rattle.bng_steps.specs.Passing.{lapsed, looked, with_passed}
use Rattle.bng_steps.specs.Silence.{Alters, GoesOn, Grants}
use Rattle.bng_steps.specs.State.{Beside, State, with_driven, with_ended, with_session, with_tunnels}
use Rattle.bng_steps.specs.Step.{Hears, Step}
use Rattle.bng_steps.specs.Verdicts.{HearsVerdict, Judges, next_lease, settled_by}
use Rattle.bng_steps.specs.Wishes.{Decides, refused_with, told_at, told_by, told_if, told_in, told_of}
use Rattle.bng_steps.proofs.Changing.{found_is}
use Rattle.bng_steps.proofs.CircuitsKept.{lease_was}
use Rattle.bng_steps.proofs.SeenLeases.{looked_was}
use Rattle.bng_steps.proofs.Values.{none_some, same_some}
use Rattle.bng_steps.proofs.Walking.{Stops, WalksBy, end_walks_by, hears_walks_by, loses_walk}

-- What an Accept comes to --------------------------------------------------------------------------------------------------

by_limits : (plan : Plan) (claim : Claim) (text : List ℕ) (g : Gift) (a : Ip4) → (told_by plan claim text g).lease ≡ Some a → (told_by plan claim text g).limits ≡ limits_of g
by_limits plan NoClaim text g a e = absurd (none_some a e)
by_limits plan (Claimed b) text g a e = refl
by_limits plan (Held b) text g a e = absurd (none_some a e)
by_limits plan (Exhausted k) text g a e = absurd (none_some a e)

at_limits : (plan : Plan) (limited : Bool) (o : Option ℕ) (claim : Claim) (text : List ℕ) (g : Gift) (a : Ip4) → (told_at plan limited o claim text g).lease ≡ Some a → (told_at plan limited o claim text g).limits ≡ limits_of g
at_limits plan true None claim text g a e = absurd (none_some a e)
at_limits plan false None claim text g a e = absurd (none_some a e)
at_limits plan true (Some k) claim text g a e = absurd (none_some a e)
at_limits plan false (Some k) claim text g a e = by_limits plan claim text g a e

in_limits : (plan : Plan) (pools : List NamedRange) (limited : Bool) (claim : Claim) (text : List ℕ) (g : Gift) (a : Ip4) → (told_in plan pools limited claim text g).lease ≡ Some a → (told_in plan pools limited claim text g).limits ≡ limits_of g
in_limits plan [] limited claim text g a e = refl
in_limits plan (p ∷ ps) limited claim text g a e = at_limits plan limited _ claim text g a e

if_limits : (o : Option Plan) (pools : List NamedRange) (limited : Bool) (claim : Claim) (text : List ℕ) (g : Gift) (a : Ip4) → (told_if o pools limited claim text g).lease ≡ Some a → (told_if o pools limited claim text g).limits ≡ limits_of g
if_limits None pools limited claim text g a e = absurd (none_some a e)
if_limits (Some plan) pools limited claim text g a e = in_limits plan pools limited claim text g a e

decided_limits : (r : Rules) (limited : Bool) (octets : List ℕ) (claim : Claim) (t : Told) (a : Ip4) → Decides r limited octets claim (Some t) → t.lease ≡ Some a → (g : Gift) × IsGrant octets (Some g) × (t.limits ≡ limits_of g)
decided_limits r limited octets claim t a (inl (silent, none, e)) leased = absurd (none_some t (sym e))
decided_limits r limited octets claim t a (inr (inl (v, says, refused, none, e))) leased =
    absurd (none_some a (sym (ap (λ (u : Told). u.lease) (same_some t (refused_with v.text) e)) ∙ leased))
decided_limits r limited octets claim t a (inr (inr (v, says, accepted, g, grants, answers, e))) leased =
    let is = same_some t (told_of r limited claim v.text g) e in
    (g, grants, ap (λ (u : Told). u.limits) is ∙ if_limits _ r.pools limited claim v.text g a (sym (ap (λ (u : Told). u.lease) is) ∙ leased))

-- Leases -------------------------------------------------------------------------------------------------------------------

-- a step of a link gives no lease
pub drives_was : (r : Rules) (a : At) (beside : Beside) (x x' : Session) (outs : List OutRecord) (cause : Option ℕ) (beside' : Beside) (Steps : LinkStep) → Drives r a beside x Steps outs cause x' beside'
    → (l : Lease) → x'.lease ≡ Some l → x.lease ≡ Some l
drives_was r a beside x x' outs cause beside' Steps h l leased = lease_was h.says.term_ended x.lease l (sym (ap (λ (y : Session). y.lease) h.session) ∙ leased)

goes_on : (s : State) (n : ℕ) (x : Session) (l : Lease) → value_at s.sessions n ≡ Some x → x.lease ≡ Some l → GoesOn s n l
goes_on s n x l at leased = record { x = x; at = at; lease = l; leased = leased; serial = refl; began = refl; limits = refl }

looked_goes_on : (s : State) (n passed : ℕ) (x : Session) (l : Lease) → value_at s.sessions n ≡ Some x → (looked passed x).lease ≡ Some l → GoesOn s n l
looked_goes_on s n passed x l at leased =
    let (k, was, is) = looked_was passed x.lease l leased in
    record { x = x; at = at; lease = k; leased = was; serial = ap (λ (j : Lease). j.serial) is; began = ap (λ (j : Lease). j.life.began) is; limits = ap (λ (j : Lease). j.life.limits) is }

-- what holds of a lease by its number, its limits and the moment from which they count
module _ (P : ℕ → Lease → Type 0) (moves : (n : ℕ) (l l' : Lease) → l'.serial ≡ l.serial → l'.life.began ≡ l.life.began → l'.life.limits ≡ l.life.limits → P n l → P n l') where
  -- each lease goes on, or this holds of it
  abbrev Lets : State → State → Type 0
  Lets s s' = (n : ℕ) (x : Session) (l : Lease) → value_at s'.sessions n ≡ Some x → x.lease ≡ Some l → GoesOn s n l ⊎ P n l

  lets_same : (s s' : State) → s'.sessions ≡ s.sessions → Lets s s'
  lets_same s s' e n x l at leased = inl (goes_on s n x l (sym (ap (λ (t : Sessions Session). value_at t n) e) ∙ at) leased)

  lets_then : (s s' s'' : State) → Lets s s' → Lets s' s'' → Lets s s''
  lets_then s s' s'' f g n x l at leased =
      elim (g n x l at leased) [
        | inr holds ↦ inr holds
        | inl on ↦ elim (f n on.x on.lease on.at on.leased) [
          | inr holds ↦ inr (moves n on.lease l on.serial on.began on.limits holds)
          | inl was ↦
              inl (record { x = was.x; at = was.at; lease = was.lease; leased = was.leased; serial = on.serial ∙ was.serial; began = on.began ∙ was.began; limits = on.limits ∙ was.limits })
        ]
      ]

  lets_put : (s s' : State) (n : ℕ) (y : Session) → s'.sessions ≡ with_value s.sessions n y → ((l : Lease) → y.lease ≡ Some l → GoesOn s n l ⊎ P n l) → Lets s s'
  lets_put s s' n y e its m x l at leased =
      let there : value_at (with_value s.sessions n y) m ≡ Some x = sym (ap (λ (t : Sessions Session). value_at t m) e) ∙ at in
      elim (cases_eq m n) [
        | inl same ↦
            let here : value_at (with_value s.sessions n y) n ≡ Some x = subst (λ (k : ℕ). value_at (with_value s.sessions n y) k ≡ Some x) same there in
            let is : y ≡ x = same_some y x (sym (value_at-with_value s.sessions n y) ∙ here) in
            subst (λ (k : ℕ). GoesOn s k l ⊎ P k l) (sym same) (its l (ap (λ (z : Session). z.lease) is ∙ leased))
        | inr ne ↦ inl (goes_on s m x l (sym (value_at-with_other s.sessions n y m ne) ∙ there) leased)
      ]

  lets_none : (s s' : State) (n : ℕ) (y : Session) → s'.sessions ≡ with_value s.sessions n y → y.lease ≡ None → Lets s s'
  lets_none s s' n y e none = lets_put s s' n y e (λ l leased. absurd (none_some l (sym none ∙ leased)))

  lets_walk : (r : Rules) → WalksBy r Lets
  lets_walk r = record {
    same = λ s s' e. lets_same s s' (ap (λ (t : State). t.sessions) e);
    then = lets_then;
    timed = λ e s n x x' outs cause beside' at drives.
        lets_put s (with_driven s n x.lease cause x' beside') n x' refl (λ l leased. inl (goes_on s n x l at (drives_was r (at_of s e) (beside_of s e) x x' outs cause beside' (told r e Timer) drives l leased)));
    heard = λ octets e s n x x' outs cause beside' at drives.
        lets_put s (with_driven s n x.lease cause x' beside') n x' refl (λ l leased. inl (goes_on s n x l at (drives_was r (at_of s e) (beside_of s e) x x' outs cause beside' (hears r e octets) drives l leased)));
    made = λ e s n port mac host_uniq link x' outs cause beside' vacant new drives.
        lets_put s (with_driven s n None cause x' beside') n x' refl (λ l leased. absurd (none_some l (drives_was r (at_of s e) (beside_of s e) (new_session n port mac host_uniq link) x' outs cause beside' (told r e Start) drives l leased)));
    ends = λ s n x m cause lost at is. lets_none s (with_ended s n x.lease cause (ended x)) n (ended x) refl refl;
    passes = λ s n moment ms. lets_same s (with_passed s n moment ms) refl;
    looks = λ s n passed x at. lets_put s (with_session s n (looked passed x)) n (looked passed x) refl (λ l leased. inl (looked_goes_on s n passed x l at leased));
    lapses = λ e s n x x' outs cause none beside' at over drives.
        lets_put s (with_driven s n x.lease (Some cause) x' beside') n x' refl (λ l leased. absurd (none_some l (drives_was r (at_of s e) (beside_of s e) (lapsed x) x' outs none beside' (told r e Close) drives l leased)));
    lapses_circuit = λ e s n x over cause at is lapse. lets_none s (with_driven s n x.lease (Some cause) (lapsed x) (beside_of s e)) n (lapsed x) refl refl;
    tells = λ s t. lets_same s (with_tunnels s t) refl;
    comes = λ e s n number peer t c link vacant new. lets_none s (with_session s n (called_session n peer number t c link)) n (called_session n peer number t c link) refl refl;
    turns = λ s n x c call at way. lets_put s (with_session s n (turned x c call)) n (turned x c call) refl (λ l leased. inl (goes_on s n x l at leased));
    over = λ s n x m c call at is way. lets_none s (with_ended s n x.lease lost_carrier (ended (turned x c call))) n (ended (turned x c call)) refl refl;
    connects = λ e s n x x' m c call link outs none beside' at is way new drives.
        lets_put s (with_driven s n x.lease (Some lost_carrier) x' beside') n x' refl (λ l leased. absurd (none_some l (drives_was r (at_of s e) (beside_of s e) (linked_anew (turned x c call) link) x' outs none beside' (told r e Start) drives l leased)));
  }

  lets_stops : Stops Lets
  lets_stops s n x at = lets_none s (with_ended s n x.lease nas_request (ended x)) n (ended x) refl refl

-- A step -------------------------------------------------------------------------------------------------------------------

module _ (r : Rules) (s : State) (limited : Bool) (d : Deed) where
  abbrev Anew : ℕ → Lease → Type 0
  Anew n l = Alters r s d n l ⊎ Grants s d n l

  pub anew_moves : (n : ℕ) (l l' : Lease) → l'.serial ≡ l.serial → l'.life.began ≡ l.life.began → l'.life.limits ≡ l.life.limits → Anew n l → Anew n l'
  anew_moves n l l' serial began limits (inl h) =
      inl
      (record {
        kind = h.kind;
        packet = h.packet;
        reads = h.reads;
        code = h.code;
        granted = h.granted;
        found = h.found;
        found_is = h.found_is;
        session = h.session;
        serial = serial ∙ h.serial;
        began = began ∙ h.began;
        session_timeout = ap (λ (k : Limits). k.session_timeout) limits ∙ h.session_timeout;
        idle_timeout = ap (λ (k : Limits). k.idle_timeout) limits ∙ h.idle_timeout;
        no_interim = λ none. ap (λ (k : Limits). k.interim) limits ∙ h.no_interim none;
        interim = λ seconds some. ap (λ (k : Limits). k.interim) limits ∙ h.interim seconds some;
      })
  anew_moves n l l' serial began limits (inr h) =
      inr
      (record {
        kind = h.kind;
        session = h.session;
        gift = h.gift;
        grants = h.grants;
        serial = serial ∙ h.serial;
        began = began ∙ h.began;
        session_timeout = ap (λ (k : Limits). k.session_timeout) limits ∙ h.session_timeout;
        idle_timeout = ap (λ (k : Limits). k.idle_timeout) limits ∙ h.idle_timeout;
        interim = ap (λ (k : Limits). k.interim) limits ∙ h.interim;
      })

  judged_as : (t : Told) → d.entry.item.kind ≡ Verdict → Decides r limited d.entry.item.frame.payload d.entry.claim (Some t) → (h : Judges r s d.entry t d) → (lease : Option Ip4) → t.lease ≡ lease
      → Lets Anew anew_moves s (settled_by s d.entry.item.target h.x h.question t d.entry.moment h.after h.beside lease)
  judged_as t kind decides h None none =
      lets_put Anew anew_moves s (settled_by s d.entry.item.target h.x h.question t d.entry.moment h.after h.beside None) d.entry.item.target h.after refl
      (λ l leased. absurd (none_some l (sym h.no_term ∙ drives_was r (at_of s d.entry) (beside_of s d.entry) h.x h.after h.outs h.cause h.beside (settles r d.entry t) h.drives l leased)))
  judged_as t kind decides h (Some a) given =
      let next = next_lease s t.plan t.limits d.entry.moment a in
      let (g, grants, limits) = decided_limits r limited d.entry.item.frame.payload d.entry.claim t a decides given in
      lets_put Anew anew_moves s (settled_by s d.entry.item.target h.x h.question t d.entry.moment h.after h.beside (Some a)) d.entry.item.target (record h.after { lease = Some next }) refl
      (λ l leased.
      let is : l ≡ next = sym (same_some next l leased) in
      inr
      (inr
      (record {
        kind = kind;
        session = refl;
        gift = g;
        grants = grants;
        serial = ap (λ (k : Lease). k.serial) is;
        began = ap (λ (k : Lease). k.life.began) is;
        session_timeout = ap (λ (k : Lease). k.life.limits.session_timeout) is ∙ ap (λ (k : Limits). k.session_timeout) limits;
        idle_timeout = ap (λ (k : Lease). k.life.limits.idle_timeout) is ∙ ap (λ (k : Limits). k.idle_timeout) limits;
        interim = ap (λ (k : Lease). k.life.limits.interim) is ∙ ap (λ (k : Limits). k.interim) limits;
      })))

  abbrev HasLimits : Type 0
  HasLimits = Lets Anew anew_moves s d.next

  stays : (f : Deed) → d ≡ f → f.next ≡ s → HasLimits
  stays f h e = lets_same Anew anew_moves s d.next (ap (λ (g : Deed). g.next.sessions) h ∙ ap (λ (t : State). t.sessions) e)

  verdict_told : d.entry.item.kind ≡ Verdict → HearsVerdict r s d.entry limited d → HasLimits
  verdict_told kind (inl (asks, t, decides, j)) = subst (Lets Anew anew_moves s) (sym (ap (λ (g : Deed). g.next) j.done)) (judged_as t kind decides j t.lease refl)
  verdict_told kind (inr (inl (asks, decides, h))) = stays _ h refl
  verdict_told kind (inr (inr (other, claim, h))) = stays _ h refl

  applied_told : (p : Packet) (f : Found) → d.entry.item.kind ≡ Change → IsRequestIn p d.entry.item.frame.payload → refusal_of r p ≡ None → found_by r s p.attributes ≡ Some f → Applies r s d.entry p f d → HasLimits
  applied_told p f kind reads granted its (inl (code, h)) =
      let k = lease_after f.lease (wanted r.profiles p) (place_of f.term.profile (wanted r.profiles p)) in
      lets_put Anew anew_moves s d.next f.term.term.session.0 (record f.session { lease = Some k }) (ap (λ (g : Deed). g.next.sessions) h)
      (λ l leased.
      let is : l ≡ k = sym (same_some k l leased) in
      inr
      (inl
      (record {
        kind = kind;
        packet = p;
        reads = reads;
        code = code;
        granted = granted;
        found = f;
        found_is = its;
        session = refl;
        serial = ap (λ (j : Lease). j.serial) is;
        began = ap (λ (j : Lease). j.life.began) is;
        session_timeout = ap (λ (j : Lease). j.life.limits.session_timeout) is;
        idle_timeout = ap (λ (j : Lease). j.life.limits.idle_timeout) is;
        no_interim = λ none. ap (λ (j : Lease). j.life.limits.interim) is ∙ ap (interim_after f.lease.life.limits.interim) none;
        interim = λ seconds some. ap (λ (j : Lease). j.life.limits.interim) is ∙ ap (interim_after f.lease.life.limits.interim) some;
      })))
  applied_told p f kind reads granted its (inr (code, outs, s', loses, h)) =
      subst (Lets Anew anew_moves s) (sym (ap (λ (g : Deed). g.next) h))
      (loses_walk r (Lets Anew anew_moves) (lets_walk Anew anew_moves r) f.session.service admin_reset d.entry s f.term.term.session.0 f.session outs s' (found_is r s p.attributes f its).at refl (inr (inr refl)) loses)

  obeyed_told : (p : Packet) (cause : Option ℕ) (found : Option Found) → d.entry.item.kind ≡ Change → IsRequestIn p d.entry.item.frame.payload → refusal_of r p ≡ cause → found_by r s p.attributes ≡ found
      → Obeys cause found r s d.entry p d → HasLimits
  obeyed_told p (Some cause) found kind reads granted its h = stays _ h refl
  obeyed_told p None None kind reads granted its h = stays _ h refl
  obeyed_told p None (Some f) kind reads granted its h = applied_told p f kind reads granted its h

  change_told : d.entry.item.kind ≡ Change → HearsChange r s d.entry d → HasLimits
  change_told kind (inl (none, h)) = stays _ h refl
  change_told kind (inr (p, reads, h)) = obeyed_told p (refusal_of r p) (found_by r s p.attributes) kind reads refl refl h

  pub limits_told : Step r s limited d → HasLimits
  limits_told h = by_kind (hears_walks_by r (Lets Anew anew_moves) (lets_walk Anew anew_moves r) s limited d.entry d d.entry.item.kind h.hears)
    where
      heard_as : (kind : ItemKind) → d.entry.item.kind ≡ kind → Hears kind r s limited d.entry d
      heard_as kind is = subst (λ (k : ItemKind). Hears k r s limited d.entry d) is h.hears

      by_kind : (d.entry.item.kind ≡ Verdict) ⊎ ((d.entry.item.kind ≡ End) ⊎ ((d.entry.item.kind ≡ Change) ⊎ HasLimits)) → HasLimits
      by_kind (inl is) = verdict_told is (heard_as Verdict is)
      by_kind (inr (inl is)) = end_walks_by r (Lets Anew anew_moves) (lets_walk Anew anew_moves r) s limited d.entry d (lets_stops Anew anew_moves) (heard_as End is)
      by_kind (inr (inr (inl is))) = change_told is (heard_as Change is)
      by_kind (inr (inr (inr walks))) = walks
