-- The term that a request for a change names, and what stays of the terms where it is under another profile.
use Rattle.std.proofs.Common.{◌≡◌, ◌⊎◌, inl, inr, ℕ, ◌<◌, Bool, true, false, not, ◌&&◌, ◌==◌, cond, if◌then◌else◌, List, [], ◌∷◌, map, length, Option, Some, None, refl, sym, ap, subst, ◌∙◌}
use Rattle.std.specs.Prelude.{find, option_map, unwrap_or}
use Rattle.std.proofs.lemmas.Bool.{eqb-true}
use Rattle.bng_base.specs.declared.book.Profile.{Profile}
use Rattle.bng_base.specs.declared.item.Entry.{Entry}
use Rattle.bng_base.specs.declared.item.OutRecord.{OutRecord}
use Rattle.bng_coa.specs.Wants.{is_called, place_in, wanted}
use Rattle.bng_engine.specs.Protocol.{HaveProfiles}
use Rattle.bng_radius_wire.specs.Attributes.{Field}
use Rattle.bng_radius_wire.specs.Grammar.{Packet}
use Rattle.bng_sessions.specs.Sessions.{value_at}
use Rattle.bng_steps.specs.declared.changes.Meant.{Meant}
use Rattle.bng_steps.specs.declared.rules.Rules.{Rules}
use Rattle.bng_steps.specs.declared.session.Lease.{Lease}
use Rattle.bng_steps.specs.declared.session.Session.{Session}
use Rattle.bng_steps.specs.declared.terms.NamedTerm.{NamedTerm}
use Rattle.bng_steps.specs.Changes.{Applies, Found, HearsChange, Obeys, named_term, by_session, changed_by, found_by, found_with, is_named_by, lease_for, lease_if, meant, place_of, recast_by, refusal_of, with_its_session}
use Rattle.bng_steps.specs.Deed.{Deed, handled, ignored}
use Rattle.bng_steps.specs.Link.{admin_reset}
use Rattle.bng_steps.specs.Protocol.{term_in}
use Rattle.bng_steps.specs.State.{State, leaves}
use Rattle.bng_steps.specs.Tenures.{Tenure, is_over}
use Rattle.bng_steps.specs.Timers.{LosesTerm}
use Rattle.bng_steps.proofs.Planning.{placed_within}
use Rattle.bng_steps.proofs.Values.{none_some, same_some}

-- What was found -----------------------------------------------------------------------------------------------------------

-- the first live term that is asked for, with its session, which has not ended and has its lease
pub record IsFound (r : Rules) (s : State) (fs : List Field) (f : Found) : Type 0 where
  pub among : find (is_named_by r fs) s.terms ≡ Some f.term
  pub at : value_at s.sessions f.term.term.session.0 ≡ Some f.session
  pub stays : leaves f.session ≡ false
  pub leased : f.session.lease ≡ Some f.lease
  pub serial : f.lease.serial ≡ f.term.term.serial

record IsBy (t : Tenure) (o : Option Session) (f : Found) : Type 0 where
  term : f.term ≡ t
  session : o ≡ Some f.session
  stays : leaves f.session ≡ false
  leased : f.session.lease ≡ Some f.lease
  serial : f.lease.serial ≡ f.term.term.serial

if_some : {X : Type 0} (b : Bool) (x y : X) → (if b then Some x else None) ≡ Some y → (b ≡ true) × (x ≡ y)
if_some true x y e = (refl, same_some x y e)
if_some false x y e = absurd (none_some y e)

unless_some : {X : Type 0} (b : Bool) (o : Option X) (y : X) → (if b then None else o) ≡ Some y → (b ≡ false) × (o ≡ Some y)
unless_some true o y e = absurd (none_some y e)
unless_some false o y e = (refl, e)

mapped_some : {X Y : Type 0} (g : X → Y) (o : Option X) (y : Y) → option_map g o ≡ Some y → (x : X) × (o ≡ Some x) × (g x ≡ y)
mapped_some g None y e = absurd (none_some y e)
mapped_some g (Some x) y e = (x, refl, same_some (g x) y e)

lease_is : (serial : ℕ) (o : Option Lease) (l : Lease) → lease_if serial o ≡ Some l → (o ≡ Some l) × (l.serial ≡ serial)
lease_is serial None l e = absurd (none_some l e)
lease_is serial (Some k) l e =
    let both = if_some (k.serial == serial) k l e in
    (ap (λ (j : Lease). Some j) both.1, ap (λ (j : Lease). j.serial) (sym both.1) ∙ eqb-true k.serial serial both.0)

session_is : (t : Tenure) (o : Option Session) (f : Found) → by_session t o ≡ Some f → IsBy t o f
session_is t None f e = absurd (none_some f e)
session_is t (Some x) f e =
    let (l, its, same) = mapped_some (found_with t x) (lease_for t.term.serial x) f e in
    let both = unless_some (leaves x) (lease_if t.term.serial x.lease) l its in
    let leased = lease_is t.term.serial x.lease l both.1 in
    subst (IsBy t (Some x)) same (record { term = refl; session = refl; stays = both.0; leased = leased.0; serial = leased.1 })

its_session : (r : Rules) (s : State) (fs : List Field) (o : Option Tenure) (f : Found) → find (is_named_by r fs) s.terms ≡ o → with_its_session s o ≡ Some f → IsFound r s fs f
its_session r s fs None f is e = absurd (none_some f e)
its_session r s fs (Some t) f is e =
    let by = session_is t (value_at s.sessions t.term.session.0) f e in
    record {
      among = is ∙ ap (λ (u : Tenure). Some u) (sym by.term);
      at = ap (λ (u : Tenure). value_at s.sessions u.term.session.0) by.term ∙ by.session;
      stays = by.stays;
      leased = by.leased;
      serial = by.serial;
    }

pub found_is : (r : Rules) (s : State) (fs : List Field) (f : Found) → found_by r s fs ≡ Some f → IsFound r s fs f
found_is r s fs f e = its_session r s fs (find (is_named_by r fs) s.terms) f refl e

-- what a step keeps of it: of the term that a look at the terms found, and the lease of its session
abbrev meant_with : NamedTerm → Lease → Meant
meant_with k l = record { term = k.term; profile = k.profile; lease = l }

abbrev meant_by : NamedTerm → Option Session → Option Meant
meant_by k None = None
meant_by k (Some x) = option_map (meant_with k) (lease_for k.term.serial x)

same_meant : (t : Tenure) (x : Session) (o : Option Lease) → option_map meant (option_map (found_with t x) o) ≡ option_map (meant_with (named_term t)) o
same_meant t x None = refl
same_meant t x (Some l) = refl

meant_there : (t : Tenure) (o : Option Session) → option_map meant (by_session t o) ≡ meant_by (named_term t) o
meant_there t None = refl
meant_there t (Some x) = same_meant t x (lease_for t.term.serial x)

pub none_meant : (s : State) (o : Option Tenure) → None ≡ option_map named_term o → None ≡ option_map meant (with_its_session s o)
none_meant s None e = refl
none_meant s (Some t) e = absurd (none_some (named_term t) e)

meant_is : (s : State) (o : Option Tenure) (k : NamedTerm) → Some k ≡ option_map named_term o → option_map meant (with_its_session s o) ≡ meant_by k (value_at s.sessions k.term.session.0)
meant_is s None k e = absurd (none_some k (sym e))
meant_is s (Some t) k e =
    subst (λ (j : NamedTerm). option_map meant (by_session t (value_at s.sessions t.term.session.0)) ≡ meant_by j (value_at s.sessions j.term.session.0)) (sym (same_some k (named_term t) e))
    (meant_there t (value_at s.sessions t.term.session.0))

module _ (s : State) (o : Option Tenure) (k : NamedTerm) (among : Some k ≡ option_map named_term o) where
  pub no_session_meant : None ≡ value_at s.sessions k.term.session.0 → None ≡ option_map meant (with_its_session s o)
  no_session_meant none = sym (meant_is s o k among ∙ ap (meant_by k) (sym none))

  pub no_lease_meant : (x : Session) → Some x ≡ value_at s.sessions k.term.session.0 → None ≡ lease_for k.term.serial x → None ≡ option_map meant (with_its_session s o)
  no_lease_meant x at none = sym (meant_is s o k among ∙ ap (meant_by k) (sym at) ∙ ap (option_map (meant_with k)) (sym none))

  pub its_meant : (x : Session) (l : Lease) → Some x ≡ value_at s.sessions k.term.session.0 → Some l ≡ lease_for k.term.serial x → Some (record { term = k.term; profile = k.profile; lease = l }) ≡ option_map meant (with_its_session s o)
  its_meant x l at its = sym (meant_is s o k among ∙ ap (meant_by k) (sym at) ∙ ap (option_map (meant_with k)) (sym its))

-- What comes of it --------------------------------------------------------------------------------------------------------

-- all is as it was; or a term that was found is changed; or one ends
abbrev pub Comes : Rules → State → Entry → Deed → Type 0
Comes r s e d =
    (d ≡ ignored s e)
    ⊎ (((p : Packet) × (f : Found) × IsFound r s p.attributes f × (d ≡ handled s e [] (changed_by r s e p f)))
    ⊎ ((p : Packet) × (f : Found) × IsFound r s p.attributes f × (outs : List OutRecord) × (s' : State) × LosesTerm f.session.service admin_reset r e s f.term.term.session.0 f.session outs s' × (d ≡ handled s e outs s')))

applied_comes : (r : Rules) (s : State) (e : Entry) (d : Deed) (p : Packet) (f : Found) → found_by r s p.attributes ≡ Some f → Applies r s e p f d → Comes r s e d
applied_comes r s e d p f is (inl (code, h)) = inr (inl (p, f, found_is r s p.attributes f is, h))
applied_comes r s e d p f is (inr (code, outs, s', loses, h)) = inr (inr (p, f, found_is r s p.attributes f is, outs, s', loses, h))

obeyed_comes : (r : Rules) (s : State) (e : Entry) (d : Deed) (cause : Option ℕ) (found : Option Found) (p : Packet) → found_by r s p.attributes ≡ found → Obeys cause found r s e p d → Comes r s e d
obeyed_comes r s e d (Some cause) found p is h = inl h
obeyed_comes r s e d None None p is h = inl h
obeyed_comes r s e d None (Some f) p is h = applied_comes r s e d p f is h

pub change_comes : (r : Rules) (s : State) (e : Entry) (d : Deed) → HearsChange r s e d → Comes r s e d
change_comes r s e d (inl (none, h)) = inl h
change_comes r s e d (inr (p, reads, h)) = obeyed_comes r s e d (refusal_of r p) (found_by r s p.attributes) p refl h

-- Terms under another profile ----------------------------------------------------------------------------------------------

-- each has a profile below a number that all were below, and the new one is
one_below : (n : ℕ) (b : Bool) (place : ℕ) (t : Tenure) → place < n → t.profile < n → (cond b (record t { profile = place }) t).profile < n
one_below n true place t low h = low
one_below n false place t low h = h

pub recast_below : (n serial place : ℕ) (ts : List Tenure) → place < n → HaveProfiles n (map term_in ts) → HaveProfiles n (map term_in (map (recast_by serial place) ts))
recast_below n serial place [] low h = tt
recast_below n serial place (t ∷ ts) low h = (one_below n ((t.term.serial == serial) && not (is_over t)) place t low h.0, recast_below n serial place ts low h.1)

-- The profile that is wanted -----------------------------------------------------------------------------------------------

-- a term that is among some is below what all are below
found_below : (n : ℕ) (test : Tenure → Bool) (ts : List Tenure) (t : Tenure) → HaveProfiles n (map term_in ts) → find test ts ≡ Some t → t.profile < n
found_below n test [] t h e = absurd (none_some t e)
found_below n test (u ∷ ts) t h e =
    elim (test u) as (λ b. cond b (Some u) (find test ts) ≡ Some t → t.profile < n) [
      | true ↦ λ is. subst (λ (v : Tenure). v.profile < n) (same_some u t is) h.0
      | false ↦ λ is. found_below n test ts t h.1 is
    ] e

place_below : (profiles : List Profile) (o : Option Field) (k : ℕ) → place_in profiles o ≡ Some k → k < length profiles
place_below profiles None k e = absurd (none_some k e)
place_below profiles (Some f) k e = placed_within (is_called f.value) profiles k e

wanted_below : (n old : ℕ) (o : Option ℕ) → ((k : ℕ) → o ≡ Some k → k < n) → old < n → unwrap_or o old < n
wanted_below n old None wants low = low
wanted_below n old (Some k) wants low = wants k refl

-- the profile that a found term is under then is one of the rules, where each was
pub place_there : (r : Rules) (s : State) (p : Packet) (f : Found) → found_by r s p.attributes ≡ Some f → HaveProfiles (length r.profiles) (map term_in s.terms) → place_of f.term.profile (wanted r.profiles p) < length r.profiles
place_there r s p f is have =
    wanted_below (length r.profiles) f.term.profile (wanted r.profiles p).profile (λ k e. place_below r.profiles _ k e)
    (found_below (length r.profiles) (is_named_by r p.attributes) s.terms f.term have (found_is r s p.attributes f is).among)
