-- What a step does to the terms of a shard: it may end some, and a verdict may begin one. Each session is on a port that is there.
use Rattle.std.proofs.Common.{IfSome, ◌≡◌, ◌⊎◌, ⊎_elim, inl, inr, ℕ, ◌+◌, ◌<◌, Bool, true, false, not, ◌&&◌, ◌==◌, List, [], length, ◌∷◌, ◌++◌, map, filter, Option, Some, None, is_some, cond, if◌then◌else◌, refl, sym, ap, subst, ◌∙◌}
use Rattle.std.specs.List.{AllZip, list_any}
use Rattle.std.proofs.lemmas.Bool.{cases_eq}
use Rattle.bng_base.specs.declared.address.Ip4.{Ip4}
use Rattle.bng_base.specs.declared.address.SessionNo.{SessionNo}
use Rattle.bng_base.specs.declared.item.Claim.{Claim}
use Rattle.bng_base.specs.declared.item.Claim.TheVariants.{NoClaim, Claimed, Held, Exhausted}
use Rattle.bng_base.specs.declared.item.Entry.{Entry}
use Rattle.bng_base.specs.declared.item.ItemKind.{ItemKind}
use Rattle.bng_base.specs.declared.item.ItemKind.TheVariants.{Access, Core, Tunnel, Verdict, Change, Tick, End}
use Rattle.bng_base.specs.declared.item.OutRecord.{OutRecord}
use Rattle.bng_base.specs.declared.settings.NamedRange.{NamedRange}
use Rattle.bng_engine.specs.Protocol.{HaveProfiles}
use Rattle.bng_engine.specs.Terms.{Term, is_live, keys}
use Rattle.bng_grant.specs.Grants.{Gift}
use Rattle.bng_ppp.specs.declared.input.Input.TheVariants.{Start, Close}
use Rattle.bng_coa.specs.Wants.{wanted}
use Rattle.bng_radius_wire.specs.Grammar.{Packet}
use Rattle.bng_sessions.specs.Sessions.{value_at, with_value}
use Rattle.bng_sessions.proofs.SessionLaws.{value_at-with_value, value_at-with_other}
use Rattle.bng_steps.specs.declared.meters.Plan.{Plan}
use Rattle.bng_steps.specs.declared.rules.Rules.{Rules}
use Rattle.bng_base.specs.declared.item.At.{At}
use Rattle.bng_steps.specs.declared.session.Lease.{Lease}
use Rattle.bng_steps.specs.declared.session.Session.{Session}
use Rattle.bng_steps.specs.State.{Beside, State, settled, with_session, with_driven, with_ended}
use Rattle.bng_steps.specs.declared.way.Way.{Way}
use Rattle.bng_steps.specs.declared.way.Way.TheVariants.{Port, Call}
use Rattle.bng_steps.specs.Calls.{called_session, linked_anew, turned}
use Rattle.bng_steps.specs.Changes.{Found, changed_by, found_by, lease_after, place_of, recast_by}
use Rattle.bng_steps.specs.Deed.{Deed, at_of, beside_of, handled, ignored}
use Rattle.bng_steps.specs.Placed.{ArePlaced, IsPlaced}
use Rattle.bng_steps.specs.Link.{LinkStep, Drives, SaysOn, Told, ended, lost_carrier, nas_request, settles, told, way_after}
use Rattle.bng_steps.specs.Metered.{meters_of, plan_for}
use Rattle.bng_steps.specs.Passing.{lapsed, looked}
use Rattle.bng_steps.specs.Protocol.{claimed_by, term_in}
use Rattle.bng_steps.specs.Step.{Hears, MayClaim, Step}
use Rattle.bng_steps.specs.Tenures.{Tenure, closed, is_over, over_by}
use Rattle.bng_steps.specs.Verdicts.{HearsVerdict, Judges, next_lease, next_term, settled_by, with_term}
use Rattle.bng_steps.specs.declared.wish.Wish.TheVariants.{Nothing, Address}
use Rattle.bng_steps.specs.Wishes.{Decides, IsAnswerTo, is_within, pool_for, refused_with, told_at, told_by, told_if, told_in, told_of, wish_among, wish_at, wish_if, wish_in}
use Rattle.bng_steps.proofs.Changing.{found_is, place_there, recast_below}
use Rattle.bng_steps.proofs.Naming.{next_of}
use Rattle.bng_steps.proofs.Planning.{decided_placed}
use Rattle.bng_steps.proofs.Values.{none_some, same_some}
use Rattle.bng_steps.proofs.Walking.{Walks, change_walks, end_walks, hears_walks}

-- the terms of a state, as the engine reads them
abbrev pub terms_there : State → List Term
terms_there s = map term_in s.terms

-- Terms side by side ---------------------------------------------------------------------------------------------------------

-- a term is as it was, or was live, is under some profile, and may have ended by a cause of which this holds
abbrev pub Lasts : (ℕ → Type 0) → Tenure → Tenure → Type 0
Lasts C t t' = (t' ≡ t) ⊎ ((t.cause ≡ None) × (place : ℕ) × (cause : Option ℕ) × IfSome cause C × (t' ≡ record t { profile = place; cause = cause }))

-- whatever the cause
abbrev pub AnyCause : ℕ → Type 0
AnyCause cause = Unit {0}

module _ (C : ℕ → Type 0) where
  pub each_lasts : (ts : List Tenure) → AllZip (Lasts C) ts ts
  each_lasts [] = tt
  each_lasts (t ∷ ts) = (inl refl, each_lasts ts)

  lasts_then : (t u v : Tenure) → Lasts C t u → Lasts C u v → Lasts C t v
  lasts_then t u v (inl e) h = subst (λ (w : Tenure). Lasts C w v) e h
  lasts_then t u v (inr (live, place, cause, is, e)) (inl f) = inr (live, place, cause, is, f ∙ e)
  lasts_then t u v (inr (live, place, cause, is, e)) (inr (again, other, later, was, f)) =
      inr (live, other, later, was, f ∙ ap (λ (w : Tenure). let x : Tenure = record w { profile = other; cause = later } in x) e)

  pub zip_then : (ts us vs : List Tenure) → AllZip (Lasts C) ts us → AllZip (Lasts C) us vs → AllZip (Lasts C) ts vs
  zip_then [] [] [] g h = tt
  zip_then [] [] (v ∷ vs) g h = absurd h
  zip_then [] (u ∷ us) vs g h = absurd g
  zip_then (t ∷ ts) [] vs g h = absurd g
  zip_then (t ∷ ts) (u ∷ us) [] g h = absurd h
  zip_then (t ∷ ts) (u ∷ us) (v ∷ vs) g h = (lasts_then t u v g.0 h.0, zip_then ts us vs g.1 h.1)

  one_over : (b : Bool) (o : Option ℕ) (cause : ℕ) (t : Tenure) → C cause → t.cause ≡ o → Lasts C t (cond (b && not (is_some o)) (record t { cause = Some cause }) t)
  one_over true None cause t is e = inr (e, t.profile, Some cause, is, refl)
  one_over true (Some k) cause t is e = inl refl
  one_over false o cause t is e = inl refl

  each_over : (serial cause : ℕ) (ts : List Tenure) → C cause → AllZip (Lasts C) ts (map (over_by serial cause) ts)
  each_over serial cause [] is = tt
  each_over serial cause (t ∷ ts) is = (one_over (t.term.serial == serial) t.cause cause t is refl, each_over serial cause ts is)

  -- terms of which that of a lease ended
  pub closed_last : (lease : Option Lease) (cause : Option ℕ) (ts : List Tenure) → ((c : ℕ) → cause ≡ Some c → C c) → AllZip (Lasts C) ts (closed lease cause ts)
  closed_last None cause ts is = each_lasts ts
  closed_last (Some l) None ts is = each_lasts ts
  closed_last (Some l) (Some c) ts is = each_over l.serial c ts (is c refl)

  -- terms of which one is under another profile
  one_recast : (b : Bool) (o : Option ℕ) (place : ℕ) (t : Tenure) → t.cause ≡ o → Lasts C t (cond (b && not (is_some o)) (record t { profile = place }) t)
  one_recast true None place t e = inr (e, place, None, tt, λ i. record t { profile = place; cause = e i })
  one_recast true (Some k) place t e = inl refl
  one_recast false o place t e = inl refl

  pub recast_last : (serial place : ℕ) (ts : List Tenure) → AllZip (Lasts C) ts (map (recast_by serial place) ts)
  recast_last serial place [] = tt
  recast_last serial place (t ∷ ts) = (one_recast (t.term.serial == serial) t.cause place t refl, recast_last serial place ts)

  one_key : (t u : Tenure) → Lasts C t u → (term_in u).key ≡ (term_in t).key
  one_key t u (inl e) = ap (λ (w : Tenure). (term_in w).key) e
  one_key t u (inr (live, place, cause, is, e)) = ap (λ (w : Tenure). (term_in w).key) e

  -- they keep their keys
  pub zip_keys : (ts us : List Tenure) → AllZip (Lasts C) ts us → keys (map term_in us) ≡ keys (map term_in ts)
  zip_keys [] [] h = refl
  zip_keys [] (u ∷ us) h = absurd h
  zip_keys (t ∷ ts) [] h = absurd h
  zip_keys (t ∷ ts) (u ∷ us) h =
      let key = one_key t u h.0 in
      let rest = zip_keys ts us h.1 in
      λ i. key i ∷ rest i

-- The profiles of terms of which one ended --------------------------------------------------------------------------------------

one_below : (n : ℕ) (b : Bool) (cause : ℕ) (t : Tenure) → t.profile < n → (cond b (record t { cause = Some cause }) t).profile < n
one_below n true cause t low = low
one_below n false cause t low = low

over_below : (n serial cause : ℕ) (ts : List Tenure) → HaveProfiles n (map term_in ts) → HaveProfiles n (map term_in (map (over_by serial cause) ts))
over_below n serial cause [] have = tt
over_below n serial cause (t ∷ ts) have = (one_below n ((t.term.serial == serial) && not (is_over t)) cause t have.0, over_below n serial cause ts have.1)

closed_below : (n : ℕ) (lease : Option Lease) (cause : Option ℕ) (ts : List Tenure) → HaveProfiles n (map term_in ts) → HaveProfiles n (map term_in (closed lease cause ts))
closed_below n None cause ts have = have
closed_below n (Some l) None ts have = have
closed_below n (Some l) (Some cause) ts have = over_below n l.serial cause ts have

one_left : (b : Bool) (t : Tenure) (ts : List Tenure) → map term_in (cond (not b) (t ∷ ts) ts) ≡ cond (not b) (term_in t ∷ map term_in ts) (map term_in ts)
one_left true t ts = refl
one_left false t ts = refl

live_left : (ts : List Tenure) → map term_in (filter (λ t. not (is_over t)) ts) ≡ filter is_live (map term_in ts)
live_left [] = refl
live_left (t ∷ ts) =
    one_left (is_over t) t (filter (λ (u : Tenure). not (is_over u)) ts) ∙ ap (λ (us : List Term). cond (not (is_over t)) (term_in t ∷ us) us) (live_left ts)

-- once those that ended have left, the live terms are there
pub settled_terms : (s : State) → terms_there (settled s) ≡ filter is_live (terms_there s)
settled_terms s = live_left s.terms

-- States ---------------------------------------------------------------------------------------------------------------------

-- No term began: each is as it was, or is under another profile, or has ended by a cause of which C holds. The number is that of s. Each
-- session is on a port where each of s was, and each term is under a profile of the rules where each of s was.
pub record Remains (C : ℕ → Type 0) (r : Rules) (s s' : State) : Type 0 where
  pub shard : s'.sessions.shard ≡ s.sessions.shard
  pub begun : s'.begun ≡ s.begun
  pub terms : AllZip (Lasts C) s.terms s'.terms
  pub news : s'.news ≡ s.news
  pub placed : ArePlaced r s.sessions → ArePlaced r s'.sessions
  pub profiles : HaveProfiles (length r.profiles) (terms_there s) → HaveProfiles (length r.profiles) (terms_there s')

-- one term began, with this address; the others are as they were
pub record Begins (r : Rules) (s s' : State) (a : Ip4) : Type 0 where
  pub shard : s'.sessions.shard ≡ s.sessions.shard
  pub begun : s'.begun ≡ s.begun + 1
  pub one : Tenure
  pub serial : one.term.serial ≡ s.begun + 1
  pub address : one.address ≡ a
  pub profile : one.profile < length r.profiles
  pub live : one.cause ≡ None
  pub terms : s'.terms ≡ s.terms ++ one ∷ []
  pub news : s'.news ≡ s.news ++ one ∷ []
  pub placed : ArePlaced r s.sessions → ArePlaced r s'.sessions

-- where a port is, if the session is at one
abbrev IsThere : Rules → Session → Type 0
IsThere r x = IsPlaced r x.way

-- what its link says goes out there
says_there : (r : Rules) (a : At) (way : Way) (n : SessionNo) (frames : List (List ℕ)) (outs : List OutRecord) → SaysOn way r a n frames outs → IsPlaced r way
says_there r a (Port number mac) n frames outs h = (h.port, h.port_is)
says_there r a (Call c) n frames outs h = tt

way_there : (r : Rules) (b : Bool) (way : Way) → IsPlaced r way → IsPlaced r (way_after b way)
way_there r false way h = h
way_there r true (Port number mac) h = h
way_there r true (Call c) h = tt

module _ (r : Rules) where
  placed_with : (s : State) (n : ℕ) (y : Session) → (ArePlaced r s.sessions → IsThere r y) → ArePlaced r s.sessions → ArePlaced r (with_session s n y).sessions
  placed_with s n y there before m x at =
      elim (cases_eq m n) [
        | inl e ↦
            let stands : value_at (with_value s.sessions n y) n ≡ Some x = subst (λ (k : ℕ). value_at (with_value s.sessions n y) k ≡ Some x) e at in
            subst (IsThere r) (same_some y x (sym (value_at-with_value s.sessions n y) ∙ stands)) (there before)
        | inr ne ↦ before m x (sym (value_at-with_other s.sessions n y m ne) ∙ at)
      ]

  drives_there : (a : At) (beside : Beside) (x x' : Session) (outs : List OutRecord) (cause : Option ℕ) (beside' : Beside) (Steps : LinkStep) → Drives r a beside x Steps outs cause x' beside' → IsThere r x'
  drives_there a beside x x' outs cause beside' Steps h = subst (λ (y : Session). IsPlaced r y.way) (sym h.session) (way_there r h.says.finished x.way (says_there r a x.way x.number h.says.outs h.first h.tells))

  module _ (C : ℕ → Type 0) where
    remain_same : (s s' : State) → s' ≡ s → Remains C r s s'
    remain_same s s' e = record {
      shard = ap (λ (t : State). t.sessions.shard) e;
      begun = ap (λ (t : State). t.begun) e;
      terms = subst (λ (ts : List Tenure). AllZip (Lasts C) s.terms ts) (sym (ap (λ (t : State). t.terms) e)) (each_lasts C s.terms);
      news = ap (λ (t : State). t.news) e;
      placed = λ h. subst (λ (t : State). ArePlaced r t.sessions) (sym e) h;
      profiles = λ h. subst (λ (t : State). HaveProfiles (length r.profiles) (terms_there t)) (sym e) h;
    }

    remain_then : (s s' s'' : State) → Remains C r s s' → Remains C r s' s'' → Remains C r s s''
    remain_then s s' s'' g h = record {
      shard = h.shard ∙ g.shard;
      begun = h.begun ∙ g.begun;
      terms = zip_then C s.terms s'.terms s''.terms g.terms h.terms;
      news = h.news ∙ g.news;
      placed = λ p. h.placed (g.placed p);
      profiles = λ p. h.profiles (g.profiles p);
    }

    -- a session is another one, and a term may have ended
    remain_with : (s : State) (n : ℕ) (lease : Option Lease) (cause : Option ℕ) (y : Session) (beside : Beside) → ((c : ℕ) → cause ≡ Some c → C c) → (ArePlaced r s.sessions → IsThere r y)
        → Remains C r s (with_driven s n lease cause y beside)
    remain_with s n lease cause y beside is there = record {
      shard = refl;
      begun = refl;
      terms = closed_last C lease cause s.terms is;
      news = refl;
      placed = placed_with s n y there;
      profiles = closed_below (length r.profiles) lease cause s.terms;
    }

    -- its live term goes on
    remain_looked : (s : State) (n at : ℕ) (x : Session) → value_at s.sessions n ≡ Some x → Remains C r s (with_session s n (looked at x))
    remain_looked s n at x found = record { shard = refl; begun = refl; terms = each_lasts C s.terms; news = refl; placed = placed_with s n (looked at x) (λ p. p n x found); profiles = λ h. h }

    -- it is under another profile, and within other limits
    remain_recast : (s : State) (e : Entry) (p : Packet) (f : Found) → found_by r s p.attributes ≡ Some f → Remains C r s (changed_by r s e p f)
    remain_recast s e p f is =
        let w = wanted r.profiles p in
        let place = place_of f.term.profile w in
        let n = f.term.term.session.0 in
        record {
          shard = refl;
          begun = refl;
          terms = recast_last C f.lease.serial place s.terms;
          news = refl;
          placed = placed_with s n (record f.session { lease = Some (lease_after f.lease w place) }) (λ all. all n f.session (found_is r s p.attributes f is).at);
          profiles = λ have. recast_below (length r.profiles) f.lease.serial place s.terms (place_there r s p f is have) have;
        }

    remain_ended : (s : State) (n : ℕ) (x : Session) (cause : ℕ) → C cause → value_at s.sessions n ≡ Some x → Remains C r s (with_ended s n x.lease cause (ended x))
    remain_ended s n x cause is at = record {
      shard = refl;
      begun = refl;
      terms = closed_last C x.lease (Some cause) s.terms (λ c e. subst C (same_some cause c e) is);
      news = refl;
      placed = placed_with s n (ended x) (λ p. p n x at);
      profiles = closed_below (length r.profiles) x.lease (Some cause) s.terms;
    }

  remains_walk : Walks r (Remains AnyCause r)
  remains_walk = record {
    same = remain_same AnyCause;
    then = remain_then AnyCause;
    driven = λ Steps e s n x x' outs cause beside' at drives. remain_with AnyCause s n x.lease cause x' beside' (λ c is. tt) (λ p. drives_there (at_of s e) (beside_of s e) x x' outs cause beside' Steps drives);
    made = λ Steps e s n x x' outs cause beside' none drives. remain_with AnyCause s n None cause x' beside' (λ c is. tt) (λ p. drives_there (at_of s e) (beside_of s e) x x' outs cause beside' Steps drives);
    ends = λ s n x m cause lost at is. remain_ended AnyCause s n x cause tt at;
    passes = λ s n moment ms. record { shard = refl; begun = refl; terms = each_lasts AnyCause s.terms; news = refl; placed = λ p. p; profiles = λ h. h };
    looks = remain_looked AnyCause;
    lapses = λ e s n x x' outs cause none beside' at over drives.
        remain_with AnyCause s n x.lease (Some cause) x' beside' (λ c is. tt) (λ p. drives_there (at_of s e) (beside_of s e) (lapsed x) x' outs none beside' (told r e Close) drives);
    lapses_circuit = λ e s n x over cause at is lapse. remain_with AnyCause s n x.lease (Some cause) (lapsed x) (beside_of s e) (λ c e. tt) (λ p. p n x at);
    tells = λ s t. record { shard = refl; begun = refl; terms = each_lasts AnyCause s.terms; news = refl; placed = λ p. p; profiles = λ h. h };
    comes = λ e s n number peer t c link vacant new.
        record { shard = refl; begun = refl; terms = each_lasts AnyCause s.terms; news = refl; placed = placed_with s n (called_session n peer number t c link) (λ p. tt); profiles = λ h. h };
    turns = λ s n x c call at is. record { shard = refl; begun = refl; terms = each_lasts AnyCause s.terms; news = refl; placed = placed_with s n (turned x c call) (λ p. tt); profiles = λ h. h };
    over = λ s n x m c call at is way. record {
      shard = refl;
      begun = refl;
      terms = closed_last AnyCause x.lease (Some lost_carrier) s.terms (λ k e. tt);
      news = refl;
      placed = placed_with s n (ended (turned x c call)) (λ p. tt);
      profiles = closed_below (length r.profiles) x.lease (Some lost_carrier) s.terms;
    };
    connects = λ e s n x x' m c call link outs none beside' at is way new drives.
        remain_with AnyCause s n x.lease (Some lost_carrier) x' beside' (λ k e. tt) (λ p. drives_there (at_of s e) (beside_of s e) (linked_anew (turned x c call) link) x' outs none beside' (told r e Start) drives);
  }

-- Verdicts -------------------------------------------------------------------------------------------------------------------

-- nothing is claimed, and the peer has no address; or the one that was claimed is the peer's, where terms may begin
abbrev pub Gives : Bool → Claim → Option Ip4 → Type 0
Gives limited claim lease = ((claimed_by claim ≡ []) × (lease ≡ None)) ⊎ ((a : Ip4) × (claim ≡ Claimed a) × (limited ≡ false) × (lease ≡ Some a))

module _ (plan : Plan) (pools : List NamedRange) (claim : Claim) (text : List ℕ) (g : Gift) where
  -- what is told by a claim that is this one
  told_with : (c : Claim) → claim ≡ c → (told_by plan claim text g).lease ≡ (told_by plan c text g).lease
  told_with c e = ap (λ (d : Claim). (told_by plan d text g).lease) e

  nothing_given : (c : Claim) → claim ≡ c → claimed_by c ≡ [] → (told_by plan c text g).lease ≡ None → Gives false claim (told_by plan claim text g).lease
  nothing_given c e none without = inl (ap claimed_by e ∙ none, told_with c e ∙ without)

  given : (a : Ip4) → claim ≡ Claimed a → Gives false claim (told_by plan claim text g).lease
  given a e = inr (a, e, refl, told_with (Claimed a) e)

  named_given : (b : Bool) (a : Ip4) → IsAnswerTo pools (if b then Address a else Nothing) claim → Gives false claim (told_by plan claim text g).lease
  named_given true a (inl e) = given a e
  named_given true a (inr e) = nothing_given (Held a) e refl refl
  named_given false a e = nothing_given NoClaim e refl refl

  wished_given : (address : Option ℕ) (k : ℕ) → IsAnswerTo pools (wish_in pools address k) claim → Gives false claim (told_by plan claim text g).lease
  wished_given None k (inl (a, p, at, within, e)) = given a e
  wished_given None k (inr e) = nothing_given (Exhausted k) e refl refl
  wished_given (Some a) k h = named_given (list_any (is_within a) pools) (record { 0 = a }) h

  at_given : (limited : Bool) (address : Option ℕ) (o : Option ℕ) → IsAnswerTo pools (wish_at pools limited address o) claim → Gives limited claim (told_at plan limited o claim text g).lease
  at_given true address None e = inl (ap claimed_by e, refl)
  at_given false address None e = inl (ap claimed_by e, refl)
  at_given true address (Some k) e = inl (ap claimed_by e, refl)
  at_given false address (Some k) h = wished_given address k h

-- what an Accept comes to, whose profile has this plan
in_gives : (plan : Plan) (pools : List NamedRange) (limited : Bool) (claim : Claim) (text : List ℕ) (g : Gift) → IsAnswerTo pools (wish_among pools limited g) claim → Gives limited claim (told_in plan pools limited claim text g).lease
in_gives plan [] limited claim text g e = inl (ap claimed_by e, refl)
in_gives plan (p ∷ ps) limited claim text g h = at_given plan (p ∷ ps) claim text g limited g.address (pool_for (p ∷ ps) g.pool) h

-- or whose profile is there or is not
accept_gives : (o : Option Plan) (pools : List NamedRange) (limited : Bool) (claim : Claim) (text : List ℕ) (g : Gift) → IsAnswerTo pools (wish_if o (wish_among pools limited g)) claim → Gives limited claim (told_if o pools limited claim text g).lease
accept_gives None pools limited claim text g e = inl (ap claimed_by e, refl)
accept_gives (Some plan) pools limited claim text g h = in_gives plan pools limited claim text g h

module _ (r : Rules) (limited : Bool) (octets : List ℕ) (claim : Claim) where
  decides_told : (t : Told) → Decides r limited octets claim (Some t) → Gives limited claim t.lease
  decides_told t (inl (silent, none, e)) = absurd (none_some t (sym e))
  decides_told t (inr (inl (v, says, refused, none, e))) = inl (ap claimed_by none, ap (λ (u : Told). u.lease) (same_some t (refused_with v.text) e))
  decides_told t (inr (inr (v, says, accepted, g, grants, answers, e))) =
      subst (Gives limited claim) (sym (ap (λ (u : Told). u.lease) (same_some t (told_of r limited claim v.text g) e))) (accept_gives (plan_for r.profiles g.profile) r.pools limited claim v.text g answers)

  decides_none : Decides r limited octets claim None → claimed_by claim ≡ []
  decides_none (inl (silent, none, e)) = ap claimed_by none
  decides_none (inr (inl (v, says, refused, none, e))) = ap claimed_by none
  decides_none (inr (inr (v, says, accepted, g, grants, answers, e))) = absurd (none_some (told_of r limited claim v.text g) e)

module _ (r : Rules) (s : State) (e : Entry) (t : Told) (d : Deed) (h : Judges r s e t d) where
  pub settled_as : (lease : Option Ip4) → t.lease ≡ lease → d.next ≡ settled_by s e.item.target h.x h.question t e.moment h.after h.beside lease
  settled_as lease is = next_of d (handled s e h.outs (settled_by s e.item.target h.x h.question t e.moment h.after h.beside t.lease)) h.done ∙ ap (settled_by s e.item.target h.x h.question t e.moment h.after h.beside) is

  after_there : IsThere r h.after
  after_there = drives_there r (at_of s e) (beside_of s e) h.x h.after h.outs h.cause h.beside (settles r e t) h.drives

  pub judged_none : t.lease ≡ None → d.next ≡ with_driven s e.item.target None None h.after h.beside
  judged_none none = settled_as None none

  pub judged_remains : t.lease ≡ None → Remains AnyCause r s d.next
  judged_remains none = subst (Remains AnyCause r s) (sym (judged_none none)) (remain_with r AnyCause s e.item.target None None h.after h.beside (λ c is. tt) (λ p. after_there))

  judged_begins : t.plan.profile < length r.profiles → (a : Ip4) → t.lease ≡ Some a → Begins r s d.next a
  judged_begins there a is =
      let one : Tenure = next_term s h.x h.question t.plan t.class e.moment a in
      let lease : Lease = next_lease s t.plan t.limits e.moment a in
      let y : Session = record h.after { lease = Some lease } in
      let begins : Begins r s (with_term s e.item.target h.after h.beside lease one (meters_of t.plan e.moment)) a = record {
        shard = refl;
        begun = refl;
        one = one;
        serial = refl;
        address = refl;
        profile = there;
        live = refl;
        terms = refl;
        news = refl;
        placed = placed_with r s e.item.target y (λ p. after_there);
      } in
      subst (λ (s' : State). Begins r s s' a) (sym (settled_as (Some a) is)) begins

-- Steps ----------------------------------------------------------------------------------------------------------------------

-- no term begins and none is claimed; or one begins with the address that was claimed, where terms may begin
abbrev pub Moves : Rules → State → Bool → Deed → Type 0
Moves r s limited d =
    ((claimed_by d.entry.claim ≡ []) × Remains AnyCause r s d.next) ⊎ ((a : Ip4) × (d.entry.claim ≡ Claimed a) × (limited ≡ false) × Begins r s d.next a)

verdict_moves : (r : Rules) (s : State) (limited : Bool) (d : Deed) → HearsVerdict r s d.entry limited d → Moves r s limited d
verdict_moves r s limited d (inl (asks, t, decides, judges)) =
    ⊎_elim
    (λ (none : (claimed_by d.entry.claim ≡ []) × (t.lease ≡ None)). inl (none.0, judged_remains r s d.entry t d judges none.1))
    (λ (some : (a : Ip4) × (d.entry.claim ≡ Claimed a) × (limited ≡ false) × (t.lease ≡ Some a)). inr (some.0, some.1, some.2, judged_begins r s d.entry t d judges (decided_placed r limited d.entry.item.frame.payload d.entry.claim t some.0 decides some.3) some.0 some.3))
    (decides_told r limited d.entry.item.frame.payload d.entry.claim t decides)
verdict_moves r s limited d (inr (inl (asks, decides, h))) = inl (decides_none r limited d.entry.item.frame.payload d.entry.claim decides, remain_same r AnyCause s d.next (next_of d (ignored s d.entry) h))
verdict_moves r s limited d (inr (inr (other, none, h))) = inl (ap claimed_by none, remain_same r AnyCause s d.next (next_of d (ignored s d.entry) h))

pub claim_or : (kind : ItemKind) (claim : Claim) → MayClaim kind claim → (kind ≡ Verdict) ⊎ (claim ≡ NoClaim)
claim_or (Access number) claim h = inr h
claim_or Core claim h = inr h
claim_or Tunnel claim h = inr h
claim_or Verdict claim h = inl refl
claim_or Change claim h = inr h
claim_or Tick claim h = inr h
claim_or End claim h = inr h

module _ (r : Rules) (s : State) (limited : Bool) (d : Deed) (h : Step r s limited d) where
  pub step_moves : Moves r s limited d
  step_moves =
      let judge : d.entry.item.kind ≡ Verdict → Moves r s limited d = λ is. verdict_moves r s limited d (subst (λ (kind : ItemKind). Hears kind r s limited d.entry d) is h.hears) in
      let stop : d.entry.item.kind ≡ End → Remains AnyCause r s d.next = λ is.
      end_walks r (Remains AnyCause r) (remains_walk r) s limited d.entry d (λ s' n x at. remain_ended r AnyCause s' n x nas_request tt at) (subst (λ (kind : ItemKind). Hears kind r s limited d.entry d) is h.hears) in
      let change : d.entry.item.kind ≡ Change → Remains AnyCause r s d.next = λ is.
      change_walks r (Remains AnyCause r) (remains_walk r) s limited d.entry d (λ p f found. remain_recast r AnyCause s d.entry p f found) (subst (λ (kind : ItemKind). Hears kind r s limited d.entry d) is h.hears) in
      ⊎_elim judge
      (λ (none : d.entry.claim ≡ NoClaim). ⊎_elim judge
      (λ (rest : (d.entry.item.kind ≡ End) ⊎ ((d.entry.item.kind ≡ Change) ⊎ Remains AnyCause r s d.next)).
      inl (ap claimed_by none, ⊎_elim stop (λ (last : (d.entry.item.kind ≡ Change) ⊎ Remains AnyCause r s d.next). ⊎_elim change (λ (m : Remains AnyCause r s d.next). m) last) rest))
      (hears_walks r (Remains AnyCause r) (remains_walk r) s limited d.entry d d.entry.item.kind h.hears))
      (claim_or d.entry.item.kind d.entry.claim h.claim)
