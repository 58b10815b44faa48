-- The terms of a shard once one of them has left, or is told to have begun.
use Rattle.std.proofs.Common.{◌≡◌, ◌≤◌, ℕ, Bool, true, false, not, cond, List, [], ◌∷◌, ◌++◌, map, filter, refl, sym, ap, subst, ◌∙◌, append_assoc, arith}
use Rattle.std.specs.List.{All, AllPairs}
use Rattle.std.proofs.lemmas.List.Elements.{All-head, All-tail, recursion_from_All}
use Rattle.bng_acct.specs.Request.{AreClasses}
use Rattle.bng_engine.specs.Lists.{AnyOf}
use Rattle.bng_engine.specs.Terms.{Key, Term, is_ended, keys}
use Rattle.bng_engine.proofs.Everywhere.{any_all}
use Rattle.bng_radius_wire.specs.Attributes.{Field}
use Rattle.bng_steps.specs.Lasting.{AreTenures, IsTenureOf, Precedes}
use Rattle.bng_steps.specs.Protocol.{SaysOf, TellsNew, key_in, term_in}
use Rattle.bng_steps.specs.State.{State, reaped}
use Rattle.bng_steps.specs.Tenures.{LeavesTerms, Tenure, is_over}
use Rattle.bng_steps.proofs.Numbered.{tenures_settled}
use Rattle.bng_desk.proofs.Parts.{all_without, pairs_without}

-- the keys of terms, as the engine reads them
abbrev pub keys_there : List Tenure → List Key
keys_there ts = keys (map term_in ts)

their_keys : (ts us : List Tenure) → keys_there (ts ++ us) ≡ keys_there ts ++ keys_there us
their_keys [] us = refl
their_keys (t ∷ ts) us = ap (λ (ks : List Key). key_in t ∷ ks) (their_keys ts us)

-- where one has left, its key stood between those of the others
pub keys_were : (ts ts' : List Tenure) (t : Tenure) (k : Key) → (l : LeavesTerms ts ts' t) → key_in t ≡ k → keys_there ts ≡ keys_there l.before ++ k ∷ keys_there l.after
keys_were ts ts' t k l is =
    ap keys_there l.were ∙ their_keys l.before (t ∷ l.after) ∙ ap (λ (j : Key). keys_there l.before ++ j ∷ keys_there l.after) is

pub keys_are : (ts ts' : List Tenure) (t : Tenure) → (l : LeavesTerms ts ts' t) → keys_there ts' ≡ keys_there l.before ++ keys_there l.after
keys_are ts ts' t l = ap keys_there l.are ∙ their_keys l.before l.after

-- the same of the terms themselves
pub names_of : (ts us : List Tenure) → map key_in (ts ++ us) ≡ map key_in ts ++ map key_in us
names_of [] us = refl
names_of (t ∷ ts) us = ap (λ (ks : List Key). key_in t ∷ ks) (names_of ts us)

pub names_were : (ts ts' : List Tenure) (t : Tenure) (k : Key) → (l : LeavesTerms ts ts' t) → key_in t ≡ k → map key_in ts ≡ map key_in l.before ++ k ∷ map key_in l.after
names_were ts ts' t k l is =
    ap (map key_in) l.were ∙ names_of l.before (t ∷ l.after) ∙ ap (λ (j : Key). map key_in l.before ++ j ∷ map key_in l.after) is

pub names_are : (ts ts' : List Tenure) (t : Tenure) → (l : LeavesTerms ts ts' t) → map key_in ts' ≡ map key_in l.before ++ map key_in l.after
names_are ts ts' t l = ap (map key_in) l.are ∙ names_of l.before l.after

-- the keys before the one that leaves, that one, and those after it
pub around : (front before after back : List Key) (k : Key) → front ++ ((before ++ k ∷ after) ++ back) ≡ (front ++ before) ++ k ∷ (after ++ back)
around front before after back k = ap (λ (ks : List Key). front ++ ks) (append_assoc before (k ∷ after) back) ∙ sym (append_assoc front before (k ∷ (after ++ back)))

pub outside : (front before after back : List Key) → (front ++ before) ++ (after ++ back) ≡ front ++ ((before ++ after) ++ back)
outside front before after back = append_assoc front before (after ++ back) ∙ ap (λ (ks : List Key). front ++ ks) (sym (append_assoc before after back))

pub all_left : (P : Tenure → Type 0) (ts ts' : List Tenure) (t : Tenure) → LeavesTerms ts ts' t → All P ts → All P ts'
all_left P ts ts' t l all = subst (λ (us : List Tenure). All P us) (sym l.are) (all_without P l.before l.after t (subst (λ (us : List Tenure). All P us) l.were all))

pairs_left : (R : Tenure → Tenure → Type 0) (ts ts' : List Tenure) (t : Tenure) → LeavesTerms ts ts' t → AllPairs R ts → AllPairs R ts'
pairs_left R ts ts' t l pairs = subst (λ (us : List Tenure). AllPairs R us) (sym l.are) (pairs_without R l.before l.after t (subst (λ (us : List Tenure). AllPairs R us) l.were pairs))

one_of : (P : Tenure → Type 0) (before after : List Tenure) (t : Tenure) → All P (before ++ t ∷ after) → P t
one_of P [] after t all = All-head P t after all
one_of P (u ∷ before) after t all = one_of P before after t (All-tail P u (before ++ t ∷ after) all)

pub it_was : (P : Tenure → Type 0) (ts ts' : List Tenure) (t : Tenure) → LeavesTerms ts ts' t → All P ts → P t
it_was P ts ts' t l all = one_of P l.before l.after t (subst (λ (us : List Tenure). All P us) l.were all)

-- What lasts of them --------------------------------------------------------------------------------------------------------

-- what its records say are whole Class attributes
pub its_classes : (shard begun moment : ℕ) (t : Tenure) (user class : List ℕ) (began : ℕ) (k : Key) → IsTenureOf shard begun moment t → SaysOf user class began k t → (classes : List Field) × AreClasses classes class
its_classes shard begun moment t user class began k is says =
    (is.classes, subst (λ (os : List ℕ). AreClasses is.classes os) says.class_is (record { whole = is.class.whole; classes_all = is.class.classes_all; few = is.class.few }))

-- what a term says that is there is whole, and it began by now
module _ (moment : ℕ) (s : State) (tenures : AreTenures moment s) (user class : List ℕ) (began : ℕ) (k : Key) (any : AnyOf (SaysOf user class began k) s.terms) where
  pub says_classes : (classes : List Field) × AreClasses classes class
  says_classes =
      let is = IsTenureOf s.sessions.shard s.begun moment in
      any_all (SaysOf user class began k) is ((classes : List Field) × AreClasses classes class) (λ t says here. its_classes s.sessions.shard s.begun moment t user class began k here says) s.terms any (recursion_from_All is s.terms tenures.each)

  pub says_began : began ≤ moment
  says_began =
      let is = IsTenureOf s.sessions.shard s.begun moment in
      any_all (SaysOf user class began k) is (began ≤ moment) (λ t says here. omega (arith, here.began, says.began_is)) s.terms any (recursion_from_All is s.terms tenures.each)

module _ (moment : ℕ) (s s' : State) (t : Tenure) where
  -- one has left by its Stop
  pub tenures_left : LeavesTerms s.terms s'.terms t → reaped s' ≡ reaped s → AreTenures moment s → AreTenures moment s'
  tenures_left l same h =
      let shard = sym (ap (λ (x : State). x.sessions.shard) same) in
      let begun = sym (ap (λ (x : State). x.begun) same) in
      let news = sym (ap (λ (x : State). x.news) same) in
      let of_it = λ (ts : List Tenure) (all : All (IsTenureOf s.sessions.shard s.begun moment) ts). subst (λ (n : ℕ). All (IsTenureOf n s'.begun moment) ts) shard (subst (λ (n : ℕ). All (IsTenureOf s.sessions.shard n moment) ts) begun all) in
      record {
        each = of_it s'.terms (all_left (IsTenureOf s.sessions.shard s.begun moment) s.terms s'.terms t l h.each);
        rising = pairs_left Precedes s.terms s'.terms t l h.rising;
        each_new = of_it s'.news (subst (λ (ts : List Tenure). All (IsTenureOf s.sessions.shard s.begun moment) ts) news h.each_new);
        rising_new = subst (λ (ts : List Tenure). AllPairs Precedes ts) news h.rising_new;
      }

  -- one is told to have begun
  pub tenures_told : TellsNew s s' t → AreTenures moment s → AreTenures moment s'
  tenures_told tells h = subst (λ (x : State). AreTenures moment x) (sym tells.others) (record {
    each = h.each;
    rising = h.rising;
    each_new = all_left (IsTenureOf s.sessions.shard s.begun moment) s.news s'.news t tells.leaves h.each_new;
    rising_new = pairs_left Precedes s.news s'.news t tells.leaves h.rising_new;
  })

pub tenures_reaped : (moment : ℕ) (s : State) → AreTenures moment s → AreTenures moment (reaped s)
tenures_reaped moment s h = let x = tenures_settled moment s h in record { each = x.each; rising = x.rising; each_new = h.each_new; rising_new = h.rising_new }

-- Where none has ended ------------------------------------------------------------------------------------------------------

abbrev not_over : List Tenure → List Tenure
not_over ts = filter (λ (t : Tenure). not (is_over t)) ts

stay_by : (b : Bool) (t : Tenure) (ts : List Tenure) (es : List Term) → cond b (term_in t ∷ es) es ≡ [] → (es ≡ [] → not_over ts ≡ ts) → cond (not b) (t ∷ not_over ts) (not_over ts) ≡ t ∷ ts
stay_by true t ts es e rest = let no : ⊥ = cc in absurd no
stay_by false t ts es e rest = ap (λ (us : List Tenure). t ∷ us) (rest e)

-- all stay
pub all_stay : (ts : List Tenure) → filter is_ended (map term_in ts) ≡ [] → not_over ts ≡ ts
all_stay [] e = refl
all_stay (t ∷ ts) e = stay_by (is_over t) t ts (filter is_ended (map term_in ts)) e (all_stay ts)
