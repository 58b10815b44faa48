-- What a settlement leaves of the shards: the terms that ended have left, and of those that began a Start was formed.
use Rattle.std.proofs.Common.{◌≡◌, ℕ, ◌<◌, Bool, List, [], ◌∷◌, length, get_or, sum_by, refl, sym, ap, subst, ◌∙◌, arith}
use Rattle.std.specs.List.{All, AllByRecursion, AllZip}
use Rattle.std.proofs.lemmas.List.Elements.{All-from_recursion, AllZip-get_or, length_all_zip}
use Rattle.std.proofs.lemmas.List.Sums.{sum_by-cons}
use Rattle.bng_engine.specs.Lists.{Zip3}
use Rattle.bng_engine.specs.Terms.{Key, Stop}
use Rattle.bng_steps.specs.Granting.{IsSound}
use Rattle.bng_steps.specs.Lasting.{AreTenures}
use Rattle.bng_steps.specs.Protocol.{ShardState}
use Rattle.bng_steps.specs.State.{settled}
use Rattle.bng_steps.specs.Tenures.{Tenure}
use Rattle.bng_steps.proofs.GrantLaws.{settled_sound}
use Rattle.bng_steps.proofs.Numbered.{tenures_settled}
use Rattle.bng_desk.specs.declared.accounts.Stopped.{Stopped}
use Rattle.bng_desk.specs.declared.line.CircuitLine.{CircuitLine}
use Rattle.bng_desk.specs.Accounting.{KnowsBegun}
use Rattle.bng_desk.specs.Model.{begun_in}
use Rattle.bng_desk.specs.Round.{news_in, terms_in}
use Rattle.bng_desk.specs.Taking.{Accounts, AddsUp, AreInOrder, BegunTo, BooksStarts, BooksStops, KeepsTerms, LinesWithin, ReapedTo, SameInAll, Shown, joined, kept_in, live_by, states_of}
use Rattle.bng_base.specs.declared.book.Book.{Book}
use Rattle.bng_desk.proofs.Growing.{Grown}
use Rattle.bng_desk.proofs.InAll.{terms_by}
use Rattle.bng_desk.proofs.Knowing.{HasTenures, all_begun, knows_later, starts_known, stops_known}
use Rattle.bng_desk.proofs.Joining.{reaped_news}
use Rattle.bng_desk.proofs.Readying.{Shards}
use Rattle.bng_desk.proofs.Zips.{zip3_at, zip3_length}

-- a shard of whose terms that began all Starts were formed
abbrev pub started : Shown → Shown
started w = record w { state = record w.state { slots = record w.state.slots { news = [] } } }

-- what that leaves of a shard it leaves of all
module _ (left zs : Shards) (kss : List (List Key)) (begun : Zip3 BegunTo left zs kss) where
  each_started : (k : ℕ) (d : Shown) → k < length zs → get_or zs k d ≡ started (get_or left k d)
  each_started k d lt = (zip3_at BegunTo left zs kss k d d [] begun (omega (arith, lt, zip3_length BegunTo left zs kss begun))).after

  pub all_started : (P : Shown → Type 0) → ((w : Shown) → P w → P (started w)) → All P left → All P zs
  all_started P f all k d lt = subst P (sym (each_started k d lt)) (f (get_or left k d) (all k d (omega (arith, lt, zip3_length BegunTo left zs kss begun))))

  pub started_order : AreInOrder left → AreInOrder zs
  started_order order k d lt = ap (λ (v : Shown). v.number) (each_started k d lt) ∙ order k d (omega (arith, lt, zip3_length BegunTo left zs kss begun))

started_rows : (input : Bool) (l : CircuitLine) (left zs : Shards) (kss : List (List Key)) → Zip3 BegunTo left zs kss → sum_by (kept_in input l) zs ≡ sum_by (kept_in input l) left
started_rows input l [] [] [] begun = refl
started_rows input l (w ∷ left) (z ∷ zs) (ks ∷ kss) begun =
    omega (arith, sum_by-cons (kept_in input l) z zs, sum_by-cons (kept_in input l) w left, ap (kept_in input l) begun.0.after, started_rows input l left zs kss begun.1)
started_rows input l left zs kss begun = absurd begun

pub started_within : (most : Bool → ℕ) (left zs : Shards) (kss : List (List Key)) (ls ls' : List CircuitLine) → Zip3 BegunTo left zs kss → ls' ≡ ls → LinesWithin most left ls → LinesWithin most zs ls'
started_within most left zs kss ls ls' begun same within =
    subst (λ (xs : List CircuitLine). LinesWithin most zs xs) (sym same) (λ k e lt input. omega (arith, within k e lt input, started_rows input (get_or ls k e) left zs kss begun))

-- whatever is summed over the shards that a Start does not change
started_sum : (f : Shown → ℕ) → ((w : Shown) → f (started w) ≡ f w) → (left zs : Shards) (kss : List (List Key)) → Zip3 BegunTo left zs kss → sum_by f zs ≡ sum_by f left
started_sum f same [] [] [] begun = refl
started_sum f same (w ∷ left) (z ∷ zs) (ks ∷ kss) begun =
    omega (arith, sum_by-cons f z zs, sum_by-cons f w left, ap f begun.0.after, same w, started_sum f same left zs kss begun.1)
started_sum f same left zs kss begun = absurd begun

abbrev begun_by : Shown → ℕ
begun_by v = v.state.slots.begun

reaped_begun : (us left : Shards) (sss : List (List Stop)) → Zip3 ReapedTo us left sss → begun_in left ≡ begun_in us
reaped_begun [] [] [] reaped = refl
reaped_begun (u ∷ us) (w ∷ left) (ss ∷ sss) reaped =
    omega (arith, sum_by-cons begun_by u us, sum_by-cons begun_by w left, ap (λ (s : ShardState). s.slots.begun) reaped.0.state, reaped_begun us left sss reaped.1)
reaped_begun us left sss reaped = absurd reaped

-- what was carried in all stands in the tally still, and each term has its Stop or has none yet
pub settled_adds_up : (tally : Book) (us left zs : Shards) (sss : List (List Stop)) (kss : List (List Key)) (r s t : Stopped) → Zip3 ReapedTo us left sss → SameInAll us r left s → Zip3 BegunTo left zs kss → t ≡ s → AddsUp tally us r → AddsUp tally zs t
settled_adds_up tally us left zs sss kss r s t reaped same begun kept all =
    subst (λ (x : Stopped). AddsUp tally zs x) (sym kept)
    (record {
      carried = λ q input. omega (arith, started_sum (live_by q input) (λ w. refl) left zs kss begun, same.carried q input, all.carried q input);
      terms = omega (arith, started_sum terms_by (λ w. refl) left zs kss begun, started_sum begun_by (λ w. refl) left zs kss begun, same.terms, all.terms, reaped_begun us left sss reaped);
    })

-- A shard once its round is over ------------------------------------------------------------------------------------------

pub record IsOver (u z : Shown) : Type 0 where
  pub state : z.state ≡ record u.state { slots = settled u.state.slots }
  pub number : z.number ≡ u.number

pub all_over : (us left zs : Shards) (sss : List (List Stop)) (kss : List (List Key)) → Zip3 ReapedTo us left sss → Zip3 BegunTo left zs kss → AllZip IsOver us zs
all_over [] [] [] [] [] reaped begun = tt
all_over [] [] zs [] kss reaped begun = absurd begun
all_over (u ∷ us) (w ∷ left) (z ∷ zs) (ss ∷ sss) (ks ∷ kss) reaped begun = (
  record {
    state = ap (λ (v : Shown). v.state) begun.0.after ∙ ap (λ (s : ShardState). let t : ShardState = record s { slots = record s.slots { news = [] } } in t) reaped.0.state;
    number = ap (λ (v : Shown). v.number) begun.0.after ∙ reaped.0.number;
  },
  all_over us left zs sss kss reaped.1 begun.1,
)
all_over (u ∷ us) (w ∷ left) zs (ss ∷ sss) kss reaped begun = absurd begun
all_over us left zs sss kss reaped begun = absurd reaped

-- its terms are its own still, and no Start is owed
one_keeps : (moment : ℕ) (v u z : Shown) → Grown moment v u → IsOver u z → KeepsTerms moment z
one_keeps moment v u z g o = record {
  sound = subst (λ (s : ShardState). IsSound s.slots) (sym o.state) (settled_sound u.state.slots g.sound);
  number = ap (λ (s : ShardState). s.slots.sessions.shard) o.state ∙ g.shard ∙ sym o.number;
  tenures = subst (λ (s : ShardState). AreTenures moment s.slots) (sym o.state) (tenures_settled moment u.state.slots g.tenures);
  owes_none = ap (λ (s : ShardState). s.slots.news) o.state;
  numbers = omega (arith, g.numbers, ap (λ (s : ShardState). s.slots.begun) o.state);
}

all_keep : (moment : ℕ) (vs us zs : Shards) → AllZip (Grown moment) vs us → AllZip IsOver us zs → AllByRecursion (KeepsTerms moment) zs
all_keep moment [] [] [] g o = tt
all_keep moment [] [] (z ∷ zs) g o = absurd o
all_keep moment [] (u ∷ us) zs g o = absurd g
all_keep moment (v ∷ vs) [] zs g o = absurd g
all_keep moment (v ∷ vs) (u ∷ us) [] g o = absurd o
all_keep moment (v ∷ vs) (u ∷ us) (z ∷ zs) g o = (one_keeps moment v u z g.0 o.0, all_keep moment vs us zs g.1 o.1)

pub terms_kept : (moment : ℕ) (vs us left zs : Shards) → AllZip (Grown moment) vs us → (sss : List (List Stop)) (kss : List (List Key)) → Zip3 ReapedTo us left sss → Zip3 BegunTo left zs kss → All (KeepsTerms moment) zs
terms_kept moment vs us left zs g sss kss reaped begun =
    All-from_recursion (KeepsTerms moment) zs (all_keep moment vs us zs g (all_over us left zs sss kss reaped begun))

-- its terms, once all entries were handled
pub grown_order : (moment : ℕ) (vs us : Shards) → AllZip (Grown moment) vs us → AreInOrder vs → AreInOrder us
grown_order moment vs us g order k d lt =
    let within : k < length vs = omega (arith, lt, length_all_zip (Grown moment) vs us g) in
    (AllZip-get_or (Grown moment) vs us k d d g within).number ∙ order k d within

pub grown_tenures : (moment : ℕ) (vs us : Shards) → AllZip (Grown moment) vs us → All (HasTenures moment) us
grown_tenures moment vs us g k d lt =
    let here = AllZip-get_or (Grown moment) vs us k d d g (omega (arith, lt, length_all_zip (Grown moment) vs us g)) in
    record { tenures = here.tenures; shard = here.shard }

-- accounting knows of no other terms
pub round_knows : (moment wall : ℕ) (vs us left zs : Shards) (a b c : Accounts) → AllZip (Grown moment) vs us → AreInOrder vs → (sss : List (List Stop)) (kss : List (List Key)) → (reaped : Zip3 ReapedTo us left sss) → (begun : Zip3 BegunTo left zs kss)
    → BooksStops (terms_in (states_of us)) moment wall (joined sss) a b → BooksStarts (news_in (states_of left)) moment wall (joined kss) b c → KnowsBegun vs a.billing → KnowsBegun zs c.billing
round_knows moment wall vs us left zs a b c g order sss kss reaped begun stops starts knows =
    let has = all_begun moment us (grown_order moment vs us g order) (grown_tenures moment vs us g) in
    let first = knows_later (Grown moment) (λ x y h. h.begun) vs us g a.billing knows in
    let ended = stops_known us (terms_in (states_of us)) moment wall (joined sss) a b stops has.0 first in
    let new = subst (λ (ts : List Tenure). BooksStarts ts moment wall (joined kss) b c) (reaped_news us left sss reaped) starts in
    let all = starts_known us (news_in (states_of us)) moment wall (joined kss) b c new has.1 ended in
    knows_later IsOver (λ x y o. omega (arith, ap (λ (s : ShardState). s.slots.begun) o.state)) us zs (all_over us left zs sss kss reaped begun) c.billing all
