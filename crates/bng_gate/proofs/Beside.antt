-- A turn of the engine goes by all of a shard but what it answered to requests for changes, which the desk takes out once a round is settled.
use Rattle.std.proofs.Common.{◌≡◌, inl, inr, ℕ, ◌+◌, List, [], ◌∷◌, ◌++◌, map, refl, ap, subst, sym, ◌∙◌, arith}
use Rattle.std.specs.List.{AllByRecursion, AllZip, sum_by}
use Rattle.std.proofs.lemmas.List.Sums.{sum_by-cons}
use Rattle.bng_base.specs.declared.book.Book.{Book}
use Rattle.bng_base.specs.declared.item.OutRecord.{OutRecord}
use Rattle.bng_engine.specs.Books.{BooksGrow}
use Rattle.bng_engine.specs.Calls.{Moves}
use Rattle.bng_engine.specs.Journals.{after, outs_of, AreSteps}
use Rattle.bng_engine.specs.Lists.{AnyOf}
use Rattle.bng_engine.specs.Settlements.{OneEach, AreStarts}
use Rattle.bng_engine.specs.Sums.{sent_where}
use Rattle.bng_engine.specs.Views.{Row, ShardView, rows_where}
use Rattle.bng_steps.specs.declared.changes.ChangeAnswer.{ChangeAnswer}
use Rattle.bng_steps.specs.declared.rules.Rules.{Rules}
use Rattle.bng_steps.specs.Protocol.{ShardState, Handled, HandlesStep, pppoe, term_in}
use Rattle.bng_steps.specs.State.{State, settled}

abbrev pub Sight : Type 0
Sight = ShardView ShardState Handled

-- States ------------------------------------------------------------------------------------------------------------------------

-- two states that differ by their answers alone
pub record AreBeside (s t : ShardState) : Type 0 where
  pub rules : t.rules ≡ s.rules
  pub slots : t.slots ≡ s.slots

pub next_beside : (s t : ShardState) (e : Handled) → AreBeside s t → AreBeside (pppoe.next s e) (pppoe.next t e)
next_beside s t e b = record { rules = b.rules; slots = refl }

step_beside : (s t : ShardState) (e : Handled) → AreBeside s t → HandlesStep s.rules s.slots e → HandlesStep t.rules t.slots e
step_beside s t e b h = subst (λ (r : Rules). HandlesStep r t.slots e) (sym b.rules) (subst (λ (x : State). HandlesStep s.rules x e) (sym b.slots) h)

-- a journal is a run of steps from the one as from the other, leads to two such states, and sends the same
pub steps_beside : (s t : ShardState) (es : List Handled) → AreBeside s t → AreSteps pppoe s es → AreSteps pppoe t es
steps_beside s t [] b steps = tt
steps_beside s t (e ∷ es) b steps = (step_beside s t e b steps.0, steps_beside (pppoe.next s e) (pppoe.next t e) es (next_beside s t e b) steps.1)

pub after_beside : (s t : ShardState) (es : List Handled) → AreBeside s t → AreBeside (after pppoe s es) (after pppoe t es)
after_beside s t [] b = b
after_beside s t (e ∷ es) b = after_beside (pppoe.next s e) (pppoe.next t e) es (next_beside s t e b)

pub outs_beside : (s t : ShardState) (es : List Handled) → outs_of pppoe s es ≡ outs_of pppoe t es
outs_beside s t [] = refl
outs_beside s t (e ∷ es) = ap (λ (os : List OutRecord). e.deed.outs ++ os) (outs_beside (pppoe.next s e) (pppoe.next t e) es)

abbrev state_with : Rules → State → List ChangeAnswer → ShardState
state_with r x answers = record { rules = r; slots = x; changed = answers }

-- Shards ------------------------------------------------------------------------------------------------------------------------

-- the same shard, but for its answers
pub record IsBeside (v w : Sight) : Type 0 where
  pub number : w.number ≡ v.number
  pub state : AreBeside v.state w.state
  pub rows : w.rows ≡ v.rows
  pub books : w.books ≡ v.books

pub beside_itself : (v : Sight) → IsBeside v v
beside_itself v = record { number = refl; state = record { rules = refl; slots = refl }; rows = refl; books = refl }

pub all_beside_itself : (vs : List Sight) → AllZip IsBeside vs vs
all_beside_itself [] = tt
all_beside_itself (v ∷ vs) = (beside_itself v, all_beside_itself vs)

-- what a turn leaves of a shard whose answers were not taken out
abbrev pub gone : Sight → Sight → Sight
gone u w = record w { state = record w.state { changed = (after pppoe u.state w.journal).changed } }

abbrev pub all_gone : List Sight → List Sight → List Sight
all_gone [] ws = []
all_gone (u ∷ us) [] = []
all_gone (u ∷ us) (w ∷ ws) = gone u w ∷ all_gone us ws

-- the turn of a shard, as of the one beside it
pub moves_beside : (u v w : Sight) → IsBeside u v → Moves pppoe v w → Moves pppoe u (gone u w)
moves_beside u v w b m =
    let back : AreBeside v.state u.state = record { rules = sym b.state.rules; slots = sym b.state.slots } in
    let A = after pppoe u.state w.journal in
    let B = after pppoe v.state w.journal in
    let end : AreBeside B A = after_beside v.state u.state w.journal back in
    let rules : w.state.rules ≡ A.rules = ap (λ (s : ShardState). s.rules) m.state ∙ sym end.rules in
    let slots : w.state.slots ≡ settled A.slots = ap (λ (s : ShardState). s.slots) m.state ∙ ap settled (sym end.slots) in
    record {
      number = m.number ∙ b.number;
      steps = steps_beside v.state u.state w.journal back m.steps;
      limits = m.limits;
      outs = m.outs ∙ outs_beside v.state u.state w.journal;
      state = ap (λ (r : Rules). state_with r w.state.slots A.changed) rules ∙ ap (λ (x : State). state_with A.rules x A.changed) slots;
      order = m.order;
      each = subst (λ (x : State). OneEach w.stops (map term_in x.terms)) (sym end.slots) m.each;
      begun = subst (λ (x : State). AreStarts (map term_in u.state.slots.terms) (map term_in x.terms) w.starts) (sym end.slots)
          (subst (λ (x : State). AreStarts (map term_in x.terms) (map term_in B.slots.terms) w.starts) b.state.slots m.begun);
      fit = m.fit;
      rows = λ q pick input. m.rows q pick input ∙ ap (λ (rows : List Row). rows_where q pick input rows + sent_where q pick input w.sends) b.rows;
      books = subst (λ (bs : List Book). BooksGrow bs w.sends w.books) b.books m.books;
    }

-- Lists of shards -----------------------------------------------------------------------------------------------------------------

-- each went so
abbrev pub Went : Sight → Sight → Type 0
Went u w = Moves pppoe u (gone u w)

pub all_moved : (us ws : List Sight) → AllZip Went us ws → AllZip (Moves pppoe) us (all_gone us ws)
all_moved [] [] h = tt
all_moved [] (w ∷ ws) h = absurd h
all_moved (u ∷ us) [] h = absurd h
all_moved (u ∷ us) (w ∷ ws) h = (h.0, all_moved us ws h.1)

-- what does not look at the answers sees no difference
pub map_gone : {X : Type 0} (f : Sight → X) → ((u w : Sight) → f (gone u w) ≡ f w) → (us ws : List Sight) → AllZip Went us ws → map f (all_gone us ws) ≡ map f ws
map_gone f same [] [] h = refl
map_gone f same [] (w ∷ ws) h = absurd h
map_gone f same (u ∷ us) [] h = absurd h
map_gone {X} f same (u ∷ us) (w ∷ ws) h = ap (λ (x : X). x ∷ map f (all_gone us ws)) (same u w) ∙ ap (λ (xs : List X). f w ∷ xs) (map_gone f same us ws h.1)

pub sum_gone : (f : Sight → ℕ) → ((u w : Sight) → f (gone u w) ≡ f w) → (us ws : List Sight) → AllZip Went us ws → sum_by f (all_gone us ws) ≡ sum_by f ws
sum_gone f same [] [] h = refl
sum_gone f same [] (w ∷ ws) h = absurd h
sum_gone f same (u ∷ us) [] h = absurd h
sum_gone f same (u ∷ us) (w ∷ ws) h = omega (arith, sum_by-cons f (gone u w) (all_gone us ws), sum_by-cons f w ws, same u w, sum_gone f same us ws h.1)

pub each_gone : (P : Sight → Type 0) → ((u w : Sight) → P w → P (gone u w)) → (us ws : List Sight) → AllZip Went us ws → AllByRecursion P ws → AllByRecursion P (all_gone us ws)
each_gone P keeps [] [] h all = tt
each_gone P keeps [] (w ∷ ws) h all = absurd h
each_gone P keeps (u ∷ us) [] h all = absurd h
each_gone P keeps (u ∷ us) (w ∷ ws) h all = (keeps u w all.0, each_gone P keeps us ws h.1 all.1)

pub any_gone : (P : Sight → Type 0) → ((u w : Sight) → P w → P (gone u w)) → (us ws : List Sight) → AllZip Went us ws → AnyOf P ws → AnyOf P (all_gone us ws)
any_gone P keeps [] [] h any = any
any_gone P keeps [] (w ∷ ws) h any = absurd h
any_gone P keeps (u ∷ us) [] h any = absurd h
any_gone P keeps (u ∷ us) (w ∷ ws) h (inl p) = inl (keeps u w p)
any_gone P keeps (u ∷ us) (w ∷ ws) h (inr rest) = inr (any_gone P keeps us ws h.1 rest)

-- what is summed of rows and books is the same of shards that stand beside each other
pub sums_beside : (f : List Row → List Book → ℕ) (vs ws : List Sight) → AllZip IsBeside vs ws → sum_by (λ w. f w.rows w.books) ws ≡ sum_by (λ v. f v.rows v.books) vs
sums_beside f [] [] h = refl
sums_beside f [] (w ∷ ws) h = absurd h
sums_beside f (v ∷ vs) [] h = absurd h
sums_beside f (v ∷ vs) (w ∷ ws) h =
    let one : Sight → ℕ = λ x. f x.rows x.books in
    let same : f w.rows w.books ≡ f v.rows v.books = ap (λ (rows : List Row). f rows w.books) h.0.rows ∙ ap (λ (books : List Book). f v.rows books) h.0.books in
    omega (arith, sum_by-cons one w ws, sum_by-cons one v vs, same, sums_beside f vs ws h.1)
