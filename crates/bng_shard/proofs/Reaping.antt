-- A term that has ended leaves a shard, and gives its address back, and one that began is told. Once none that ended is left, the sessions
-- that ended leave.
use Rattle.std.proofs.Common.{◌≡◌, ◌≢◌, ℕ, zero, suc, ◌+◌, true, false, cond, not, List, [], ◌∷◌, ◌++◌, map, filter, sum_by, Option, Some, None, refl, sym, ap, subst, ◌∙◌, arith}
use Rattle.std.specs.Option.{IfSome}
use Rattle.std.specs.List.{All, AllByRecursion, AllPairs}
use Rattle.std.proofs.Math.ListN.{get_or}
use Rattle.std.proofs.lemmas.List.Elements.{All-from_recursion, recursion_from_All}
use Rattle.arrayvec.specs.ArrayVec.{ArrayVec}
use Rattle.bng_base.specs.declared.address.Ip4.{Ip4}
use Rattle.bng_base.specs.declared.book.Book.{Book}
use Rattle.bng_base.specs.declared.item.Entry.{Entry}
use Rattle.bng_base.specs.declared.item.OutRecord.{OutRecord}
use Rattle.bng_engine.specs.Terms.{ComesBefore, Key, Stop, Term}
use Rattle.bng_engine.specs.Views.{ShardView, row_keys}
use Rattle.bng_pool.specs.Tables.{Table, TableFrees, entry}
use Rattle.bng_sessions.specs.Sessions.{Sessions}
use Rattle.bng_steps.specs.declared.changes.ChangeAnswer.{ChangeAnswer}
use Rattle.bng_steps.specs.declared.rules.Rules.{Rules}
use Rattle.bng_steps.specs.declared.session.Session.{Session}
use Rattle.bng_steps.specs.declared.term.EndedTerm.{EndedTerm}
use Rattle.bng_steps.specs.declared.terms.TermRow.{TermRow}
use Rattle.bng_steps.specs.Placed.{ArePlaced}
use Rattle.bng_steps.specs.Protocol.{SaysOf, ShardState, TellsNew, stop_of, term_in}
use Rattle.bng_shard.specs.Handling.{AreHeld, IsUnused, Leaves}
use Rattle.bng_steps.specs.TermRows.{AreTied, TakesFirst, TermsView, has_ended, key_from, rows_in, tenure_in, tenures_in, whole}
use Rattle.bng_steps.specs.State.{IsTermOf, State, leaves, reaped}
use Rattle.bng_steps.specs.Tenures.{LeavesTerms, Tenure, is_over}
use Rattle.bng_steps.proofs.LeavingFirst.{all_are_live, ended_from, left_are, left_least, left_leaves, left_live, left_lives, left_one, left_sums, left_were, rows_fit, told_least}
use Rattle.bng_steps.proofs.ListParts.{all_left}
use Rattle.bng_steps.proofs.Values.{kept, kept_from}

-- The addresses of those that stay ----------------------------------------------------------------------------------------

module _ {X : Type 0} where
  all_within : (P : X → Type 0) (before after : List X) (x : X) → All P (before ++ x ∷ after) → P x
  all_within P [] after x h = h zero x (omega arith)
  all_within P (b ∷ before) after x h = all_within P before after x (λ k d lt. h (suc k) d (omega (arith, lt)))

  -- what differs pairwise differs from the one that leaves
  pairs_within : (R : X → X → Type 0) (before after : List X) (x : X) → ((a b : X) → R a b → R b a) → AllPairs R (before ++ x ∷ after) → All (R x) (before ++ after)
  pairs_within R [] after x back h k d lt = h zero (suc k) d (omega arith) (omega (arith, lt))
  pairs_within R (b ∷ before) after x back h zero d lt = back b x (all_within (R b) before after x (λ k e within. h zero (suc k) e (omega arith) (omega (arith, within))))
  pairs_within R (b ∷ before) after x back h (suc k) d lt =
      pairs_within R before after x back (λ i j e below within. h (suc i) (suc j) e (omega (arith, below)) (omega (arith, within))) k d (omega (arith, lt))

-- each row has its address
rows_held : (P : Term → Type 0) (rows : List TermRow) → All (λ (r : TermRow). P (term_in (tenure_in r))) rows → All P (map term_in (tenures_in rows))
rows_held P [] h k e lt = absurd (omega (arith, lt))
rows_held P (r ∷ rows) h zero e lt = h zero r (omega arith)
rows_held P (r ∷ rows) h (suc k) e lt = rows_held P rows (λ j f within. h (suc j) f (omega (arith, within))) k e (omega (arith, lt))

same_address : (a b : Ip4) → a.0 ≡ b.0 → a ≡ b
same_address a b e = λ i. record { 0 = e i }

-- the address of one that leaves is that of no other
pub left_unused : (rows rows' : List TermRow) (r : TermRow) → TakesFirst true rows r rows' → AllPairs (λ (b c : TermRow). b.address ≢ c.address) rows → IsUnused r.address.0 (map term_in (tenures_in rows'))
left_unused rows rows' r takes apart =
    let differ = pairs_within (λ (b c : TermRow). b.address ≢ c.address) takes.before takes.after r (λ a b other same. other (sym same)) (subst (AllPairs (λ (b c : TermRow). b.address ≢ c.address)) takes.were apart) in
    let P : Term → Type 0 = λ t. t.key.address.0 ≢ r.address.0 in
    let are : All (λ (q : TermRow). P (term_in (tenure_in q))) (takes.before ++ takes.after) =
    λ j d lt same. differ j d lt (same_address r.address (get_or (takes.before ++ takes.after) j d).address (sym same)) in
    rows_held P rows' (subst (All (λ (q : TermRow). P (term_in (tenure_in q)))) (sym takes.are) are)

terms_each : (P : Term → Type 0) (ts : List Tenure) → All P (map term_in ts) → All (λ (t : Tenure). P (term_in t)) ts
terms_each P [] h k d lt = absurd (omega (arith, lt))
terms_each P (t ∷ ts) h zero d lt = h zero (term_in d) (omega arith)
terms_each P (t ∷ ts) h (suc k) d lt = terms_each P ts (λ j e within. h (suc j) e (omega (arith, within))) k d (omega (arith, lt))

each_terms : (P : Term → Type 0) (ts : List Tenure) → All (λ (t : Tenure). P (term_in t)) ts → All P (map term_in ts)
each_terms P [] h k e lt = absurd (omega (arith, lt))
each_terms P (t ∷ ts) h zero e lt = h zero t (omega arith)
each_terms P (t ∷ ts) h (suc k) e lt = each_terms P ts (λ j f within. h (suc j) f (omega (arith, within))) k e (omega (arith, lt))

module _ (shard : ℕ) (terms terms' : List Tenure) (t : Tenure) (left : LeavesTerms terms terms' t) (table : Table) (held : AreHeld shard (map term_in terms) table) where
  abbrev HasIt : Tenure → Type 0
  HasIt u = entry table u.address.0 ≡ Some shard

  -- it has its address until then
  pub held_here : entry table t.address.0 ≡ Some shard
  held_here = all_within HasIt left.before left.after t (subst (All HasIt) left.were (terms_each (λ (u : Term). entry table u.key.address.0 ≡ Some shard) terms held))

  -- and the others keep theirs
  pub held_still : (table' : Table) (k a : ℕ) → TableFrees table k a table' → IsUnused a (map term_in terms') → AreHeld shard (map term_in terms') table'
  held_still table' k a frees unused =
      let P : Term → Type 0 = λ u. entry table u.key.address.0 ≡ Some shard in
      let were : All HasIt (left.before ++ left.after) = all_left HasIt left.before left.after t (subst (All HasIt) left.were (terms_each P terms held)) in
      let stay : All P (map term_in terms') = each_terms P terms' (subst (All HasIt) (sym left.are) were) in
      λ j d lt. frees.elsewhere (get_or (map term_in terms') j d).key.address.0 (unused j d lt) ∙ stay j d lt

-- as do those that stay where none is left that ended
held_live : (P : Term → Type 0) (ts : List Tenure) → AllByRecursion P (map term_in ts) → AllByRecursion P (map term_in (filter (λ (t : Tenure). not (is_over t)) ts))
held_live P [] h = tt
held_live P (t ∷ ts) h =
    let rest = filter (λ (u : Tenure). not (is_over u)) ts in
    elim (not (is_over t)) as (λ b. AllByRecursion P (map term_in (cond b (t ∷ rest) rest))) [
      | true ↦ (h.0, held_live P ts h.1)
      | false ↦ held_live P ts h.1
    ]

pub held_settled : (shard : ℕ) (s : State) (table : Table) → AreHeld shard (map term_in s.terms) table → AreHeld shard (map term_in (reaped s).terms) table
held_settled shard s table h =
    let P : Term → Type 0 = λ t. entry table t.key.address.0 ≡ Some shard in
    All-from_recursion P (map term_in (reaped s).terms) (held_live P s.terms (recursion_from_All P (map term_in s.terms) h))

-- A term leaves -----------------------------------------------------------------------------------------------------------

-- the lease of a session is that of a live term, which stays
pub tied_left : (sessions : Sessions Session) (rows rows' : List TermRow) (r : TermRow) → TakesFirst true rows r rows' → AreTied sessions (tenures_in rows) → AreTied sessions (tenures_in rows')
tied_left sessions rows rows' r takes tied n x l at leased = left_live rows rows' r (IsTermOf x l) (λ t is. is.live) takes (tied n x l at leased)

module _ (rules : Rules) (s : State) (changed : List ChangeAnswer) (books : List Book) (allowance : ℕ) (journal : List Entry) (outs : List OutRecord) where
  abbrev pub shown : TermsView → ℕ → ShardView ShardState Entry
  shown t room = record {
    number = s.sessions.shard;
    state = record { rules = rules; slots = whole s t; changed = changed };
    rows = rows_in t.rows;
    books = books;
    allowance = allowance;
    journal = journal;
    outs = outs;
    sends = [];
    stops = [];
    starts = [];
    room = room;
  }

  pub leaves_so : (t t' : TermsView) (room : ℕ) (r : TermRow) (stop : Stop) → TakesFirst true t.rows r t'.rows → t' ≡ record t { rows = t'.rows }
      → r.cause ≡ Some stop.cause → stop.key ≡ key_from r → stop.carried ≡ r.carried → Leaves (shown t room) (shown t' 0) stop
  leaves_so t t' room r stop takes others cause key carried =
      let rows = t.rows in
      let rows' = t'.rows in
      record {
        one = subst (λ (k : Key). (f : Key → ℕ → ℕ) → f k stop.cause + sum_by (λ (u : Term). f u.key u.cause) (ended_from rows') ≡ sum_by (λ (u : Term). f u.key u.cause) (ended_from rows)) (sym key) (left_one rows rows' r stop.cause cause takes);
        least = subst (λ (k : Key). AllByRecursion (λ (u : Term). ComesBefore k u.key) (ended_from rows')) (sym key) (left_least rows rows' r takes);
        rows = left_sums rows rows' r stop key carried true takes;
        fit = rows_fit rows';
        before = row_keys (rows_in takes.before);
        after = row_keys (rows_in takes.after);
        were = left_were rows rows' r true takes ∙ ap (λ (k : Key). row_keys (rows_in takes.before) ++ k ∷ row_keys (rows_in takes.after)) (sym key);
        are = left_are rows rows' r true takes;
        rules = refl;
        slots = ap (λ (v : TermsView). reaped (whole s (record v { rows = rows' }))) others
            ∙ ap (λ (ts : List Tenure). let u : State = record (reaped (whole s t)) { terms = ts } in u) (left_lives rows rows' r takes);
        changed = refl;
        number = refl;
        books = refl;
        allowance = refl;
        journal = refl;
        outs = refl;
      }

  -- what is reported of it
  pub ended_so : (t t' : TermsView) (room : ℕ) (r : TermRow) (o : Option EndedTerm) → TakesFirst true t.rows r t'.rows → t' ≡ record t { rows = t'.rows }
      → IfSome o (λ e. (r.cause ≡ Some e.cause) × ((stop_of e).key ≡ key_from r) × (e.carried ≡ r.carried))
      → IfSome o (λ e. Leaves (shown t room) (shown t' 0) (stop_of e))
  ended_so t t' room r None takes others says = tt
  ended_so t t' room r (Some e) takes others says = leaves_so t t' room r (stop_of e) takes others says.0 says.1 says.2

  -- One is told ---------------------------------------------------------------------------------------------------------------

  pub tells_so : (t t' : TermsView) (r : TermRow) → TakesFirst false t.news r t'.news → t' ≡ record t { news = t'.news } → TellsNew (whole s t) (whole s t') (tenure_in r)
  tells_so t t' r takes others = record {
    leaves = left_leaves t.news t'.news r false takes;
    least = told_least t.news t'.news r takes;
    others = ap (λ (v : TermsView). let u : State = record s { terms = tenures_in v.rows; news = tenures_in t'.news } in u) others;
  }

  pub told_shown : (t t' : TermsView) (room : ℕ) → t' ≡ record t { news = t'.news } → shown t' room ≡ record (shown t room) { state = record { rules = rules; slots = whole s t'; changed = changed } }
  told_shown t t' room others = ap (λ (v : TermsView). let w : ShardView ShardState Entry = record (shown t' room) { rows = rows_in v.rows } in w) others

-- None is left --------------------------------------------------------------------------------------------------------------

pub reaped_whole : (s s' : State) (t : TermsView) → s' ≡ record s { sessions = (reaped s).sessions } → filter has_ended t.rows ≡ [] → whole s' t ≡ reaped (whole s t)
reaped_whole s s' t next none =
    ap (λ (u : State). whole u t) next
    ∙ ap (λ (ts : List Tenure). let u : State = record (whole s t) { sessions = (reaped s).sessions; terms = ts } in u) (sym (all_are_live t.rows none))

pub reaped_shown : (rules : Rules) (s : State) (changed : List ChangeAnswer) (books : List Book) (allowance : ℕ) (journal : List Entry) (outs : List OutRecord) (t t' : TermsView) (s' : State) (room : ℕ)
    → filter has_ended t.rows ≡ [] → t' ≡ t → s' ≡ record s { sessions = (reaped s).sessions }
    → shown rules s' changed books allowance journal outs t' 0 ≡ record (shown rules s changed books allowance journal outs t room) { state = record { rules = rules; slots = reaped (whole s t); changed = changed }; room = 0 }
reaped_shown rules s changed books allowance journal outs t t' s' room none same next =
    let view : State → TermsView → State → ShardView ShardState Entry = λ u v w. record (shown rules u changed books allowance journal outs v 0) { state = record { rules = rules; slots = w; changed = changed } } in
    ap (λ (v : TermsView). view s' v (whole s' v)) same
    ∙ ap (λ (w : State). view s' t w) (reaped_whole s s' t next none)
    ∙ ap (λ (u : State). view u t (reaped (whole s t))) next

pub ended_said : (rows rows' : List TermRow) (r : TermRow) (o : Option EndedTerm) → TakesFirst true rows r rows'
    → IfSome o (λ e. (r.cause ≡ Some e.cause) × ((stop_of e).key ≡ key_from r) × (e.carried ≡ r.carried)) → IfSome o (λ e. (e.user ≡ r.user) × (e.class ≡ r.class) × (e.began ≡ r.began))
    → IfSome o (λ e. (t : Tenure) × SaysOf e.user.items e.class.items e.began (stop_of e).key t × LeavesTerms (tenures_in rows) (tenures_in rows') t)
ended_said rows rows' r None takes one says = tt
ended_said rows rows' r (Some e) takes one says = (
  tenure_in r,
  record {
    key = sym one.1;
    user_is = sym (ap (λ (v : ArrayVec ℕ). v.items) says.0);
    class_is = sym (ap (λ (v : ArrayVec ℕ). v.items) says.1);
    began_is = sym says.2;
  },
  left_leaves rows rows' r true takes,
)

pub ended_unused : (rows rows' : List TermRow) (r : TermRow) (o : Option EndedTerm) → TakesFirst true rows r rows' → AllPairs (λ (b c : TermRow). b.address ≢ c.address) rows
    → IfSome o (λ e. (r.cause ≡ Some e.cause) × ((stop_of e).key ≡ key_from r) × (e.carried ≡ r.carried)) → IfSome o (λ e. IsUnused e.address.0 (map term_in (tenures_in rows')))
ended_unused rows rows' r None takes apart one = tt
ended_unused rows rows' r (Some e) takes apart one = subst (λ (k : Key). IsUnused k.address.0 (map term_in (tenures_in rows'))) (sym one.1) (left_unused rows rows' r takes apart)

-- those that stay were there
module _ (sessions : Sessions Session) where
  pub placed_kept : (rules : Rules) → ArePlaced rules sessions → ArePlaced rules (kept (λ (y : Session). not (leaves y)) sessions)
  placed_kept rules placed n x at = placed n x (kept_from (λ (y : Session). not (leaves y)) sessions n x at).0

  pub tied_kept : (ts : List Tenure) → AreTied sessions ts → AreTied (kept (λ (y : Session). not (leaves y)) sessions) ts
  tied_kept ts tied n x l at leased = tied n x l (kept_from (λ (y : Session). not (leaves y)) sessions n x at).0 leased
