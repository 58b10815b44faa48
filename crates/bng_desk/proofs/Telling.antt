-- The shards once all was told that they answered to requests for changes.
use Rattle.std.proofs.Common.{◌≡◌, ℕ, zero, suc, ◌+◌, List, [], ◌∷◌, ◌++◌, map, length, get_or, append-nil, append_assoc, refl, sym, ap, subst, ◌∙◌, arith}
use Rattle.std.specs.Prelude.{option_to_list}
use Rattle.std.specs.List.{All, AllByRecursion, AllZip, flat_map}
use Rattle.std.proofs.lemmas.List.{length-map}
use Rattle.std.proofs.lemmas.List.Elements.{All-map, recursion_from_All}
use Rattle.bng_base.specs.declared.book.Book.{Book}
use Rattle.bng_billing.specs.State.{BillingState}
use Rattle.bng_engine.specs.Calls.{Kept, Moves}
use Rattle.bng_engine.specs.Journals.{after}
use Rattle.bng_engine.specs.Terms.{Key, keys}
use Rattle.bng_engine.specs.Views.{ShardView}
use Rattle.bng_engine.proofs.Adding.{sum_map}
use Rattle.bng_steps.specs.declared.changes.ChangeAnswer.{ChangeAnswer}
use Rattle.bng_steps.specs.declared.rules.Rules.{Rules}
use Rattle.bng_steps.specs.Interims.{Reports}
use Rattle.bng_steps.specs.Protocol.{Handled, ShardState, pppoe, sessions_of, terms_of}
use Rattle.bng_desk.specs.declared.accounts.Stopped.{Stopped}
use Rattle.bng_desk.specs.declared.line.CircuitLine.{CircuitLine}
use Rattle.bng_desk.specs.declared.settlement.Works.{Works}
use Rattle.bng_desk.specs.Accounting.{AreBilled, KnowsBegun}
use Rattle.bng_desk.specs.Coa.{answers_in, shard_answers}
use Rattle.bng_desk.specs.Interims.{AreWaiting}
use Rattle.bng_desk.specs.Kept.{octets_most}
use Rattle.bng_desk.specs.Model.{keys_in, sessions_in}
use Rattle.bng_desk.specs.Round.{views_of}
use Rattle.bng_desk.specs.Settlement.{KeepsWorks}
use Rattle.bng_desk.specs.Taking.{AddsUp, AllTold, AreInOrder, AreTallied, HasFewSessions, IsEmpty, IsLeftBy, KeepsTerms, Shown, Sight, kept_in, live_by, told_all}
use Rattle.bng_desk.proofs.InAll.{terms_by}
use Rattle.bng_desk.proofs.Joining.{HasLow, HasLowBooks}
use Rattle.bng_desk.proofs.Knowing.{knows_later}
use Rattle.bng_desk.proofs.Readying.{Shards, WorksBy, all_onward}
use Rattle.bng_desk.proofs.Returning.{HoldsOwn}

-- What does not see it ------------------------------------------------------------------------------------------------------

told_each : (P Q : Shown → Type 0) → ((v : Shown) → P v → Q (told_all v)) → (vs : Shards) → All P vs → All Q (map told_all vs)
told_each P Q f vs all = All-map Q told_all vs (λ k d lt. f (get_or vs k d) (all k d lt))

pub told_sessions : (vs : Shards) → sessions_in (map told_all vs) ≡ sessions_in vs
told_sessions vs = sum_map told_all (λ (v : Shown). sessions_of v.state) vs

told_keys : (vs : Shards) → keys_in (map told_all vs) ≡ keys_in vs
told_keys [] = refl
told_keys (v ∷ vs) = ap (λ (ks : List Key). keys (terms_of v.state) ++ ks) (told_keys vs)

told_number : (us : Shards) (k : ℕ) (d : Shown) → (get_or (map told_all us) k d).number ≡ (get_or us k d).number
told_number [] k d = refl
told_number (u ∷ us) zero d = refl
told_number (u ∷ us) (suc k) d = told_number us k d

told_order : (vs : Shards) → AreInOrder vs → AreInOrder (map told_all vs)
told_order vs order k d lt = told_number vs k d ∙ order k d (omega (arith, lt, length-map vs told_all))

told_terms : (moment : ℕ) (v : Shown) → KeepsTerms moment v → KeepsTerms moment (told_all v)
told_terms moment v h = record { sound = h.sound; number = h.number; tenures = h.tenures; owes_none = h.owes_none; numbers = h.numbers }

told_waits : (moment : ℕ) (vs : Shards) (rs : List Reports) → AreWaiting moment vs rs → AreWaiting moment (map told_all vs) rs
told_waits moment [] rs all = all
told_waits moment (v ∷ vs) [] all = absurd all
told_waits moment (v ∷ vs) (r ∷ rs) all = (record { waits = all.0.waits; soon = all.0.soon }, told_waits moment vs rs all.1)

told_tallied : (tally : Book) (vs : Shards) (lines : List CircuitLine) → AreTallied tally vs lines → AreTallied tally (map told_all vs) lines
told_tallied tally vs lines all k d lt input = omega (arith, all k d lt input, sum_map told_all (kept_in input (get_or lines k d)) vs)

told_adds_up : (tally : Book) (vs : Shards) (stopped : Stopped) → AddsUp tally vs stopped → AddsUp tally (map told_all vs) stopped
told_adds_up tally vs stopped sum = record {
  carried = λ q input. omega (arith, sum.carried q input, sum_map told_all (live_by q input) vs);
  terms = omega (arith, sum.terms, sum_map told_all terms_by vs, sum_map told_all (λ (v : Shown). v.state.slots.begun) vs);
}

abbrev IsToldOf : Shown → Shown → Type 0
IsToldOf v w = w ≡ told_all v

told_zip : (vs : Shards) → AllZip IsToldOf vs (map told_all vs)
told_zip [] = tt
told_zip (v ∷ vs) = (refl, told_zip vs)

told_knows : (vs : Shards) (b : BillingState) → KnowsBegun vs b → KnowsBegun (map told_all vs) b
told_knows vs b knows = knows_later IsToldOf (λ v w is. omega (arith, ap (λ (x : Shown). x.state.slots.begun) is)) vs (map told_all vs) (told_zip vs) b knows

pub told_rules : (r : Rules) (vs ws : Shards) → ws ≡ map told_all vs → All (WorksBy r) vs → All (WorksBy r) ws
told_rules r vs ws is works = subst (λ (xs : Shards). All (WorksBy r) xs) (sym is) (told_each (WorksBy r) (WorksBy r) (λ v h. h) vs works)

-- nothing is left to be told
pub told_then : (vs ws : Shards) → ws ≡ map told_all vs → All AllTold ws
told_then vs ws is = subst (λ (xs : Shards). All AllTold xs) (sym is) (All-map AllTold told_all vs (λ k d lt. refl))

-- What a settlement keeps ------------------------------------------------------------------------------------------------------

-- of these shards what it keeps of its own
pub record ToldKeep (moment : ℕ) (w h : Works) (ws : Shards) : Type 0 where
  pub count : length ws ≡ length w.shards.items
  pub order : AreInOrder ws
  pub empty : All IsEmpty ws
  pub sessions : All HasFewSessions ws
  pub low : (most : ℕ) → All (HasLow most) w.shards.items → All (HasLow (most + octets_most)) ws
  pub books : (most : ℕ) → All (HasLowBooks most) w.shards.items → All (HasLowBooks (most + octets_most)) ws
  pub tallied : AreTallied h.tally ws h.accounts.lines
  pub adds_up : AddsUp h.tally ws h.accounts.stopped
  pub billed : AreBilled (keys_in ws) h.accounts.billing
  pub held : All (HoldsOwn h.pool.table) ws
  pub terms : All (KeepsTerms moment) ws
  pub knows : KnowsBegun ws h.accounts.billing
  pub awaited : AreWaiting moment ws h.accounts.reports

pub told_keep : (moment : ℕ) (w h : Works) (ws : Shards) → ws ≡ map told_all h.shards.items → KeepsWorks moment w h → ToldKeep moment w h ws
told_keep moment w h ws is k =
    let vs = h.shards.items in
    subst (λ (xs : Shards). ToldKeep moment w h xs) (sym is)
    (record {
      count = length-map vs told_all ∙ k.count;
      order = told_order vs k.order;
      empty = told_each IsEmpty IsEmpty (λ v e. e) vs k.empty;
      sessions = told_each HasFewSessions HasFewSessions (λ v e. e) vs k.sessions;
      low = λ most low. told_each (HasLow (most + octets_most)) (HasLow (most + octets_most)) (λ v e. e) vs (k.low most low);
      books = λ most low. told_each (HasLowBooks (most + octets_most)) (HasLowBooks (most + octets_most)) (λ v e. e) vs (k.books most low);
      tallied = told_tallied h.tally vs h.accounts.lines k.tallied;
      adds_up = told_adds_up h.tally vs h.accounts.stopped k.adds_up;
      billed = subst (λ (ks : List Key). AreBilled ks h.accounts.billing) (sym (told_keys vs)) k.billed;
      held = told_each (HoldsOwn h.pool.table) (HoldsOwn h.pool.table) (λ v e. e) vs k.held;
      terms = told_each (KeepsTerms moment) (KeepsTerms moment) (told_terms moment) vs k.terms;
      knows = told_knows vs h.accounts.billing k.knows;
      awaited = told_waits moment vs h.accounts.reports k.awaited;
    })

-- What is told -----------------------------------------------------------------------------------------------------------------

-- the answers of all shards that were not told yet
abbrev pub untold : {E : Type 0} → List (ShardView ShardState E) → List ChangeAnswer
untold vs = flat_map (λ v. v.state.changed) vs

-- along a journal the answers of its entries stand behind those before
answered_along : (s : ShardState) (es : List Handled) → (after pppoe s es).changed ≡ s.changed ++ answers_in es
answered_along s [] = sym (append-nil s.changed)
answered_along s (h ∷ es) =
    answered_along (pppoe.next s h) es ∙ append_assoc s.changed (option_to_list h.answer) (answers_in es)

-- where all was told before, the answers of a round are those of its journals
pub answers_of_round : (vs : Shards) (xs : List Sight) → AllZip (Moves pppoe) (views_of vs) xs → All AllTold vs → untold xs ≡ shard_answers xs
answers_of_round vs xs moves told = by vs xs moves (recursion_from_All AllTold vs told)
  where
    by : (vs : Shards) (xs : List Sight) → AllZip (Moves pppoe) (views_of vs) xs → AllByRecursion AllTold vs → untold xs ≡ shard_answers xs
    by [] [] m t = refl
    by [] (x ∷ xs) m t = absurd m
    by (v ∷ vs) [] m t = absurd m
    by (v ∷ vs) (x ∷ xs) m t =
        let here : x.state.changed ≡ answers_in x.journal =
        ap (λ (s : ShardState). s.changed) m.0.state ∙ answered_along v.state x.journal ∙ ap (λ (bs : List ChangeAnswer). bs ++ answers_in x.journal) t.0 in
        ap (λ (bs : List ChangeAnswer). bs ++ untold xs) here ∙ ap (λ (bs : List ChangeAnswer). answers_in x.journal ++ bs) (by vs xs m.1 t.1)

-- the desk has of them what the engine left
pub untold_left : (ws : Shards) (xs : List Sight) → AllZip IsLeftBy ws xs → untold ws ≡ untold xs
untold_left [] [] h = refl
untold_left [] (x ∷ xs) h = absurd h
untold_left (w ∷ ws) [] h = absurd h
untold_left (w ∷ ws) (x ∷ xs) h =
    ap (λ (s : ShardState). s.changed ++ untold ws) h.0.state ∙ ap (λ (bs : List ChangeAnswer). x.state.changed ++ bs) (untold_left ws xs h.1)

-- making shards ready tells nothing
pub told_kept : (vs ws : Shards) → AllZip Kept vs ws → All AllTold vs → All AllTold ws
told_kept vs ws kept told = all_onward Kept AllTold (λ x y k here. ap (λ (s : ShardState). s.changed) k.state ∙ here) vs ws kept told

none_by : (vs : Shards) → AllByRecursion AllTold vs → untold vs ≡ []
none_by [] t = refl
none_by (v ∷ vs) t = ap (λ (bs : List ChangeAnswer). bs ++ untold vs) t.0 ∙ none_by vs t.1

-- and where no round was opened there are none
pub untold_none : (vs ws : Shards) → AllZip Kept vs ws → All AllTold vs → untold ws ≡ []
untold_none vs ws kept told = none_by ws (recursion_from_All AllTold ws (told_kept vs ws kept told))
