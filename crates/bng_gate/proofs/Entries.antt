-- What the shards handle in a round are items of its list.
use Rattle.std.proofs.Common.{◌≡◌, ℕ, zero, suc, ◌+◌, ◌<◌, ◌==◌, Bool, true, false, cond, List, [], ◌∷◌, ◌++◌, Option, Some, None, map, slice_get, refl, sym, subst, arith}
use Rattle.std.specs.List.{All, AllByRecursion}
use Rattle.std.specs.Option.{option_map}
use Rattle.std.proofs.lemmas.Bool.{eq-eqb}
use Rattle.std.proofs.lemmas.List.Elements.{recursion_from_All}
use Rattle.std.proofs.lemmas.Option.{same_Some, none-some}
use Rattle.bng_base.specs.declared.book.Book.{Book}
use Rattle.bng_base.specs.declared.item.Entry.{Entry}
use Rattle.bng_base.specs.declared.item.Item.{Item}
use Rattle.bng_engine.specs.Views.{ShardView}
use Rattle.bng_engine.proofs.Everywhere.{all_append, all_mapped}
use Rattle.bng_pool.specs.Plain.{PlainView}
use Rattle.bng_steps.specs.declared.rules.Rules.{Rules}
use Rattle.bng_steps.specs.declared.whose.Whose.{Whose}
use Rattle.bng_steps.specs.Protocol.{ShardState, Handled, entry_of}
use Rattle.bng_desk.specs.Items.{entries_in, stands_in, without_claim}
use Rattle.bng_desk.specs.Round.{Round, IsRound, IsPart, AreParts, entries_of, of_seat}

module _ (P : Item → Type 0) where
  abbrev Of : Entry → Type 0
  Of e = P e.item

  -- the entries of a seat's list
  one_entry : (b : Bool) (e : Entry) → Of e → AllByRecursion Of (cond b (e ∷ []) [])
  one_entry true e h = (h, tt)
  one_entry false e h = tt

  entries_hold : (seat shard place moment : ℕ) (items : List Item) (whose : List Whose) → AllByRecursion P items → AllByRecursion Of (entries_in seat shard place moment items whose)
  entries_hold seat shard place moment [] whose all = tt
  entries_hold seat shard place moment (i ∷ is) [] all = tt
  entries_hold seat shard place moment (i ∷ is) (w ∷ ws) all =
      all_append Of (cond (stands_in shard w) (entry_of seat place moment i ∷ []) []) (entries_in seat shard (place + 1) moment is ws)
      (one_entry (stands_in shard w) (entry_of seat place moment i) all.0)
      (entries_hold seat shard (place + 1) moment is ws all.1)

  -- all entries are of the one seat
  one_of_seat : (b : Bool) (e : Entry) (es : List Entry) → b ≡ true → AllByRecursion Of (cond b (e ∷ es) es) → Of e × AllByRecursion Of es
  one_of_seat true e es is all = (all.0, all.1)
  one_of_seat false e es is all = absurd cc

  of_one_seat : (es : List Entry) → AllByRecursion (λ (e : Entry). e.seat < 1) es → AllByRecursion Of (of_seat 0 es) → AllByRecursion Of es
  of_one_seat [] seats all = tt
  of_one_seat (e ∷ es) seats all =
      let zero_seat : e.seat ≡ 0 = omega (arith, seats.0) in
      let parts = one_of_seat (e.seat == 0) e (of_seat 0 es) (eq-eqb e.seat 0 zero_seat) all in
      (parts.0, of_one_seat es seats.1 parts.1)

  part_holds : (items : List Item) (whose : List (List Whose)) (shard moment : ℕ) (es : List Entry) → IsPart (items ∷ []) whose shard moment es → AllByRecursion P items → AllByRecursion Of es
  part_holds items whose shard moment es part all =
      let one : 0 < 1 = omega arith in
      of_one_seat es
      (recursion_from_All (λ (e : Entry). e.seat < 1) es part.seats)
      (subst (AllByRecursion Of) (sym (part.each 0 one)) (entries_hold 0 shard 0 moment items _ all))

  parts_hold : (items : List Item) (whose : List (List Whose)) (shard moment : ℕ) (vs : List (ShardView ShardState Handled)) → AreParts (items ∷ []) whose shard moment vs → AllByRecursion P items
      → (place : ℕ) (v : ShardView ShardState Handled) → slice_get vs place ≡ Some v → AllByRecursion Of (entries_of v)
  parts_hold items whose shard moment [] parts all place v at = absurd (none-some v at)
  parts_hold items whose shard moment (w ∷ vs) parts all zero v at =
      subst (λ (x : ShardView ShardState Handled). AllByRecursion Of (entries_of x)) (same_Some w v at)
      (all_mapped Of without_claim (entries_of w) (part_holds items whose shard moment (map without_claim (entries_of w)) parts.0 all))
  parts_hold items whose shard moment (w ∷ vs) parts all (suc place) v at = parts_hold items whose (shard + 1) moment vs parts.1 all place v at

  in_journal : (earlier later : List Handled) (h : Handled) → AllByRecursion Of (map (λ (x : Handled). x.deed.entry) (earlier ++ h ∷ later)) → P h.deed.entry.item
  in_journal [] later h all = all.0
  in_journal (x ∷ earlier) later h all = in_journal earlier later h all.1

  -- what stands in a journal of shards
  journal_holds : (vs : List (ShardView ShardState Handled)) (place : ℕ) (journal : List Handled) → option_map (λ (v : ShardView ShardState Handled). v.journal) (slice_get vs place) ≡ Some journal
      → ((v : ShardView ShardState Handled) → slice_get vs place ≡ Some v → AllByRecursion Of (entries_of v)) → AllByRecursion Of (map (λ (x : Handled). x.deed.entry) journal)
  journal_holds vs place journal is each = there (slice_get vs place) is each
    where
      there : (o : Option (ShardView ShardState Handled)) → option_map (λ (v : ShardView ShardState Handled). v.journal) o ≡ Some journal
          → ((v : ShardView ShardState Handled) → o ≡ Some v → AllByRecursion Of (entries_of v)) → AllByRecursion Of (map (λ (x : Handled). x.deed.entry) journal)
      there None is each = absurd (none-some journal is)
      there (Some v) is each = subst (λ (hs : List Handled). AllByRecursion Of (map (λ (x : Handled). x.deed.entry) hs)) (same_Some v.journal journal is) (each v refl)

  -- what holds of all items of a round holds of the item of each entry that was handled
  pub entry_holds : (r : Rules) (shards : List (ShardView ShardState Entry)) (pool : PlainView) (tallies : List Book) (moment : ℕ) (items : List Item) (round : Round)
      → IsRound r shards pool tallies moment (items ∷ []) round → All P items
      → (place : ℕ) (earlier later : List Handled) (h : Handled) → option_map (λ (v : ShardView ShardState Handled). v.journal) (slice_get round.shards place) ≡ Some (earlier ++ h ∷ later)
      → P h.deed.entry.item
  entry_holds r shards pool tallies moment items round is all place earlier later h at =
      in_journal earlier later h
      (journal_holds round.shards place (earlier ++ h ∷ later) at
      (λ v here. parts_hold items round.whose 0 moment round.shards is.dealt.parts (recursion_from_All P items all) place v here))
