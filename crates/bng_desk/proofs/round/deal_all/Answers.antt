use Rattle.std.proofs.Common.{◌≡◌, ◌+◌, ◌*◌, ◌≤◌, ◌<◌, ◌^◌, ℕ, List, [], ◌∷◌, ◌++◌, length, take, drop, get_or, refl, sym, ap, subst, ◌∙◌, arith}
use Rattle.std.proofs.lemmas.List.{drop_more, length-take-le, take-append-drop, take_more}
use Rattle.std.proofs.Math.Seq.{take-length}
use Rattle.bng_base.specs.declared.book.Range.{Range}
use Rattle.bng_base.specs.declared.item.Item.{Item}
use Rattle.bng_base.specs.declared.item.Loose.{Loose}
use Rattle.bng_shard.specs.Handling.{HasPools}
use Rattle.bng_desk.specs.Taking.{AreOnce, Deals, DealsOne}
use Rattle.bng_desk.proofs.Admitting.{admits_next}
use Rattle.bng_desk.proofs.Dealt.{dealt_books, dealt_once, dealt_rules, journal_in, loose_more, numbers_dealt, room_more, tally_more}
use Rattle.bng_desk.proofs.DropLaws.{within_wider, within_more}
use Rattle.bng_desk.proofs.OneMore.{deals_none, deals_more, low_more}
use Rattle.bng_desk.proofs.round.deal_all.Goals as goal

-- an item between those before it and those after it
record Stands (all : List Item) (i : ℕ) (item : Item) : Type 0 where
  within : i < length all
  count : length (take i all) ≡ i
  whole : all ≡ take i all ++ item ∷ drop (i + 1) all
  more : take (i + 1) all ≡ take i all ++ item ∷ []

stands : (all these : List Item) (i : ℕ) (item : Item) → these ≡ all → i < length these → item ≡ get_or these i item → Stands all i item
stands all these i item same lt at =
    let within : i < length all = omega (arith, lt, ap (λ (is : List Item). length is) same) in
    let here : get_or all i item ≡ item = ap (λ (is : List Item). get_or is i item) (sym same) ∙ sym at in
    record {
      within = within;
      count = length-take-le i all (omega (arith, within));
      whole = sym (take-append-drop i all) ∙ ap (λ (is : List Item). take i all ++ is) (drop_more all i item within ∙ ap (λ (x : Item). x ∷ drop (i + 1) all) here);
      more = take_more all i item within ∙ ap (λ (x : Item). take i all ++ x ∷ []) here;
    }

-- at the end all are before
are_all : (all these : List Item) (i : ℕ) → these ≡ all → i ≤ length these → length these ≤ i → take i all ≡ all
are_all all these i same le ge = ap (λ (n : ℕ). take n all) (omega (arith, le, ge, ap (λ (is : List Item). length is) same)) ∙ take-length all

pub loop-item-init : goal.loop-item-init
loop-item-init c =
    let shards = c.args.shards.now in
    record {
      deals = deals_none c.args.rules.now c.args.pool.now c.args.now (length c.args.lists.now.items.items) shards c.args.lists.now.loose.items c.args.drops.now c.args.tally.now c.requires.ready c.requires.rows c.requires.loose;
      held = c.requires.held;
      place = refl;
      room = λ k d lt. omega (arith, (c.requires.ready k d lt).room);
      loose = omega (arith, ap (λ (ls : List Loose). length ls) c.requires.loose);
      loose_room = refl;
      drops = λ most within. within_wider most (most + 0) c.args.drops.now (omega arith) within;
      tally = λ most low. low_more most (most + 4160 * 0) c.args.tally.now (omega arith) low;
    }

pub deal-fate-requires-clause-once : goal.deal-fate-requires-clause-once
deal-fate-requires-clause-once c n d lt is =
    let was = c.loop-item.invariant in
    let i = c.loop-item.item-index in
    let all = c.args.lists.now.items.items in
    let item = c.item-item.result in
    let here = stands all c.as_slice-item-items.result.now i item c.as_slice-item-items.ensures c.loop-item-test.true c.item-item.is in
    let r = c.args.rules.now in
    let pool = c.args.pool.now in
    let mid = c.loop-item.pool in
    admits_next r mid.table c.args.now (take i all) was.deals.whose item (drop (i + 1) all) n (get_or c.loop-item.shards n d)
    (subst (λ (is : List Item). AreOnce is) here.whole c.requires.items.once)
    (dealt_once r pool mid c.args.now (take i all) c.args.shards.now c.loop-item.shards c.loop-item.loose.items c.args.drops.now c.loop-item.drops c.args.tally.now c.loop-item.tally was.deals)
    is
    (journal_in r pool mid c.args.now (take i all) c.args.shards.now c.loop-item.shards c.loop-item.loose.items c.args.drops.now c.loop-item.drops c.args.tally.now c.loop-item.tally was.deals n d lt)

pub deal-fate-requires-clause-low_books : goal.deal-fate-requires-clause-low_books
deal-fate-requires-clause-low_books c k d lt i within q input =
    let was = c.loop-item.invariant in
    let all = c.args.lists.now.items.items in
    let here = stands all c.as_slice-item-items.result.now c.loop-item.item-index c.item-item.result c.as_slice-item-items.ensures c.loop-item-test.true c.item-item.is in
    omega (
      arith,
      here.within,
      here.count,
      c.requires.items.few,
      dealt_books c.args.rules.now c.args.pool.now c.loop-item.pool c.args.now (take c.loop-item.item-index all) c.args.shards.now c.loop-item.shards c.loop-item.loose.items c.args.drops.now c.loop-item.drops c.args.tally.now c.loop-item.tally was.deals (2 ^ 62 + 2 ^ 61) c.requires.low_books k d lt i within q input,
    )

pub deal-fate-requires-clause-low_tally : goal.deal-fate-requires-clause-low_tally
deal-fate-requires-clause-low_tally c =
    let here = stands c.args.lists.now.items.items c.as_slice-item-items.result.now c.loop-item.item-index c.item-item.result c.as_slice-item-items.ensures c.loop-item-test.true c.item-item.is in
    low_more (2 ^ 62 + 2 ^ 61 + 4160 * c.loop-item.item-index) (2 ^ 63) c.loop-item.tally (omega (arith, here.within, c.requires.items.few)) (c.loop-item.invariant.tally (2 ^ 62 + 2 ^ 61) c.requires.low_tally)

pub count-requires : goal.count-requires
count-requires c =
    let here = stands c.args.lists.now.items.items c.as_slice-item-items.result.now c.loop-item.item-index c.item-item.result c.as_slice-item-items.ensures c.loop-item-test.true c.item-item.is in
    within_wider (2 ^ 62 + c.loop-item.item-index) (2 ^ 63) c.loop-item.drops (omega (arith, here.within, c.requires.items.few)) (c.loop-item.invariant.drops (2 ^ 62) c.requires.drops)

pub loop-item-preserved : goal.loop-item-preserved
loop-item-preserved c =
    let was = c.loop-item.invariant in
    let i = c.loop-item.item-index in
    let all = c.args.lists.now.items.items in
    let done = take i all in
    let item = c.item-item.result in
    let here = stands all c.as_slice-item-items.result.now i item c.as_slice-item-items.ensures c.loop-item-test.true c.item-item.is in
    let r = c.args.rules.now in
    let pool = c.args.pool.now in
    let mid = c.loop-item.pool in
    let pool' = c.deal-fate.new.pool in
    let now = c.args.now in
    let olds = c.args.shards.now in
    let shards = c.loop-item.shards in
    let shards' = c.deal-fate.new.shards in
    let loose = c.loop-item.loose.items in
    let loose' = c.deal-fate.new.loose.items in
    let start = c.args.tally.now in
    let tally = c.loop-item.tally in
    let tally' = c.deal-fate.new.tally in
    let one : DealsOne r mid pool' (length done) now item shards shards' loose loose' tally tally' c.deal-fate.result =
    subst (λ (place : ℕ). DealsOne r mid pool' place now item shards shards' loose loose' tally tally' c.deal-fate.result) (was.place ∙ sym here.count) c.deal-fate.ensures.deals in
    let rules = dealt_rules r pool mid now done olds shards loose c.args.drops.now c.loop-item.drops start tally was.deals r c.requires.one_rule in
    let order = numbers_dealt r pool mid now done olds shards loose c.args.drops.now c.loop-item.drops start tally was.deals c.requires.numbers in
    let has_pools = subst (λ (rs : List Range). HasPools r.pools rs) (sym was.deals.claimed.ranges) c.requires.pools in
    record {
      deals = subst (λ (is : List Item). Deals r pool pool' now is olds shards' loose' c.args.drops.now c.count.new.drops start tally') (sym here.more)
          (deals_more r pool mid pool' now has_pools done item olds shards shards' loose loose' c.args.drops.now c.loop-item.drops c.count.new.drops start tally tally' c.deal-fate.result was.deals c.count.ensures rules order one);
      held = c.deal-fate.ensures.held;
      place = omega (arith, was.place);
      room = room_more r pool mid now done olds shards loose c.args.drops.now c.loop-item.drops start tally was.deals pool' (length done) item shards' loose' tally' c.deal-fate.result one (length all) i here.within was.room;
      loose = omega (arith, was.loose, loose_more r pool mid now done olds shards loose c.args.drops.now c.loop-item.drops start tally was.deals pool' (length done) item shards' loose' tally' c.deal-fate.result one);
      loose_room = c.deal-fate.ensures.capacity ∙ was.loose_room;
      drops = λ most within. within_more (most + i) (most + (i + 1)) c.loop-item.drops c.count.new.drops c.deal-fate.result (omega arith) (was.drops most within) c.count.ensures;
      tally = λ most low. low_more (most + 4160 * i + 4160) (most + 4160 * (i + 1)) tally' (omega arith)
          (tally_more r pool mid now done olds shards loose c.args.drops.now c.loop-item.drops start tally was.deals pool' (length done) item shards' loose' tally' c.deal-fate.result one (most + 4160 * i) (was.tally most low));
    }

pub returns-clause-deals : goal.returns-clause-deals
returns-clause-deals c =
    let all = are_all c.args.lists.now.items.items c.as_slice-item-items.result.now c.loop-item.item-index c.as_slice-item-items.ensures c.loop-item.auto.item-index-end c.loop-item-test.false in
    subst (λ (is : List Item). Deals c.args.rules.now c.args.pool.now c.loop-item.pool c.args.now is c.args.shards.now c.loop-item.shards c.loop-item.loose.items c.args.drops.now c.loop-item.drops c.args.tally.now c.loop-item.tally) all c.loop-item.invariant.deals

pub returns-clause-numbers : goal.returns-clause-numbers
returns-clause-numbers c =
    numbers_dealt c.args.rules.now c.args.pool.now c.loop-item.pool c.args.now (take c.loop-item.item-index c.args.lists.now.items.items) c.args.shards.now c.loop-item.shards c.loop-item.loose.items c.args.drops.now c.loop-item.drops c.args.tally.now c.loop-item.tally c.loop-item.invariant.deals
    c.requires.numbers

pub returns-clause-within : goal.returns-clause-within
returns-clause-within c most within =
    within_wider (most + c.loop-item.item-index) (most + length c.args.lists.now.items.items) c.loop-item.drops (omega (arith, c.loop-item.auto.item-index-end, ap (λ (is : List Item). length is) c.as_slice-item-items.ensures))
    (c.loop-item.invariant.drops most within)

pub returns-clause-tally : goal.returns-clause-tally
returns-clause-tally c most low =
    low_more (most + 4160 * c.loop-item.item-index) (most + 4160 * length c.args.lists.now.items.items) c.loop-item.tally (omega (arith, c.loop-item.auto.item-index-end, ap (λ (is : List Item). length is) c.as_slice-item-items.ensures))
    (c.loop-item.invariant.tally most low)

pub deal-fate-requires-clause-numbers : goal.deal-fate-requires-clause-numbers
deal-fate-requires-clause-numbers c =
    numbers_dealt c.args.rules.now c.args.pool.now c.loop-item.pool c.args.now (take c.loop-item.item-index c.args.lists.now.items.items) c.args.shards.now c.loop-item.shards c.loop-item.loose.items c.args.drops.now c.loop-item.drops c.args.tally.now c.loop-item.tally c.loop-item.invariant.deals
    c.requires.numbers

pub deal-fate-requires-clause-one_rule : goal.deal-fate-requires-clause-one_rule
deal-fate-requires-clause-one_rule c =
    dealt_rules c.args.rules.now c.args.pool.now c.loop-item.pool c.args.now (take c.loop-item.item-index c.args.lists.now.items.items) c.args.shards.now c.loop-item.shards c.loop-item.loose.items c.args.drops.now c.loop-item.drops c.args.tally.now c.loop-item.tally c.loop-item.invariant.deals c.args.rules.now
    c.requires.one_rule

pub deal-fate-requires-clause-pools : goal.deal-fate-requires-clause-pools
deal-fate-requires-clause-pools c = subst (λ (rs : List Range). HasPools c.args.rules.now.pools rs) (sym c.loop-item.invariant.deals.claimed.ranges) c.requires.pools

pub deal-fate-requires-clause-places : goal.deal-fate-requires-clause-places
deal-fate-requires-clause-places c = c.loop-item.invariant.deals.claimed.places ∙ c.requires.places

pub deal-fate-requires-clause-held : goal.deal-fate-requires-clause-held
deal-fate-requires-clause-held c = c.loop-item.invariant.held

pub returns-clause-held : goal.returns-clause-held
returns-clause-held c = c.loop-item.invariant.held
