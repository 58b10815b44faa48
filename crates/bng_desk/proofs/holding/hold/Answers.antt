use Rattle.std.proofs.Common.{◌≡◌, inl, inr, ℕ, ◌≤◌, ◌+◌, ◌^◌, true, List, [], ◌++◌, Vec, Global, map, replicate, refl, length, ap, sym, subst, ◌∙◌, arith}
use Rattle.std.proofs.lemmas.List.{with_items_is}
use Rattle.std.proofs.lemmas.List.Sums.{count_by-le-length, length-filter}
use Rattle.std.specs.List.{All, AllZip}
use Rattle.std.specs.Vec.{with_items}
use Rattle.bng_base.specs.Batches.{Batch}
use Rattle.bng_base.specs.declared.fate.DropCause.TheVariants.{WantOfMemory}
use Rattle.bng_base.specs.declared.item.Entry.{Entry}
use Rattle.bng_base.specs.declared.item.Item.{Item}
use Rattle.bng_base.specs.declared.round.RoundRecord.{RoundRecord}
use Rattle.bng_engine.specs.Calls.{Kept}
use Rattle.bng_engine.specs.Views.{ShardView}
use Rattle.bng_steps.specs.Protocol.{ShardState}
use Rattle.bng_desk.specs.declared.settlement.Works.{Works}
use Rattle.bng_desk.specs.Allowing.{allowance_of, free_in}
use Rattle.bng_desk.specs.Counting.{plus}
use Rattle.bng_desk.specs.Items.{is_from_outside, kept_of}
use Rattle.bng_desk.specs.Kept.{octets_most, drops_most}
use Rattle.bng_desk.specs.Round.{refused_of, with_refused}
use Rattle.bng_desk.specs.Settlement.{IsReady}
use Rattle.bng_desk.specs.Taking.{HasRows, IsEmpty}
use Rattle.bng_desk.proofs.DropLaws.{most_of_cause, within_plus, within_wider}
use Rattle.bng_desk.proofs.Joining.{low_kept, low_wider, books_kept, books_wider}
use Rattle.bng_desk.proofs.OneMore.{low_more}
use Rattle.bng_desk.proofs.Prepared.{keeps_still, made, ready_still, same_count}
use Rattle.bng_desk.proofs.Readying.{Shards}
use Rattle.bng_desk.proofs.Shares.{allowed_sum, shares_few}
use Rattle.bng_desk.proofs.SameTerms.{MadeReady, allowed_as, numbers_each, ready_each}
use Rattle.bng_desk.proofs.holding.hold.Given.{Over}
use Rattle.bng_desk.proofs.holding.hold.Goals as goal
use Rattle.bng_desk.proofs.holding.hold.Goals.{After-prepare_all}

-- the shards that were made ready, and what was before
module _ (g : Over) (c : After-prepare_all g) where
  abbrev works : Works
  works = c.args.works.now

  abbrev was : Shards
  was = works.shards.items

  abbrev shards : Vec (ShardView ShardState Entry) Global
  shards = with_items works.shards c.prepare_all.new.shards

  is : shards.items ≡ c.prepare_all.new.shards
  is = with_items_is works.shards c.prepare_all.new.shards (omega (arith, c.prepare_all.auto.shards, c.as_mut_slice-shards.ensures.len, works.shards.ok.0))

  kept : AllZip Kept was shards.items
  kept = subst (λ (xs : Shards). AllZip Kept was xs) (sym is) (subst (λ (xs : Shards). AllZip Kept xs c.prepare_all.new.shards) c.as_mut_slice-shards.ensures.value c.prepare_all.ensures.kept)

  empty : All IsEmpty shards.items
  empty = subst (λ (xs : Shards). All IsEmpty xs) (sym is) c.prepare_all.ensures.empty

  ready : IsReady c.args.rules.now c.args.named c.args.lists (made works shards c.prepare_all.new.spare)
  ready = ready_still works shards c.prepare_all.new.spare kept c.args.rules.now c.args.named c.args.lists empty c.requires.ready

  -- each was given its share
  shared : c.prepare_all.result ≡ true → AllZip (MadeReady (length c.args.lists.items.items) c.free-free.result (length was)) was shards.items
  shared done =
      let n = c.len-count.result in
      let free = c.free-free.result in
      subst (λ (k : ℕ). AllZip (MadeReady k free (length was)) was shards.items) c.len-count.ensures
      (subst (λ (xs : Shards). AllZip (MadeReady n free (length was)) was xs) (sym is)
      (subst (λ (xs : Shards). AllZip (MadeReady n free (length xs)) xs c.prepare_all.new.shards) c.as_mut_slice-shards.ensures.value (c.prepare_all.ensures.ready done)))

pub opened-requires-clause-ready : goal.opened-requires-clause-ready
opened-requires-clause-ready g c = ready g (goal.at.opened-requires-clause-ready g c).After-prepare_all

pub opened-requires-clause-prepared : goal.opened-requires-clause-prepared
opened-requires-clause-prepared g c =
    let b = (goal.at.opened-requires-clause-prepared g c).After-prepare_all in
    let olds = was g b in
    let news = (shards g b).items in
    let n = length c.args.lists.items.items in
    let free = c.free-free.result in
    let each = shared g b c.if-prepare_all.true in
    record {
      roomy = ready_each n free (length olds) olds news each;
      rows = subst (λ (xs : Shards). All HasRows xs) (sym (is g b)) (c.prepare_all.ensures.rows c.if-prepare_all.true);
      serials = numbers_each c.args.named.moment n free (length olds) olds news (kept g b) each c.requires.ready.terms;
      free = omega (
        arith,
        c.free-free.ensures.free,
        allowed_sum n free (length olds) olds news each,
        shares_few free olds (omega (arith, c.requires.ready.count, c.requires.ready.some)) c.requires.ready.order,
      );
    }

pub returns-then-prepare_all-clause-round : goal.returns-then-prepare_all-clause-round
returns-then-prepare_all-clause-round g c =
    let b = (goal.at.returns-then-prepare_all-clause-round g c).After-prepare_all in
    let olds = was g b in
    let news = (shards g b).items in
    let free = c.free-free.result in
    let free_is : free ≡ free_in c.args.works.now.accounts.billing = omega (arith, c.free-free.ensures.free) in
    let held = c.opened.ensures.round in
    inl (
      refl,
      ap (λ (x : Works). x.kept.items) c.opened.ensures.rest ∙ c.requires.ready.none_kept,
      record {
        ready = news;
        kept = kept g b;
        held = held;
        allows = held.allowed ∙ allowed_as (length c.args.lists.items.items) free (length olds) olds news (shared g b c.if-prepare_all.true) ∙ ap (λ (n : ℕ). map (allowance_of n (length olds)) olds) free_is;
      },
    )

pub returns-then-prepare_all-clause-keeps : goal.returns-then-prepare_all-clause-keeps
returns-then-prepare_all-clause-keeps g c =
    let b = (goal.at.returns-then-prepare_all-clause-keeps g c).After-prepare_all in
    keeps_still (works g b) (shards g b) c.prepare_all.new.spare (kept g b) c.args.named.moment c.opened.new.works c.opened.ensures.keeps

pub returns-then-prepare_all-clause-rest : goal.returns-then-prepare_all-clause-rest
returns-then-prepare_all-clause-rest g c =
    let w = c.args.works.now in
    let n = c.opened.new.works in
    let rest = λ (x : Works). let y : Works = record w { shards = n.shards; pool = n.pool; accounts = n.accounts; tally = n.tally; drops = n.drops; kept = x.kept; spare = x.spare } in y in
    c.opened.ensures.rest ∙ ap rest (sym c.opened.ensures.rest)

pub count_refused-requires-clause-within : goal.count_refused-requires-clause-within
count_refused-requires-clause-within g c = within_wider (2 ^ 61) (2 ^ 62) c.args.works.now.drops (omega arith) c.requires.ready.counts

pub returns-clause-round : goal.returns-clause-round
returns-clause-round g c =
    let b = (goal.at.returns-clause-round g c).After-prepare_all in
    let w = c.args.works.now in
    let items = c.args.lists.items.items in
    let n = length w.shards.items in
    let named = c.args.named in
    let items_are = c.into_vec.ensures ∙ ap (λ (x : Batch Item). x.items) c.replace-items.ensures.value in
    let refused_are = c.part-outside.ensures.refused ∙ ap refused_of items_are in
    let count : c.len.result ≡ length (refused_of items) = omega (arith, c.len.ensures, c.part-outside.result.ok.0, ap (λ (is : List Item). length is) refused_are) in
    let told = λ (k : ℕ) (is : List Item). let x : RoundRecord = record { number = named.number; moment = named.moment; wall = named.wall; allowances = replicate k 0; journals = replicate k []; loose = []; outs = []; refused = is } in x in
    let shards_count : c.len-2.result ≡ n = omega (arith, c.len-2.ensures, w.shards.ok.0) in
    inr (
      refl,
      c.part-outside.ensures.kept ∙ ap (λ (is : List Item). is ++ kept_of c.into_vec.result.items) c.requires.ready.none_kept ∙ ap kept_of items_are,
      record {
        kept = kept g b;
        told = refl;
        drops_are = c.count_refused.ensures ∙ ap (λ (k : ℕ). plus w.drops (with_refused k)) count;
        pool_is = refl;
        accounts_are = refl;
        tally_is = refl;
        record_told = c.refused.ensures ∙ ap (λ (k : ℕ). told k c.part-outside.result.items) shards_count ∙ ap (told n) refused_are;
      },
    )

pub returns-clause-keeps : goal.returns-clause-keeps
returns-clause-keeps g c =
    let b = (goal.at.returns-clause-keeps g c).After-prepare_all in
    let w = c.args.works.now in
    let olds = w.shards.items in
    let news = (shards g b).items in
    let still = ready g b in
    let items = c.args.lists.items.items in
    let n = c.len.result in
    let few : n ≤ drops_most = omega (
      arith,
      c.len.ensures,
      c.part-outside.result.ok.0,
      ap (λ (is : List Item). length is) c.part-outside.ensures.refused,
      ap (λ (is : List Item). length (refused_of is)) (c.into_vec.ensures ∙ ap (λ (x : Batch Item). x.items) c.replace-items.ensures.value),
      length-filter (λ (i : Item). is_from_outside i.kind) items,
      count_by-le-length (λ (i : Item). is_from_outside i.kind) items,
      c.requires.ready.items.few,
    ) in
    record {
      count = same_count w (shards g b) c.prepare_all.new.spare (kept g b);
      order = still.order;
      empty = still.empty;
      sessions = still.sessions;
      low = λ most low. low_wider most (most + octets_most) news (omega arith) (low_kept most olds news (kept g b) low);
      books = λ most low. books_wider most (most + octets_most) news (omega arith) (books_kept most olds news (kept g b) low);
      tally = λ most low. low_more most (most + octets_most) w.tally (omega arith) low;
      tallied = still.tallied;
      adds_up = still.adds_up;
      billed = still.billed;
      counts = λ most within. within_plus most n (most + drops_most) w.drops c.count_refused.new.drops (with_refused n) (omega (arith, few)) (most_of_cause WantOfMemory n) within c.count_refused.ensures;
      drawn = omega arith;
      handed = refl;
      room = c.part-outside.ensures.capacity;
      places = refl;
      held = still.held;
      ranges = refl;
      terms = still.terms;
      knows = still.knows;
      awaited = still.awaited;
    }
