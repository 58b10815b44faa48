use Rattle.std.proofs.Common.{◌≡◌, ℕ, ◌+◌, ◌<◌, ◌^◌, List, length, map, ap, subst, ◌∙◌, sym, arith}
use Rattle.std.specs.List.{All}
use Rattle.bng_base.specs.declared.book.Book.{Book}
use Rattle.bng_engine.specs.Quantities.{in_book}
use Rattle.bng_desk.specs.declared.accounts.Stopped.{Stopped}
use Rattle.bng_desk.specs.declared.sums.Sums.{Sums}
use Rattle.bng_desk.specs.Kept.{rested}
use Rattle.bng_desk.specs.Model.{Desk, begun_in, live_of, live_terms, plus_book, sums_of, total_of}
use Rattle.bng_desk.proofs.Counted.{seen_adds_up, seen_terms, sums_low}
use Rattle.bng_desk.proofs.Readying.{Shards}
use Rattle.bng_desk.proofs.Resting.{begun_rested, live_rested}
use Rattle.bng_desk.proofs.desk.Desk.sums.Goals as goal

pub live-live-requires : goal.live-live-requires
live-live-requires c =
    let was = c.self.invariant.0 in
    let inside = c.self.inside in
    let works = inside.works in
    record {
      low = λ q input.
          omega (
            arith,
            sums_low works.tally works.shards.items works.accounts.stopped was.adds_up (inside.turns + inside.endings) (omega (arith, was.made, was.most, was.endings)) (was.tallies 0 (omega arith)) q input,
            ap (λ (vs : Shards). in_book q input (live_of vs)) c.as_slice-shards.ensures.value,
          );
    }

pub plus_book-requires : goal.plus_book-requires
plus_book-requires c =
    let was = c.self.invariant.0 in
    let inside = c.self.inside in
    let works = inside.works in
    record {
      low = λ q input.
          omega (
            arith,
            sums_low works.tally works.shards.items works.accounts.stopped was.adds_up (inside.turns + inside.endings) (omega (arith, was.made, was.most, was.endings)) (was.tallies 0 (omega arith)) q input,
            ap (λ (t : Stopped). in_book q input t.carried) c.stopped-stopped.ensures,
            ap (in_book q input) c.live-live.ensures,
            ap (λ (vs : Shards). in_book q input (live_of vs)) c.as_slice-shards.ensures.value,
          );
    }

pub returns-clause-sums : goal.returns-clause-sums
returns-clause-sums c =
    let works = c.self.inside.works in
    let vs = works.shards.items in
    let told = λ (t : Stopped) (live total : Book) (terms : ℕ) (drops : List ℕ). let s : Sums = record { stopped = t.carried; live = live; total = total; terms = terms; stops = t.stops; drops = drops } in s in
    let t = c.stopped-stopped.result in
    let live = c.live-live.ensures ∙ ap live_of c.as_slice-shards.ensures.value ∙ sym (live_rested vs) in
    let begun = c.begun_in.ensures ∙ ap begun_in c.as_slice-shards.ensures.value ∙ sym (begun_rested vs) in
    let seen = map rested vs in
    let kept = works.accounts.stopped in
    let sum = plus_book kept.carried (live_of seen) in
    subst (λ (d : Desk). told t c.live-live.result c.plus_book.result c.begun_in.result works.drops.counts ≡ sums_of d) c.self.view_is
    (ap (λ (b : Book). told t c.live-live.result b c.begun_in.result works.drops.counts) c.plus_book.ensures
    ∙ ap (λ (x : Stopped). told x c.live-live.result (plus_book x.carried c.live-live.result) c.begun_in.result works.drops.counts) c.stopped-stopped.ensures
    ∙ ap (λ (b : Book). told kept b (plus_book kept.carried b) c.begun_in.result works.drops.counts) live
    ∙ ap (λ (n : ℕ). told kept (live_of seen) sum n works.drops.counts) begun)

pub returns-clause-adds_up : goal.returns-clause-adds_up
returns-clause-adds_up c =
    let works = c.self.inside.works in
    let vs = works.shards.items in
    let live = c.live-live.ensures ∙ ap live_of c.as_slice-shards.ensures.value ∙ sym (live_rested vs) in
    subst (λ (d : Desk). c.plus_book.result ≡ total_of d.tallies) c.self.view_is
    (c.plus_book.ensures
    ∙ ap (λ (x : Stopped). plus_book x.carried c.live-live.result) c.stopped-stopped.ensures
    ∙ ap (plus_book works.accounts.stopped.carried) live
    ∙ seen_adds_up works.tally vs works.accounts.stopped c.self.invariant.0.adds_up)

pub begun_in-requires-clause-few : goal.begun_in-requires-clause-few
begun_in-requires-clause-few c = omega (arith, ap (λ (vs : Shards). length vs) c.as_slice-shards.ensures.value, c.self.invariant.0.shards, c.self.invariant.0.few_shards)

pub begun_in-requires-clause-low : goal.begun_in-requires-clause-low
begun_in-requires-clause-low c =
    subst (λ (vs : Shards). All (λ v. v.state.slots.begun < 2 ^ 48) vs) (sym c.as_slice-shards.ensures.value) (λ k d lt. (c.self.invariant.0.terms k d lt).numbers)

pub returns-clause-each_term : goal.returns-clause-each_term
returns-clause-each_term c =
    let works = c.self.inside.works in
    let vs = works.shards.items in
    subst (λ (d : Desk). c.begun_in.result ≡ c.stopped-stopped.result.stops + live_terms d.shards) c.self.view_is
    (omega (
      arith,
      c.begun_in.ensures,
      ap begun_in c.as_slice-shards.ensures.value,
      ap (λ (x : Stopped). x.stops) c.stopped-stopped.ensures,
      begun_rested vs,
      seen_terms works.tally vs works.accounts.stopped c.self.invariant.0.adds_up,
    ))
