use Rattle.std.proofs.Common.{◌+◌, ◌∷◌, ◌++◌, length, arith, length-append}
use Rattle.std.proofs.lemmas.List.Sums.{sum_by-append, sum_by-cons}
use Rattle.bng_acct.specs.Spool.{stop_count}
use Rattle.bng_acct.proofs.Heights.{low, flat_node}
use Rattle.bng_acct.proofs.Marks.{sum_le, stop_count_le}
use Rattle.bng_acct.proofs.tree.fork.Goals as goal

pub overflow_add-note : goal.overflow_add-note
overflow_add-note c =
    let all = length-append c.args.before.value.held (c.args.held ∷ c.args.after.value.held) in
    let first = rw c.deref.ensures at c.height.ensures in
    let second = rw c.deref-2.ensures at c.height-2.ensures in
    let front = low c.args.before.value.held c.args.before.value.height first.flat (omega (arith, c.requires.few, all)) in
    let behind = low c.args.after.value.held c.args.after.value.height second.flat (omega (arith, c.requires.few, all)) in
    omega (arith, c.max.ensures, front, behind, first.value, second.value)

pub overflow_add-note-2 : goal.overflow_add-note-2
overflow_add-note-2 c =
    let all = length-append c.args.before.value.held (c.args.held ∷ c.args.after.value.held) in
    let first = rw c.deref-3.ensures at c.stops.ensures in
    omega (arith, c.requires.few, all, first, c.open_stops.ensures, stop_count_le c.args.held, sum_le stop_count 1 stop_count_le c.args.before.value.held)

pub overflow_add-note-3 : goal.overflow_add-note-3
overflow_add-note-3 c =
    let all = length-append c.args.before.value.held (c.args.held ∷ c.args.after.value.held) in
    let first = rw c.deref-3.ensures at c.stops.ensures in
    let second = rw c.deref-4.ensures at c.stops-2.ensures in
    omega (arith, c.requires.few, all, first, c.open_stops.ensures, second, stop_count_le c.args.held, sum_le stop_count 1 stop_count_le c.args.before.value.held, sum_le stop_count 1 stop_count_le c.args.after.value.held)

pub invariant_of-result : goal.invariant_of-result
invariant_of-result c =
    let front = c.args.before.value.held in
    let behind = c.args.after.value.held in
    let all = length-append front (c.args.held ∷ behind) in
    let first = rw c.deref.ensures at c.height.ensures in
    let second = rw c.deref-2.ensures at c.height-2.ensures in
    let front_stops = rw c.deref-3.ensures at c.stops.ensures in
    let behind_stops = rw c.deref-4.ensures at c.stops-2.ensures in
    record {
      even = c.requires.even;
      height = omega (arith, c.max.ensures, first.value, second.value);
      stops = omega (arith, front_stops, c.open_stops.ensures, behind_stops, sum_by-append stop_count front (c.args.held ∷ behind), sum_by-cons stop_count c.args.held behind);
      flat = flat_node (length front + 1) (length behind + 1) (length (front ++ c.args.held ∷ behind) + 1) c.args.before.value.height c.args.after.value.height _ first.flat second.flat
          (omega arith) (omega arith) c.requires.even (omega (arith, all)) (omega (arith, c.max.ensures, first.value, second.value));
    }
