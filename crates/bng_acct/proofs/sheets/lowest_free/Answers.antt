use Rattle.std.proofs.Common.{◌*◌, arith}
use Rattle.bng_acct.proofs.Tables.{used_le_count}
use Rattle.bng_acct.proofs.sheets.lowest_free.Goals as goal

pub unreachable-requires : goal.unreachable-requires
unreachable-requires c =
    let inv = c.loop-row.invariant in
    let most = used_le_count (64 * c.loop-row.row) c.args.places.now.items (λ m lt. inv.2 m (omega arith) lt) in
    omega (arith, most, inv.1, c.requires.room, c.loop-row-test.false, c.len-row-end.ensures)
