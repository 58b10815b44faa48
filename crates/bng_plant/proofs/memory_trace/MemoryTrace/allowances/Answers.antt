use Rattle.std.proofs.Common.{sym, ◌∙◌}
use Rattle.bng_plant.specs.Parts.{cut, parts_of}
use Rattle.bng_plant.proofs.ReaderLaws.{allowances_of}
use Rattle.bng_plant.proofs.memory_trace.MemoryTrace.allowances.Goals as goal

pub returns : goal.returns
returns c =
    let old = c.args.self.now.rounds in
    allowances_of old.heads.items (parts_of old.allowances) (cut old.counts.items (parts_of old.journals)) (parts_of old.loose) (parts_of old.outs) (parts_of old.refused) old.allowances_column.0 ∙ sym c.items.ensures
