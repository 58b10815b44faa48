use Rattle.std.proofs.Common.{sym, ap, ◌∙◌, List}
use Rattle.std.specs.List.{flat_map}
use Rattle.bng_base.specs.declared.item.Entry.{Entry}
use Rattle.bng_plant.specs.Parts.{cut, parts_of}
use Rattle.bng_plant.proofs.PartsLaws.{join_cut, length_cut}
use Rattle.bng_plant.proofs.ReaderLaws.{journals_of}
use Rattle.bng_plant.proofs.memory_trace.MemoryTrace.entries.Goals as goal

pub returns : goal.returns
returns c =
    let old = c.args.self.now.rounds in
    ap (λ (l : List (List Entry)). flat_map (λ journal. journal) l)
    (journals_of old.heads.items (parts_of old.allowances) (cut old.counts.items (parts_of old.journals)) (parts_of old.loose) (parts_of old.outs) (parts_of old.refused) (length_cut old.counts.items (parts_of old.journals) ∙ old.counts_column.0) ∙ join_cut old.counts.items (parts_of old.journals) old.counted)
    ∙ sym c.items.ensures
