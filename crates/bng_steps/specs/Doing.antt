-- What was done with an item.
use Rattle.std.specs.Prelude.{ℕ, List}
use Rattle.bng_base.specs.declared.fate.Fate.{Fate}
use Rattle.bng_base.specs.declared.item.Entry.{Entry}
use Rattle.bng_base.specs.declared.item.Item.{Item}
use Rattle.bng_base.specs.declared.item.OutRecord.{OutRecord}
use Rattle.bng_base.specs.declared.item.At.{At}
use Rattle.bng_steps.specs.State.{State}
use Rattle.bng_steps.specs.Deed.{Deed}
use Rattle.bng_steps.specs.Hearing.{Does}
use Rattle.bng_steps.specs.Protocol.{entry_of}

-- by this relation of entries and deeds, with the item that stood there, at this moment
abbrev pub DoesWith : (Entry → Deed → Type 0) → ℕ → State → State → List OutRecord → List OutRecord → At → ℕ → Item → Fate → Type 0
DoesWith Says most s s' outs outs' a moment item fate =
    let e : Entry = entry_of a.seat a.place moment item in Does (Says e) most s s' outs outs' e fate
