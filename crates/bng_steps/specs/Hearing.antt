-- What the handling of one entry leaves.
use Rattle.std.specs.Prelude.{◌≡◌, ℕ, ◌≤◌, List, ◌++◌, length}
use Rattle.bng_base.specs.declared.fate.Fate.{Fate}
use Rattle.bng_base.specs.declared.item.Entry.{Entry}
use Rattle.bng_base.specs.declared.item.ItemKind.{ItemKind}
use Rattle.bng_base.specs.declared.item.ItemKind.TheVariants.{Access, Core, Tunnel, Verdict, Change, Tick, End}
use Rattle.bng_base.specs.declared.item.OutRecord.{OutRecord}
use Rattle.bng_steps.specs.State.{State}
use Rattle.bng_steps.specs.Deed.{Deed}

-- how many outs an entry has at most
abbrev pub outs_most : ItemKind → ℕ
outs_most (Access number) = 10
outs_most Core = 10
outs_most Tunnel = 10
outs_most Verdict = 10
outs_most Change = 10
outs_most Tick = 320
outs_most End = 320

-- A part of a shard did what this relation says: its outs stand after those before, and its state is the new one.
pub record Does (Says : Deed → Type 0) (most : ℕ) (s s' : State) (outs outs' : List OutRecord) (e : Entry) (fate : Fate) : Type 0 where
  pub deed : Deed
  pub entry : deed.entry ≡ e
  pub fate_is : deed.fate ≡ fate
  pub next : deed.next ≡ s'
  pub says : Says deed
  pub outs_are : outs' ≡ outs ++ deed.outs
  pub few : length deed.outs ≤ most
