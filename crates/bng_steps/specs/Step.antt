-- A step of a shard: what it does with one entry.
use Rattle.std.specs.Prelude.{◌≡◌, Bool}
use Rattle.bng_base.specs.declared.item.Claim.{Claim}
use Rattle.bng_base.specs.declared.item.Claim.TheVariants.{NoClaim}
use Rattle.bng_base.specs.declared.item.Entry.{Entry}
use Rattle.bng_base.specs.declared.item.ItemKind.{ItemKind}
use Rattle.bng_base.specs.declared.item.ItemKind.TheVariants.{Access, Core, Tunnel, Verdict, Change, Tick, End}
use Rattle.bng_steps.specs.declared.rules.Rules.{Rules}
use Rattle.bng_steps.specs.State.{State}
use Rattle.bng_steps.specs.Changes.{HearsChange}
use Rattle.bng_steps.specs.Deed.{Deed}
use Rattle.bng_steps.specs.Frames.{HearsAccess, HearsCore}
use Rattle.bng_steps.specs.Datagrams.{HearsTunnel}
use Rattle.bng_steps.specs.Timers.{HearsTick, HearsEnd}
use Rattle.bng_steps.specs.Verdicts.{HearsVerdict}

-- by the kind of the item, and whether the shard's allowance of new terms is used up
abbrev pub Hears : ItemKind → Rules → State → Bool → Entry → Deed → Type 0
Hears (Access number) r s limited e d = HearsAccess r s e number d
Hears Core r s limited e d = HearsCore r s e d
Hears Tunnel r s limited e d = HearsTunnel r s e d
Hears Verdict r s limited e d = HearsVerdict r s e limited d
Hears Change r s limited e d = HearsChange r s e d
Hears Tick r s limited e d = HearsTick r s e d
Hears End r s limited e d = HearsEnd r s e d

-- a verdict alone asks for an address
abbrev pub MayClaim : ItemKind → Claim → Type 0
MayClaim (Access number) claim = claim ≡ NoClaim
MayClaim Core claim = claim ≡ NoClaim
MayClaim Tunnel claim = claim ≡ NoClaim
MayClaim Verdict claim = Unit {0}
MayClaim Change claim = claim ≡ NoClaim
MayClaim Tick claim = claim ≡ NoClaim
MayClaim End claim = claim ≡ NoClaim

-- An entry does what its item calls for; its claim is what was answered where it asked for an address.
pub record Step (r : Rules) (s : State) (limited : Bool) (d : Deed) : Type 0 where
  pub claim : MayClaim d.entry.item.kind d.entry.claim
  pub hears : Hears d.entry.item.kind r s limited d.entry d
