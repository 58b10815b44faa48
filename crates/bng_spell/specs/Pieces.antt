-- Digits of numbers, and kinds and roles that are no access port.
use Rattle.std.specs.Prelude.{◌≡◌, ◌≢◌, ℕ, List, length, slice_index}
use Rattle.bng_base.specs.declared.outside.Role.{Role}
use Rattle.bng_base.specs.declared.outside.Role.TheVariants.{Access, Core, Tunnel, Auth, Acct, Coa, Control}
use Rattle.bng_base.specs.declared.item.ItemKind.{ItemKind}
use Rattle.bng_base.specs.declared.item.ItemKind.TheVariants.{Access as OfAccess, Core as OfCore, Tunnel as OfTunnel, Verdict, Change, Tick, End}

abbrev pub IsNoPort : ItemKind → Type 0
IsNoPort (OfAccess n) = ⊥
IsNoPort OfCore = Unit {0}
IsNoPort OfTunnel = Unit {0}
IsNoPort Verdict = Unit {0}
IsNoPort Change = Unit {0}
IsNoPort Tick = Unit {0}
IsNoPort End = Unit {0}

abbrev pub IsNoPortRole : Role → Type 0
IsNoPortRole (Access n) = ⊥
IsNoPortRole Core = Unit {0}
IsNoPortRole Tunnel = Unit {0}
IsNoPortRole Auth = Unit {0}
IsNoPortRole Acct = Unit {0}
IsNoPortRole Coa = Unit {0}
IsNoPortRole Control = Unit {0}

-- no plus sign, and no leading zero
pub record IsUnsigned (text : List ℕ) : Type 0 where
  pub sign : slice_index text 0 ≢ 43
  pub lead : slice_index text 0 ≡ 48 → length text ≡ 1
