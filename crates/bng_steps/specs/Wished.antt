-- What an item asks of the pools of addresses.
use Rattle.std.specs.Prelude.{◌≡◌, ◌⊎◌, Bool, true, List, Some, slice_get}
use Rattle.std.specs.List.{list_any}
use Rattle.bng_base.specs.declared.item.Claim.{Claim}
use Rattle.bng_base.specs.declared.item.Item.{Item}
use Rattle.bng_base.specs.declared.item.ItemKind.{ItemKind}
use Rattle.bng_base.specs.declared.item.ItemKind.TheVariants.{Access, Core, Tunnel, Verdict, Change, Tick, End}
use Rattle.bng_base.specs.declared.settings.NamedRange.{NamedRange}
use Rattle.bng_steps.specs.declared.rules.Rules.{Rules}
use Rattle.bng_steps.specs.declared.wish.Wish.{Wish}
use Rattle.bng_steps.specs.declared.wish.Wish.TheVariants.{Nothing, Address, Pool}
use Rattle.bng_steps.specs.Questions.{open_number_at}
use Rattle.bng_steps.specs.State.{State}
use Rattle.bng_steps.specs.Wishes.{IsAnswerTo, Wishes, is_within}

-- a verdict asks as its octets say, where the question that it names is open, and else nothing
abbrev pub WishesVerdict : Rules → State → Item → Bool → Wish → Type 0
WishesVerdict r s item limited wish =
    ((open_number_at s item.target ≡ Some item.ask) × Wishes r limited item.frame.payload wish)
    ⊎ ((¬ (open_number_at s item.target ≡ Some item.ask)) × (wish ≡ Nothing))

-- no other item asks anything
abbrev pub WishesFor : ItemKind → Rules → State → Item → Bool → Wish → Type 0
WishesFor (Access number) r s item limited wish = wish ≡ Nothing
WishesFor Core r s item limited wish = wish ≡ Nothing
WishesFor Tunnel r s item limited wish = wish ≡ Nothing
WishesFor Verdict r s item limited wish = WishesVerdict r s item limited wish
WishesFor Change r s item limited wish = wish ≡ Nothing
WishesFor Tick r s item limited wish = wish ≡ Nothing
WishesFor End r s item limited wish = wish ≡ Nothing

-- what the item asks, where the shard's allowance of new terms is used up or is not
abbrev pub IsWished : Rules → State → Item → Bool → Wish → Type 0
IsWished r s item limited wish = WishesFor item.kind r s item limited wish

-- this was answered to what the item asks
pub record IsAnswered (r : Rules) (s : State) (item : Item) (limited : Bool) (claim : Claim) : Type 0 where
  pub wish : Wish
  pub is_wished : IsWished r s item limited wish
  pub answers : IsAnswerTo r.pools wish claim

-- what may be wished for: an address that a pool has, or a pool that is there
abbrev pub MayWish : List NamedRange → Wish → Type 0
MayWish pools Nothing = Unit {0}
MayWish pools (Address a) = list_any (is_within a.0) pools ≡ true
MayWish pools (Pool k) = (p : NamedRange) × (slice_get pools k ≡ Some p)
