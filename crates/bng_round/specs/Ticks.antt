-- The items of a round of which a shard has one each at most: a Tick and an End.
use Rattle.std.specs.Prelude.{◌≡◌, Bool, true, false, ◌||◌, List}
use Rattle.std.specs.List.{list_any}
use Rattle.bng_base.specs.declared.item.Entry.{Entry}
use Rattle.bng_base.specs.declared.item.ItemKind.{ItemKind}
use Rattle.bng_base.specs.declared.item.ItemKind.TheVariants.{Access, Core, Tunnel, Verdict, Change, Tick, End}

abbrev pub is_tick : ItemKind → Bool
is_tick (Access number) = false
is_tick Core = false
is_tick Tunnel = false
is_tick Verdict = false
is_tick Change = false
is_tick Tick = true
is_tick End = false

abbrev pub is_end : ItemKind → Bool
is_end (Access number) = false
is_end Core = false
is_end Tunnel = false
is_end Verdict = false
is_end Change = false
is_end Tick = false
is_end End = true

-- it names its shard, and no session, tunnel or address
abbrev pub is_for_shard : ItemKind → Bool
is_for_shard kind = is_tick kind || is_end kind

abbrev pub has_tick : List Entry → Bool
has_tick journal = list_any (λ (e : Entry). is_tick e.item.kind) journal

abbrev pub has_end : List Entry → Bool
has_end journal = list_any (λ (e : Entry). is_end e.item.kind) journal

-- a Tick and an End may come once in a round
pub record Admits (journal : List Entry) (kind : ItemKind) : Type 0 where
  pub tick : is_tick kind ≡ true → has_tick journal ≡ false
  pub end : is_end kind ≡ true → has_end journal ≡ false
