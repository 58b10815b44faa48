-- The turns of a run by what they did to the shards.
use Rattle.std.specs.Prelude.{◌≡◌, ℕ, ◌<◌, ◌^◌, ◌-◌, List, Some, slice_get}
use Rattle.std.specs.List.{Contains}
use Rattle.std.specs.Option.{option_map}
use Rattle.bng_base.specs.declared.item.Item.{Item}
use Rattle.bng_base.specs.Chain.{Chain}
use Rattle.bng_engine.specs.Lists.{AnyOf}
use Rattle.bng_steps.specs.Protocol.{ShardState, Handled}
use Rattle.bng_steps.specs.Questions.{Asking, questions_of}
use Rattle.bng_desk.specs.Model.{Desk}
use Rattle.bng_desk.specs.Turn.{RoundOf, after_round}
use Rattle.bng_gate.specs.Granted.{Held, HandledIn}

-- one turn: its round was made from the desk, and it leaves the shards of the next one
pub record Holds (d : Desk) (h : Held) (d' : Desk) : Type 0 where
  pub desk : h.desk ≡ d
  pub moment : ℕ
  pub items : List Item
  pub round : RoundOf d moment items h.round
  pub shards : d'.shards ≡ (after_round d items h.round).shards

abbrev pub HeldRun : Desk → List Held → Desk → Type 0
HeldRun = Chain Holds

-- no count of questions comes to its end in these turns
abbrev pub HasCount : List Held → Type 0
HasCount held = (k : ℕ) (s : ShardState) (h : Handled) → HandledIn held k s h → h.deed.next.question_count < 2 ^ 64 - 1

-- the question is open in a shard before the turn with this number
pub record OpenBefore (held : List Held) (k : ℕ) (a : Asking) : Type 0 where
  pub desk : Desk
  pub at : option_map (λ h. h.desk) (slice_get held k) ≡ Some desk
  pub among : AnyOf (λ v. Contains (questions_of v.state.slots) a) desk.shards
