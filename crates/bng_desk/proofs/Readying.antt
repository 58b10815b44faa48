-- The shards are made ready, one after the other.
use Rattle.std.proofs.Common.{◌≡◌, ℕ, ◌+◌, ◌<◌, List, [], length, get_or, set, refl, subst, ◌∙◌, arith}
use Rattle.std.specs.List.{All, AllZip}
use Rattle.std.proofs.lemmas.List.Elements.{AllZip-get_or, length_all_zip}
use Rattle.bng_base.specs.declared.item.Entry.{Entry}
use Rattle.bng_engine.specs.Calls.{Kept, IsReady}
use Rattle.bng_engine.specs.Views.{ShardView}
use Rattle.bng_engine.proofs.Walks.{Walked, walk_all, walk_more, walk_stop, walk_weaker}
use Rattle.bng_steps.specs.declared.rules.Rules.{Rules}
use Rattle.bng_steps.specs.Protocol.{ShardState}
use Rattle.bng_desk.specs.Allowing.{allowance_of}
use Rattle.bng_desk.specs.Taking.{IsEmpty, HasRows, AreInOrder}

abbrev pub Shards : Type 0
Shards = List (ShardView ShardState Entry)

-- of each term that began a Start was formed
abbrev pub OwesNone : ShardView ShardState Entry → Type 0
OwesNone v = v.state.slots.news ≡ []

-- it works by these rules
abbrev pub WorksBy : Rules → ShardView ShardState Entry → Type 0
WorksBy r v = v.state.rules ≡ r

-- what each step of a walk over the shards keeps
pub all_right : (R : ShardView ShardState Entry → ShardView ShardState Entry → Type 0) (P : ShardView ShardState Entry → Type 0) → ((x y : ShardView ShardState Entry) → R x y → P y) → (vs ws : Shards) → AllZip R vs ws → All P ws
all_right R P f vs ws zip k d lt =
    let within : k < length vs = omega (arith, lt, length_all_zip R vs ws zip) in
    f (get_or vs k d) (get_or ws k d) (AllZip-get_or R vs ws k d d zip within)

pub order_kept : (R : ShardView ShardState Entry → ShardView ShardState Entry → Type 0) → ((x y : ShardView ShardState Entry) → R x y → y.number ≡ x.number) → (vs ws : Shards) → AllZip R vs ws → AreInOrder vs → AreInOrder ws
order_kept R f vs ws zip order k d lt =
    let within : k < length vs = omega (arith, lt, length_all_zip R vs ws zip) in
    f (get_or vs k d) (get_or ws k d) (AllZip-get_or R vs ws k d d zip within) ∙ order k d within

pub all_onward : (R : ShardView ShardState Entry → ShardView ShardState Entry → Type 0) (P : ShardView ShardState Entry → Type 0) → ((x y : ShardView ShardState Entry) → R x y → P x → P y) → (vs ws : Shards) → AllZip R vs ws → All P vs → All P ws
all_onward R P f vs ws zip all k d lt =
    let within : k < length vs = omega (arith, lt, length_all_zip R vs ws zip) in
    f (get_or vs k d) (get_or ws k d) (AllZip-get_or R vs ws k d d zip within) (all k d within)

-- a shard that was made ready, by its share of so many new terms, and one that was only kept
pub record IsMadeReady (items free shards : ℕ) (v v' : ShardView ShardState Entry) : Type 0 where
  pub kept : Kept v v'
  pub ready : IsReady items (allowance_of free shards v) v'
  pub rows : HasRows v'

pub record IsLeft (v v' : ShardView ShardState Entry) : Type 0 where
  pub kept : Kept v v'
  pub empty : IsEmpty v → IsEmpty v'

left_itself : (v : ShardView ShardState Entry) → IsLeft v v
left_itself v = record { kept = record { number = refl; state = refl; rows = refl; books = refl }; empty = λ h. h }

module _ (n free count : ℕ) where
  abbrev Ready : ShardView ShardState Entry → ShardView ShardState Entry → Type 0
  Ready v w = IsMadeReady n free count v w

  ready_left : (v w : ShardView ShardState Entry) → Ready v w → IsLeft v w
  ready_left v w h = record { kept = h.kept; empty = λ e. (h.ready.journal, h.ready.outs) }

  -- all were made ready
  pub all_ready : (olds shards : Shards) (i : ℕ) → i ≡ length olds → length shards ≡ length olds → Walked Ready olds shards i → AllZip Ready olds shards
  all_ready olds shards i e same w = walk_all Ready olds shards same (subst (λ (k : ℕ). Walked Ready olds shards k) e w)

  -- where one wanted memory, those after it are as they were
  pub some_ready : (olds shards : Shards) (i : ℕ) (d v : ShardView ShardState Entry) → i < length olds → Walked Ready olds shards i → IsLeft (get_or shards i d) v → AllZip IsLeft olds (set shards i v)
  some_ready olds shards i d v lt w here =
      walk_stop IsLeft left_itself olds (set shards i v) (i + 1) (walk_more IsLeft olds shards i d v lt (walk_weaker Ready IsLeft ready_left olds shards i w) here)
