-- Each question that a link asked last was asked by an entry that a shard handled.
use Rattle.std.proofs.Common.{◌≡◌, inl, inr, ℕ, suc, ◌≤◌, List, Some, sym, ap, ◌∙◌, arith}
use Rattle.std.specs.Prelude.{slice_get}
use Rattle.std.proofs.lemmas.Option.{none-some}
use Rattle.bng_base.specs.declared.item.Entry.{Entry}
use Rattle.bng_engine.specs.Views.{ShardView}
use Rattle.bng_steps.specs.declared.rules.Rules.{Rules}
use Rattle.bng_steps.specs.Claiming.{IsAskedBy}
use Rattle.bng_steps.specs.Granting.{IsSound}
use Rattle.bng_steps.specs.Protocol.{ShardState, Handled}
use Rattle.bng_steps.specs.Questions.{Asking, last_asking_at}
use Rattle.bng_steps.specs.Step.{Step}
use Rattle.bng_steps.proofs.ClaimLaws.{step_heard}
use Rattle.bng_steps.proofs.GrantLaws.{settled_sound, step_sound}
use Rattle.bng_desk.specs.Model.{Desk}
use Rattle.bng_gate.specs.Granted.{Held, HandledIn}
use Rattle.bng_gate.proofs.Accepting.{last_stayed}
use Rattle.bng_gate.proofs.Follows.{left_after}
use Rattle.bng_gate.proofs.HeldRuns.{HeldRun}
use Rattle.bng_gate.proofs.Reaching.{AreFresh, HoldsAt, IsKept, at_first, from_then, left}

-- in this turn or before it, by an entry that a shard of these rules handled, the session with this number asked this question last
pub record WasAsked (held : List Held) (r : Rules) (k n : ℕ) (a : Asking) : Type 0 where
  pub turn : ℕ
  pub before : turn ≤ k
  pub state : ShardState
  pub handled : Handled
  pub at : HandledIn held turn state handled
  pub rules : state.rules ≡ r
  pub by : IsAskedBy state.rules state.slots handled.deed n a
  pub last : last_asking_at handled.deed.next n ≡ Some a

-- the shards of a desk work by these rules
abbrev pub WorkBy : Rules → List (ShardView ShardState Entry) → Type 0
WorkBy r shards = (p : ℕ) (v : ShardView ShardState Entry) → slice_get shards p ≡ Some v → v.state.rules ≡ r

-- What each state of a run has: it is sound, its rules stay, and what its sessions asked last was asked so.
record IsTraced (held : List Held) (r : Rules) (k p : ℕ) (s : ShardState) : Type 0 where
  sound : IsSound s.slots
  rules : s.rules ≡ r
  asked : (n : ℕ) (a : Asking) → last_asking_at s.slots n ≡ Some a → WasAsked held r k n a

module _ (held : List Held) (r : Rules) where
  asked_later : (k n : ℕ) (a : Asking) → WasAsked held r k n a → WasAsked held r (suc k) n a
  asked_later k n a w =
      let le = w.before in
      record { turn = w.turn; before = omega (arith, le); state = w.state; handled = w.handled; at = w.at; rules = w.rules; by = w.by; last = w.last }

  -- an entry asks, or leaves what was asked before
  asked_after : (k : ℕ) (s : ShardState) (h : Handled) (i : HandledIn held k s h) → Step s.rules s.slots h.limited h.deed → IsTraced held r k i.place s
      → (n : ℕ) (a : Asking) → last_asking_at h.deed.next n ≡ Some a → WasAsked held r k n a
  asked_after k s h i step traced n a is = elim (step_heard s.rules s.slots h.limited h.deed traced.sound step n a is) [
    | inl before ↦ traced.asked n a before
    | inr now ↦ let same : k ≤ k = omega arith in record { turn = k; before = same; state = s; handled = h; at = i; rules = traced.rules; by = now; last = is }
  ]

  traced_kept : IsKept held (IsTraced held r)
  traced_kept = record {
    steps = λ k s h i step traced. record {
      sound = step_sound s.rules s.slots h.limited h.deed step traced.sound;
      rules = traced.rules;
      asked = asked_after k s h i step traced;
    };
    settles = λ k p s traced. record {
      sound = settled_sound s.slots traced.sound;
      rules = traced.rules;
      asked = λ n a is. asked_later k n a (traced.asked n a (last_stayed s.slots n a is));
    };
    rests = λ k p s traced. record { sound = traced.sound; rules = traced.rules; asked = λ n a is. asked_later k n a (traced.asked n a is) };
  }

  traced_at : (opening last : Desk) → HeldRun opening held last → AreFresh opening.shards → WorkBy r opening.shards → (k : ℕ) → HoldsAt held (IsTraced held r) k
  traced_at opening last run fresh rules k =
      let le : 0 ≤ k = omega arith in
      from_then held (IsTraced held r) traced_kept opening last run 0 k le
      (at_first held (IsTraced held r) traced_kept opening last run (λ p v at.
      let new = fresh p v at in
      record { sound = new.sound; rules = rules p v at; asked = λ n a is. absurd (none-some a (sym (new.silent n) ∙ is)) }))

-- what a session asked last once a turn is over was asked in that turn or before it
pub asked_by_then : (opening last : Desk) (held : List Held) (r : Rules) → HeldRun opening held last → AreFresh opening.shards → WorkBy r opening.shards
    → (k : ℕ) (t : Held) → slice_get held k ≡ Some t → (p : ℕ) (v : ShardView ShardState Entry) → slice_get (left_after t.desk.shards t.round) p ≡ Some v
    → (n : ℕ) (a : Asking) → last_asking_at v.state.slots n ≡ Some a → WasAsked held r k n a
asked_by_then opening last held r run fresh rules k t at p v here n a is =
    let x = left held (IsTraced held r) (traced_kept held r) opening last run k t at (traced_at held r opening last run fresh rules k) p v here in
    elim x.is [
      | inl settles ↦ x.holds.asked n a (last_stayed x.before.slots n a (ap (λ (s : ShardState). last_asking_at s.slots n) (sym settles) ∙ is))
      | inr rests ↦ x.holds.asked n a (ap (λ (s : ShardState). last_asking_at s.slots n) (sym rests) ∙ is)
    ]
