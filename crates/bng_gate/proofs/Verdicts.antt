-- Each yes that a shard handles is a datagram that was taken from Auth in that turn or before it.
use Rattle.std.proofs.Common.{◌≡◌, inl, inr, ℕ, ◌+◌, ◌≤◌, Bool, true, false, cond, List, [], ◌∷◌, ◌++◌, Option, Some, None, length, slice_get, sym, ap, subst, ◌∙◌, arith}
use Rattle.std.specs.List.{All}
use Rattle.std.specs.Option.{option_map}
use Rattle.std.proofs.lemmas.List.Elements.{All-append, All-nil, All-weaker}
use Rattle.bng_base.specs.declared.item.Item.{Item}
use Rattle.bng_steps.specs.Granting.{GivesYes}
use Rattle.bng_steps.specs.Protocol.{ShardState, Handled}
use Rattle.bng_desk.specs.Coa.{change_items}
use Rattle.bng_desk.specs.Items.{drawn_from, ends_of, kept_of, taken_items, ticks_of}
use Rattle.bng_desk.specs.Logins.{reply_items, timeout_items}
use Rattle.bng_desk.specs.Model.{Desk}
use Rattle.bng_desk.specs.Round.{Round}
use Rattle.bng_desk.specs.Turn.{Turn, RoundOf, Step, IsReading, after_round, ending_items, has_end, items_of, new_items}
use Rattle.bng_desk.proofs.Drawing.{drawn_all}
use Rattle.bng_gate.specs.Granted.{Held, HandledIn, held_of, items_of_end, items_of_turn, round_of_turn, round_of_end}
use Rattle.bng_gate.specs.Serving.{Made, MadeEnd, Late, Ends, Waits, LateStep, Goes, GoesEnding, Run, EndRun}
use Rattle.bng_gate.proofs.Entries.{entry_holds}
use Rattle.bng_gate.proofs.Places.{InFirst, InSecond, link_at, chain_end, in_both}
use Rattle.bng_gate.proofs.YesItems.{HasCause, WasTaken, question_no, later_cause, changes_caused, drawn_caused, ends_caused, kept_caused, replies_caused, taken_caused, ticks_caused, timeout_caused, readings_else}

-- what stays for the next turn
pub kept_after : (P : Item → Type 0) (d : Desk) (items : List Item) (round : Option Round) → All P (kept_of items) → All P (after_round d items round).kept
kept_after P d items None all = all
kept_after P d items (Some round) all = All-nil P

module _ (turns : List Made) where
  abbrev Caused : ℕ → Item → Type 0
  Caused k = HasCause turns k

  abbrev AreCaused : ℕ → Desk → Type 0
  AreCaused k d = All (Caused k) d.kept

  later : (k : ℕ) (items : List Item) → All (Caused k) items → All (Caused (k + 1)) items
  later k items all = let le : k ≤ k + 1 = omega arith in All-weaker (Caused k) (Caused (k + 1)) (later_cause turns k (k + 1) le) items all

  -- the items of a turn
  items_caused : (k : ℕ) (d : Desk) (t : Turn) → slice_get turns k ≡ Some (record { desk = d; turn = Some t }) → IsReading d t → AreCaused k d → All (Caused (k + 1)) (items_of d t)
  items_caused k d t at reading kept =
      let P = Caused (k + 1) in
      All-append P d.kept (drawn_from d.seed d.drawn (new_items d t)) (later k d.kept kept)
      (drawn_all P (drawn_caused turns (k + 1)) d.seed d.drawn (new_items d t)
      (All-append P (change_items t.requested) (reply_items t.answers ++ taken_items t.readings ++ timeout_items t.timed ++ ticks_of t.moment d.shards) (changes_caused turns (k + 1) t.requested)
      (All-append P (reply_items t.answers ++ taken_items t.readings ++ timeout_items t.timed) (ticks_of t.moment d.shards)
      (All-append P (reply_items t.answers ++ taken_items t.readings) (timeout_items t.timed)
      (All-append P (reply_items t.answers) (taken_items t.readings)
      (replies_caused turns k (record { desk = d; turn = Some t }) at)
      (taken_caused turns (k + 1) t.readings (readings_else d t reading.roles)))
      (timeout_caused turns (k + 1) t.timed))
      (ticks_caused turns (k + 1) d t.moment))))

  step_keeps : (k : ℕ) (d d' : Desk) (t : Option Turn) → slice_get turns k ≡ Some (record { desk = d; turn = t }) → Step d t d' → AreCaused k d → AreCaused (k + 1) d'
  step_keeps k d d' None at step kept = subst (All (Caused (k + 1))) (sym (ap (λ (x : Desk). x.kept) step)) (later k d.kept kept)
  step_keeps k d d' (Some t) at step kept =
      subst (All (Caused (k + 1))) (sym (ap (λ (x : Desk). x.kept) step.5))
      (kept_after (Caused (k + 1)) d (items_of d t) t.round (kept_caused turns (k + 1) (items_of d t) (items_caused k d t at step.0 kept)))

  go_keeps : (k : ℕ) (d d' : Desk) (m : Made) → slice_get turns k ≡ Some m → Goes d m d' → AreCaused k d → AreCaused (k + 1) d'
  go_keeps k d d' m at goes kept =
      step_keeps k d d' m.turn (subst (λ (x : Desk). slice_get turns k ≡ Some (record { desk = x; turn = m.turn })) goes.0 at) goes.1 kept

  -- the items of a turn of the ending
  ending_caused : (k : ℕ) (d : Desk) → AreCaused k d → All (Caused k) (ending_items d)
  ending_caused k d kept = by (has_end d.kept)
    where
      by : (b : Bool) → All (Caused k) (cond b d.kept (d.kept ++ drawn_from d.seed d.drawn (ends_of (length d.shards))))
      by true = kept
      by false = All-append (Caused k) d.kept (drawn_from d.seed d.drawn (ends_of (length d.shards))) kept (drawn_all (Caused k) (drawn_caused turns k) d.seed d.drawn (ends_of (length d.shards)) (ends_caused turns k (length d.shards)))

  end_keeps : (k : ℕ) (d d' : Desk) (t : Late) → LateStep d t d' → AreCaused k d → AreCaused k d'
  end_keeps k d d' (Ends None) step kept = subst (All (Caused k)) (sym (ap (λ (x : Desk). x.kept) step)) kept
  end_keeps k d d' (Waits t) step kept = subst (All (Caused k)) (sym (ap (λ (x : Desk). x.kept) step.after)) kept
  end_keeps k d d' (Ends (Some t)) step kept =
      subst (All (Caused k)) (sym (ap (λ (x : Desk). x.kept) step.5))
      (kept_after (Caused k) d (ending_items d) t.round (kept_caused turns k (ending_items d) (ending_caused k d kept)))

  -- The entry of a round is one of its items.
  handled_caused : (k : ℕ) (d : Desk) (moment : ℕ) (items : List Item) (round : Option Round) (r : Round) → round ≡ Some r → RoundOf d moment items round → All (Caused k) items
      → (place : ℕ) (earlier later : List Handled) (h : Handled) → option_map (λ v. v.journal) (slice_get r.shards place) ≡ Some (earlier ++ h ∷ later)
      → Caused k h.deed.entry.item
  handled_caused k d moment items None r opened is all place earlier later h journal = absurd cc
  handled_caused k d moment items (Some round) r opened is all place earlier later h journal =
      entry_holds (Caused k) d.rules d.shards d.pool d.tallies moment items r (subst (λ (o : Option Round). RoundOf d moment items o) opened is) all place earlier later h journal

  yes_item : (k : ℕ) (h : Handled) → Caused k h.deed.entry.item → (session ask : ℕ) → GivesYes h.deed.entry session ask → WasTaken turns k (question_no session ask) h.deed.entry.item.frame.payload
  yes_item k h caused session ask tells = caused session ask (record { kind = tells.kind; target = tells.target; number = tells.number; verdict = tells.verdict; says = tells.says; yes = tells.yes })

  turn_caused : (k : ℕ) (d d' : Desk) (t : Option Turn) → slice_get turns k ≡ Some (record { desk = d; turn = t }) → Step d t d' → AreCaused k d → (r : Round) → round_of_turn t ≡ Some r
      → (place : ℕ) (earlier later : List Handled) (h : Handled) → option_map (λ v. v.journal) (slice_get r.shards place) ≡ Some (earlier ++ h ∷ later)
      → Caused (k + 1) h.deed.entry.item
  turn_caused k d d' None at step kept r opened place earlier later h journal = absurd cc
  turn_caused k d d' (Some t) at step kept r opened place earlier later h journal =
      handled_caused (k + 1) d t.moment (items_of d t) t.round r opened step.1 (items_caused k d t at step.0 kept) place earlier later h journal

  end_turn_caused : (k : ℕ) (d d' : Desk) (t : Late) → LateStep d t d' → AreCaused k d → (r : Round) → round_of_end t ≡ Some r
      → (place : ℕ) (earlier later : List Handled) (h : Handled) → option_map (λ v. v.journal) (slice_get r.shards place) ≡ Some (earlier ++ h ∷ later)
      → Caused k h.deed.entry.item
  end_turn_caused k d d' (Ends None) step kept r opened place earlier later h journal = absurd cc
  end_turn_caused k d d' (Waits t) step kept r opened place earlier later h journal = absurd cc
  end_turn_caused k d d' (Ends (Some t)) step kept r opened place earlier later h journal =
      handled_caused k d t.moment (ending_items d) t.round r opened step.1 (ending_caused k d kept) place earlier later h journal

abbrev pub of_made : Made → Held
of_made m = record { desk = m.desk; items = items_of_turn m.desk m.turn; round = round_of_turn m.turn }

abbrev pub of_end : MadeEnd → Held
of_end m = record { desk = m.desk; items = items_of_end m.desk m.turn; round = round_of_end m.turn }

module _ (opening over last : Desk) (turns : List Made) (endings : List MadeEnd) (run : Run opening turns over) (ending : EndRun over endings last) (fresh : opening.kept ≡ []) where
  none_kept : AreCaused turns 0 opening
  none_kept = subst (All (HasCause turns 0)) (sym fresh) (All-nil (HasCause turns 0))

  serving : (k : ℕ) (s : ShardState) (h : Handled) (x : HandledIn (held_of turns endings) k s h) → InFirst of_made turns k x.turn → HasCause turns (k + 1) h.deed.entry.item
  serving k s h x f =
      let link = link_at Goes (AreCaused turns) turns (go_keeps turns) opening over run none_kept k f.it f.at in
      turn_caused turns k link.before link.after f.it.turn
      (subst (λ (d : Desk). slice_get turns k ≡ Some (record { desk = d; turn = f.it.turn })) link.is.0 f.at)
      link.is.1 link.holds x.round (ap (λ (t : Held). t.round) f.is ∙ x.opened) x.place x.earlier x.later h x.journal

  in_ending : (k : ℕ) (s : ShardState) (h : Handled) (x : HandledIn (held_of turns endings) k s h) → InSecond of_end turns endings k x.turn → HasCause turns (k + 1) h.deed.entry.item
  in_ending k s h x e =
      let n = length turns in
      let kept : AreCaused turns n over = chain_end Goes (AreCaused turns) turns (go_keeps turns) opening over run none_kept in
      let link = link_at GoesEnding (λ i d. AreCaused turns n d) endings (λ i d d' m at goes k. end_keeps turns n d d' m.turn goes.1 k) over last ending kept e.place e.it e.at in
      let le : n ≤ k + 1 = omega (arith, e.past) in
      later_cause turns n (k + 1) le h.deed.entry.item
      (end_turn_caused turns n link.before link.after e.it.turn link.is.1 link.holds x.round (ap (λ (t : Held). t.round) e.is ∙ x.opened) x.place x.earlier x.later h x.journal)

  pub verdicts_are_replies : (k : ℕ) (s : ShardState) (h : Handled) → HandledIn (held_of turns endings) k s h → (session ask : ℕ) → GivesYes h.deed.entry session ask
      → WasTaken turns (k + 1) (question_no session ask) h.deed.entry.item.frame.payload
  verdicts_are_replies k s h x session ask tells = yes_item turns (k + 1) h caused session ask tells
    where
      caused : HasCause turns (k + 1) h.deed.entry.item
      caused = elim (in_both of_made of_end turns endings k x.turn x.at) [ inl f ↦ serving k s h x f | inr e ↦ in_ending k s h x e ]
