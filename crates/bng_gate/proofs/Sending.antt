-- What a turn sent for its round is what its shards had to send for entries.
use Rattle.std.proofs.Common.{◌≡◌, ℕ, zero, suc, List, [], ◌∷◌, ◌++◌, Option, Some, None, filter, slice_get, refl, sym, ap, subst, ◌∙◌, arith, append_assoc}
use Rattle.std.specs.List.{AllByRecursion, AllZip, Contains}
use Rattle.std.specs.Option.{option_map}
use Rattle.std.proofs.lemmas.List.Elements.{All-contains, All-contains_itself, All-from_recursion, recursion_from_All}
use Rattle.std.proofs.lemmas.Option.{same_Some, none-some}
use Rattle.bng_base.specs.declared.item.Entry.{Entry}
use Rattle.bng_base.specs.declared.item.OutRecord.{OutRecord}
use Rattle.bng_base.specs.declared.outside.Datagram.{Datagram}
use Rattle.bng_engine.specs.Calls.{Moves, all_sends}
use Rattle.bng_engine.specs.Journals.{after, outs_of, unsent}
use Rattle.bng_engine.specs.Showing.{with_journal}
use Rattle.bng_engine.specs.Views.{ShardView}
use Rattle.bng_engine.specs.Wire.{datagram_of, went}
use Rattle.bng_engine.proofs.Everywhere.{all_append, all_filter, all_mapped, all_weaker}
use Rattle.bng_engine.proofs.Journals.{after_more}
use Rattle.bng_steps.specs.Protocol.{ShardState, Handled, pppoe}
use Rattle.bng_desk.specs.Model.{Desk}
use Rattle.bng_desk.specs.Round.{Round, views_of}
use Rattle.bng_desk.specs.Turn.{Turn, RoundOf}
use Rattle.bng_gate.specs.Granted.{Held, SentBy, held_of, sent_by, stage_in, end_stage_in, stage_at, stages_of, round_of_turn, round_of_end}
use Rattle.bng_gate.specs.Serving.{Made, MadeEnd, Late, Ends, Waits}
use Rattle.bng_gate.proofs.Addressing.{all_map}
use Rattle.bng_gate.proofs.HeldRuns.{Holds, HeldRun}
use Rattle.bng_gate.proofs.Lists.{all_by_place}
use Rattle.bng_gate.proofs.Places.{link_at}

-- A shard's part of a round ----------------------------------------------------------------------------------------------

moves_at : (shards : List (ShardView ShardState Entry)) (vs : List (ShardView ShardState Handled)) → AllZip (Moves pppoe) (views_of shards) vs → (place : ℕ) (v : ShardView ShardState Handled) → slice_get vs place ≡ Some v
    → (w : ShardView ShardState Entry) × (slice_get shards place ≡ Some w) × Moves pppoe (with_journal w []) v
moves_at [] [] moves place v at = absurd (none-some v at)
moves_at [] (x ∷ vs) moves place v at = absurd moves
moves_at (w ∷ shards) [] moves place v at = absurd moves
moves_at (w ∷ shards) (x ∷ vs) moves zero v at = (w, refl, subst (λ (y : ShardView ShardState Handled). Moves pppoe (with_journal w []) y) (same_Some x v at) moves.0)
moves_at (w ∷ shards) (x ∷ vs) moves (suc place) v at = moves_at shards vs moves.1 place v at

module _ (held : List Held) (k : ℕ) (turn : Held) (at : slice_get held k ≡ Some turn) (round : Round) (opened : turn.round ≡ Some round) where
  abbrev Is : OutRecord → Type 0
  Is o = SentBy held k (datagram_of o)

  module _ (place : ℕ) (v : ShardView ShardState Handled) (here : slice_get round.shards place ≡ Some v) (w : ShardView ShardState Entry) (was : slice_get turn.desk.shards place ≡ Some w) where
    -- what an entry had to send
    entry_sends : (earlier later : List Handled) (h : Handled) → v.journal ≡ earlier ++ h ∷ later → AllByRecursion Is h.deed.outs
    entry_sends earlier later h is =
        all_weaker (Contains h.deed.outs) Is
        (λ o among. record {
          state = after pppoe w.state earlier;
          handled = h;
          out = o;
          at = record {
            turn = turn;
            at = at;
            round = round;
            opened = opened;
            place = place;
            before = w.state;
            was = ap (option_map (λ (x : ShardView ShardState Entry). x.state)) was;
            earlier = earlier;
            later = later;
            journal = ap (option_map (λ (x : ShardView ShardState Handled). x.journal)) here ∙ ap (λ (hs : List Handled). Some hs) is;
            state = refl;
          };
          among = among;
          role = refl;
          to = refl;
          frame = refl;
        })
        h.deed.outs (recursion_from_All (Contains h.deed.outs) h.deed.outs (All-contains_itself h.deed.outs))

    journal_sends : (earlier rest : List Handled) → v.journal ≡ earlier ++ rest → AllByRecursion Is (outs_of pppoe (after pppoe w.state earlier) rest)
    journal_sends earlier [] is = tt
    journal_sends earlier (h ∷ rest) is =
        all_append Is h.deed.outs (outs_of pppoe ((pppoe).next (after pppoe w.state earlier) h) rest)
        (entry_sends earlier rest h is)
        (subst (λ (s : ShardState). AllByRecursion Is (outs_of pppoe s rest)) (after_more pppoe w.state earlier h) (journal_sends (earlier ++ h ∷ []) rest (is ∙ sym (append_assoc earlier (h ∷ []) rest))))

    shard_sends : Moves pppoe (with_journal w []) v → AllByRecursion Is v.sends
    shard_sends moves = all_mapped Is unsent v.sends (subst (AllByRecursion Is) (sym moves.outs) (journal_sends [] v.journal refl))

  flat_sends : (vs : List (ShardView ShardState Handled)) → AllByRecursion (λ v. AllByRecursion Is v.sends) vs → AllByRecursion Is (all_sends vs)
  flat_sends [] all = tt
  flat_sends (v ∷ vs) all = all_append Is v.sends (all_sends vs) all.0 (flat_sends vs all.1)

  round_sends : AllZip (Moves pppoe) (views_of turn.desk.shards) round.shards → (d : Datagram) → Contains (went (all_sends round.shards)) d → SentBy held k d
  round_sends moves d sent =
      let each : AllByRecursion (λ (v : ShardView ShardState Handled). AllByRecursion Is v.sends) round.shards =
      all_by_place (λ (v : ShardView ShardState Handled). AllByRecursion Is v.sends) round.shards
      (λ place v here. let m = moves_at turn.desk.shards round.shards moves place v here in shard_sends place v here m.0 m.1 m.2) in
      let all : AllByRecursion (SentBy held k) (went (all_sends round.shards)) =
      all_map (SentBy held k) datagram_of (filter (λ (o : OutRecord). o.sent) (all_sends round.shards))
      (all_filter Is (λ (o : OutRecord). o.sent) (all_sends round.shards) (flat_sends round.shards each)) in
      All-contains (SentBy held k) (went (all_sends round.shards)) d (All-from_recursion (SentBy held k) (went (all_sends round.shards)) all) sent

-- A turn ------------------------------------------------------------------------------------------------------------------

abbrev sent_of : Option Held → List Datagram
sent_of None = []
sent_of (Some h) = sent_by h.round

turn_sent : (d : Desk) (t : Option Turn) → (stage_in d t).sent ≡ sent_by (round_of_turn t)
turn_sent d None = refl
turn_sent d (Some t) = refl

end_sent : (d : Desk) (t : Late) → (end_stage_in d t).sent ≡ sent_by (round_of_end t)
end_sent d (Ends None) = refl
end_sent d (Ends (Some t)) = refl
end_sent d (Waits t) = refl

sent_is : (turns : List Made) (endings : List MadeEnd) (k : ℕ) → (stage_at (stages_of turns endings) k).sent ≡ sent_of (slice_get (held_of turns endings) k)
sent_is [] [] k = refl
sent_is [] (m ∷ endings) zero = end_sent m.desk m.turn
sent_is [] (m ∷ endings) (suc k) = sent_is [] endings k
sent_is (m ∷ turns) endings zero = turn_sent m.desk m.turn
sent_is (m ∷ turns) endings (suc k) = sent_is turns endings k

none_there : {X : Type 0} (x : X) → Contains [] x → ⊥
none_there x h = omega (arith, h.1)

module _ (opening last : Desk) (held : List Held) (run : HeldRun opening held last) where
  of_round : (k : ℕ) (turn : Held) → slice_get held k ≡ Some turn → (round : Option Round) → turn.round ≡ round → (d : Datagram) → Contains (sent_by round) d → SentBy held k d
  of_round k turn at None is d sent = absurd (none_there d sent)
  of_round k turn at (Some round) is d sent =
      let link = link_at Holds (λ n d. Unit {0}) held (λ n s s' t at holds p. tt) opening last run tt k turn at in
      let holds = link.is in
      let a : RoundOf link.before holds.moment holds.items (Some round) = subst (λ (o : Option Round). RoundOf link.before holds.moment holds.items o) is holds.round in
      round_sends held k turn at round is (subst (λ (x : Desk). AllZip (Moves pppoe) (views_of x.shards) round.shards) (sym holds.desk) a.turn.shards) d sent

  of_held : (k : ℕ) (o : Option Held) → slice_get held k ≡ o → (d : Datagram) → Contains (sent_of o) d → SentBy held k d
  of_held k None at d sent = absurd (none_there d sent)
  of_held k (Some turn) at d sent = of_round k turn at turn.round refl d sent

pub sent_by_handled : (opening last : Desk) (turns : List Made) (endings : List MadeEnd) → HeldRun opening (held_of turns endings) last → (k : ℕ) (d : Datagram) → Contains (stage_at (stages_of turns endings) k).sent d → SentBy (held_of turns endings) k d
sent_by_handled opening last turns endings run k d sent =
    of_held opening last (held_of turns endings) run k (slice_get (held_of turns endings) k) refl d (subst (λ (ds : List Datagram). Contains ds d) (sent_is turns endings k) sent)
