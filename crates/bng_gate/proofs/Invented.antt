-- Nothing that a run sends of packets is invented: it is what was taken.
use Rattle.std.proofs.Common.{◌≡◌, ℕ, zero, suc, ◌+◌, ◌≤◌, Bool, true, false, cond, List, [], ◌∷◌, ◌++◌, map, Option, Some, None, refl, sym, ap, subst, ◌∙◌, arith}
use Rattle.std.specs.List.{All, AllByRecursion, AllZip, flat_map, range_with_len}
use Rattle.std.specs.Option.{option_map_or}
use Rattle.std.proofs.lemmas.Bool.{false≢true}
use Rattle.std.proofs.lemmas.List.{append-nil}
use Rattle.std.proofs.lemmas.List.Concat.{flat_map-append}
use Rattle.std.proofs.lemmas.List.Elements.{All-nil}
use Rattle.bng_base.specs.declared.address.Ip4.{Ip4}
use Rattle.bng_base.specs.declared.address.Peer.{Peer}
use Rattle.bng_base.specs.declared.item.Item.{Item}
use Rattle.bng_base.specs.declared.item.OutRecord.{OutRecord}
use Rattle.bng_base.specs.declared.outside.Datagram.{Datagram}
use Rattle.bng_base.specs.declared.outside.Role.{Role}
use Rattle.bng_base.specs.declared.outside.Role.TheVariants.{Access, Core, Tunnel, Auth, Acct, Coa, Control}
use Rattle.bng_base.specs.declared.settings.AccessPort.{AccessPort}
use Rattle.bng_base.specs.Chain.{Chain}
use Rattle.bng_config.specs.declared.config.Config.{Config}
use Rattle.bng_config.specs.Rules.{KeepsRules}
use Rattle.bng_engine.specs.Accounted.{nothing_yet}
use Rattle.bng_engine.specs.Histories.{History, NextInShard, ShardHistory, ShardTurn, sends_in}
use Rattle.bng_engine.specs.Journals.{after}
use Rattle.bng_engine.specs.Laws.{RightRound, sends_of}
use Rattle.bng_engine.specs.Lists.{Zip3}
use Rattle.bng_engine.specs.Terms.{Key}
use Rattle.bng_engine.specs.Views.{ShardView, turn_in}
use Rattle.bng_engine.specs.Wire.{WirePacket, datagram_of, is_from, is_to, went}
use Rattle.bng_engine.proofs.Rounds.{in_shards}
use Rattle.bng_engine.proofs.Wire.{went_append}
use Rattle.bng_steps.specs.declared.rules.Rules.{Rules}
use Rattle.bng_steps.specs.Deed.{Deed}
use Rattle.bng_steps.specs.Protocol.{Handled, ShardState, opened, pppoe}
use Rattle.bng_steps.specs.Reader.{pppoe_reader}
use Rattle.bng_steps.specs.Serving.{AreOwn}
use Rattle.bng_steps.specs.State.{State}
use Rattle.bng_steps.specs.Step.{Step as ShardStep}
use Rattle.bng_desk.specs.Model.{Desk}
use Rattle.bng_desk.specs.Opening.{opened_shards, statics_of}
use Rattle.bng_desk.specs.Round.{Round, views_of}
use Rattle.bng_desk.specs.Turn.{RoundOf, Step, Turn, ending_items, items_of}
use Rattle.bng_gate.specs.Granted.{Held, Stage, end_stage_in, held_of, items_of_end, items_of_turn, round_of_end, round_of_turn, sent_by, stage_in, stages_of}
use Rattle.bng_gate.specs.Rounds.{carries_data, end_round_in, history_of, on_data, round_in, rounds_in, rounds_of, turns_of}
use Rattle.bng_gate.specs.Serving.{EndRun, Ends, Late, LateStep, Made, MadeEnd, Run, Waits}
use Rattle.bng_gate.specs.Unchanged.{Arises, IsPassedDown, IsPassedUp, NothingIsInvented, lived_in}
use Rattle.bng_gate.proofs.Arising.{arises_append, arises_none, arises_unfiltered}
use Rattle.bng_gate.proofs.Lists.{all_left, all_right}
use Rattle.bng_gate.proofs.Lived.{IsLiveDesk, end_live, round_known, step_live}
use Rattle.bng_gate.proofs.OpeningFacts.{fresh}
use Rattle.bng_gate.proofs.Passing.{IsKnown, datagrams_in, from_it, step_down, step_up, those, to_it}
use Rattle.bng_gate.proofs.PassingOn.{Works, round_sends, those_append, works_settled}
use Rattle.bng_gate.proofs.Silent.{IsSilent, end_keeps, ending_told, items_told, step_keeps, taken_of}

-- Rounds -------------------------------------------------------------------------------------------------------------------------------

-- the shards work by these rules, and are sound
abbrev pub AllWork : Rules → List (ShardHistory ShardState) → Type 0
AllWork r hs = AllByRecursion (λ (h : ShardHistory ShardState). Works r h.state) hs

next_work : (r : Rules) (hs : List (ShardHistory ShardState)) (ts : List (ShardTurn Handled)) (hs' : List (ShardHistory ShardState)) → Zip3 (NextInShard pppoe) hs ts hs' → AllWork r hs → AllWork r hs'
next_work r [] [] [] next works = tt
next_work r (h ∷ hs) (t ∷ ts) (h' ∷ hs') next works =
    let n = next.0 in
    let is : h'.state ≡ pppoe.settled (after pppoe h.state t.round.journal) = n.settlement.state ∙ ap (λ (s : ShardState). pppoe.settled s) n.round.state in
    (subst (Works r) (sym is) (works_settled r h.state t.round.journal works.0 n.round.steps), next_work r hs ts hs' next.1 works.1)
next_work r hs ts hs' next works = absurd next

-- so it is at the opening
module _ (config : Config) (kept : KeepsRules config) (r : Rules) (now : ℕ) where
  opened_with : (a k : ℕ) → a + k ≤ config.shards → AllWork r (map nothing_yet (views_of (map (λ (n : ℕ). opened n r (statics_of config n) now) (range_with_len a k))))
  opened_with a zero within = tt
  opened_with a (suc k) within =
      let first = fresh config kept r now a (omega (arith, within)) in
      (record { rules = first.rules; sound = first.sound }, opened_with (a + 1) k (omega (arith, within)))

  pub opened_works : AllWork r (map nothing_yet (views_of (opened_shards config r now)))
  opened_works = opened_with 0 config.shards (omega arith)

pub all_sent : (vs : List (ShardView ShardState Handled)) → sends_in (map turn_in vs) ≡ flat_map (λ v. v.sends) vs
all_sent [] = refl
all_sent (v ∷ vs) = ap (λ (os : List OutRecord). v.sends ++ os) (all_sent vs)

-- what a turn sent comes of what it took, by the terms that lived in it, and by these
record Stands (terms : List Key) (R : List Key → Datagram → Datagram → Type 0) (test : WirePacket → Bool) (taken sent : List Datagram) (h : Held) : Type 0 where
  lived : Arises (R (lived_in h)) taken (those test sent)
  in_run : Arises (R terms) taken (those test sent)

module _ (a : Ip4) (test : WirePacket → Bool) (its : (w : WirePacket) → test w ≡ true → w.address ≡ a) (r : Rules) (terms : List Key) (R : List Key → Datagram → Datagram → Type 0)
    (steps : (us : List Key) (s : State) (limited : Bool) (d : Deed) → AreOwn s.sessions → AllByRecursion (IsKnown us) d.outs → ShardStep r s limited d → Arises (R us) (datagrams_in d.entry.item) (those test (map datagram_of d.outs))) where
  -- what is left of a run of rounds
  record Rest (later : List (Option Round)) (last : History ShardState) : Type 0 where
    mid : History ShardState
    works : AllWork r mid.shards
    run : Chain (RightRound pppoe) mid (flat_map turns_of later) last
    known : AllByRecursion (IsKnown terms) (sends_of (flat_map turns_of later))

  -- what a round sends comes of its items
  round_stands : (d : Desk) (moment : ℕ) (items : List Item) (round : Option Round) → RoundOf d moment items round → IsLiveDesk d → (xs : List Datagram) → flat_map datagrams_in items ≡ xs
      → (later : List (Option Round)) (last : History ShardState) → Rest (round ∷ later) last → Stands terms R test xs (sent_by round) (record { desk = d; items = items; round = round }) × Rest later last
  round_stands d moment items None is live xs are later last rest =
      (record { lived = arises_none (R (lived_in (record { desk = d; items = items; round = None }))) xs; in_run = arises_none (R terms) xs }, record { mid = rest.mid; works = rest.works; run = rest.run; known = rest.known })
  round_stands d moment items (Some round) is live xs are later last rest =
      let ts = map turn_in round.shards in
      let right = rest.run.1 in
      let next = in_shards pppoe rest.mid rest.run.0 ts right.round in
      let others = sends_of (flat_map turns_of later) in
      let in_run : AllByRecursion (IsKnown terms) (flat_map (λ v. v.sends) round.shards) =
      subst (AllByRecursion (IsKnown terms)) (all_sent round.shards) (all_left (IsKnown terms) (sends_in ts) others rest.known) in
      let sent : (us : List Key) → AllByRecursion (IsKnown us) (flat_map (λ v. v.sends) round.shards) → Arises (R us) xs (those test (sent_by (Some round))) =
      λ us known. subst (λ (ds : List Datagram). Arises (R us) ds (those test (sent_by (Some round)))) are
      (round_sends a test its r us (R us) (steps us) items round.whose 0 moment rest.mid.shards round.shards rest.run.0.shards next rest.works known is.dealt.parts (right.exclusive a.0)) in (
        record { lived = sent (lived_in (record { desk = d; items = items; round = Some round })) (round_known d moment items round is live); in_run = sent terms in_run },
        record { mid = rest.run.0; works = next_work r rest.mid.shards ts rest.run.0.shards next rest.works; run = rest.run.2; known = all_right (IsKnown terms) (sends_in ts) others rest.known },
      )

  -- what a turn sends comes of what it took
  abbrev StandsAt : Stage → Held → Type 0
  StandsAt s h = Stands terms R test s.taken s.sent h

  turn_stands : (d d' e : Desk) (t : Option Turn) → Step d t d' → All IsSilent d.kept → IsLiveDesk d → (later : List (Option Round)) (last : History ShardState) → Rest (round_in t ∷ later) last
      → StandsAt (stage_in e t) (record { desk = d; items = items_of_turn d t; round = round_of_turn t }) × Rest later last
  turn_stands d d' e None step kept live later last rest = (record { lived = refl; in_run = refl }, record { mid = rest.mid; works = rest.works; run = rest.run; known = rest.known })
  turn_stands d d' e (Some t) step kept live later last rest = round_stands d t.moment (items_of d t) t.round step.1 live (taken_of t.readings) (items_told d t kept step.0.roles) later last rest

  end_stands : (d d' e : Desk) (t : Late) → LateStep d t d' → All IsSilent d.kept → IsLiveDesk d → (later : List (Option Round)) (last : History ShardState) → Rest (end_round_in t ∷ later) last
      → StandsAt (end_stage_in e t) (record { desk = d; items = items_of_end d t; round = round_of_end t }) × Rest later last
  end_stands d d' e (Ends None) step kept live later last rest = (record { lived = refl; in_run = refl }, record { mid = rest.mid; works = rest.works; run = rest.run; known = rest.known })
  end_stands d d' e (Waits t) step kept live later last rest = (record { lived = refl; in_run = refl }, record { mid = rest.mid; works = rest.works; run = rest.run; known = rest.known })
  end_stands d d' e (Ends (Some t)) step kept live later last rest = round_stands d t.moment (ending_items d) t.round step.1 live [] (ending_told d kept) later last rest

  endings_stand : (d d' : Desk) (endings : List MadeEnd) → EndRun d endings d' → All IsSilent d.kept → IsLiveDesk d → (last : History ShardState) → Rest (map (λ m. end_round_in m.turn) endings) last
      → AllZip StandsAt (map (λ m. end_stage_in m.desk m.turn) endings) (map (λ m. record { desk = m.desk; items = items_of_end m.desk m.turn; round = round_of_end m.turn }) endings)
  endings_stand d d' [] goes kept live last rest = tt
  endings_stand d d' (m ∷ endings) goes kept live last rest =
      let here = end_stands d goes.0 m.desk m.turn goes.1.1 kept live (map (λ (x : MadeEnd). end_round_in x.turn) endings) last rest in (
        subst (λ (x : Desk). StandsAt (end_stage_in m.desk m.turn) (record { desk = x; items = items_of_end x m.turn; round = round_of_end m.turn })) (sym goes.1.0) here.0,
        endings_stand goes.0 d' endings goes.2 (end_keeps d goes.0 m.turn goes.1.1 kept) (end_live d goes.0 m.turn goes.1.1 live) last here.1,
      )

  module _ (over end : Desk) (endings : List MadeEnd) (ending : EndRun over endings end) where
    stages_stand : (d : Desk) (turns : List Made) → Run d turns over → All IsSilent d.kept → IsLiveDesk d → (last : History ShardState) → Rest (rounds_in turns endings) last
        → AllZip StandsAt (stages_of turns endings) (held_of turns endings)
    stages_stand d [] goes kept live last rest =
        endings_stand over end endings ending (subst (λ (x : Desk). All IsSilent x.kept) (sym goes) kept) (subst IsLiveDesk (sym goes) live) last rest
    stages_stand d (m ∷ turns) goes kept live last rest =
        let here = turn_stands d goes.0 m.desk m.turn goes.1.1 kept live (rounds_in turns endings) last rest in (
          subst (λ (x : Desk). StandsAt (stage_in m.desk m.turn) (record { desk = x; items = items_of_turn x m.turn; round = round_of_turn m.turn })) (sym goes.1.0) here.0,
          stages_stand goes.0 turns goes.2 (step_keeps d goes.0 m.turn goes.1.1 kept) (step_live d goes.0 m.turn goes.1.1 live) last here.1,
        )

-- by these terms
all_in_run : (terms : List Key) (R : List Key → Datagram → Datagram → Type 0) (test : WirePacket → Bool) (stages : List Stage) (helds : List Held) → AllZip (λ s h. Stands terms R test s.taken s.sent h) stages helds
    → AllByRecursion (λ s. Arises (R terms) s.taken (those test s.sent)) stages
all_in_run terms R test [] [] all = tt
all_in_run terms R test [] (h ∷ helds) all = absurd all
all_in_run terms R test (s ∷ stages) [] all = absurd all
all_in_run terms R test (s ∷ stages) (h ∷ helds) all = (all.0.in_run, all_in_run terms R test stages helds all.1)

-- where what each turn sent comes of what it took, what all of them sent comes of what all took
all_stand : (R : Datagram → Datagram → Type 0) (test : WirePacket → Bool) (stages : List Stage) → AllByRecursion (λ s. Arises R s.taken (those test s.sent)) stages
    → Arises R (flat_map (λ s. s.taken) stages) (those test (flat_map (λ s. s.sent) stages))
all_stand R test [] all = refl
all_stand R test (s ∷ stages) all =
    let later = flat_map (λ (x : Stage). x.sent) stages in
    subst (Arises R (s.taken ++ flat_map (λ (x : Stage). x.taken) stages)) (sym (those_append test s.sent later))
    (arises_append R s.taken (flat_map (λ (x : Stage). x.taken) stages) (those test s.sent) (those test later) all.0 (all_stand R test stages all.1))

-- what the rounds sent is what the stages sent
round_went : (round : Option Round) → went (sends_of (turns_of round)) ≡ sent_by round
round_went None = refl
round_went (Some round) = ap went (append-nil (sends_in (map turn_in round.shards)) ∙ all_sent round.shards)

sends_append : (xs ys : List (List (ShardTurn Handled))) → sends_of (xs ++ ys) ≡ sends_of xs ++ sends_of ys
sends_append xs ys = flat_map-append sends_in xs ys

went_then : (round : Option Round) (later : List (Option Round)) (ds : List Datagram) → went (sends_of (flat_map turns_of later)) ≡ ds → went (sends_of (flat_map turns_of (round ∷ later))) ≡ sent_by round ++ ds
went_then round later ds rest =
    let others = flat_map turns_of later in
    ap went (sends_append (turns_of round) others)
    ∙ went_append (sends_of (turns_of round)) (sends_of others)
    ∙ ap (λ (us : List Datagram). us ++ went (sends_of others)) (round_went round)
    ∙ ap (λ (us : List Datagram). sent_by round ++ us) rest

turn_went : (d : Desk) (t : Option Turn) → sent_by (round_in t) ≡ (stage_in d t).sent
turn_went d None = refl
turn_went d (Some t) = refl

end_went : (d : Desk) (t : Late) → sent_by (end_round_in t) ≡ (end_stage_in d t).sent
end_went d (Ends None) = refl
end_went d (Ends (Some t)) = refl
end_went d (Waits t) = refl

endings_went : (endings : List MadeEnd) → went (sends_of (flat_map turns_of (map (λ m. end_round_in m.turn) endings))) ≡ flat_map (λ s. s.sent) (map (λ m. end_stage_in m.desk m.turn) endings)
endings_went [] = refl
endings_went (m ∷ endings) =
    let later = flat_map (λ (s : Stage). s.sent) (map (λ (x : MadeEnd). end_stage_in x.desk x.turn) endings) in
    went_then (end_round_in m.turn) (map (λ (x : MadeEnd). end_round_in x.turn) endings) later (endings_went endings) ∙ ap (λ (ds : List Datagram). ds ++ later) (end_went m.desk m.turn)

pub stages_went : (turns : List Made) (endings : List MadeEnd) → went (sends_of (rounds_of turns endings)) ≡ flat_map (λ s. s.sent) (stages_of turns endings)
stages_went [] endings = endings_went endings
stages_went (m ∷ turns) endings =
    let later = flat_map (λ (s : Stage). s.sent) (stages_of turns endings) in
    went_then (round_in m.turn) (rounds_in turns endings) later (stages_went turns endings) ∙ ap (λ (ds : List Datagram). ds ++ later) (turn_went m.desk m.turn)

-- Runs ---------------------------------------------------------------------------------------------------------------------------------

-- what is read as a packet is of a role that may carry packets
no_packet : (role : Role) (octets : List ℕ) → carries_data role ≡ false → pppoe_reader role octets ≡ None
no_packet (Access port) octets e = absurd (false≢true (sym e))
no_packet Core octets e = absurd (false≢true (sym e))
no_packet Tunnel octets e = absurd (false≢true (sym e))
no_packet Auth octets e = refl
no_packet Acct octets e = refl
no_packet Coa octets e = refl
no_packet Control octets e = refl

those_on_data : (test : WirePacket → Bool) (ds : List Datagram) → those test (on_data ds) ≡ those test ds
those_on_data test [] = refl
those_on_data test (d ∷ ds) = by (carries_data d.role) refl (those_on_data test ds)
  where
    by : (b : Bool) → carries_data d.role ≡ b → those test (on_data ds) ≡ those test ds → those test (cond b (d ∷ on_data ds) (on_data ds)) ≡ those test (d ∷ ds)
    by true is rest = ap (λ (us : List Datagram). cond (option_map_or test (pppoe_reader d.role d.octets) false) (d ∷ us) us) rest
    by false is rest =
        rest ∙ sym (ap (λ (w : Option WirePacket). cond (option_map_or test w false) (d ∷ those test ds) (those test ds)) (no_packet d.role d.octets is))

module _ (config : Config) where
  abbrev Up : Ip4 → List Key → Datagram → Datagram → Type 0
  Up a us = IsPassedUp config.access config.core_peer us a

  abbrev Down : Ip4 → List Key → Datagram → Datagram → Type 0
  Down a us = IsPassedDown config.access config.core_peer us a

  -- in both directions, for each address
  both_stand : (terms : List Key) (stages : List Stage) (helds : List Held) → ((a : Ip4) → AllZip (λ s h. Stands terms (Up a) (is_from a) s.taken s.sent h) stages helds) → ((a : Ip4) → AllZip (λ s h. Stands terms (Down a) (is_to a) s.taken s.sent h) stages helds)
      → AllZip (λ s h. NothingIsInvented config (lived_in h) s.taken s.sent) stages helds
  both_stand terms [] [] up down = tt
  both_stand terms [] (h ∷ helds) up down = absurd (up (record { 0 = 0 }))
  both_stand terms (s ∷ stages) [] up down = absurd (up (record { 0 = 0 }))
  both_stand terms (s ∷ stages) (h ∷ helds) up down = (record { up = λ a. (up a).0.lived; down = λ a. (down a).0.lived }, both_stand terms stages helds (λ a. (up a).1) (λ a. (down a).1))

module _ (config : Config) (r : Rules) (access : r.access ≡ config.access) (core : r.core_peer ≡ config.core_peer) (opening over last : Desk) (turns : List Made) (endings : List MadeEnd)
    (run : Run opening turns over) (ending : EndRun over endings last) (none_kept : opening.kept ≡ []) (live : IsLiveDesk opening) (works : AllWork r (history_of opening).shards)
    (history : History ShardState) (rounds : Chain (RightRound pppoe) (history_of opening) (rounds_of turns endings) history)
    (terms : List Key) (known : AllByRecursion (IsKnown terms) (sends_of (rounds_of turns endings))) where
  -- in a direction
  stands_in : (a : Ip4) (test : WirePacket → Bool) (its : (w : WirePacket) → test w ≡ true → w.address ≡ a) (R : List Key → Datagram → Datagram → Type 0)
      → ((us : List Key) (s : State) (limited : Bool) (d : Deed) → AreOwn s.sessions → AllByRecursion (IsKnown us) d.outs → ShardStep r s limited d → Arises (R us) (datagrams_in d.entry.item) (those test (map datagram_of d.outs)))
      → AllZip (λ s h. Stands terms R test s.taken s.sent h) (stages_of turns endings) (held_of turns endings)
  stands_in a test its R steps =
      stages_stand a test its r terms R steps over last endings ending opening turns run (subst (All IsSilent) (sym none_kept) (All-nil IsSilent)) live history
      (record { mid = history_of opening; works = works; run = rounds; known = known })

  up_steps : (a : Ip4) (us : List Key) (s : State) (limited : Bool) (d : Deed) → AreOwn s.sessions → AllByRecursion (IsKnown us) d.outs → ShardStep r s limited d → Arises (Up config a us) (datagrams_in d.entry.item) (those (is_from a) (map datagram_of d.outs))
  up_steps a us s limited d own known is =
      subst (λ (ports : List AccessPort). Arises (IsPassedUp ports config.core_peer us a) (datagrams_in d.entry.item) (those (is_from a) (map datagram_of d.outs))) access
      (subst (λ (peer : Peer). Arises (IsPassedUp r.access peer us a) (datagrams_in d.entry.item) (those (is_from a) (map datagram_of d.outs))) core (step_up a r us s limited d own known is))

  down_steps : (a : Ip4) (us : List Key) (s : State) (limited : Bool) (d : Deed) → AreOwn s.sessions → AllByRecursion (IsKnown us) d.outs → ShardStep r s limited d → Arises (Down config a us) (datagrams_in d.entry.item) (those (is_to a) (map datagram_of d.outs))
  down_steps a us s limited d own known is =
      subst (λ (ports : List AccessPort). Arises (IsPassedDown ports config.core_peer us a) (datagrams_in d.entry.item) (those (is_to a) (map datagram_of d.outs))) access
      (subst (λ (peer : Peer). Arises (IsPassedDown r.access peer us a) (datagrams_in d.entry.item) (those (is_to a) (map datagram_of d.outs))) core (step_down a r us s limited d own known is))

  up_stages : (a : Ip4) → AllZip (λ s h. Stands terms (Up config a) (is_from a) s.taken s.sent h) (stages_of turns endings) (held_of turns endings)
  up_stages a = stands_in a (is_from a) (λ w is. (from_it a w is).1) (Up config a) (up_steps a)

  down_stages : (a : Ip4) → AllZip (λ s h. Stands terms (Down config a) (is_to a) s.taken s.sent h) (stages_of turns endings) (held_of turns endings)
  down_stages a = stands_in a (is_to a) (λ w is. (to_it a w is).1) (Down config a) (down_steps a)

  -- what each turn sent of packets comes of what it took
  pub stages_invent_nothing : AllZip (λ s h. NothingIsInvented config (lived_in h) s.taken s.sent) (stages_of turns endings) (held_of turns endings)
  stages_invent_nothing = both_stand config terms (stages_of turns endings) (held_of turns endings) up_stages down_stages

  -- and what a run sent
  module _ (taken sent : List Datagram) (items : on_data taken ≡ flat_map (λ s. s.taken) (stages_of turns endings)) (sends : on_data sent ≡ on_data (went (sends_of (rounds_of turns endings)))) where
    arises_in : (test : WirePacket → Bool) (R : Datagram → Datagram → Type 0) → AllByRecursion (λ s. Arises R s.taken (those test s.sent)) (stages_of turns endings) → Arises R taken (those test sent)
    arises_in test R all =
        let out = went (sends_of (rounds_of turns endings)) in
        let stages = stages_of turns endings in
        let same : those test (flat_map (λ (s : Stage). s.sent) stages) ≡ those test sent =
        ap (those test) (sym (stages_went turns endings)) ∙ sym (those_on_data test out) ∙ ap (those test) (sym sends) ∙ those_on_data test sent in
        arises_unfiltered R (λ (d : Datagram). carries_data d.role) taken (those test sent)
        (subst (λ (ds : List Datagram). Arises R ds (those test sent)) (sym items)
        (subst (Arises R (flat_map (λ (s : Stage). s.taken) stages)) same (all_stand R test stages all)))

    pub nothing_invented : NothingIsInvented config terms taken sent
    nothing_invented = record {
      up = λ a. arises_in (is_from a) (Up config a terms) (all_in_run terms (Up config a) (is_from a) (stages_of turns endings) (held_of turns endings) (up_stages a));
      down = λ a. arises_in (is_to a) (Down config a terms) (all_in_run terms (Down config a) (is_to a) (stages_of turns endings) (held_of turns endings) (down_stages a));
    }
