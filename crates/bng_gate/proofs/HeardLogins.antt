-- The question of each login was heard from its subscriber.
use Rattle.std.proofs.Common.{◌≡◌, ℕ, List, [], Option, Some, None, Contains, slice_get, refl, sym, ap, subst, ◌∙◌}
use Rattle.std.specs.List.{All}
use Rattle.std.proofs.lemmas.List.Elements.{All-weaker}
use Rattle.bng_base.specs.declared.address.SessionNo.{SessionNo}
use Rattle.bng_base.specs.declared.circuit.Circuit.{Circuit}
use Rattle.bng_base.specs.declared.circuit.Circuit.TheVariants.{Pppoe, L2tp}
use Rattle.bng_base.specs.declared.item.Entry.{Entry}
use Rattle.bng_base.specs.declared.settings.AccessPort.{AccessPort}
use Rattle.bng_config.specs.declared.config.Config.{Config}
use Rattle.bng_engine.specs.Views.{ShardView}
use Rattle.bng_forward.specs.Fates.{IsFrame}
use Rattle.bng_steps.specs.declared.rules.Rules.{Rules}
use Rattle.bng_steps.specs.declared.way.Way.{Way}
use Rattle.bng_steps.specs.declared.way.Way.TheVariants.{Port, Call}
use Rattle.bng_steps.specs.Claiming.{CarriesOn}
use Rattle.bng_steps.specs.Deed.{arrival_in}
use Rattle.bng_steps.specs.Protocol.{ShardState}
use Rattle.bng_steps.specs.Questions.{asking_from, questions_of}
use Rattle.bng_steps.specs.State.{circuit_in}
use Rattle.bng_desk.specs.Model.{Desk}
use Rattle.bng_desk.specs.Turn.{Turn, items_of}
use Rattle.bng_gate.specs.Granted.{CameOn, Held, IsHeard, Login, held_of, round_of_turn, session_in, stage_at, stages_of}
use Rattle.bng_gate.specs.Replied.{OpenIn, shards_left}
use Rattle.bng_gate.specs.Serving.{Made, MadeEnd, Run, EndRun}
use Rattle.bng_gate.proofs.Arriving.{taken_over, taken_then}
use Rattle.bng_gate.proofs.Follows.{left_after}
use Rattle.bng_gate.proofs.Hearing.{WasAsked, WorkBy, asked_by_then}
use Rattle.bng_gate.proofs.HeldRuns.{HeldRun}
use Rattle.bng_gate.proofs.Holding.{held_run}
use Rattle.bng_gate.proofs.Knowing.{any_at, stands}
use Rattle.bng_gate.proofs.Places.{of_first}
use Rattle.bng_gate.proofs.Reaching.{AreFresh, left_is}
use Rattle.bng_gate.proofs.Verdicts.{of_made, of_end}

-- the shards of which a turn asks are those that its round leaves
asked_of : (d : Desk) (t : Option Turn) → shards_left d t ≡ left_after d.shards (round_of_turn t)
asked_of d None = refl
asked_of d (Some t) = left_is d (items_of d t) t.round

-- a session's circuit has its number
its_session : (w : Way) (n : SessionNo) → session_in (circuit_in w n) ≡ n.0
its_session (Port port mac) n = refl
its_session (Call c) n = refl

module _ (config : Config) (opening over last : Desk) (turns : List Made) (endings : List MadeEnd) (run : Run opening turns over) (ending : EndRun over endings last) (none_kept : opening.kept ≡ [])
    (fresh : AreFresh opening.shards) (r : Rules) (rules : WorkBy r opening.shards) (access : r.access ≡ config.access) where
  abbrev held : List Held
  held = held_of turns endings

  holds : HeldRun opening held last
  holds = held_run opening over last turns endings run ending

  -- the question that a turn asks is the last one of its session, which asked it in that turn or before it
  was_asked : (g : Login) → OpenIn turns g.asked (asking_from g.ask) → (n : ℕ) × WasAsked held r g.asked n (asking_from g.ask)
  was_asked g opens =
      let m = opens.turn in
      let there = any_at (λ (v : ShardView ShardState Entry). Contains (questions_of v.state.slots) (asking_from g.ask)) (shards_left m.desk m.turn) opens.among in
      let last_one = stands there.1.state.slots (asking_from g.ask) there.3 in
      let here = subst (λ (vs : List (ShardView ShardState Entry)). slice_get vs there.0 ≡ Some there.1) (asked_of m.desk m.turn) there.2 in (
        last_one.0,
        asked_by_then opening last held r holds fresh rules g.asked (of_made m) (of_first of_made of_end turns endings g.asked m opens.at) there.0 there.1 here last_one.0 (asking_from g.ask) last_one.1,
      )

  -- what an entry carries of a circuit came on it
  came_on : (g : Login) (n : ℕ) (w : WasAsked held r g.asked n (asking_from g.ask)) (c : Circuit) (ppp : List ℕ) → CarriesOn c w.state.rules w.handled.deed.entry ppp
      → CameOn c config.access (stage_at (stages_of turns endings) w.turn).taken (arrival_in w.handled.deed.entry) ppp
  came_on g n w (Pppoe port mac session) ppp h = record {
    taken_is = taken_then opening over last turns endings run ending none_kept w.turn w.state w.handled w.at port h.kind;
    frame = h.frame;
    came = subst (λ (ports : List AccessPort). IsFrame ports port (arrival_in w.handled.deed.entry) h.frame) (ap (λ (x : Rules). x.access) w.rules ∙ access) h.came;
    no_discovery = h.no_discovery;
    from = h.from;
    session_is = h.session_is;
    ppp_is = h.ppp_is;
  }
  came_on g n w (L2tp peer tunnel session) ppp h = record {
    taken_is = taken_over opening over last turns endings run ending none_kept w.turn w.state w.handled w.at h.kind;
    message = h.message;
    came = h.came;
    from = h.from;
    tunnel_is = h.tunnel_is;
    session_is = h.session_is;
    ppp_is = h.ppp_is;
  }

  heard_of : (g : Login) (n : ℕ) → WasAsked held r g.asked n (asking_from g.ask) → IsHeard config (stages_of turns endings) held g
  heard_of g n w =
      let by = w.by in
      let said = by.heard in
      let number : SessionNo = record { 0 = n } in
      let e = w.handled.deed.entry in
      record {
        turn = w.turn;
        before = w.before;
        arrival = arrival_in e;
        ppp = said.ppp;
        came = subst (λ (c : Circuit). CameOn c config.access (stage_at (stages_of turns endings) w.turn).taken (arrival_in e) said.ppp) (sym by.circuit) (came_on g n w (circuit_in by.x.way number) said.ppp said.carries);
        stands = by.made.link.auth;
        says = said.says;
        session = n;
        session_is = ap session_in by.circuit ∙ its_session by.x.way number;
        asks = record { state = w.state; handled = w.handled; at = w.at; by = by; last = w.last; arrival_is = refl; auth = refl };
      }

  pub all_heard : (gs : List Login) → All (λ g. OpenIn turns g.asked (asking_from g.ask)) gs → All (IsHeard config (stages_of turns endings) held) gs
  all_heard gs opened =
      All-weaker (λ g. OpenIn turns g.asked (asking_from g.ask)) (IsHeard config (stages_of turns endings) held) (λ g opens. let w = was_asked g opens in heard_of g w.0 w.1) gs opened
