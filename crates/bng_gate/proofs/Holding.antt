-- The turns of a run, by what they did to the shards.
use Rattle.std.proofs.Common.{◌≡◌, List, [], map, Option, Some, None, ap}
use Rattle.bng_base.proofs.ChainLaws.{chain_append}
use Rattle.bng_desk.specs.Model.{Desk}
use Rattle.bng_desk.specs.Turn.{Turn, Step, items_of, ending_items}
use Rattle.bng_gate.specs.Granted.{held_of, items_of_end, items_of_turn, round_of_turn, round_of_end}
use Rattle.bng_gate.specs.Serving.{Made, MadeEnd, Late, Ends, Waits, LateStep, Goes, GoesEnding, Run, EndRun}
use Rattle.bng_gate.proofs.Follows.{chain_map}
use Rattle.bng_gate.proofs.HeldRuns.{Holds, HeldRun}
use Rattle.bng_gate.proofs.Verdicts.{of_made, of_end}

step_holds : (d d' e : Desk) (t : Option Turn) → e ≡ d → Step d t d' → Holds d (record { desk = e; items = items_of_turn e t; round = round_of_turn t }) d'
step_holds d d' e None is step = record { desk = is; moment = 0; items = []; round = tt; shards = ap (λ (x : Desk). x.shards) step }
step_holds d d' e (Some t) is step = record { desk = is; moment = t.moment; items = items_of d t; round = step.1; shards = ap (λ (x : Desk). x.shards) step.5 }

end_holds : (d d' e : Desk) (t : Late) → e ≡ d → LateStep d t d' → Holds d (record { desk = e; items = items_of_end e t; round = round_of_end t }) d'
end_holds d d' e (Ends None) is step = record { desk = is; moment = 0; items = []; round = tt; shards = ap (λ (x : Desk). x.shards) step }
end_holds d d' e (Ends (Some t)) is step = record { desk = is; moment = t.moment; items = ending_items d; round = step.1; shards = ap (λ (x : Desk). x.shards) step.5 }
end_holds d d' e (Waits t) is step = record { desk = is; moment = 0; items = []; round = tt; shards = ap (λ (x : Desk). x.shards) step.after }

pub held_run : (opening over last : Desk) (turns : List Made) (endings : List MadeEnd) → Run opening turns over → EndRun over endings last → HeldRun opening (held_of turns endings) last
held_run opening over last turns endings run ending =
    chain_append Holds opening over last (map of_made turns) (map of_end endings)
    (chain_map Goes Holds of_made (λ d m d' h. step_holds d d' m.desk m.turn h.0 h.1) opening over turns run)
    (chain_map GoesEnding Holds of_end (λ d m d' h. end_holds d d' m.desk m.turn h.0 h.1) over last endings ending)
