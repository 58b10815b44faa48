use Rattle.std.proofs.Common.{◌≡◌, ◌+◌, ◌≤◌, length, take}
use Rattle.std.specs.List.{sum_by}
use Rattle.bng_ppp.specs.Said.{said}
use Rattle.bng_ppp.specs.IpcpAutomaton.{IpcpDoing, ipcp_why, all_ipcp_acted}
use Rattle.bng_ppp.specs.Room.{sends}
use Rattle.bng_ppp.proofs.ipcp.Ipcp.perform.Given as goal

abbrev pub invariant-loop-action : goal.invariant-loop-action
invariant-loop-action l =
    let now : IpcpDoing = record { ipcp = l.self; said = said l.steps } in
    let first : IpcpDoing = record { ipcp = l.initial.self; said = said l.initial.steps } in
    (now ≡ all_ipcp_acted (ipcp_why l.cause) first (take l.action-index l.actions))
    × (length l.steps.outs.items ≤ length l.initial.steps.outs.items + sum_by sends (take l.action-index l.actions))
