use Rattle.std.proofs.Common.{◌≡◌, ◌+◌, ◌≤◌, length, take}
use Rattle.std.specs.List.{sum_by}
use Rattle.bng_ppp.specs.Said.{said}
use Rattle.bng_ppp.specs.Automaton.{why, Doing, all_acted}
use Rattle.bng_ppp.specs.Room.{sends}
use Rattle.bng_ppp.proofs.lcp_link.LcpLink.perform.Given as goal

abbrev pub invariant-loop-action : goal.invariant-loop-action
invariant-loop-action l =
    let now : Doing = record { link = l.self; said = said l.steps } in
    let first : Doing = record { link = l.initial.self; said = said l.initial.steps } in
    (now ≡ all_acted (why l.cause) l.echo l.now first (take l.action-index l.actions))
    × (length l.steps.outs.items ≤ length l.initial.steps.outs.items + sum_by sends (take l.action-index l.actions))
