use Rattle.std.proofs.Common.{◌≡◌, ℕ, ◌<◌, true}
use Rattle.std.specs.List.{list_any}
use Rattle.bng_coa.specs.Requests.{is_numbered}
use Rattle.bng_coa.proofs.requests.ChangeRequests.free_number.Given as goal

abbrev pub invariant-loop-number : goal.invariant-loop-number
invariant-loop-number l = (n : ℕ) → n < l.number → list_any (is_numbered n) l.self ≡ true
