use Rattle.std.proofs.Common.{◌≡◌, List, ◌++◌}
use Rattle.toml.specs.View.{members_view}
use Rattle.toml.proofs.Views.{Entry}
use Rattle.bng_schema.specs.First.{NoneOf}
use Rattle.bng_schema.specs.Checks.{member_names, IsUnknownIn}
use Rattle.bng_schema.proofs.unknown.unknown_member.Given as goal

-- those of the members so far are known
abbrev pub invariant-loop-key : goal.invariant-loop-key
invariant-loop-key l =
    (done : List Entry) × (l.members.entries ≡ done ++ l.key-iterator) × NoneOf (IsUnknownIn l.of) (member_names (members_view done))
