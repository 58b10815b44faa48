use Rattle.std.proofs.Common.{◌≡◌, ◌≤◌, length, take, vec_capacity}
use Rattle.bng_desk.proofs.copying.profiles_copied.Given as goal

-- the profiles so far were copied
abbrev pub invariant-loop-profile : goal.invariant-loop-profile
invariant-loop-profile l = record {
  same : l.copies.items ≡ take l.profile-index l.profiles;
  done : length l.copies.items ≡ l.profile-index;
  room : length l.profiles ≤ vec_capacity l.copies;
}
