-- What is due where the request that was sent first is.
use Rattle.std.proofs.Common.{◌≡◌, ℕ, ◌+◌, true, leb, List, Option, sym, ap, ◌∙◌}
use Rattle.bng_rad_client.specs.declared.pending.Pending.{Pending}
use Rattle.bng_rad_client.specs.declared.due.LastSend.{LastSend}
use Rattle.bng_rad_client.specs.declared.due.Sought.TheVariants.{Endless, Any}
use Rattle.bng_rad_client.specs.Due.{is_sought, IsOldestBelow, OneBelow}

pub one_due : (places : List (Option Pending)) (now : ℕ) (first : LastSend) → IsOldestBelow (is_sought Any 0) places 256 first → leb (first.sent_at + 3000) now ≡ true
    → OneBelow (is_sought Endless now) places 256
one_due places now first oldest late = record {
  id = first.id;
  request = oldest.request;
  below = oldest.below;
  is = oldest.is;
  wants = ap (λ (n : ℕ). leb (n + 3000) now) (sym oldest.moment) ∙ late;
}
