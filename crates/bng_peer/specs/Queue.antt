-- Who stands in a queue.
use Rattle.std.specs.Prelude.{ℕ, Bool, false, List, map, unwrap_or, slice_get}
use Rattle.bng_peer.specs.declared.queue.QueueLink.{QueueLink}
use Rattle.bng_peer.specs.declared.queue.Queue.{Queue}

-- of each number below the bound whether it stands in the queue
abbrev pub marks : Queue → List Bool
marks q = map (λ (l : QueueLink). l.is_in) q.links.items

-- whether this number does
abbrev pub stands_at : List Bool → ℕ → Bool
stands_at list number = unwrap_or (slice_get list number) false
