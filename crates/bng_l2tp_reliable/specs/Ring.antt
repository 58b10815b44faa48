-- The part of a ring of places that holds a queue.
use Rattle.std.specs.Prelude.{ℕ, List, ◌++◌, take, drop}
use Rattle.bng_l2tp_reliable.specs.ChannelState.{Message}

-- the n places from k on, around the end
abbrev pub window : ℕ → ℕ → List Message → List Message
window k n places = take n (drop k places ++ take k places)
