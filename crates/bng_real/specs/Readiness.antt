-- Which sockets a receive is to ask: by the place of a role, whether it is ready.
use Rattle.std.specs.Prelude.{◌≡◌, ◌<◌, ℕ, Bool, true, false, List, slice_index_or}
use Rattle.mio.specs.declared.event.event.Event.{Event}
use Rattle.mio.specs.Event.{event_token}

-- the sockets that were ready are so still
abbrev pub StaysReady : List Bool → List Bool → Type 0
StaysReady old new = (place : ℕ) → slice_index_or old place false ≡ true → slice_index_or new place false ≡ true

-- the socket that an event names is ready
abbrev pub IsReady : List Bool → Event → Type 0
IsReady ready event = (event_token event).0 < 262 → slice_index_or ready (event_token event).0 false ≡ true
