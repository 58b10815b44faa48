-- The Identifiers of the packets that the gateway originates, by RFC 1661 section 5: each takes the next one, and a request
-- that the timer sends again keeps its own. A Configure-Request whose last one was answered takes a new one in any case.
use Rattle.std.specs.Prelude.{ℕ, ◌+◌, ◌%◌, Bool, true, false, ◌&&◌, not, if◌then◌else◌}
use Rattle.bng_ppp.specs.declared.identifiers.Identifiers.{Identifiers}

-- identifiers rise by one, modulo 256
abbrev pub next_of : ℕ → ℕ
next_of id = (id + 1) % 256

-- those of an automaton that has sent nothing
abbrev pub first_ids : Identifiers
first_ids = record { next = 1; request = 0; terminate = 0; answered = true }

-- Those once a Configure-Request is sent. It keeps its identifier where the timer sends it again and no reply came.
abbrev pub requested : Bool → Identifiers → Identifiers
requested timed ids =
    if timed && not ids.answered then record ids { answered = false }
    else record ids { request = ids.next; next = next_of ids.next; answered = false }

-- those once a Terminate-Request is sent
abbrev pub ending : Bool → Identifiers → Identifiers
ending timed ids = if timed then ids else record ids { terminate = ids.next; next = next_of ids.next }
