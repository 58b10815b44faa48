-- The calls of a tunnel, by rising session number.
use Rattle.std.specs.Prelude.{ℕ, Bool, ◌==◌, not, nat_lt, List, ◌∷◌, ◌++◌, filter, find, Option, None}
use Rattle.bng_base.specs.declared.address.SessionNo.{SessionNo}
use Rattle.bng_lac.specs.declared.call.LacCall.{LacCall}

abbrev pub is_call : ℕ → LacCall → Bool
is_call session c = c.session.0 == session

-- the call of a session
abbrev pub call_of : ℕ → List LacCall → Option LacCall
call_of session calls = find (is_call session) calls

-- the calls with this one at its place, where it stands in for one of the same session
abbrev pub with_call : LacCall → List LacCall → List LacCall
with_call c calls = filter (λ d. nat_lt d.session.0 c.session.0) calls ++ c ∷ filter (λ d. nat_lt c.session.0 d.session.0) calls

-- the calls without that of a session
abbrev pub without_call : ℕ → List LacCall → List LacCall
without_call session calls = filter (λ d. not (is_call session d)) calls

-- the call of a session that is not up
abbrev pub new_call : SessionNo → LacCall
new_call session = record { session = session; peer = None }
