-- By what the terms of a shard are metered, and their meters (RFC 2697).
use Rattle.std.specs.Prelude.{ℕ, Bool, true, false, List, [], ◌∷◌, Option, Some, None, slice_get, slice_index_or}
use Rattle.std.specs.List.{position}
use Rattle.std.specs.Option.{option_map}
use Rattle.std.specs.Str.{bytes_eq}
use Rattle.bng_base.specs.declared.address.Ip4.{Ip4}
use Rattle.bng_base.specs.declared.address.SessionNo.{SessionNo}
use Rattle.bng_base.specs.declared.book.Profile.{Profile}
use Rattle.bng_forward.specs.declared.view.TermView.{TermView}
use Rattle.bng_forward.specs.Meters.{spent}
use Rattle.bng_meter.specs.Bucket.{started}
use Rattle.bng_steps.specs.declared.meters.Meters.{Meters}
use Rattle.bng_steps.specs.declared.meters.Plan.{Plan}
use Rattle.bng_steps.specs.declared.session.Lease.{Lease}
use Rattle.bng_steps.specs.declared.session.Session.{Session}
use Rattle.bng_steps.specs.Passing.{place_in}
use Rattle.bng_steps.specs.State.{mru_in, passes_in}

-- Plans ------------------------------------------------------------------------------------------------------------------

-- the plan of a profile that stands at this place
abbrev pub plan_in : ℕ → Option Profile → Plan
plan_in place None = record { profile = place; up = None; down = None }
plan_in place (Some p) = record { profile = place; up = p.up; down = p.down }

-- the plan of the profile at this place
abbrev pub plan_at : List Profile → ℕ → Plan
plan_at profiles place = plan_in place (slice_get profiles place)

-- of a peer that is refused, and so has no term
abbrev pub unmetered : Plan
unmetered = plan_in 0 None

abbrev pub is_called : List ℕ → Profile → Bool
is_called name p = bytes_eq p.name.items name

abbrev pub first_place : List Profile → Option ℕ
first_place [] = None
first_place (p ∷ ps) = Some 0

-- the place of the profile that an Accept names (Filter-Id, RFC 2865 section 5.11), and of the first where it names none
abbrev pub place_for : List Profile → Option (List ℕ) → Option ℕ
place_for profiles None = first_place profiles
place_for profiles (Some name) = position (is_called name) profiles

-- by what the term is metered that the Accept allows
abbrev pub plan_for : List Profile → Option (List ℕ) → Option Plan
plan_for profiles name = option_map (plan_at profiles) (place_for profiles name)

-- Meters -----------------------------------------------------------------------------------------------------------------

-- a session that has no term has no meters, nor has a term of a profile without rates
abbrev pub no_meters : Meters
no_meters = record { input = None; output = None }

-- "The token buckets C and E are initially (at time 0) full" (RFC 2697 section 3): a term of this plan begins so, at this moment
abbrev pub meters_of : Plan → ℕ → Meters
meters_of plan now = record {
  input = option_map (λ r. started r now) plan.up;
  output = option_map (λ r. started r now) plan.down;
}

-- the meters of the session with this number
abbrev pub meters_at : List Meters → SessionNo → Meters
meters_at meters n = slice_index_or meters (place_in n) no_meters

-- once a packet of so many octets from the subscriber passed at this moment, or one towards it, its tokens are taken
abbrev pub spent_input : Meters → ℕ → ℕ → Meters
spent_input ms now octets = record ms { input = spent ms.input now octets }

abbrev pub spent_output : Meters → ℕ → ℕ → Meters
spent_output ms now octets = record ms { output = spent ms.output now octets }

-- What forwarding looks at of a term ---------------------------------------------------------------------------------------

-- of a session's live term, whose meters are these
abbrev pub view_of : Meters → Session → Option TermView
view_of ms x = option_map (λ (l : Lease). record { lease = l.address; opened = passes_in x.service; mru = mru_in x.service; input = ms.input; output = ms.output }) x.lease

-- the same, with the session's own
abbrev pub view_in : List Meters → Session → Option TermView
view_in meters x = view_of (meters_at meters x.number) x

-- of a term that has ended and still has this address, if there is one: it is not open
abbrev pub kept_view : Bool → Ip4 → Option TermView
kept_view true a = Some (record { lease = a; opened = false; mru = 1492; input = None; output = None })
kept_view false a = None

-- the meters that a view has
abbrev pub meters_in : Option TermView → Meters
meters_in None = no_meters
meters_in (Some view) = record { input = view.input; output = view.output }

-- and those of the term that was found for a frame
abbrev pub meters_found : Option (Option TermView) → Meters
meters_found None = no_meters
meters_found (Some view) = meters_in view
