-- The meters of a term (RFC 2697): whether a packet exceeds one, and what a packet that passes takes of it.
use Rattle.std.specs.Prelude.{◌≡◌, ℕ, max, Option, None, Some, option_map}
use Rattle.bng_meter.specs.declared.colour.Colour.TheVariants.{Red}
use Rattle.bng_meter.specs.Bucket.{Buckets, colour_of, filled, taken}
use Rattle.bng_forward.specs.declared.view.TermView.{TermView}

-- A packet's moment at a meter: where the clock fell, that of the meter's last packet.
abbrev pub moment_at : Buckets → ℕ → ℕ
moment_at b now = max now b.last

-- The meter marks a packet of so many octets Red. Where there is no meter, nothing is Red.
abbrev pub IsRed : Option Buckets → ℕ → ℕ → Type 0
IsRed meter now octets =
    (b : Buckets) × (meter ≡ Some b) × (colour_of (filled b (moment_at b now)) octets ≡ Red)

-- the meter, if there is one, with the tokens of such a packet taken
abbrev pub spent : Option Buckets → ℕ → ℕ → Option Buckets
spent meter now octets = option_map (λ (b : Buckets). taken b (moment_at b now, octets)) meter

-- What was found for a packet's circuit, once the packet has passed the input meter of the term.
abbrev pub with_input : Option (Option TermView) → ℕ → ℕ → Option (Option TermView)
with_input None now octets = None
with_input (Some None) now octets = Some None
with_input (Some (Some view)) now octets = Some (Some (record view { input = spent view.input now octets }))

-- the holder of a packet's destination, once the packet has passed its output meter
abbrev pub with_output : Option TermView → ℕ → ℕ → Option TermView
with_output None now octets = None
with_output (Some view) now octets = Some (record view { output = spent view.output now octets })
