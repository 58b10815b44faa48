-- The two token buckets of RFC 2697, filled token by token.
use Rattle.std.specs.Prelude.{ℕ, zero, suc, ◌+◌, ◌-◌, ◌*◌, ◌/◌, ◌≤◌, nat_lt, nat_le, Bool, true, false, List, [], ◌∷◌, if◌then◌else◌}
use Rattle.bng_base.specs.declared.book.Rate.{Rate}
use Rattle.bng_meter.specs.declared.colour.Colour.{Colour}
use Rattle.bng_meter.specs.declared.colour.Colour.TheVariants.{Green, Yellow, Red}

-- a meter's rate, the moments of its start and of its last packet, and its token counts Tc and Te
pub record Buckets : Type 0 where
  pub rate : Rate
  pub start : ℕ
  pub last : ℕ
  pub committed : ℕ
  pub excess : ℕ

-- a packet's moment in milliseconds, and its size in octets
abbrev pub Offer : Type 0
Offer = ℕ × ℕ

-- "The token buckets C and E are initially (at time 0) full" (RFC 2697 section 3)
abbrev pub started : Rate → ℕ → Buckets
started rate now = record { rate = rate; start = now; last = now; committed = rate.cbs; excess = rate.ebs }

-- How many tokens have arrived t milliseconds after the start: the n-th arrives at the first t with CIR * t >= 1000 * n.
abbrev pub arrived : Rate → ℕ → ℕ
arrived rate t = (rate.cir * t) / 1000

-- "If Tc is less than CBS, Tc is incremented by one, else if Te is less then EBS, Te is incremented by one, else neither Tc nor Te is
-- incremented." (RFC 2697 section 3)
abbrev pub with_token : Buckets → Buckets
with_token b =
    if nat_lt b.committed b.rate.cbs then record b { committed = b.committed + 1 }
    else (if nat_lt b.excess b.rate.ebs then record b { excess = b.excess + 1 } else b)

abbrev pub with_tokens : ℕ → Buckets → Buckets
with_tokens zero b = b
with_tokens (suc n) b = with_token (with_tokens n b)

-- the buckets at a packet of that moment: every token that arrived since the last packet, up to and including the moment, has been added
abbrev pub filled : Buckets → ℕ → Buckets
filled b now = record (with_tokens (arrived b.rate (now - b.start) - arrived b.rate (b.last - b.start)) b) { last = now }

-- "If Tc(t)-B >= 0, the packet is green and Tc is decremented by B down to the minimum value of 0, else if Te(t)-B >= 0, the packets is
-- yellow and Te is decremented by B down to the minimum value of 0, else the packet is red and neither Tc nor Te is decremented." (RFC 2697
-- section 3, colour-blind mode)
abbrev pub colour_of : Buckets → ℕ → Colour
colour_of b size = if nat_le size b.committed then Green else (if nat_le size b.excess then Yellow else Red)

abbrev pub without : Buckets → ℕ → Buckets
without b size =
    if nat_le size b.committed then record b { committed = b.committed - size }
    else (if nat_le size b.excess then record b { excess = b.excess - size } else b)

abbrev pub taken : Buckets → Offer → Buckets
taken b offer = without (filled b offer.0) offer.1

-- the buckets after a list of packets
abbrev pub after : Buckets → List Offer → Buckets
after b [] = b
after b (x ∷ xs) = after (taken b x) xs

-- the colours of a list of packets
abbrev pub colours : Buckets → List Offer → List Colour
colours b [] = []
colours b (x ∷ xs) = colour_of (filled b x.0) x.1 ∷ colours (taken b x) xs

-- the moments of these packets never fall, from this one on
abbrev pub Rise : ℕ → List Offer → Type 0
Rise from [] = Unit {0}
Rise from (x ∷ xs) = (from ≤ x.0) × Rise x.0 xs

abbrev pub is_red : Colour → Bool
is_red Green = false
is_red Yellow = false
is_red Red = true

-- the buckets after a packet that is forgotten where it is red: then they stay wholly as they were, the moment of the last packet too
abbrev pub kept : Buckets → Offer → Buckets
kept b offer = if is_red (colour_of (filled b offer.0) offer.1) then b else taken b offer

-- the colours of a list of packets, of which each red one is forgotten
abbrev pub colours_kept : Buckets → List Offer → List Colour
colours_kept b [] = []
colours_kept b (x ∷ xs) = colour_of (filled b x.0) x.1 ∷ colours_kept (kept b x) xs
