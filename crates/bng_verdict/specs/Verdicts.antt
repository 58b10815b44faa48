-- What a reply to an Access-Request says, by RFC 2865 sections 4.2 to 4.4, 5.6 and 5.18.
use Rattle.std.specs.Prelude.{◌≡◌, ◌≢◌, ◌==◌, ℕ, ◌≤◌, Bool, true, false, ◌&&◌, ◌||◌, if◌then◌else◌, List, [], ◌∷◌, length, find, Option, Some, None, codes}
use Rattle.std.specs.Option.{option_map}
use Rattle.std.specs.Str.{bytes_eq}
use Rattle.bng_radius_wire.specs.AttributeTypes as types
use Rattle.bng_radius_wire.specs.Codes.{access_accept, access_reject, access_challenge}
use Rattle.bng_radius_wire.specs.Attributes.{Field}
use Rattle.bng_radius_wire.specs.Grammar.{Packet, IsRadius}
use Rattle.bng_verdict.specs.declared.verdict.AccessVerdict.{AccessVerdict}

-- whether the peer is accepted, and the text that tells it so
pub record Saying : Type 0 where
  pub yes : Bool
  pub text : List ℕ

abbrev pub said : AccessVerdict → Saying
said v = record { yes = v.yes; text = v.text.items }

-- of a server that was silent to the last
abbrev pub silence : Saying
silence = record { yes = false; text = codes "timeout" }

abbrev pub is_reply_message : Field → Bool
is_reply_message f = f.kind == types.reply_message

abbrev pub value_or_empty : Option Field → List ℕ
value_or_empty None = []
value_or_empty (Some f) = f.value

-- the text of the first Reply-Message, else empty (RFC 2865 section 5.18)
abbrev pub reply_text : List Field → List ℕ
reply_text fs = value_or_empty (find is_reply_message fs)

-- a Service-Type; its value has four octets (RFC 2865 section 5.6), and one with another value is passed over
abbrev pub is_service_type : Field → Bool
is_service_type f = (f.kind == types.service_type) && (length f.value == 4)

-- the value is 2, Framed, in four octets
abbrev pub is_framed : Field → Bool
is_framed f = bytes_eq f.value (0 ∷ 0 ∷ 0 ∷ 2 ∷ [])

abbrev pub is_served_by : Option Field → Bool
is_served_by None = true
is_served_by (Some f) = is_framed f

-- The service is Framed, or none is named. A service that the gateway does not give makes an Access-Accept a refusal
-- (RFC 2865 section 5.6).
abbrev pub is_served : List Field → Bool
is_served fs = is_served_by (find is_service_type fs)

-- whether a packet of this code accepts the peer; None of a code that answers no Access-Request
abbrev pub accepts : ℕ → List Field → Option Bool
accepts code fs =
    if code == access_accept then Some (is_served fs)
    else if (code == access_reject) || (code == access_challenge) then Some false
    else None

-- what a packet says
abbrev pub verdict_in : Packet → Option Saying
verdict_in p = option_map (λ yes. record { yes = yes; text = reply_text p.attributes }) (accepts p.code p.attributes)

-- the octets begin with a packet of at most 64 attributes
pub record IsReply (p : Packet) (octets : List ℕ) : Type 0 where
  pub packet : IsRadius p octets
  pub few : length p.attributes ≤ 64

-- What the octets of a reply say. No octets stand for a server that was silent to the last.
pub data IsVerdict (octets : List ℕ) (told : Option Saying) : Type 0 where
  Silent : octets ≡ [] → told ≡ Some silence → IsVerdict octets told
  Replied : (p : Packet) → IsReply p octets → told ≡ verdict_in p → IsVerdict octets told
  NoReply : octets ≢ [] → ((p : Packet) → ¬ (IsReply p octets)) → told ≡ None → IsVerdict octets told
