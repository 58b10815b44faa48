-- The frames that the gateway sends in discovery, by RFC 2516 section 5.
use Rattle.std.specs.Prelude.{ℕ, Bool, true, false, not, List, [], ◌∷◌, ◌++◌, map, filter, option_to_list}
use Rattle.std.specs.Str.{bytes_eq}
use Rattle.arrayvec.specs.ArrayVec.{ArrayVec}
use Rattle.bng_base.specs.declared.address.Mac.{Mac}
use Rattle.bng_base.specs.PppoeGrammar.{PppoeTag, PppoeFrame, tags_text}
use Rattle.bng_pppoe_wire.specs.declared.kind.TheConstants.{SERVICE_NAME, AC_NAME, HOST_UNIQ, AC_COOKIE, RELAY_SESSION_ID, SERVICE_NAME_ERROR, AC_SYSTEM_ERROR}
use Rattle.bng_pppoe_wire.specs.declared.code.TheConstants.{PADO, PADS, PADT}
use Rattle.bng_discovery.specs.declared.port.PortRules.{PortRules}
use Rattle.bng_discovery.specs.declared.answers.Answer.{Answer}
use Rattle.bng_discovery.specs.declared.answers.Answer.TheVariants.{Offer, Make, Again, Refuse, Ended, NoSession, Ignore}
use Rattle.bng_discovery.specs.declared.answers.ErrorTag.{ErrorTag}
use Rattle.bng_discovery.specs.declared.answers.ErrorTag.TheVariants.{ServiceNameError, AcSystemError}
use Rattle.bng_discovery.specs.Request.{first_tag, asked_service, cookie_of}

-- a frame of the discovery stage from a port to a host
abbrev pub discovery_frame : PortRules → (host : Mac) (code session : ℕ) → List PppoeTag → PppoeFrame
discovery_frame port host code session tags =
    record { dst = host; src = port.mac; discovery = true; code = code; session = session; payload = tags_text tags }

abbrev pub tag : ℕ → List ℕ → PppoeTag
tag kind value = record { kind = kind; value = value }

-- the tag that was asked for, unmodified
abbrev pub asked_name : List PppoeTag → PppoeTag
asked_name tags = tag SERVICE_NAME (asked_service tags)

-- the tag of this type unmodified, where the request has one
abbrev pub repeated : ℕ → List PppoeTag → List PppoeTag
repeated kind tags = option_to_list (first_tag kind tags)

-- the services of a list beside the one that was asked for
abbrev pub others : List ℕ → List (ArrayVec ℕ) → List PppoeTag
others service names = map (λ s. tag SERVICE_NAME s.items) (filter (λ s. not (bytes_eq s.items service)) names)

-- section 5.2
abbrev pub offer_tags : PortRules → Mac → List PppoeTag → List PppoeTag
offer_tags port host tags =
    (tag AC_NAME port.name.items ∷ asked_name tags ∷ others (asked_service tags) port.services.items)
    ++ repeated HOST_UNIQ tags
    ++ (tag AC_COOKIE (cookie_of port host) ∷ [])
    ++ repeated RELAY_SESSION_ID tags

-- the PADO for a host whose PADI has these tags
abbrev pub pado_of : PortRules → Mac → List PppoeTag → PppoeFrame
pado_of port host tags = discovery_frame port host PADO 0 (offer_tags port host tags)

-- section 5.4: a session under the service that was asked for
abbrev pub confirm_tags : List PppoeTag → List PppoeTag
confirm_tags tags = (asked_name tags ∷ []) ++ repeated HOST_UNIQ tags ++ repeated RELAY_SESSION_ID tags

-- the PADS of a session
abbrev pub pads_of : PortRules → Mac → ℕ → List PppoeTag → PppoeFrame
pads_of port host session tags = discovery_frame port host PADS session (confirm_tags tags)

-- the TAG_TYPE of an error
abbrev pub error_kind : ErrorTag → ℕ
error_kind ServiceNameError = SERVICE_NAME_ERROR
error_kind AcSystemError = AC_SYSTEM_ERROR

-- section 5.4: why there is no session
abbrev pub refuse_tags : ErrorTag → List PppoeTag → List PppoeTag
refuse_tags error tags =
    (asked_name tags ∷ tag (error_kind error) [] ∷ []) ++ repeated HOST_UNIQ tags ++ repeated RELAY_SESSION_ID tags

-- the PADS of a refusal, whose SESSION_ID is 0
abbrev pub refusal_of : PortRules → Mac → ErrorTag → List PppoeTag → PppoeFrame
refusal_of port host error tags = discovery_frame port host PADS 0 (refuse_tags error tags)

-- an answer that is a PADS
abbrev pub has_pads : Answer → Bool
has_pads Make = true
has_pads Again = true
has_pads (Refuse error) = true
has_pads Offer = false
has_pads Ended = false
has_pads NoSession = false
has_pads Ignore = false

-- section 5.5: a session has been ended
abbrev pub padt_of : PortRules → Mac → ℕ → PppoeFrame
padt_of port host session = discovery_frame port host PADT session []
