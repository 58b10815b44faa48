-- What counts of the tags of a request, by RFC 2516 section 5 and appendix A.
use Rattle.std.specs.Prelude.{◌≡◌, ℕ, ◌==◌, Bool, false, ◌||◌, List, [], ◌∷◌, length, find, Option, Some, None}
use Rattle.std.specs.List.{list_any}
use Rattle.std.specs.Option.{option_map}
use Rattle.std.specs.Str.{bytes_eq}
use Rattle.bng_base.specs.declared.address.Mac.{Mac}
use Rattle.bng_base.specs.PppoeGrammar.{PppoeTag}
use Rattle.bng_digest.specs.Authentication.{hmac_md5}
use Rattle.bng_pppoe_wire.specs.declared.kind.TheConstants.{SERVICE_NAME, HOST_UNIQ, AC_COOKIE, RELAY_SESSION_ID}
use Rattle.bng_pppoe_wire.specs.View.{tag_of}
use Rattle.bng_discovery.specs.declared.port.PortRules.{PortRules}
use Rattle.bng_discovery.specs.declared.request.DiscoveryRequest.{DiscoveryRequest}

-- of several tags of a type the first counts
abbrev pub first_tag : ℕ → List PppoeTag → Option PppoeTag
first_tag kind tags = find (λ t. t.kind == kind) tags

abbrev pub value_of : Option PppoeTag → List ℕ
value_of None = []
value_of (Some t) = t.value

-- The service that is asked for. A request has a Service-Name.
abbrev pub asked_service : List PppoeTag → List ℕ
asked_service tags = value_of (first_tag SERVICE_NAME tags)

-- A Service-Name of no octets asks for any service (appendix A); another one asks for the service of that name.
abbrev pub is_served : PortRules → List ℕ → Bool
is_served port service = length service == 0 || list_any (λ s. bytes_eq s.items service) port.services.items

-- The value of the AC-Cookie for a host (appendix A): the gateway can make it again of the frame's source address, and no
-- one else can, without the key. The port is part of it, so a cookie is of one port.
abbrev pub cookie_of : PortRules → Mac → List ℕ
cookie_of port host = hmac_md5 port.key (port.port ∷ host.0)

-- there is a tag and its value is this
abbrev pub has_value : List ℕ → Option PppoeTag → Bool
has_value value None = false
has_value value (Some t) = bytes_eq t.value value

abbrev pub has_cookie : PortRules → Mac → List PppoeTag → Bool
has_cookie port host tags = has_value (cookie_of port host) (first_tag AC_COOKIE tags)

-- what was read of the tags
pub record IsRequest (r : DiscoveryRequest) (tags : List PppoeTag) : Type 0 where
  pub service : r.service.now ≡ asked_service tags
  pub host_uniq : option_map tag_of r.host_uniq ≡ first_tag HOST_UNIQ tags
  pub cookie : option_map tag_of r.cookie ≡ first_tag AC_COOKIE tags
  pub relay : option_map tag_of r.relay ≡ first_tag RELAY_SESSION_ID tags
