-- For which faults of its packet a request is refused (RFC 5176 section 3.6), each with its Error-Cause (section 3.5).
use Rattle.std.specs.Prelude.{◌==◌, ℕ, Bool, not, false, ◌||◌, ◌&&◌, if◌then◌else◌, List, ◌∷◌, [], length, Option, Some, None, map, find}
use Rattle.std.specs.List.{list_any}
use Rattle.std.specs.Str.{bytes_eq}
use Rattle.bng_base.specs.declared.book.Profile.{Profile}
use Rattle.bng_radius_wire.specs.Attributes.{Field}
use Rattle.bng_radius_wire.specs.Grammar.{Packet}
use Rattle.bng_coa.specs.Kinds.{is_among, has_kind, has_some}

-- a NAS-IP-Address (4) or a NAS-Identifier (32) that is not the gateway's
abbrev pub is_of_another : (address name : List ℕ) → Field → Bool
is_of_another address name f = (f.kind == 4 && not (bytes_eq f.value address)) || (f.kind == 32 && not (bytes_eq f.value name))

-- User-Name, NAS-IP-Address, NAS-Port, Framed-IP-Address, Filter-Id, Reply-Message, Class, Session-Timeout, Idle-Timeout,
-- Calling-Station-Id, NAS-Identifier, Proxy-State, Acct-Session-Id, Event-Timestamp, Message-Authenticator,
-- Acct-Interim-Interval, NAS-Port-Id
abbrev pub coa_kinds : List ℕ
coa_kinds = 1 ∷ 4 ∷ 5 ∷ 8 ∷ 11 ∷ 18 ∷ 25 ∷ 27 ∷ 28 ∷ 31 ∷ 32 ∷ 33 ∷ 44 ∷ 55 ∷ 80 ∷ 85 ∷ 87 ∷ []

-- the same without those that change a session
abbrev pub disconnect_kinds : List ℕ
disconnect_kinds = 1 ∷ 4 ∷ 5 ∷ 8 ∷ 18 ∷ 25 ∷ 31 ∷ 32 ∷ 33 ∷ 44 ∷ 55 ∷ 80 ∷ 87 ∷ []

-- what a request of this code may have
abbrev pub kinds_of : ℕ → List ℕ
kinds_of code = if code == 43 then coa_kinds else disconnect_kinds

abbrev pub is_unsupported : ℕ → Field → Bool
is_unsupported code f = not (is_among (kinds_of code) f.kind)

-- values that are four octets: addresses and numbers
abbrev pub number_kinds : List ℕ
number_kinds = 4 ∷ 5 ∷ 8 ∷ 27 ∷ 28 ∷ 55 ∷ 85 ∷ []

-- values that are texts or strings, and not empty
abbrev pub text_kinds : List ℕ
text_kinds = 1 ∷ 11 ∷ 31 ∷ 32 ∷ 33 ∷ 44 ∷ 87 ∷ []

abbrev pub has_wrong_length : Field → Bool
has_wrong_length f =
    (is_among number_kinds f.kind && not (length f.value == 4)) || (f.kind == 80 && not (length f.value == 16)) || (is_among text_kinds f.kind && length f.value == 0)

abbrev pub names_of : List Profile → List (List ℕ)
names_of profiles = map (λ p. p.name.items) profiles

abbrev pub is_unknown : List (List ℕ) → Option Field → Bool
is_unknown names None = false
is_unknown names (Some f) = not (list_any (bytes_eq f.value) names)

-- what a CoA-Request may change: Filter-Id, Session-Timeout, Idle-Timeout, Acct-Interim-Interval
abbrev pub changes : List Field → Bool
changes fs = has_some 11 fs || has_some 27 fs || has_some 28 fs || has_some 85 fs

-- neither Acct-Session-Id nor Framed-IP-Address is there, or a CoA-Request changes nothing
abbrev pub lacks : Packet → Bool
lacks p = not (has_some 44 p.attributes || has_some 8 p.attributes) || (p.code == 43 && not (changes p.attributes))

pub record Row : Type 0 where
  pub cause : ℕ
  pub holds : Bool

abbrev pub row : ℕ → Bool → Row
row cause holds = record { cause = cause; holds = holds }

-- The rows in their order: NAS Identification Mismatch, Unsupported Attribute, Invalid Request, Invalid Attribute Value,
-- Missing Attribute. Of Filter-Ids the first counts.
abbrev pub table : Packet → (address name : List ℕ) → (profiles : List (List ℕ)) → List Row
table p address name profiles =
    row 403 (list_any (is_of_another address name) p.attributes)
    ∷ row 401 (list_any (is_unsupported p.code) p.attributes)
    ∷ row 404 (list_any has_wrong_length p.attributes)
    ∷ row 407 (is_unknown profiles (find (has_kind 11) p.attributes))
    ∷ row 402 (lacks p)
    ∷ []

-- the cause of the first row that holds
abbrev pub first_cause : List Row → Option ℕ
first_cause [] = None
first_cause (r ∷ rows) = if r.holds then Some r.cause else first_cause rows
