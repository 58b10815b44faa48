-- The question of a session as an Access-Request (RFC 2865 section 4.1) that is still to be numbered and signed.
use Rattle.std.specs.Prelude.{ℕ, ◌+◌, ◌-◌, ◌*◌, ◌/◌, max, List, [], ◌∷◌, ◌++◌, length, replicate}
use Rattle.bng_auth.specs.declared.credentials.Proof.{Proof}
use Rattle.bng_auth.specs.declared.credentials.Proof.TheVariants.{Pap, Chap}
use Rattle.bng_digest.specs.Hiding.{hidden_password}
use Rattle.bng_radius_wire.specs.Attributes.{Field}
use Rattle.bng_radius_wire.specs.Grammar.{Packet}
use Rattle.bng_radius_wire.specs.Digests.{zeros}
use Rattle.bng_acct.specs.Attributes.{octets, number, station}
use Rattle.bng_acct.specs.Texts.{port_id}
use Rattle.bng_verdict.specs.declared.question.AuthAsk.{AuthAsk}
use Rattle.bng_access.specs.declared.rules.NasRules.{NasRules}

-- the octets of the blocks of 16 that hold a password, at least one block
abbrev pub blocks_size : ℕ → ℕ
blocks_size n = 16 * max 1 ((n + 15) / 16)

-- a password with the zeros that fill its blocks (RFC 2865 section 5.2)
abbrev pub padded : List ℕ → List ℕ
padded password = password ++ replicate (blocks_size (length password) - length password) 0

-- User-Password, hidden; or CHAP-Password: the Response's Identifier and Value (RFC 2865 section 5.3)
abbrev pub password : (secret authenticator : List ℕ) → Proof → List Field
password secret authenticator (Pap list) = octets 2 (hidden_password secret authenticator (padded list.items)) ∷ []
password secret authenticator (Chap id sent value) = octets 3 (id ∷ value) ∷ []

-- CHAP-Challenge, where the peer was challenged (RFC 2865 section 5.40)
abbrev pub challenge : Proof → List Field
challenge (Pap list) = []
challenge (Chap id sent value) = octets 60 sent ∷ []

-- User-Name, the password, NAS-IP-Address, NAS-Port, Service-Type Framed, Framed-Protocol PPP
abbrev pub claim : NasRules → (secret authenticator : List ℕ) → AuthAsk → List Field
claim rules secret authenticator ask =
    octets 1 ask.credentials.name.items ∷ []
    ++ password secret authenticator ask.credentials.proof
    ++ number 4 rules.nas_ip.0 ∷ number 5 ask.number.session.0 ∷ number 6 2 ∷ number 7 1 ∷ []

-- Calling-Station-Id, NAS-Identifier, CHAP-Challenge, NAS-Port-Type Virtual
abbrev pub place : NasRules → AuthAsk → List Field
place rules ask = station ask.circuit ++ octets 32 rules.name.items ∷ [] ++ challenge ask.credentials.proof ++ number 61 5 ∷ []

-- the attributes up to the Message-Authenticator
abbrev pub front : NasRules → (secret authenticator : List ℕ) → AuthAsk → List Field
front rules secret authenticator ask = claim rules secret authenticator ask ++ place rules ask

-- the attributes, by rising type, with a Message-Authenticator of zeros before the NAS-Port-Id
abbrev pub attributes : NasRules → (secret authenticator : List ℕ) → AuthAsk → List Field
attributes rules secret authenticator ask =
    front rules secret authenticator ask ++ octets 80 zeros ∷ octets 87 (port_id ask.circuit) ∷ []

-- an Access-Request with identifier 0 and this Request Authenticator
abbrev pub request_of : NasRules → (secret : List ℕ) → AuthAsk → (authenticator : List ℕ) → Packet
request_of rules secret ask authenticator =
    record { code = 1; id = 0; authenticator = authenticator; attributes = attributes rules secret authenticator ask }
