-- The peer's authentication, by RFC 1334 section 2 and RFC 1994 section 4.
use Rattle.std.specs.Prelude.{◌≡◌, ℕ, Bool, List, Option, Some, None, ◌∷◌, ◌++◌}
use Rattle.bng_base.specs.PppGrammar.{ControlPacket}
use Rattle.bng_auth.specs.Questions.{PapQuestion, ChapQuestion, PapTakes, ChapTakes, PapSettles, ChapSettles}
use Rattle.bng_auth.specs.Replying.{Said, reply_packet}
use Rattle.bng_auth.specs.declared.step.AuthStep.{AuthStep}
use Rattle.bng_auth.specs.declared.step.AuthStep.TheVariants.{Ignore}
use Rattle.bng_ppp_wire.specs.declared.code.TheConstants.{CHALLENGE}
use Rattle.bng_ppp_wire.specs.declared.protocol.TheConstants as protocol
use Rattle.bng_ppp.specs.Encapsulation.{sent}
use Rattle.bng_ppp.specs.ProtocolReject.{protocol_of}
use Rattle.bng_ppp.specs.declared.authentication.Authentication.{Authentication}
use Rattle.bng_ppp.specs.declared.authentication.Authentication.TheVariants as auth

-- a packet of the protocol that was agreed
abbrev pub AuthTakes : Authentication → ControlPacket → AuthStep → Authentication → Type 0
AuthTakes auth.Idle p step new = (step ≡ Ignore) × (new ≡ auth.Idle)
AuthTakes (auth.Pap q) p step new = (after : PapQuestion) × PapTakes q p step after × (new ≡ auth.Pap after)
AuthTakes (auth.Chap q sent) p step new = (after : ChapQuestion) × ChapTakes q p step after × (new ≡ auth.Chap after sent)

-- a verdict, and the reply that gives it
abbrev pub AuthSettles : Authentication → Bool → List ℕ → Option Said → Authentication → Type 0
AuthSettles auth.Idle found text reply new = (reply ≡ None) × (new ≡ auth.Idle)
AuthSettles (auth.Pap q) found text reply new = (s : Said) × (after : PapQuestion) × PapSettles q found text s after × (reply ≡ Some s) × (new ≡ auth.Pap after)
AuthSettles (auth.Chap q sent) found text reply new = (s : Said) × (after : ChapQuestion) × ChapSettles q found text s after × (reply ≡ Some s) × (new ≡ auth.Chap after sent)

-- a reply goes out
abbrev pub reply_sent : Option Said → List (List ℕ) → List (List ℕ)
reply_sent None outs = outs
reply_sent (Some s) outs = sent (protocol_of s.kind) (reply_packet s) outs

-- the Challenge: Value-Size 16, Value and the gateway's name (RFC 1994 section 4.1)
abbrev pub challenge_of : List ℕ → ChapQuestion → ControlPacket
challenge_of name q = record { code = CHALLENGE; id = q.id; body = 16 ∷ (q.challenge ++ name) }

abbrev pub challenge_sent : List ℕ → ChapQuestion → List (List ℕ) → List (List ℕ)
challenge_sent name q outs = sent protocol.CHAP (challenge_of name q) outs
