-- The replies to a peer.
use Rattle.std.specs.Prelude.{ℕ, Bool, true, false, List, ◌∷◌, length}
use Rattle.bng_base.specs.declared.settings.AuthKind.{AuthKind}
use Rattle.bng_base.specs.declared.settings.AuthKind.TheVariants.{Chap, Pap}
use Rattle.bng_base.specs.PppGrammar.{ControlPacket}
use Rattle.bng_ppp_wire.specs.Codes.{authenticate_ack, authenticate_nak, success, failure}
use Rattle.bng_auth.specs.declared.reply.Reply.{Reply}

-- what a reply says
pub record Said : Type 0 where
  pub kind : AuthKind
  pub yes : Bool
  pub id : ℕ
  pub text : List ℕ

abbrev pub reply_of : Reply → Said
reply_of r = record { kind = r.kind; yes = r.yes; id = r.id; text = r.text.items }

-- RFC 1334 section 2.2.2 and RFC 1994 section 4.2
abbrev pub code_of : AuthKind → Bool → ℕ
code_of Pap true = authenticate_ack
code_of Pap false = authenticate_nak
code_of Chap true = success
code_of Chap false = failure

-- PAP's message has its length before it, CHAP's is the rest of the packet
abbrev pub body_of : AuthKind → List ℕ → List ℕ
body_of Pap text = length text ∷ text
body_of Chap text = text

abbrev pub reply_packet : Said → ControlPacket
reply_packet r = record { code = code_of r.kind r.yes; id = r.id; body = body_of r.kind r.text }
