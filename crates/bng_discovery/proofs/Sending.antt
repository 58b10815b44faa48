-- Frames whose tags are those of a definition.
use Rattle.std.proofs.Common.{◌≡◌, ℕ, ◌<◌, List, length, ap, subst, ◌∙◌}
use Rattle.std.specs.Prelude.{◌↔◌}
use Rattle.bng_base.specs.Packet.{Packet}
use Rattle.bng_base.specs.declared.address.Mac.{Mac}
use Rattle.bng_base.specs.declared.codec.Written.{Written}
use Rattle.bng_base.specs.declared.codec.Written.TheVariants.{Done, Full}
use Rattle.bng_base.specs.PppoeGrammar.{PppoeTag, pppoe_text}
use Rattle.bng_discovery.specs.declared.port.PortRules.{PortRules}
use Rattle.bng_discovery.specs.Reply.{discovery_frame}

abbrev pub sent_as : PortRules → Mac → (code session : ℕ) → List PppoeTag → Packet
sent_as port host code session tags = record { payload = pppoe_text (discovery_frame port host code session tags); headroom = 44 }

pub done_with : (port : PortRules) (host : Mac) (code session : ℕ) (xs ys : List PppoeTag) (result : Written) (new : Packet) → xs ≡ ys
    → (result ≡ Done → new ≡ sent_as port host code session xs) → result ≡ Done → new ≡ sent_as port host code session ys
done_with port host code session xs ys result new e h d = h d ∙ ap (sent_as port host code session) e

pub full_with : (port : PortRules) (host : Mac) (code session : ℕ) (xs ys : List PppoeTag) (result : Written) → xs ≡ ys
    → ((result ≡ Full) ↔ (4096 < length (pppoe_text (discovery_frame port host code session xs))))
    → ((result ≡ Full) ↔ (4096 < length (pppoe_text (discovery_frame port host code session ys))))
full_with port host code session xs ys result e h =
    subst (λ (t : List PppoeTag). (result ≡ Full) ↔ (4096 < length (pppoe_text (discovery_frame port host code session t)))) e h
