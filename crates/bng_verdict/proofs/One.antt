-- The verdict of octets is one, and a yes comes of an Access-Accept.
use Rattle.std.proofs.Common.{◌≡◌, ◌==◌, ℕ, Bool, true, false, ◌||◌, cond, List, [], length, Option, Some, None, refl, sym, ap, ◌∙◌, arith}
use Rattle.std.proofs.lemmas.Bool.{eqb-true}
use Rattle.std.specs.Option.{option_map}
use Rattle.bng_radius_wire.specs.Codes.{access_accept, access_reject, access_challenge}
use Rattle.bng_radius_wire.specs.Grammar.{Packet, IsRadius}
use Rattle.bng_radius_wire.proofs.Exact.{one_packet}
use Rattle.bng_verdict.specs.Verdicts.{Saying, IsReply, IsVerdict, Silent, Replied, NoReply, verdict_in, is_served, reply_text}

some_octets : (p : Packet) (octets : List ℕ) → IsReply p octets → octets ≡ [] → ⊥
some_octets p octets reply none = omega (arith, reply.packet.at_least, reply.packet.is_there, ap (λ (os : List ℕ). length os) none)

pub one_verdict : (octets : List ℕ) (a b : Option Saying) → IsVerdict octets a → IsVerdict octets b → a ≡ b
one_verdict octets a b (Silent none is) (Silent none' is') = is ∙ sym is'
one_verdict octets a b (Silent none is) (Replied p reply is') = absurd (some_octets p octets reply none)
one_verdict octets a b (Silent none is) (NoReply some never is') = absurd (some none)
one_verdict octets a b (Replied p reply is) (Silent none is') = absurd (some_octets p octets reply none)
one_verdict octets a b (Replied p reply is) (Replied q reply' is') = is ∙ ap verdict_in (one_packet p q octets reply.packet reply'.packet) ∙ sym is'
one_verdict octets a b (Replied p reply is) (NoReply some never is') = absurd (never p reply)
one_verdict octets a b (NoReply some never is) (Silent none is') = absurd (some none)
one_verdict octets a b (NoReply some never is) (Replied p reply is') = absurd (never p reply)
one_verdict octets a b (NoReply some never is) (NoReply some' never' is') = is ∙ sym is'

abbrev is_yes : Option Saying → Bool
is_yes None = false
is_yes (Some v) = v.yes

accepts_yes : (accept refuse served : Bool) (text : List ℕ)
    → is_yes (option_map (λ yes. record { yes = yes; text = text }) (cond accept (Some served) (cond refuse (Some false) None))) ≡ true → accept ≡ true
accepts_yes true refuse served text said = refl
accepts_yes false true served text said = absurd cc
accepts_yes false false served text said = absurd cc

yes_code : (p : Packet) → is_yes (verdict_in p) ≡ true → p.code ≡ access_accept
yes_code p said =
    eqb-true p.code access_accept
    (accepts_yes (p.code == access_accept) ((p.code == access_reject) || (p.code == access_challenge)) (is_served p.attributes) (reply_text p.attributes) said)

pub yes_accepts : (octets : List ℕ) (v : Saying) → IsVerdict octets (Some v) → v.yes ≡ true → (p : Packet) × IsRadius p octets × (p.code ≡ access_accept)
yes_accepts octets v (Silent none is) says = let e : true ≡ false = sym says ∙ ap is_yes is in absurd cc
yes_accepts octets v (Replied p reply is) says = (p, reply.packet, yes_code p (ap is_yes (sym is) ∙ says))
yes_accepts octets v (NoReply some never is) says = absurd cc
