-- The octets of datagrams that are put after others.
use Rattle.std.proofs.Common.{◌≡◌, ◌≤◌, List, [], ◌∷◌, ◌++◌, length, refl, sym, ap, ◌∙◌, arith, length-append}
use Rattle.std.proofs.lemmas.List.{append-nil, length-map}
use Rattle.bng_base.specs.Packet.{Packet}
use Rattle.bng_l2tp_wire.specs.View.{payloads}
use Rattle.bng_l2tp_tunnel.proofs.Flights.{payloads-push}

pub length-payloads : (xs : List Packet) → length (payloads xs) ≡ length xs
length-payloads xs = length-map xs (λ (p : Packet). p.payload)

empty_if : (xs : List Packet) → length xs ≤ 0 → xs ≡ []
empty_if [] few = refl
empty_if (x ∷ xs) few = absurd (omega (arith, few))

-- the only datagram of a list is put after others
pub only_sent : (before after sent left : List Packet) (last : Packet) → length sent ≤ 1 → sent ≡ left ++ last ∷ [] → after ≡ before ++ last ∷ [] → payloads after ≡ payloads before ++ payloads sent
only_sent before after sent left last few e f =
    let none = empty_if left (omega (arith, few, ap length e, length-append left (last ∷ []))) in
    let one : sent ≡ last ∷ [] = e ∙ ap (λ (xs : List Packet). xs ++ last ∷ []) none in
    payloads-push before after last last.payload f refl ∙ ap (λ (xs : List Packet). payloads before ++ payloads xs) (sym one)

-- and where there is none, nothing is
pub none_sent : (before sent : List Packet) → length sent ≤ 0 → payloads before ≡ payloads before ++ payloads sent
none_sent before sent few =
    sym (append-nil (payloads before)) ∙ ap (λ (xs : List Packet). payloads before ++ payloads xs) (sym (empty_if sent few))
