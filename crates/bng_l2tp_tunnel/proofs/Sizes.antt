-- How many octets a message has by which a tunnel is granted.
use Rattle.std.proofs.Common.{◌≡◌, ℕ, ◌+◌, ◌≤◌, Option, None, Some, List, [], ◌∷◌, ◌++◌, length, ap, ◌∙◌, arith, length-append}
use Rattle.std.proofs.lemmas.List.Concat.{flat_map-append}
use Rattle.md5.specs.Md5.{md5}
use Rattle.md5.proofs.StandardFacts.{length-md5}
use Rattle.bng_l2tp_wire.specs.Avps.{L2tpAvp, avp_text, avps_text}
use Rattle.bng_l2tp_wire.specs.declared.kind.TheConstants.{ASSIGNED_TUNNEL_ID, RECEIVE_WINDOW_SIZE}
use Rattle.bng_l2tp_wire.specs.declared.message.TheConstants.{SCCRP}
use Rattle.bng_l2tp_wire.specs.Spelling.{number_avp}
use Rattle.bng_l2tp_tunnel.specs.Spelling.{own_window, challenge_avps, response_avps, front, sccrp}

pub length-both : (xs ys : List L2tpAvp) → length (avps_text (xs ++ ys)) ≡ length (avps_text xs) + length (avps_text ys)
length-both xs ys = ap length (flat_map-append avp_text xs ys) ∙ length-append (avps_text xs) (avps_text ys)

pub challenge_size : (secret : Option (List ℕ)) (challenge : List ℕ) → length challenge ≡ 16 → length (avps_text (challenge_avps secret challenge)) ≤ 22
challenge_size None challenge e = omega arith
challenge_size (Some secret) challenge e = omega (arith, e, length-append challenge [])

response_size : (type : ℕ) (secret asked : Option (List ℕ)) → length (avps_text (response_avps type secret asked)) ≤ 22
response_size type None asked = omega arith
response_size type (Some secret) None = omega arith
response_size type (Some secret) (Some asked) = omega (arith, length-md5 (type ∷ secret ++ asked), length-append (md5 (type ∷ secret ++ asked)) [])

pub front_size : (type : ℕ) (name : List ℕ) (number : ℕ) → length (avps_text (front type name number)) ≡ 48 + length name
front_size type name number = omega (arith, length-append name (avps_text (number_avp ASSIGNED_TUNNEL_ID number ∷ number_avp RECEIVE_WINDOW_SIZE own_window ∷ [])))

pub sccrp_size : (name : List ℕ) (number : ℕ) (secret : Option (List ℕ)) (challenge : List ℕ) (asked : Option (List ℕ)) → length name ≤ 64 → length challenge ≡ 16
    → length (avps_text (sccrp name number secret challenge asked).avps) ≤ 156
sccrp_size name number secret challenge asked few sixteen =
    omega (arith, few, front_size SCCRP name number, challenge_size secret challenge sixteen, response_size SCCRP secret asked, length-both (front SCCRP name number ++ challenge_avps secret challenge) (response_avps SCCRP secret asked), length-both (front SCCRP name number) (challenge_avps secret challenge))
