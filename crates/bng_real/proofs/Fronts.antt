-- What a frame keeps of a datagram.
use Rattle.std.proofs.Common.{◌≡◌, ◌≤◌, ◌-◌, ◌++◌, ℕ, List, Option, length, take, drop, min, nat_lt, sym, ap, ◌∙◌, length-take-le, take-take, arith}
use Rattle.std.specs.List.{slice_range}
use Rattle.std.proofs.lemmas.List.{take_min, take-append-le}
use Rattle.std.proofs.Math.Seq.{drop-append_seam}
use Rattle.bng_base.specs.declared.address.Peer.{Peer}
use Rattle.bng_real.specs.Sockets.{Parcel}
use Rattle.bng_real.specs.Taking.{Gives, IsFront}

-- the first 4,096 octets of those that stand first in the room
front_of_room : (count : ℕ) (room : List ℕ) → count ≤ length room → take (min count 4096) room ≡ take 4096 (take count room)
front_of_room count room within =
    let size : length (take count room) ≡ count = length-take-le count room within in
    let nested : take (min count 4096) (take count room) ≡ take (min count 4096) room = take-take (min count 4096) count room (omega arith) in
    let most : take (min 4096 (length (take count room))) (take count room) ≡ take 4096 (take count room) = take_min 4096 (take count room) in
    let same : min count 4096 ≡ min 4096 (length (take count room)) = omega (arith, size) in
    sym nested ∙ ap (λ (n : ℕ). take n (take count room)) same ∙ most

-- the payload of a frame whose room was lent is what was received there behind the headroom
abbrev lent_payload : List ℕ → List ℕ → List ℕ → List ℕ
lent_payload lent room after = slice_range (take 64 lent ++ (room ++ after)) 64 4160

lent_room : (lent room after : List ℕ) → 64 ≤ length lent → 4096 ≤ length room → lent_payload lent room after ≡ take 4096 room
lent_room lent room after long enough =
    let rest = room ++ after in
    ap (λ (n : ℕ). take 4096 (drop n (take 64 lent ++ rest))) (sym (length-take-le 64 lent long))
    ∙ ap (λ (octets : List ℕ). take 4096 octets) (drop-append_seam (take 64 lent) rest)
    ∙ take-append-le 4096 room after enough

lent_length : (lent room after : List ℕ) → 64 ≤ length lent → 4096 ≤ length room → length (lent_payload lent room after) ≡ 4096
lent_length lent room after long enough = ap (λ (octets : List ℕ). length octets) (lent_room lent room after long enough) ∙ length-take-le 4096 room enough

pub lent_enough : (few : ℕ) (lent room after : List ℕ) → 64 ≤ length lent → 4096 ≤ length room → 4096 - few ≤ length (lent_payload lent room after)
lent_enough few lent room after long enough = omega (arith, lent_length lent room after long enough)

-- and cut off behind what was received it is those octets
pub lent_front : (count : ℕ) (lent room after : List ℕ) → 64 ≤ length lent → 4096 ≤ length room → (few : ℕ) → few ≡ min count 4096
    → take (length (lent_payload lent room after) - (4096 - few)) (lent_payload lent room after) ≡ take (min count 4096) room
lent_front count lent room after long enough few is =
    let kept : length (lent_payload lent room after) - (4096 - few) ≡ min count 4096 = omega (arith, lent_length lent room after long enough, is) in
    ap (λ (n : ℕ). take n (lent_payload lent room after)) kept
    ∙ ap (λ (octets : List ℕ). take (min count 4096) octets) (lent_room lent room after long enough)
    ∙ take-take (min count 4096) 4096 room (omega arith)

-- a payload of those is the front of the datagram that the socket gave
pub is_front : (count : ℕ) (room payload : List ℕ) (from : Peer) (old new : Option (List Parcel)) → count ≤ length room → Gives old new from (take count room) → payload ≡ take (min count 4096) room → IsFront payload from (nat_lt 4096 count) old new
is_front count room payload from old new within gives is = record {
  octets = take count room;
  gives = gives;
  front = is ∙ front_of_room count room within;
  longer = ap (nat_lt 4096) (sym (length-take-le count room within));
}
