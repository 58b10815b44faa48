-- A packet that is entered in a book, or taken off it, by what is counted.
use Rattle.std.proofs.Common.{◌≡◌, ℕ, ◌+◌, ◌^◌, ◌<◌, ◌≤◌, Bool, true, false, cond, List, length, sym, subst, arith}
use Rattle.bng_base.specs.Books.{entered, octets_in, packets_in, taken_off}
use Rattle.bng_base.specs.declared.book.Book.{Book}
use Rattle.bng_engine.specs.Books.{book_at}
use Rattle.bng_engine.specs.Quantities.{Quantity, Octets, Packets, amount}
use Rattle.bng_engine.specs.Sums.{same}
use Rattle.bng_profile.specs.Books.{HasRoom, Holds}
use Rattle.bng_steps.specs.Sums.{AreLow, Has, IsLow, IsMore}

-- a low book has room for a packet
pub room_for_octets : (b : Book) (input : Bool) (n : ℕ) → IsLow (2 ^ 63 + 2 ^ 62) b → n < 2 ^ 16 → octets_in input b + n < 2 ^ 64
room_for_octets b true n low short = omega (arith, low Octets true, short)
room_for_octets b false n low short = omega (arith, low Octets false, short)

pub room_for_packet : (b : Book) (input : Bool) → IsLow (2 ^ 63 + 2 ^ 62) b → packets_in input b + 1 < 2 ^ 64
room_for_packet b true low = omega (arith, low Packets true)
room_for_packet b false low = omega (arith, low Packets false)

-- and so has each of low books
pub room_in_books : (bs : List Book) (k : ℕ) (b : Book) (input : Bool) (n : ℕ) → k < length bs → book_at k bs ≡ b → AreLow (2 ^ 63 + 2 ^ 62) bs → n < 2 ^ 16 → HasRoom b input n
room_in_books bs k b input n lt is low short =
    let here : IsLow (2 ^ 63 + 2 ^ 62) b = subst (IsLow (2 ^ 63 + 2 ^ 62)) is (low k lt) in
    (room_for_octets b input n here short, room_for_packet b input here)

entered_more : (b : Book) (input : Bool) (n : ℕ) → IsMore b input n (entered b input n)
entered_more b true n Octets true = omega arith
entered_more b true n Octets false = omega arith
entered_more b true n Packets true = omega arith
entered_more b true n Packets false = omega arith
entered_more b false n Octets true = omega arith
entered_more b false n Octets false = omega arith
entered_more b false n Packets true = omega arith
entered_more b false n Packets false = omega arith

pub more_entered : (b b' : Book) (input : Bool) (n : ℕ) → b' ≡ entered b input n → IsMore b input n b'
more_entered b b' input n e = subst (λ (x : Book). IsMore b input n x) (sym e) (entered_more b input n)

pub at_most : (q : Quantity) (a b : Bool) (n : ℕ) → n < 2 ^ 16 → cond (same a b) (amount q n) 0 ≤ 2 ^ 16
at_most Octets true true n short = omega (arith, short)
at_most Octets true false n short = omega arith
at_most Octets false true n short = omega arith
at_most Octets false false n short = omega (arith, short)
at_most Packets true true n short = omega arith
at_most Packets true false n short = omega arith
at_most Packets false true n short = omega arith
at_most Packets false false n short = omega arith

-- one packet more is little more
pub little_more : (b b' : Book) (input : Bool) (n : ℕ) → n < 2 ^ 16 → IsMore b input n b' → (most : ℕ) → IsLow most b → IsLow (most + 2 ^ 16) b'
little_more b b' input n short more most low q direction = omega (arith, more q direction, at_most q direction input n short, low q direction)

pub has_octets : (b : Book) (input : Bool) (n : ℕ) → Has b input n → n ≤ octets_in input b
has_octets b true n there = omega (arith, there Octets)
has_octets b false n there = omega (arith, there Octets)

pub has_packet : (b : Book) (input : Bool) (n : ℕ) → Has b input n → 1 ≤ packets_in input b
has_packet b true n there = omega (arith, there Packets)
has_packet b false n there = omega (arith, there Packets)

pub held_in_books : (bs : List Book) (k : ℕ) (b : Book) (input : Bool) (n : ℕ) → book_at k bs ≡ b → Has (book_at k bs) input n → Holds b input n
held_in_books bs k b input n is there =
    let here : Has b input n = subst (λ (x : Book). Has x input n) is there in
    (has_octets b input n here, has_packet b input n here)

off_less : (b : Book) (input : Bool) (n : ℕ) → Has b input n → IsMore (taken_off b input n) input n b
off_less b true n there Octets true = omega (arith, there Octets)
off_less b true n there Octets false = omega arith
off_less b true n there Packets true = omega (arith, there Packets)
off_less b true n there Packets false = omega arith
off_less b false n there Octets true = omega arith
off_less b false n there Octets false = omega (arith, there Octets)
off_less b false n there Packets true = omega arith
off_less b false n there Packets false = omega (arith, there Packets)

pub less_off : (b b' : Book) (input : Bool) (n : ℕ) → Has b input n → b' ≡ taken_off b input n → IsMore b' input n b
less_off b b' input n there e = subst (λ (x : Book). IsMore x input n b) (sym e) (off_less b input n there)
