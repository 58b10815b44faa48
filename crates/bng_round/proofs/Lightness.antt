-- What an entry adds to the books of a shard.
use Rattle.std.proofs.Common.{◌≡◌, ℕ, ◌+◌, ◌*◌, ◌^◌, ◌<◌, ◌≤◌, Bool, true, false, cond, List, length, get_or, Option, Some, None, arith}
use Rattle.std.proofs.lemmas.List.Sums.{sum_by-le, sum_by-le-sum_by}
use Rattle.bng_base.specs.declared.book.Book.{Book}
use Rattle.bng_base.specs.declared.item.Charge.{Charge}
use Rattle.bng_base.specs.declared.item.ItemKind.{ItemKind}
use Rattle.bng_base.specs.declared.item.ItemKind.TheVariants.{Access, Core, Tunnel, Verdict, Change, Tick, End}
use Rattle.bng_base.specs.declared.item.OutRecord.{OutRecord}
use Rattle.bng_engine.specs.Books.{BooksRise}
use Rattle.bng_engine.specs.Quantities.{Quantity, Octets, Packets}
use Rattle.bng_engine.specs.Sums.{charge_if, is_directed, is_under, part_of_charge, passed_sum}
use Rattle.bng_round.specs.Booking.{passed_in}
use Rattle.bng_steps.specs.Hearing.{outs_most}
use Rattle.bng_steps.specs.Protocol.{packet_octets}
use Rattle.bng_steps.specs.Sums.{AreLow, IsLow}

abbrev part : (Charge → ℕ) → OutRecord → ℕ
part f o = part_of_charge f o.charge

octets_picked : (b : Bool) (n : ℕ) → cond b n 0 ≤ n
octets_picked true n = omega arith
octets_picked false n = omega arith

packets_picked : (b : Bool) → cond b 1 0 ≤ 1
packets_picked true = omega arith
packets_picked false = omega arith

octets_part : (test : Charge → Bool) (charge : Option Charge) → part_of_charge (charge_if Octets test) charge ≤ part_of_charge (λ c. c.octets) charge
octets_part test None = omega arith
octets_part test (Some c) = octets_picked (test c) c.octets

packets_part : (test : Charge → Bool) (charge : Option Charge) → part_of_charge (charge_if Packets test) charge ≤ 1
packets_part test None = omega arith
packets_part test (Some c) = packets_picked (test c)

few_outs : (kind : ItemKind) → outs_most kind ≤ 320
few_outs (Access number) = omega arith
few_outs Core = omega arith
few_outs Tunnel = omega arith
few_outs Verdict = omega arith
few_outs Change = omega arith
few_outs Tick = omega arith
few_outs End = omega arith

-- of what one step sends
pub step_light : (kind : ItemKind) (outs : List OutRecord) → packet_octets outs ≤ 4160 → length outs ≤ outs_most kind → (q : Quantity) (test : Charge → Bool) → passed_sum (charge_if q test) outs ≤ 4160
step_light kind outs light few Octets test =
    omega (arith, light, sum_by-le-sum_by (part (charge_if Octets test)) (part (λ c. c.octets)) outs (λ o. octets_part test o.charge))
step_light kind outs light few Packets test =
    omega (arith, few, few_outs kind, sum_by-le (part (charge_if Packets test)) 1 outs (λ k d lt. packets_part test (get_or outs k d).charge))

-- what one step lets pass
pub passed_light : (kind : ItemKind) (outs : List OutRecord) → packet_octets outs ≤ 4160 → length outs ≤ outs_most kind → IsLow 4160 (passed_in outs)
passed_light kind outs light few Octets true = step_light kind outs light few Octets (is_directed true)
passed_light kind outs light few Octets false = step_light kind outs light few Octets (is_directed false)
passed_light kind outs light few Packets true = step_light kind outs light few Packets (is_directed true)
passed_light kind outs light few Packets false = step_light kind outs light few Packets (is_directed false)

-- the books after an entry, where they were low after so many
pub books_more : (n m : ℕ) → m ≡ n + 1 → (books books' : List Book) (outs : List OutRecord) (kind : ItemKind) → BooksRise books outs books' → packet_octets outs ≤ 4160 → length outs ≤ outs_most kind
    → AreLow (2 ^ 62 + 4160 * n) books → AreLow (2 ^ 62 + 4160 * m) books'
books_more n m next books books' outs kind rise light few low i within q input =
    let count = rise.count in let inside : i < length books = omega arith in
    let one = rise.each q i input inside in
    let was = low i inside q input in
    let part = step_light kind outs light few q (is_under i input) in
    omega arith
