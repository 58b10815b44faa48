use Rattle.std.proofs.Common.{◌≡◌, ℕ, Bool, true, false, refl, sym, subst, arith}
use Rattle.bng_base.specs.declared.book.Book.{Book}
use Rattle.bng_base.specs.Books.{octets_in, packets_in, taken_off}
use Rattle.bng_engine.specs.Quantities.{Octets, Packets, in_book}
use Rattle.bng_steps.specs.Sums.{Has, IsMore}
use Rattle.bng_desk.proofs.round.take_off.Goals as goal

octets_same : (input : Bool) (b : Book) → octets_in input b ≡ in_book Octets input b
octets_same true b = refl
octets_same false b = refl

packets_same : (input : Bool) (b : Book) → packets_in input b ≡ in_book Packets input b
packets_same true b = refl
packets_same false b = refl

-- what is taken off stands in the book before
is_more : (input : Bool) (octets : ℕ) (b : Book) → Has b input octets → IsMore (taken_off b input octets) input octets b
is_more true octets b has Octets true = omega (arith, has Octets)
is_more true octets b has Octets false = omega arith
is_more true octets b has Packets true = omega (arith, has Packets)
is_more true octets b has Packets false = omega arith
is_more false octets b has Octets true = omega arith
is_more false octets b has Octets false = omega (arith, has Octets)
is_more false octets b has Packets true = omega arith
is_more false octets b has Packets false = omega (arith, has Packets)

pub take_off-requires-clause-octets : goal.take_off-requires-clause-octets
take_off-requires-clause-octets c = omega (arith, c.requires Octets, octets_same c.args.input c.args.tally.now)

pub take_off-requires-clause-packets : goal.take_off-requires-clause-packets
take_off-requires-clause-packets c = omega (arith, c.requires Packets, packets_same c.args.input c.args.tally.now)

pub returns : goal.returns
returns c = subst (λ (b : Book). IsMore b c.args.input c.args.octets c.args.tally.now) (sym c.take_off.ensures) (is_more c.args.input c.args.octets c.args.tally.now c.requires)
