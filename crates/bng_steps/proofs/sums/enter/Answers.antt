use Rattle.std.proofs.Common.{arith}
use Rattle.bng_steps.proofs.BookLaws.{little_more, more_entered, room_for_octets, room_for_packet}
use Rattle.bng_steps.proofs.sums.enter.Goals as goal

pub enter-requires-clause-octets : goal.enter-requires-clause-octets
enter-requires-clause-octets c = room_for_octets c.args.book.now c.args.input c.args.octets c.requires.low (omega (arith, c.ranges.octets))

pub enter-requires-clause-packets : goal.enter-requires-clause-packets
enter-requires-clause-packets c = room_for_packet c.args.book.now c.args.input c.requires.low

pub returns-clause-more : goal.returns-clause-more
returns-clause-more c = more_entered c.args.book.now c.enter.new.self c.args.input c.args.octets c.enter.ensures

pub returns-clause-few : goal.returns-clause-few
returns-clause-few c = little_more c.args.book.now c.enter.new.self c.args.input c.args.octets (omega (arith, c.ranges.octets)) (more_entered c.args.book.now c.enter.new.self c.args.input c.args.octets c.enter.ensures)
