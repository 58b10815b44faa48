use Rattle.bng_ppp_wire.proofs.ListingExact.{outside_iff, too_many_iff, only_list}
use Rattle.bng_ppp_wire.proofs.listing.options.Goals as goal

pub returns-clause-outside : goal.returns-clause-outside
returns-clause-outside c = outside_iff c.args.packet.now.body.now c.list_of.result c.list_of.ensures.answer

pub returns-clause-too_many : goal.returns-clause-too_many
returns-clause-too_many c = too_many_iff c.args.packet.now.body.now c.list_of.result c.list_of.ensures.answer c.list_of.ensures.few

pub returns-clause-only : goal.returns-clause-only
returns-clause-only c = only_list c.args.packet.now.body.now c.list_of.result c.list_of.ensures.answer
