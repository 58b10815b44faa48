use Rattle.std.proofs.Common.{◌<◌, length, arith}
use Rattle.bng_pppoe_wire.specs.View.{tag_of, tags_of}
use Rattle.bng_pppoe_wire.proofs.TagLaws.{one_tags}
use Rattle.bng_pppoe_wire.proofs.TagSteps.{length-tags_of}
use Rattle.bng_pppoe_wire.proofs.Scanning.{has_room, all_read}
use Rattle.bng_pppoe_wire.proofs.listing.tags.Goals as goal

pub push-requires : goal.push-requires
push-requires c =
    let room = has_room c.args.frame.now.payload.now c.loop-tag.rest.now c.in-One.next.now (tags_of c.loop-tag.found.items) c.requires.0 (tag_of c.in-One.tag) c.loop-tag.invariant c.requires.1 c.in-One.ensures in
    let few : length c.loop-tag.found.items < 64 = omega (arith, room, c.requires.2, length-tags_of c.loop-tag.found.items) in
    (omega arith, few)

pub returns-clause-are : goal.returns-clause-are
returns-clause-are c =
    all_read c.args.frame.now.payload.now c.loop-tag.rest.now (tags_of c.loop-tag.found.items) c.requires.0 c.read_front.result c.read_front.ensures c.in_default.not-One c.loop-tag.invariant c.requires.1

pub returns-clause-only : goal.returns-clause-only
returns-clause-only c = λ ts are. one_tags (tags_of c.loop-tag.found.items) ts c.args.frame.now.payload.now (returns-clause-are c) are
