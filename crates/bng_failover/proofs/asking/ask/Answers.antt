use Rattle.std.proofs.Common.{◌∙◌}
use Rattle.bng_failover.proofs.asking.ask.Goals as goal

pub returns : goal.returns
returns c = record {
  packet = c.requires.grammar.0;
  reads = c.requires.grammar.1;
  can = c.requires.grammar.2;
  id = c.in-Some.id;
  asked = record {
    next = c.in-Some.ensures.found;
    reads = c.sign.ensures.signed c.requires.grammar.0 c.requires.grammar.1;
    made = c.new.result;
    owner_is = c.new.ensures.owner;
    octets = c.new.ensures.octets ∙ c.copied-octets.ensures ∙ c.payload.ensures.octets;
    moment = c.new.ensures.moment;
    once = c.new.ensures.once;
    places = c.give.ensures.places;
    last = c.give.ensures.last;
  };
  size = c.sign.ensures.size;
}
