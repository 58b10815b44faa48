use Rattle.std.proofs.Common.{◌∙◌}
use Rattle.bng_rad_client.proofs.asking.ask.Goals as goal

pub returns-clause-sent : goal.returns-clause-sent
returns-clause-sent c = λ p is. record {
  next = c.in-Some.ensures.found;
  reads = c.signed-frame.ensures.signed p is;
  made = c.new-pending.result;
  owner_is = c.new-pending.ensures.owner;
  octets = c.new-pending.ensures.octets ∙ c.copied-octets.ensures ∙ c.payload.ensures.octets;
  moment = c.new-pending.ensures.moment;
  once = c.new-pending.ensures.once;
  places = c.give.ensures.places;
  last = c.give.ensures.last;
}
