use Rattle.std.proofs.Common.{rules, refl}
use Rattle.bng_rad_client.proofs.requests.Requests.put.Goals as goal

pub first_with-self-inside-requires-clause-come : goal.first_with-self-inside-requires-clause-come
first_with-self-inside-requires-clause-come c = record {
  before = c.self.inside.places.items;
  oldest = c.self.invariant.oldest;
  request = c.args.request;
  moment = refl;
  written = search rules;
}
