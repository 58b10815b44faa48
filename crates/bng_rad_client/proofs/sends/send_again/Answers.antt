use Rattle.std.proofs.Common.{Some, None, Option, List, sym, ap, ◌∙◌}
use Rattle.std.specs.Prelude.{slice_set}
use Rattle.std.proofs.lemmas.List.{set-set}
use Rattle.bng_base.specs.Packet.{Packet as Bytes}
use Rattle.bng_rad_client.specs.declared.pending.Pending.{Pending}
use Rattle.bng_rad_client.proofs.sends.send_again.Goals as goal

pub returns : goal.returns
returns c = record {
  before = c.in-Some.request;
  after = c.again-again.result;
  was = sym c.in-Some.ensures.request;
  payload = ap (λ (b : Bytes). b.payload) c.set.ensures ∙ c.as_slice.ensures.octets;
  owner = c.again-again.ensures.owner;
  octets = c.again-again.ensures.octets;
  moment = c.again-again.ensures.moment;
  sends = c.again-again.ensures.sends;
  places = c.put.ensures.places ∙ ap (λ (ps : List (Option Pending)). slice_set ps c.args.id (Some c.again-again.result)) c.take.ensures.places ∙ set-set c.args.requests.now.places c.args.id None (Some c.again-again.result);
  last = c.put.ensures.last ∙ c.take.ensures.last;
}
