use Rattle.std.proofs.Common.{ℕ, List, subst}
use Rattle.bng_lane.specs.Asking.{IsAskedBy}
use Rattle.bng_desk.proofs.requests.ask_one.Goals as goal

pub returns : goal.returns
returns g c = record {
  send = record { id = c.ask-id.result.0; octets = c.ask-id.result.1.payload; sent = c.send_one-sent.result };
  made = c.ask-id.new.self;
  asked = subst (λ (o : List ℕ). IsAskedBy c.args.lane.now c.args.now c.args.ask.now o c.ask-id.result.0 c.ask-id.result.1.payload c.ask-id.new.self) c.sixteen-authenticator.ensures.octets c.ask-id.ensures.asked;
  noted_is = c.send_one-sent.ensures.noted;
  told = c.send_one-sent.ensures.told;
  draws_are = c.sixteen-authenticator.ensures.counted;
}
