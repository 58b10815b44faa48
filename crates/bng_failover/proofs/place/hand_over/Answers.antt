use Rattle.std.proofs.Common.{◌≡◌, ◌<◌, Some, List, ℕ, sym, subst, ◌∙◌, arith}
use Rattle.bng_rad_client.specs.Table.{request_of}
use Rattle.bng_failover.specs.declared.server.Server.{Server}
use Rattle.bng_failover.specs.Servers.{CanBeAsked, in_hand, without}
use Rattle.bng_failover.specs.Asking.{IsAskedAt}
use Rattle.bng_failover.specs.Places.{IsWithdrawnAt}
use Rattle.bng_failover.proofs.Changes.{shrunk, room_at}
use Rattle.bng_failover.proofs.place.hand_over.Goals as goal

pub ask-requires-clause-grammar : goal.ask-requires-clause-grammar
ask-requires-clause-grammar c =
    let s : Server = c.withdraw.ensures.server in
    let was : request_of s.requests.places c.args.id ≡ Some c.in-Some.request = sym c.withdraw.ensures.request ∙ c.in-Some.is in
    let can : CanBeAsked c.as_slice.result.now = subst CanBeAsked (sym c.as_slice.ensures.octets) ((c.requires.sound.each c.args.from s c.withdraw.ensures.is).requests c.args.id c.in-Some.request was) in
    (can.packet, can.reads, can.can)

pub ask-requires-clause-room : goal.ask-requires-clause-room
ask-requires-clause-room c =
    let gone : IsWithdrawnAt c.args.servers.now.items c.withdraw.new.servers.items c.args.from c.args.id (Some c.in-Some.request) = c.in-Some.ensures in
    let out = shrunk c.args.servers.now.items c.requires.sound.each c.withdraw.new.servers.items c.args.from c.args.id c.in-Some.request gone in
    let few : in_hand c.withdraw.new.servers.items < 256 = omega (arith, out.count, c.requires.sound.most) in
    room_at c.withdraw.new.servers.items c.args.to few

pub returns : goal.returns
returns c =
    let s : Server = c.withdraw.ensures.server in
    record {
      server = s;
      is = c.withdraw.ensures.is;
      request = c.in-Some.request;
      was = sym c.withdraw.ensures.request ∙ c.in-Some.is;
      asked = subst (λ (octets : List ℕ). IsAskedAt (without c.args.servers.now.items c.args.from s c.args.id) c.ask.new.servers.items c.args.to c.in-Some.request.owner octets c.args.secret.now c.args.now c.ask.result c.ask.new.into) c.as_slice.ensures.octets
          (subst (λ (mid : List Server). IsAskedAt mid c.ask.new.servers.items c.args.to c.in-Some.request.owner c.as_slice.result.now c.args.secret.now c.args.now c.ask.result c.ask.new.into) c.withdraw.ensures.servers c.ask.ensures);
    }
