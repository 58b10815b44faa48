use Rattle.std.proofs.Common.{◌≡◌, Some, None, List, Option, length, refl, sym, ap, ◌∙◌}
use Rattle.std.proofs.lemmas.Option.{slice_get_read}
use Rattle.std.specs.Prelude.{slice_get, slice_set}
use Rattle.std.proofs.lemmas.List.{set-set}
use Rattle.bng_base.specs.Packet.{Packet as Bytes}
use Rattle.bng_rad_client.specs.declared.pending.Pending.{Pending}
use Rattle.bng_failover.specs.declared.server.Server.{Server}
use Rattle.bng_failover.proofs.place.repeat.Goals as goal

pub returns : goal.returns
returns c =
    let s : Server = c.index_mut-server.result.now in
    let is : slice_get c.args.servers.now.items c.args.at ≡ Some s = slice_get_read c.args.servers.now.items (length c.args.servers.now.items) c.args.at s refl c.requires.there c.index_mut-server.ensures.value in
    record {
      server = s;
      is = is;
      peer_is = refl;
      table = c.put.new.self;
      sent = record {
        before = c.in-Some.request;
        after = c.again.result;
        was = sym c.in-Some.ensures.request;
        payload = ap (λ (b : Bytes). b.payload) c.set.ensures ∙ c.as_slice.ensures.octets;
        owner = c.again.ensures.owner;
        octets = c.again.ensures.octets;
        moment = c.again.ensures.moment;
        sends = c.again.ensures.sends;
        places = c.put.ensures.places ∙ ap (λ (ps : List (Option Pending)). slice_set ps c.args.id (Some c.again.result)) c.take.ensures.places ∙ set-set s.requests.places c.args.id None (Some c.again.result);
        last = c.put.ensures.last ∙ c.take.ensures.last;
      };
      servers = refl;
    }
