use Rattle.bng_shard.specs.Fits.{shown_of}
use Rattle.std.proofs.Common.{◌<◌, ◌^◌, true, false, sym, subst, ap, ◌∙◌}
use Rattle.bng_base.specs.declared.item.Entry.{Entry}
use Rattle.bng_engine.specs.Quantities.{Octets, Packets, in_book}
use Rattle.bng_engine.specs.Views.{ShardView}
use Rattle.bng_steps.specs.Live.{live_in}
use Rattle.bng_steps.specs.Protocol.{ShardState}
use Rattle.bng_shard.proofs.shard.Shard.live.Goals as goal

pub live-requires-clause-input : goal.live-requires-clause-input
live-requires-clause-input c =
    let seen = ap shown_of c.deref.ensures ∙ c.self.view_is in
    subst (λ (v : ShardView ShardState Entry). in_book Octets true (live_in v.rows) < 2 ^ 64) (sym seen) (c.requires.low Octets true)

pub live-requires-clause-output : goal.live-requires-clause-output
live-requires-clause-output c =
    let seen = ap shown_of c.deref.ensures ∙ c.self.view_is in
    subst (λ (v : ShardView ShardState Entry). in_book Octets false (live_in v.rows) < 2 ^ 64) (sym seen) (c.requires.low Octets false)

pub live-requires-clause-input_packets : goal.live-requires-clause-input_packets
live-requires-clause-input_packets c =
    let seen = ap shown_of c.deref.ensures ∙ c.self.view_is in
    subst (λ (v : ShardView ShardState Entry). in_book Packets true (live_in v.rows) < 2 ^ 64) (sym seen) (c.requires.low Packets true)

pub live-requires-clause-output_packets : goal.live-requires-clause-output_packets
live-requires-clause-output_packets c =
    let seen = ap shown_of c.deref.ensures ∙ c.self.view_is in
    subst (λ (v : ShardView ShardState Entry). in_book Packets false (live_in v.rows) < 2 ^ 64) (sym seen) (c.requires.low Packets false)
