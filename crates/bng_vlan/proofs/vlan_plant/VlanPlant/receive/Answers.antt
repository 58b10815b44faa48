use Rattle.std.proofs.Common.{◌≡◌, ◌-◌, ◌<◌, ℕ, Some, false, ap, sym, ◌∙◌, length, arith}
use Rattle.std.specs.List.{slice_get}
use Rattle.bng_vlan.specs.declared.ending.Ending.TheVariants.{Stopped, Dry, Broken}
use Rattle.bng_vlan.specs.Map.{Trunks}
use Rattle.bng_vlan.specs.Waiting.{frames_at}
use Rattle.bng_vlan.specs.Hearing.{trunk_stretch}
use Rattle.bng_vlan.specs.Views.{map_of, waiting_of}
use Rattle.bng_vlan.proofs.Lists.{get_below}
use Rattle.bng_vlan.proofs.EntryReceive.{untag_dry, untag_stopped, untag_broken, untag_given, answers_dry, answers_stopped, answers_broken, answers_given}
use Rattle.bng_vlan.proofs.vlan_plant.VlanPlant.receive.Goals as goal

pub number-requires : goal.number-requires
number-requires g c =
    let same = ap (λ (m : Trunks). length m.entries) c.in-Stopped.ensures.map in
    omega (arith, get_below (map_of c.args.self.now.backlog).entries c.args.place c.args.entry c.requires.entry)

pub give-requires-clause-place : goal.give-requires-clause-place
give-requires-clause-place g c =
    let same = ap (λ (m : Trunks). length m.entries) c.in-Stopped.ensures.map in
    omega (arith, get_below (map_of c.args.self.now.backlog).entries c.args.place c.args.entry c.requires.entry)

pub returns-in-Dry-clause-adds : goal.returns-in-Dry-clause-adds
returns-in-Dry-clause-adds g c =
    let b = c.args.self.now.backlog in
    let r = c.in-Dry.ensures.reads in
    let w = waiting_of c.read.new.backlog in (
      trunk_stretch c.args.entry.trunk r.0 Dry,
      r.1,
      untag_dry (map_of b) b.sound c.args.place c.args.entry c.requires.entry c.requires.port (waiting_of b) r.0 c.read.new.into.payload w r.2,
      answers_dry (map_of b) c.args.place c.args.entry (waiting_of b) r.0 w r.2,
    )

pub returns-in-Broken-clause-adds : goal.returns-in-Broken-clause-adds
returns-in-Broken-clause-adds g c =
    let b = c.args.self.now.backlog in
    let r = c.in-Broken.ensures.reads in
    let w = waiting_of c.read.new.backlog in (
      trunk_stretch c.args.entry.trunk r.0 Broken,
      r.1,
      untag_broken (map_of b) b.sound c.args.place c.args.entry c.requires.entry c.requires.port (waiting_of b) r.0 c.read.new.into.payload w r.2,
      answers_broken (map_of b) c.args.place c.args.entry (waiting_of b) r.0 w r.2,
    )

pub returns-then-number-eq0-clause-adds : goal.returns-then-number-eq0-clause-adds
returns-then-number-eq0-clause-adds g c =
    let b = c.args.self.now.backlog in
    let r = c.in-Stopped.ensures.reads in
    let w = waiting_of c.read.new.backlog in
    let none : length (frames_at c.args.place w.frames) ≡ 0 = sym c.number.ensures ∙ c.if-number-eq0.true in (
      trunk_stretch c.args.entry.trunk r.0 Stopped,
      r.1,
      untag_stopped (map_of b) b.sound c.args.place c.args.entry c.requires.entry c.requires.port (waiting_of b) r.0 c.read.new.into.payload w r.2,
      answers_stopped (map_of b) c.args.place c.args.entry (waiting_of b) r.0 w none r.2,
    )

pub returns-else-number-eq0-clause-adds : goal.returns-else-number-eq0-clause-adds
returns-else-number-eq0-clause-adds g c =
    let b = c.args.self.now.backlog in
    let r = c.in-Stopped.ensures.reads in
    let u = waiting_of c.read.new.backlog in
    let w = waiting_of c.give.new.self in
    let same : map_of b ≡ map_of c.give.new.self = sym c.in-Stopped.ensures.map ∙ sym c.give.ensures.map in
    let peer : slice_get (map_of b).peers (c.args.entry.trunk - 1) ≡ Some c.peer_of.result = ap (λ (m : Trunks). slice_get m.peers (c.args.entry.trunk - 1)) same ∙ c.peer_of.ensures in (
      trunk_stretch c.args.entry.trunk r.0 Stopped,
      r.1,
      untag_given (map_of b) b.sound c.args.place c.args.entry c.requires.entry c.requires.port (waiting_of b) r.0 c.peer_of.result c.give.new.into.payload u w r.2 c.give.ensures.gives peer,
      answers_given (map_of b) c.args.place c.args.entry (waiting_of b) r.0 c.peer_of.result false u w r.2,
    )
