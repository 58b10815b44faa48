use Rattle.std.proofs.Common.{◌≡◌, ℕ, Some, None, true, false, refl, ap, sym, subst, ◌∙◌}
use Rattle.std.specs.List.{slice_get}
use Rattle.bng_base.specs.declared.outside.Received.TheVariants.{Empty}
use Rattle.bng_base.specs.declared.outside.Role.{Role}
use Rattle.bng_base.specs.declared.outside.Role.TheVariants.{Access}
use Rattle.bng_base.specs.Stretch.{PlantStretch, plant_none}
use Rattle.bng_vlan.specs.declared.map.VlanEntry.{VlanEntry}
use Rattle.bng_vlan.specs.Stretches.{receiving}
use Rattle.bng_vlan.specs.Map.{entry_of, is_trunk}
use Rattle.bng_vlan.specs.Untagged.{Untagged}
use Rattle.bng_vlan.specs.Reading.{Answers}
use Rattle.bng_vlan.specs.Views.{map_of, waiting_of}
use Rattle.bng_vlan.proofs.Passing.{no_access, passes_receive, passes_trunk}
use Rattle.bng_vlan.proofs.TaggedSends.{port_of}
use Rattle.bng_vlan.proofs.vlan_plant.VlanPlantTrunkPlant.recv.Goals as goal

pub returns-in_default : goal.returns-in_default
returns-in_default g c =
    let m = map_of c.args.self.now.backlog in
    let other = no_access m c.args.role c.in_default.not-Access in
    record {
      filled = c.recv.ensures.filled;
      adds = (refl, refl, receiving c.args.role c.recv.result c.recv.new.into.payload, c.recv.ensures.adds, passes_receive m (waiting_of c.args.self.now.backlog) c.args.role c.recv.result c.recv.new.into.payload other.0 other.1);
      answers = λ place e found stands. absurd (let both : Some e ≡ None = sym found ∙ other.0 in cc);
    }

pub receive-requires-clause-port : goal.receive-requires-clause-port
receive-requires-clause-port g c =
    let m = map_of c.args.self.now.backlog in
    let found : entry_of m (Access c.in-Access.port) ≡ Some c.entry_at-entry.result = c.in-Some.ensures.found.0 ∙ c.entry_at-entry.ensures in
    ap (λ (n : ℕ). entry_of m (Access n)) (sym (port_of m c.in-Access.port c.entry_at-entry.result found)) ∙ found

pub returns-then-is_trunk-clause-adds : goal.returns-then-is_trunk-clause-adds
returns-then-is_trunk-clause-adds g c =
    let m = map_of c.args.self.now.backlog in
    let none : entry_of m c.args.role ≡ None = ap (entry_of m) c.in-Access.is ∙ c.in-None.ensures.none refl in
    let trunk : is_trunk m c.args.role ≡ true = ap (is_trunk m) c.in-Access.is ∙ sym c.is_trunk.ensures ∙ c.if-is_trunk.true in
    (refl, refl, plant_none, g.met.P.TrunkPlant.none c.args.self.now.plant.now, passes_trunk m (waiting_of c.args.self.now.backlog) c.args.role c.args.into.now.payload none trunk)

pub returns-else-is_trunk-clause-adds : goal.returns-else-is_trunk-clause-adds
returns-else-is_trunk-clause-adds g c =
    let m = map_of c.args.self.now.backlog in
    let none : entry_of m c.args.role ≡ None = ap (entry_of m) c.in-Access.is ∙ c.in-None.ensures.none refl in
    let other : is_trunk m c.args.role ≡ false = ap (is_trunk m) c.in-Access.is ∙ sym c.is_trunk.ensures ∙ c.if-is_trunk.false in
    let s : Role → PlantStretch = λ role. receiving role c.recv-in-None.result c.recv-in-None.new.into.payload in (
      refl,
      refl,
      s c.args.role,
      subst (λ (r : Role). g.P.TrunkPlant.adds c.args.self.now.plant.now (s r) c.recv-in-None.new.self) (sym c.in-Access.is) c.recv-in-None.ensures.adds,
      passes_receive m (waiting_of c.args.self.now.backlog) c.args.role c.recv-in-None.result c.recv-in-None.new.into.payload none other,
    )

pub returns-in-Some-clause-adds : goal.returns-in-Some-clause-adds
returns-in-Some-clause-adds g c =
    let m = map_of c.args.self.now.backlog in
    let e = c.entry_at-entry.result in
    let found : entry_of m (Access c.in-Access.port) ≡ Some e = c.in-Some.ensures.found.0 ∙ c.entry_at-entry.ensures in
    let role : Access e.access ≡ c.args.role = ap Access (sym (port_of m c.in-Access.port e found)) ∙ sym c.in-Access.is in
    let r = c.receive.ensures.adds in (
      sym c.receive.ensures.same,
      sym c.receive.ensures.map,
      r.0,
      r.1,
      subst (λ (o : Role). Untagged m (waiting_of c.args.self.now.backlog) r.0 (receiving o c.receive.result c.receive.new.into.payload) (waiting_of c.receive.new.self.backlog)) role r.2,
    )

pub returns-in-Some-clause-answers : goal.returns-in-Some-clause-answers
returns-in-Some-clause-answers g c = λ place d is_entry stands.
    let m = map_of c.args.self.now.backlog in
    let e = c.entry_at-entry.result in
    let found : entry_of m (Access c.in-Access.port) ≡ Some e = c.in-Some.ensures.found.0 ∙ c.entry_at-entry.ensures in
    let role : Access e.access ≡ c.args.role = ap Access (sym (port_of m c.in-Access.port e found)) ∙ sym c.in-Access.is in
    let both : Some e ≡ Some d = sym found ∙ ap (entry_of m) (sym c.in-Access.is) ∙ is_entry in
    let same : e ≡ d = cc in
    let here : c.in-Some.place ≡ place = c.args.self.now.backlog.sound.ports c.in-Some.place place e d c.entry_at-entry.ensures stands (ap (λ (x : VlanEntry). x.access) same) in
    let r = c.receive.ensures.adds in
    let v = waiting_of c.args.self.now.backlog in
    let w = waiting_of c.receive.new.self.backlog in (
      r.0,
      r.1,
      subst (λ (o : Role). Untagged m v r.0 (receiving o c.receive.result c.receive.new.into.payload) w) role r.2,
      subst (λ (x : VlanEntry). Answers m place x c.receive.result v r.0 w) same (subst (λ (n : ℕ). Answers m n e c.receive.result v r.0 w) here r.3),
    )
