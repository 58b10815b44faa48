use Rattle.std.proofs.Common.{◌≡◌, ◌≤◌, ℕ, List, Some, None, refl, ap, ap₂, sym, subst, ◌∙◌, length, arith}
use Rattle.bng_base.specs.declared.outside.Role.{Role}
use Rattle.bng_base.specs.Stretch.{PlantStretch}
use Rattle.bng_plant.specs.Calls.{send_most}
use Rattle.bng_vlan.specs.declared.tag.Tags.{Tags}
use Rattle.bng_vlan.specs.Stretches.{sending}
use Rattle.bng_vlan.specs.Tags.{tagged}
use Rattle.bng_vlan.specs.Map.{entry_of, role_of, tags_in}
use Rattle.bng_vlan.specs.Views.{map_of, waiting_of}
use Rattle.bng_vlan.proofs.Passing.{no_access, passes_send, tags_send}
use Rattle.bng_vlan.proofs.TaggedSends.{port_of, port_most, trunk_most, length-tagged}
use Rattle.bng_vlan.proofs.vlan_plant.VlanPlantTrunkPlant.send.Goals as goal

pub returns-in_default : goal.returns-in_default
returns-in_default g c = record {
  adds = (refl, refl, sending c.args.role c.args.to c.args.bytes.now c.send.result, c.send.ensures.adds, passes_send (map_of c.args.self.now.backlog) (waiting_of c.args.self.now.backlog) c.args.role c.args.to c.args.bytes.now c.send.result (no_access (map_of c.args.self.now.backlog) c.args.role c.in_default.not-Access).0);
}

pub returns-in-None : goal.returns-in-None
returns-in-None g c =
    let m = map_of c.args.self.now.backlog in
    let none : entry_of m c.args.role ≡ None = ap (entry_of m) c.in-Access.is ∙ c.in-None.ensures.none refl in
    record {
      adds = (refl, refl, sending c.args.role c.args.to c.args.bytes.now c.send-in-None.result, subst (λ (r : Role). g.P.TrunkPlant.adds c.args.self.now.plant.now (sending r c.args.to c.args.bytes.now c.send-in-None.result) c.send-in-None.new.self) (sym c.in-Access.is) c.send-in-None.ensures.adds, passes_send m (waiting_of c.args.self.now.backlog) c.args.role c.args.to c.args.bytes.now c.send-in-None.result none);
    }

pub write_tagged-requires-clause-fits : goal.write_tagged-requires-clause-fits
write_tagged-requires-clause-fits g c =
    let m = map_of c.args.self.now.backlog in
    let e = c.entry_at-entry.result in
    let found = c.in-Some.ensures.found.0 ∙ c.entry_at-entry.ensures in
    let port = port_of m c.in-Access.port e found in
    let small = (c.args.self.now.backlog.sound.each c.in-Some.place e c.entry_at-entry.ensures).access_to in
    let most : send_most c.args.role ≡ 4160 = ap send_most c.in-Access.is ∙ port_most c.in-Access.port (omega arith) in
    omega arith

pub send-requires-in-Some : goal.send-requires-in-Some
send-requires-in-Some g c =
    let m = map_of c.args.self.now.backlog in
    let e = c.entry_at-entry.result in
    let found = c.in-Some.ensures.found.0 ∙ c.entry_at-entry.ensures in
    let port = port_of m c.in-Access.port e found in
    let is = c.args.self.now.backlog.sound.each c.in-Some.place e c.entry_at-entry.ensures in
    let small = is.access_to in
    let most : send_most c.args.role ≡ 4160 = ap send_most c.in-Access.is ∙ port_most c.in-Access.port (omega arith) in
    let trunk : send_most c.role_of.result ≡ 4168 = ap send_most c.role_of.ensures ∙ trunk_most e.trunk is.trunk_from in
    let text = ap length (c.deref.ensures.value ∙ c.write_tagged.ensures.items) in
    let long = length-tagged c.tags.result c.args.bytes.now in
    omega arith

pub returns-in-Some : goal.returns-in-Some
returns-in-Some g c =
    let m = map_of c.args.self.now.backlog in
    let e = c.entry_at-entry.result in
    let found : entry_of m c.args.role ≡ Some e = ap (entry_of m) c.in-Access.is ∙ c.in-Some.ensures.found.0 ∙ c.entry_at-entry.ensures in
    let answer = c.send-in-Some.result in
    let text : c.deref.result.now ≡ tagged (tags_in e) c.args.bytes.now =
    c.deref.ensures.value ∙ c.write_tagged.ensures.items ∙ ap (λ (t : Tags). tagged t c.args.bytes.now) c.tags.ensures in
    let same : sending c.role_of.result c.args.to c.deref.result.now answer ≡ sending (role_of e.trunk) c.args.to (tagged (tags_in e) c.args.bytes.now) answer =
    ap₂ (λ (r : Role) (o : List ℕ). sending r c.args.to o answer) c.role_of.ensures text in
    record {
      adds = (
        refl,
        refl,
        sending (role_of e.trunk) c.args.to (tagged (tags_in e) c.args.bytes.now) answer,
        subst (λ (s : PlantStretch). g.P.TrunkPlant.adds c.args.self.now.plant.now s c.send-in-Some.new.self) same c.send-in-Some.ensures.adds,
        tags_send m (waiting_of c.args.self.now.backlog) c.args.role c.args.to c.args.bytes.now answer e found,
      );
    }
