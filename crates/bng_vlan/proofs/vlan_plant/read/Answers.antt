use Rattle.std.proofs.Common.{◌≡◌, ◌⊎◌, inl, inr, ◌+◌, ◌<◌, ◌∷◌, ◌++◌, [], ℕ, List, refl, ap, sym, subst, ◌∙◌, length, length-append, arith}
use Rattle.bng_base.specs.declared.outside.Received.TheVariants.{Got, Empty, Failed}
use Rattle.bng_base.specs.declared.outside.Role.{Role}
use Rattle.bng_base.specs.Stretch.{PlantStretch}
use Rattle.bng_vlan.specs.declared.backlog.Backlog.{Backlog}
use Rattle.bng_vlan.specs.declared.ending.Ending.TheVariants.{Stopped}
use Rattle.bng_vlan.specs.Stretches.{receiving}
use Rattle.bng_vlan.specs.Map.{Trunks, role_of}
use Rattle.bng_vlan.specs.Frames.{Came}
use Rattle.bng_vlan.specs.Waiting.{Keeps, Holds, frames_at}
use Rattle.bng_vlan.specs.Hearing.{trunk_stretch}
use Rattle.bng_vlan.specs.Views.{map_of, waiting_of}
use Rattle.bng_vlan.proofs.TrunkReading.{one_more, is_stopped, is_dry, is_broken, took_more, was_empty, had_failed}
use Rattle.bng_vlan.proofs.vlan_plant.read.Goals as goal

-- the same of the map that there was at first
free_of : (b first : Backlog) (trunk : ℕ) → map_of b ≡ map_of first → (Holds (map_of b).entries (waiting_of b).frames trunk → ⊥) → Holds (map_of first).entries (waiting_of b).frames trunk → ⊥
free_of b first trunk same free held = free (subst (λ (m : Trunks). Holds m.entries (waiting_of b).frames trunk) (sym same) held)

pub returns-then-number-gt0-clause-reads : goal.returns-then-number-gt0-clause-reads
returns-then-number-gt0-clause-reads g c =
    let inv = c.loop.invariant in (
      inv.came,
      inv.adds,
      is_stopped (map_of c.args.backlog.now) c.args.place c.args.entry (waiting_of c.args.backlog.now) inv.came c.requires (waiting_of c.loop.backlog) inv.far (omega arith) (inl (omega arith)),
    )

pub returns-then-holds-clause-reads : goal.returns-then-holds-clause-reads
returns-then-holds-clause-reads g c =
    let inv = c.loop.invariant in
    let held = subst (λ (m : Trunks). Holds m.entries (waiting_of c.loop.backlog).frames c.args.entry.trunk) inv.same (c.holds.ensures.held c.if-holds.true) in (
      inv.came,
      inv.adds,
      is_stopped (map_of c.args.backlog.now) c.args.place c.args.entry (waiting_of c.args.backlog.now) inv.came c.requires (waiting_of c.loop.backlog) inv.far (omega arith) (inr (inl held)),
    )

pub returns-clause-reads : goal.returns-clause-reads
returns-clause-reads g c =
    let inv = c.loop.invariant in (
      inv.came,
      inv.adds,
      is_stopped (map_of c.args.backlog.now) c.args.place c.args.entry (waiting_of c.args.backlog.now) inv.came c.requires (waiting_of c.loop.backlog) inv.far (omega arith) (inr (inr (omega arith))),
    )

pub returns-in-Empty-clause-reads : goal.returns-in-Empty-clause-reads
returns-in-Empty-clause-reads g c =
    let inv = c.loop.invariant in
    let t = c.args.entry.trunk in
    let none : length (frames_at c.args.place (waiting_of c.loop.backlog).frames) ≡ 0 = omega arith in
    let few : length inv.came < 224 = omega arith in
    let one = subst (λ (r : Role). g.P.TrunkPlant.adds c.loop.plant (receiving r Empty c.recv.new.into.payload) c.recv.new.self) c.role_of.ensures c.in-Empty.ensures.adds in
    let both = g.met.P.TrunkPlant.more c.args.plant.now c.loop.plant c.recv.new.self (trunk_stretch t inv.came Stopped) (receiving (role_of t) Empty c.recv.new.into.payload) inv.adds one in (
      inv.came,
      subst (λ (s : PlantStretch). g.P.TrunkPlant.adds c.args.plant.now s c.recv.new.self) (was_empty t inv.came c.recv.new.into.payload) both,
      is_dry (map_of c.args.backlog.now) c.args.place c.args.entry (waiting_of c.args.backlog.now) inv.came c.requires (waiting_of c.loop.backlog) inv.far few none (free_of c.loop.backlog c.args.backlog.now c.args.entry.trunk inv.same (c.holds.ensures.free c.if-holds.false)),
    )

pub returns-in-Failed-clause-reads : goal.returns-in-Failed-clause-reads
returns-in-Failed-clause-reads g c =
    let inv = c.loop.invariant in
    let t = c.args.entry.trunk in
    let none : length (frames_at c.args.place (waiting_of c.loop.backlog).frames) ≡ 0 = omega arith in
    let few : length inv.came < 224 = omega arith in
    let one = subst (λ (r : Role). g.P.TrunkPlant.adds c.loop.plant (receiving r Failed c.recv.new.into.payload) c.recv.new.self) c.role_of.ensures c.in-Failed.ensures.adds in
    let both = g.met.P.TrunkPlant.more c.args.plant.now c.loop.plant c.recv.new.self (trunk_stretch t inv.came Stopped) (receiving (role_of t) Failed c.recv.new.into.payload) inv.adds one in (
      inv.came,
      subst (λ (s : PlantStretch). g.P.TrunkPlant.adds c.args.plant.now s c.recv.new.self) (had_failed t inv.came c.recv.new.into.payload) both,
      is_broken (map_of c.args.backlog.now) c.args.place c.args.entry (waiting_of c.args.backlog.now) inv.came c.requires (waiting_of c.loop.backlog) inv.far few none (free_of c.loop.backlog c.args.backlog.now c.args.entry.trunk inv.same (c.holds.ensures.free c.if-holds.false)),
    )

pub loop-preserved : goal.loop-preserved
loop-preserved g c =
    let inv = c.loop.invariant in
    let t = c.args.entry.trunk in
    let came : Came = record { trunk = t; from = c.in-Got.from; cut = c.in-Got.cut; octets = c.recv.new.into.payload } in
    let none : length (frames_at c.args.place (waiting_of c.loop.backlog).frames) ≡ 0 = omega arith in
    let one = subst (λ (r : Role). g.P.TrunkPlant.adds c.loop.plant (receiving r (Got c.in-Got.from c.in-Got.cut) c.recv.new.into.payload) c.recv.new.self) c.role_of.ensures c.in-Got.ensures.adds in
    let both = g.met.P.TrunkPlant.more c.args.plant.now c.loop.plant c.recv.new.self (trunk_stretch t inv.came Stopped) (receiving (role_of t) (Got c.in-Got.from c.in-Got.cut) c.recv.new.into.payload) inv.adds one in
    let keeps = subst (λ (m : Trunks). Keeps m (waiting_of c.loop.backlog) (came ∷ []) (waiting_of c.put.new.self)) inv.same c.put.ensures.keeps in
    record {
      same = c.put.ensures.map ∙ inv.same;
      came = inv.came ++ came ∷ [];
      number = omega (arith, length-append inv.came (came ∷ []), inv.number);
      adds = subst (λ (s : PlantStretch). g.P.TrunkPlant.adds c.args.plant.now s c.recv.new.self) (took_more t inv.came c.in-Got.from c.in-Got.cut c.recv.new.into.payload) both;
      far = one_more (map_of c.args.backlog.now) c.args.place c.args.entry (waiting_of c.args.backlog.now) inv.came c.requires came (waiting_of c.loop.backlog) (waiting_of c.put.new.self) refl inv.far none (free_of c.loop.backlog c.args.backlog.now c.args.entry.trunk inv.same (c.holds.ensures.free c.if-holds.false)) keeps;
    }
