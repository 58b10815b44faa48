use Rattle.std.proofs.Common.{ℕ, ◌||◌, Bool, List, rules, arith, sym, ap, subst, ◌∙◌, [], ◌∷◌, ◌++◌, length-append}
use Rattle.bng_base.specs.Stretch.{ExtendsPlant}
use Rattle.bng_desk.specs.Control.{Heeded, answering, is_stop, stops, has_stop}
use Rattle.bng_desk.specs.Report.{stats_by}
use Rattle.bng_desk.proofs.Going.{one_heeded, any_pushed, never_empty}
use Rattle.bng_desk.proofs.control.heed.Goals as goal

pub loop-taken-preserved : goal.loop-taken-preserved
loop-taken-preserved g c =
    let told = g.P.Plant.told in
    let so_far = c.loop-taken.invariant in
    let answered = c.answer-stops.ensures.answered in
    let as_read = c.payload.ensures.octets in
    let counted = c.args.counted.now in
    let stats = stats_by counted.shards.now counted.accounts.now.stopped counted.tally counted.drops.now counted.profiles.now in
    let h : Heeded = record { arrival = record { from = c.in-Got.from; cut = c.in-Got.cut; octets = c.receive.new.into.payload }; answered = answered } in
    record {
      heeded = so_far.heeded ++ h ∷ [];
      told = one_heeded stats (told c.args.plant.now) (told c.loop-taken.plant) (told c.receive.new.plant) (told c.answer-stops.new.plant) so_far.heeded h so_far.told
          (search rules)
          (subst (λ (octets : List ℕ). ExtendsPlant (told c.receive.new.plant) (told c.answer-stops.new.plant) (answering stats (record { arrival = record { from = c.in-Got.from; cut = c.in-Got.cut; octets = octets }; answered = answered }))) as_read c.answer-stops.ensures.told);
      count = omega (arith, length-append so_far.heeded (h ∷ []));
      stop = c.either-stop.ensures
          ∙ ap (λ (b : Bool). b || c.answer-stops.result) so_far.stop
          ∙ ap (λ (b : Bool). has_stop so_far.heeded || b) (c.answer-stops.ensures.is ∙ ap (λ (octets : List ℕ). is_stop (record { from = c.in-Got.from; cut = c.in-Got.cut; octets = octets })) as_read)
          ∙ sym (any_pushed stops so_far.heeded h);
      idle = never_empty so_far.heeded h;
    }
