use Rattle.std.proofs.Common.{rules, ◌≡◌, suc, List, ◌∷◌, length, slice_get, sym, ap, ◌∙◌}
use Rattle.bng_pool.specs.Seats.{SeatView as Hold}
use Rattle.bng_round.specs.Telling.{IsAt, HolderHolds}
use Rattle.bng_round.proofs.Tellings.{apart, held_within, of_shards, of_looker, of_first, more_of, first_goes, first_holds}
use Rattle.bng_round.proofs.telling.agree.Goals as goal

pub debrief-requires : goal.debrief-requires
debrief-requires g c =
    let all : c.args.lookers.now ≡ c.in-Some.first.now ∷ c.in-Some.others.now = search rules in
    let at = c.requires.at in
    record { at = (at.0, at.1, at.2 0 c.in-Some.first.now (ap (λ (l : List Hold). slice_get l 0) all), λ j q e. at.2 (suc j) q (ap (λ (l : List Hold). slice_get l (suc j)) all ∙ e)) }

pub returns-clause-lookers : goal.returns-clause-lookers
returns-clause-lookers g c =
    let all : c.args.lookers.now ≡ c.in-Some.first.now ∷ c.in-Some.others.now = search rules in
    let did = c.debrief.ensures in (
      (λ i. suc (length (did.others i))) ∙ ap (λ (l : List Hold). length l) (sym all),
      first_goes c.args.lookers.now c.in-Some.others.now c.debrief.new.others c.in-Some.first.now c.debrief.new.first all did.others did.goes,
    )

pub returns-clause-more : goal.returns-clause-more
returns-clause-more g c = more_of c.debrief.new.first c.args.shards.now c.debrief.new.shards c.debrief.ensures.told

pub returns-clause-agreed : goal.returns-clause-agreed
returns-clause-agreed g c =
    let all : c.args.lookers.now ≡ c.in-Some.first.now ∷ c.in-Some.others.now = search rules in
    let at = c.requires.at in let did = c.debrief.ensures in
    let first : IsAt c.args.pool.now at.0 c.in-Some.first.now = at.2 0 c.in-Some.first.now (ap (λ (l : List Hold). slice_get l 0) all) in
    record {
      apart = apart c.args.pool.now at.0 c.debrief.new.first c.args.shards.now c.debrief.new.shards at.1 did.knows.0 did.told did.count;
      within = held_within c.args.pool.now at.0 c.debrief.new.first c.args.shards.now c.debrief.new.shards at.1 did.knows.0 did.told did.count;
      of_shards = of_shards c.args.pool.now at.0 c.debrief.new.first c.args.shards.now c.debrief.new.shards at.1 did.knows.0 did.told did.count c.requires.count;
      of_lookers = first_holds c.args.lookers.now c.in-Some.others.now c.in-Some.first.now (HolderHolds c.debrief.new.shards) all
          (of_first c.args.pool.now at.0 c.debrief.new.first c.args.shards.now c.debrief.new.shards at.1 did.knows.0 did.told did.count c.in-Some.first.now did.goes first.phase_is)
          (λ j q e. of_looker c.args.pool.now at.0 c.debrief.new.first c.args.shards.now c.debrief.new.shards at.1 did.knows.0 did.told did.count q (did.knows.1 j q e) (at.2 (suc j) q (ap (λ (l : List Hold). slice_get l (suc j)) all ∙ e)).phase_is);
    }
