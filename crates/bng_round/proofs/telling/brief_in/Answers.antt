use Rattle.std.proofs.Common.{◌≡◌, List, length, sym, ap, ◌∙◌, subst}
use Rattle.bng_turn.proofs.SeatLists.{refilled}
use Rattle.bng_pool.specs.Seats.{SeatView as Hold}
use Rattle.bng_round.specs.Views.{PlacedView}
use Rattle.bng_round.specs.Telling.{AreAt, LookersAt, EachGoes, EachKnows}
use Rattle.bng_round.proofs.telling.brief_in.Goals as goal

pub brief-requires : goal.brief-requires
brief-requires g c = let at = c.requires.at in
    record { at = (at.0, subst (λ (l : List PlacedView). AreAt c.args.pool.now at.0 l) (sym c.as_mut_slice.ensures.value) at.1, subst (λ (l : List Hold). LookersAt c.args.pool.now at.0 l) (sym c.as_mut_slice-2.ensures.value) at.2) }

pub returns-clause-same : goal.returns-clause-same
returns-clause-same g c =
    let l = c.args.shards.now in let did = c.brief.ensures in
    let was : c.brief.new.shards ≡ l.items = did.same ∙ c.as_mut_slice.ensures.value in
    refilled l.len c.brief.new.shards l.items (ap (λ (z : List PlacedView). length z) was ∙ sym l.ok.0) (sym l.ok.0) ∙ was

pub returns-clause-count : goal.returns-clause-count
returns-clause-count g c =
    let l = c.args.lookers.now in let did = c.brief.ensures in
    let was : c.as_mut_slice-2.result.now ≡ l.items = c.as_mut_slice-2.ensures.value in
    let long : length c.brief.new.lookers ≡ length l.items = did.count ∙ ap (λ (z : List Hold). length z) was in
    ap (λ (z : List Hold). length z) (refilled l.len c.brief.new.lookers l.items (long ∙ sym l.ok.0) (sym l.ok.0)) ∙ long

pub returns-clause-goes : goal.returns-clause-goes
returns-clause-goes g c =
    let l = c.args.lookers.now in let did = c.brief.ensures in
    let was : c.as_mut_slice-2.result.now ≡ l.items = c.as_mut_slice-2.ensures.value in
    let long : length c.brief.new.lookers ≡ length l.items = did.count ∙ ap (λ (z : List Hold). length z) was in
    let is = refilled l.len c.brief.new.lookers l.items (long ∙ sym l.ok.0) (sym l.ok.0) in
    subst (λ (z : List Hold × List Hold). EachGoes z.0 z.1) (λ i. (was i, sym is i)) did.goes

pub returns-clause-knows : goal.returns-clause-knows
returns-clause-knows g c =
    let l = c.args.lookers.now in let did = c.brief.ensures in
    let was : c.as_mut_slice-2.result.now ≡ l.items = c.as_mut_slice-2.ensures.value in
    let long : length c.brief.new.lookers ≡ length l.items = did.count ∙ ap (λ (z : List Hold). length z) was in
    let is = refilled l.len c.brief.new.lookers l.items (long ∙ sym l.ok.0) (sym l.ok.0) in
    subst (λ (z : List Hold × List PlacedView). EachKnows z.0 z.1) (λ i. (sym is i, c.as_mut_slice.ensures.value i)) did.knows
