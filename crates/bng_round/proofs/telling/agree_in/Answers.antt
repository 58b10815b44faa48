use Rattle.std.proofs.Common.{◌≡◌, List, length, sym, ap, ◌∙◌, subst}
use Rattle.bng_turn.proofs.SeatLists.{refilled}
use Rattle.bng_pool.specs.Seats.{SeatView as Hold}
use Rattle.bng_round.specs.Views.{PlacedView}
use Rattle.bng_round.specs.Telling.{AreAt, LookersAt, EachGoes, EachKnowsMore, AreAgreed}
use Rattle.bng_round.proofs.telling.agree_in.Goals as goal

pub agree-requires-clause-at : goal.agree-requires-clause-at
agree-requires-clause-at g c = let at = c.requires.at in
    (at.0, subst (λ (l : List PlacedView). AreAt c.args.pool.now at.0 l) (sym c.as_mut_slice.ensures.value) at.1, subst (λ (l : List Hold). LookersAt c.args.pool.now at.0 l) (sym c.as_mut_slice-2.ensures.value) at.2)

pub returns-clause-lookers : goal.returns-clause-lookers
returns-clause-lookers g c =
    let l = c.args.lookers.now in let did = c.agree.ensures in
    let was : c.as_mut_slice-2.result.now ≡ l.items = c.as_mut_slice-2.ensures.value in
    let long : length c.agree.new.lookers ≡ length l.items = did.lookers.0 ∙ ap (λ (z : List Hold). length z) was in
    let is = refilled l.len c.agree.new.lookers l.items (long ∙ sym l.ok.0) (sym l.ok.0) in (
      ap (λ (z : List Hold). length z) is ∙ long,
      subst (λ (z : List Hold × List Hold). EachGoes z.0 z.1) (λ i. (was i, sym is i)) did.lookers.1,
    )

pub returns-clause-count : goal.returns-clause-count
returns-clause-count g c =
    let l = c.args.shards.now in let did = c.agree.ensures in
    let was : c.as_mut_slice.result.now ≡ l.items = c.as_mut_slice.ensures.value in
    let long : length c.agree.new.shards ≡ length l.items = did.count ∙ ap (λ (z : List PlacedView). length z) was in
    ap (λ (z : List PlacedView). length z) (refilled l.len c.agree.new.shards l.items (long ∙ sym l.ok.0) (sym l.ok.0)) ∙ long

pub returns-clause-more : goal.returns-clause-more
returns-clause-more g c =
    let l = c.args.shards.now in let did = c.agree.ensures in
    let was : c.as_mut_slice.result.now ≡ l.items = c.as_mut_slice.ensures.value in
    let long : length c.agree.new.shards ≡ length l.items = did.count ∙ ap (λ (z : List PlacedView). length z) was in
    let is = refilled l.len c.agree.new.shards l.items (long ∙ sym l.ok.0) (sym l.ok.0) in
    subst (λ (z : List PlacedView × List PlacedView). EachKnowsMore z.0 z.1) (λ i. (was i, sym is i)) did.more

pub returns-clause-agreed : goal.returns-clause-agreed
returns-clause-agreed g c =
    let l = c.args.shards.now in let did = c.agree.ensures in
    let was : c.as_mut_slice.result.now ≡ l.items = c.as_mut_slice.ensures.value in
    let long : length c.agree.new.shards ≡ length l.items = did.count ∙ ap (λ (z : List PlacedView). length z) was in
    let is = refilled l.len c.agree.new.shards l.items (long ∙ sym l.ok.0) (sym l.ok.0) in
    subst (λ (z : List PlacedView × List PlacedView × List Hold). AreAgreed z.0 z.1 z.2) (λ i. (was i, sym is i, c.as_mut_slice-2.ensures.value i)) did.agreed
