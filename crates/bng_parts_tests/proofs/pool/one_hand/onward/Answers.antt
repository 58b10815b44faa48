use Rattle.std.proofs.Common.{◌≡◌, get_or, slice_get, Some, sym, ap, ◌∙◌, arith}
use Rattle.std.proofs.lemmas.Option.{slice_get-get_or, slice_get_within, same_Some}
use Rattle.bng_pool.specs.Seats.{SeatView}
use Rattle.bng_parts_tests.proofs.pool.one_hand.onward.Goals as goal

pub meet_all-requires : goal.meet_all-requires
meet_all-requires g c j q e = let long = c.pass_all.auto.seats in let within = slice_get_within c.pass_all.new.seats j q e in let p : SeatView = get_or c.args.seats.now j q in
    let at : slice_get c.args.seats.now j ≡ Some p = slice_get-get_or c.args.seats.now j q (omega arith) in let is = same_Some _ q (sym (c.pass_all.ensures j p at) ∙ e) in ap (λ (z : SeatView). z.pool) (sym is) ∙ (c.requires.seats j p at).0
