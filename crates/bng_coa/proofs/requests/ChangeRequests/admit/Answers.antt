use Rattle.std.proofs.Common.{arith, List, ap}
use Rattle.std.specs.Prelude.{count_by}
use Rattle.bng_coa.specs.declared.request.ChangeRequest.{ChangeRequest}
use Rattle.bng_coa.specs.Requests.{is_in_hand, is_held}
use Rattle.bng_coa.proofs.Rooms.{fewer}
use Rattle.bng_coa.proofs.requests.ChangeRequests.admit.Goals as goal

pub make_room-requires : goal.make_room-requires
make_room-requires c =
    omega (arith, ap (λ (rs : List ChangeRequest). count_by is_in_hand rs) c.forget_old.ensures, fewer is_in_hand (is_held c.args.request.admitted_at) c.args.self.now, c.requires.few)
