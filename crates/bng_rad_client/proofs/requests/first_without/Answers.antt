use Rattle.std.proofs.Common.{Option, subst}
use Rattle.bng_rad_client.specs.declared.due.LastSend.{LastSend}
use Rattle.bng_rad_client.specs.Requests.{HasLeft}
use Rattle.bng_rad_client.proofs.Places.{without}
use Rattle.bng_rad_client.proofs.requests.first_without.Goals as goal

pub returns-in_default : goal.returns-in_default
returns-in_default c = without c.args.places.now c.args.id c.in-Some.due c.if-due-id.false
    (subst (λ (first : Option LastSend). HasLeft first c.args.id c.args.places.now) c.in-Some.is c.requires.left)
