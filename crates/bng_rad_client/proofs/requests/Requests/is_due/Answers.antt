use Rattle.std.proofs.Common.{Option, Some, subst, sym, ◌∙◌}
use Rattle.bng_rad_client.specs.declared.due.LastSend.{LastSend}
use Rattle.bng_rad_client.specs.declared.due.Sought.TheVariants.{Any}
use Rattle.bng_rad_client.specs.Table.{Table}
use Rattle.bng_rad_client.specs.Due.{is_sought, IsOldestOrNone}
use Rattle.bng_rad_client.proofs.Firsts.{one_due}
use Rattle.bng_rad_client.proofs.requests.Requests.is_due.Goals as goal

pub returns-in-Some-clause-yes : goal.returns-in-Some-clause-yes
returns-in-Some-clause-yes c = λ late.
    let oldest = subst (λ (d : Option LastSend). IsOldestOrNone (is_sought Any 0) c.self.inside.places.items 256 d) c.in-Some.is c.self.invariant.oldest in
    one_due c.args.self.now.places c.args.now c.in-Some.first
    (subst (λ (t : Table). IsOldestOrNone (is_sought Any 0) t.places 256 (Some c.in-Some.first)) c.self.view_is oldest)
    (sym c.is_due.ensures ∙ late)
