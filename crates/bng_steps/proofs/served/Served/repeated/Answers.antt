use Rattle.std.proofs.Common.{List, option_map, subst}
use Rattle.bng_base.specs.declared.address.SessionNo.{SessionNo}
use Rattle.bng_steps.specs.Discovery.{is_repeated}
use Rattle.bng_steps.specs.Listing.{IsLowestPassing}
use Rattle.bng_steps.proofs.Scanning.{repeated_number}
use Rattle.bng_steps.proofs.served.Served.repeated.Goals as goal

pub returns : goal.returns
returns g c =
    let test = is_repeated c.args.port c.args.mac (option_map (λ o. o.now) c.args.asked) in
    let lowest = subst (λ (ns : List SessionNo). IsLowestPassing test (g.S.Store.sessions c.self.inside.sessions) ns c.lowest_repeated.result) c.as_slice.ensures.value c.lowest_repeated.ensures in
    rw (← c.self.view_is) (repeated_number (g.S.Store.sessions c.self.inside.sessions) c.self.inside.young.items c.args.port c.args.mac (option_map (λ o. o.now) c.args.asked) c.self.invariant.own c.self.invariant.young c.lowest_repeated.result lowest)
