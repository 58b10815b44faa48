use Rattle.std.proofs.Common.{rules, ◌≡◌, List, [], ◌∷◌, ◌++◌, sym, ap, subst, ◌∙◌}
use Rattle.bng_l2tp_wire.specs.Avps.{L2tpAvp, AvpFits, avp_text}
use Rattle.bng_l2tp_wire.specs.View.{avp_of, avps_of}
use Rattle.bng_base.proofs.PieceLaws.{Reads, one_more, one_over, no_pieces}
use Rattle.bng_l2tp_wire.proofs.AvpLaws.{is_code, avps_of-push, length-avps_of}
use Rattle.bng_l2tp_wire.proofs.listing.list_of.Goals as goal

pub loop-avp-preserved-then-is_full : goal.loop-avp-preserved-then-is_full
loop-avp-preserved-then-is_full c =
    let begins = c.in-Some.ensures in
    let new = one_over AvpFits avp_text 64 c.args.octets.now c.loop-avp.rest.now c.in-Some.next.now (avps_of c.loop-avp.found.items) c.loop-avp.many (avp_of c.in-Some.avp) begins.fits begins.spelled (search (rules, length-avps_of)) c.loop-avp.invariant.reads in
    record { reads = new; few = search rules }

pub loop-avp-preserved : goal.loop-avp-preserved
loop-avp-preserved c =
    let begins = c.in-Some.ensures in
    let made = avp_of c.in-Some.avp in
    let new = one_more AvpFits avp_text 64 c.args.octets.now c.loop-avp.rest.now c.in-Some.next.now (avps_of c.loop-avp.found.items) c.loop-avp.many made begins.fits begins.spelled c.loop-avp.invariant.reads in
    let is : avps_of c.push.new.self.items ≡ avps_of c.loop-avp.found.items ++ made ∷ [] = ap avps_of c.push.ensures.items ∙ avps_of-push c.loop-avp.found.items _ in
    record { reads = subst (λ (fs : List L2tpAvp). Reads AvpFits avp_text 64 c.args.octets.now c.in-Some.next.now fs c.loop-avp.many) (sym is) new; few = search rules }

pub returns-then-not-is_empty-clause-answer : goal.returns-then-not-is_empty-clause-answer
returns-then-not-is_empty-clause-answer c =
    no_pieces AvpFits avp_text 64 is_code c.args.octets.now c.loop-avp.rest.now (avps_of c.loop-avp.found.items) c.loop-avp.many c.loop-avp.invariant.reads (search rules)
    (λ a next fits e. c.in_default.ensures a (next, record { fits = fits; spelled = e }))
