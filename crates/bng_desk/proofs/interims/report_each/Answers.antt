use Rattle.std.proofs.Common.{◌≡◌, length, sym, subst, arith}
use Rattle.bng_base.specs.declared.item.Entry.{Entry}
use Rattle.bng_engine.specs.Views.{ShardView}
use Rattle.bng_steps.specs.Lasting.{AreTenures}
use Rattle.bng_steps.specs.Protocol.{ShardState}
use Rattle.bng_desk.specs.Interims.{AwaitsAt}
use Rattle.bng_desk.proofs.Reporting.{awaits_there, each_formed, each_taken, each_waiting, few_more, few_none, live_there}
use Rattle.bng_desk.proofs.Zips.{zip_length}
use Rattle.bng_desk.proofs.interims.report_each.Goals as goal
use Rattle.bng_desk.proofs.interims.report_each.Goals.{Start}

-- of each shard there is what is kept of its Interims
same : (c : Start) → length c.args.shards.now ≡ length c.args.reports.now
same c = zip_length (AwaitsAt c.args.moment) c.args.shards.now c.args.reports.now c.requires.awaited

pub loop-place-init : goal.loop-place-init
loop-place-init c = few_none c.args.moment c.args.wall c.args.shards.now c.args.reports.now c.args.billing.now c.requires.awaited

pub bounds-reports-place : goal.bounds-reports-place
bounds-reports-place c = omega (arith, same (goal.at.bounds-reports-place c).Start, c.loop-place-test.true, c.loop-place.auto.reports)

pub offset_bounds-reports-place : goal.offset_bounds-reports-place
offset_bounds-reports-place c = omega (arith, same (goal.at.offset_bounds-reports-place c).Start, c.loop-place-test.true, c.loop-place.auto.reports)

pub report-requires-clause-terms : goal.report-requires-clause-terms
report-requires-clause-terms c =
    subst (λ (v : ShardView ShardState Entry). AreTenures c.args.moment v.state.slots) (sym c.index-shards-place.is) (c.requires.terms c.loop-place.place c.index-shards-place.result c.loop-place-test.true)

pub report-requires-clause-live : goal.report-requires-clause-live
report-requires-clause-live c =
    live_there c.args.billing.now c.loop-place.billing c.args.shards.now c.loop-place.place c.index-shards-place.result c.index-shards-place.is c.loop-place-test.true c.loop-place.invariant.held c.requires.live

pub report-requires-clause-awaited : goal.report-requires-clause-awaited
report-requires-clause-awaited c =
    awaits_there c.args.moment c.args.wall c.args.shards.now c.loop-place.place c.index-shards-place.result c.index-reports-place.result c.args.reports.now c.loop-place.reports c.args.billing.now c.loop-place.billing
    c.index-shards-place.is c.loop-place-test.true c.loop-place.invariant

pub loop-place-preserved : goal.loop-place-preserved
loop-place-preserved c =
    few_more c.args.moment c.args.wall c.args.shards.now c.loop-place.place c.index-shards-place.result c.index-reports-place.result c.args.reports.now c.loop-place.reports c.report.new.reports c.args.billing.now c.loop-place.billing c.report.new.billing
    c.index-shards-place.is c.loop-place-test.true (same (goal.at.loop-place-preserved c).Start) c.loop-place.invariant c.report.ensures.reports c.report.ensures.awaited c.report.ensures.held

pub returns-clause-forms : goal.returns-clause-forms
returns-clause-forms c =
    each_formed c.args.moment c.args.wall c.args.shards.now c.loop-place.place c.args.reports.now c.loop-place.reports c.args.billing.now c.loop-place.billing (omega arith) (same (goal.at.returns-clause-forms c).Start) c.loop-place.invariant

pub returns-clause-taken : goal.returns-clause-taken
returns-clause-taken c =
    each_taken c.args.moment c.args.wall c.args.shards.now c.loop-place.place c.args.reports.now c.loop-place.reports c.args.billing.now c.loop-place.billing (omega arith) (same (goal.at.returns-clause-taken c).Start) c.loop-place.invariant

pub returns-clause-awaited : goal.returns-clause-awaited
returns-clause-awaited c =
    each_waiting c.args.moment c.args.wall c.args.shards.now c.loop-place.place c.args.reports.now c.loop-place.reports c.args.billing.now c.loop-place.billing (omega arith) (same (goal.at.returns-clause-awaited c).Start) c.loop-place.invariant

pub returns-clause-held : goal.returns-clause-held
returns-clause-held c = c.loop-place.invariant.held
