use Rattle.std.proofs.lemmas.List.Elements.{recursion_from_All}
use Rattle.bng_acct.specs.Roster.{of_term}
use Rattle.bng_acct.specs.Spool.{is_live}
use Rattle.bng_engine.specs.Terms.{Key}
use Rattle.std.proofs.Common.{◌≡◌, true, List, slice_get, refl, sym, ap}
use Rattle.bng_engine.specs.Views.{Row}
use Rattle.bng_steps.specs.Interims.{row_told}
use Rattle.bng_steps.specs.Protocol.{key_of}
use Rattle.bng_desk.proofs.Reporting.{held_none, live_still, live_told, owed_fewer, reports_all, reports_more, reports_none, soon_still}
use Rattle.bng_desk.proofs.ShardKeys.{keys_of}
use Rattle.bng_desk.proofs.TermsLeft.{says_began, says_classes}
use Rattle.bng_desk.proofs.interims.report.Goals as goal

pub may_report-requires-clause-awaits : goal.may_report-requires-clause-awaits
may_report-requires-clause-awaits c = c.requires.awaited.awaits

pub returns-then-not-may_report-clause-reports : goal.returns-then-not-may_report-clause-reports
returns-then-not-may_report-clause-reports c =
    let v = c.args.shard.now in
    let r = c.args.reports.now in
    let b = c.args.billing.now in
    reports_all c.args.moment c.args.wall v r r r b b (reports_none c.args.moment c.args.wall v r b c.requires.awaited)
    (sym (ap (λ (rows : List Row). slice_get rows 0) (c.if-not-may_report.ensures.none refl))) refl

pub returns-then-not-may_report-clause-held : goal.returns-then-not-may_report-clause-held
returns-then-not-may_report-clause-held c = held_none c.args.billing.now

pub loop-due-init : goal.loop-due-init
loop-due-init c = reports_none c.args.moment c.args.wall c.args.shard.now c.args.reports.now c.args.billing.now c.requires.awaited

pub interim-requires-clause-awaits : goal.interim-requires-clause-awaits
interim-requires-clause-awaits c = c.loop-due.invariant.awaits.awaits

pub form-requires-clause-classes : goal.form-requires-clause-classes
form-requires-clause-classes c =
    let t = c.in-Some.due.term in
    says_classes c.args.moment c.args.shard.now.state.slots c.requires.terms t.user.items t.class.items t.began (key_of t) c.in-Some.ensures.says

pub form-requires-clause-began : goal.form-requires-clause-began
form-requires-clause-began c =
    let t = c.in-Some.due.term in
    says_began c.args.moment c.args.shard.now.state.slots c.requires.terms t.user.items t.class.items t.began (key_of t) c.in-Some.ensures.says

pub form-requires-clause-live : goal.form-requires-clause-live
form-requires-clause-live c =
    let t = c.in-Some.due.term in
    let v = c.args.shard.now in
    let b = c.loop-due.billing in
    live_told b t.user.items t.class.items t.began (key_of t) v.state.slots.terms c.in-Some.ensures.says
    (recursion_from_All (λ (k : Key). is_live (of_term k.term b.spool.held) ≡ true) (keys_of v) (live_still c.args.billing.now b (keys_of v) c.loop-due.invariant.held c.requires.live))

pub loop-due-smaller : goal.loop-due-smaller
loop-due-smaller c =
    owed_fewer c.args.moment c.args.wall c.args.shard.now c.args.reports.now c.loop-due.reports c.interim.new.reports c.args.billing.now c.loop-due.billing c.form.new.billing (row_told c.in-Some.due) c.loop-due.invariant c.in-Some.ensures.first c.in-Some.ensures.rest

pub loop-due-preserved : goal.loop-due-preserved
loop-due-preserved c =
    let was = c.loop-due.invariant in
    let told = c.in-Some.ensures in
    reports_more c.args.moment c.args.wall c.args.shard.now c.args.reports.now c.loop-due.reports c.interim.new.reports c.args.billing.now c.loop-due.billing c.form.new.billing (row_told c.in-Some.due) was told.first told.rest told.taken
    (record { awaits = told.awaits; soon = soon_still c.args.moment c.loop-due.reports.next c.interim.new.reports.next was.awaits.soon told.soon })
    c.form.ensures.held (c.form.ensures.forms c.args.shard.now.state.slots.terms told.says)

pub returns-clause-reports : goal.returns-clause-reports
returns-clause-reports c =
    let last = c.in_default.ensures in
    reports_all c.args.moment c.args.wall c.args.shard.now c.args.reports.now c.loop-due.reports c.interim.new.reports c.args.billing.now c.loop-due.billing c.loop-due.invariant last.first last.kept

pub returns-then-not-may_report-clause-awaited : goal.returns-then-not-may_report-clause-awaited
returns-then-not-may_report-clause-awaited c = record { waits = c.if-not-may_report.ensures.awaits refl; soon = c.requires.awaited.soon }

pub returns-clause-awaited : goal.returns-clause-awaited
returns-clause-awaited c =
    let last = c.in_default.ensures in
    record { waits = last.all; soon = soon_still c.args.moment c.loop-due.reports.next c.interim.new.reports.next c.loop-due.invariant.awaits.soon last.soon }

pub returns-clause-held : goal.returns-clause-held
returns-clause-held c = c.loop-due.invariant.held
