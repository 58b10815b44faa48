use Rattle.std.proofs.Common.{◌≡◌, None, [], ◌∷◌, inr, refl, rules}
use Rattle.bng_acct.specs.declared.facts.StatusType.TheVariants.{Interim}
use Rattle.bng_acct.specs.Spool.{open_of}
use Rattle.bng_desk.specs.Accounting.{FormedRecord}
use Rattle.bng_desk.proofs.Reporting.{held_formed}
use Rattle.bng_desk.proofs.interims.form.Goals as goal

pub returns-clause-forms : goal.returns-clause-forms
returns-clause-forms c terms says =
    let none : open_of c.args.due.term.term Interim c.args.billing.now.spool.held ≡ None = search rules in
    let f : FormedRecord = record { status = Interim; facts = _; moment = _; number = c.interim-number.result.0 } in
    (f ∷ [], inr (none, f, refl, record { status = refl; facts = record { term = refl; circuit = refl; address = refl; says = says; carried = refl }; at = refl }, c.interim-number.ensures))

pub returns-clause-held : goal.returns-clause-held
returns-clause-held c = held_formed c.args.billing.now c.interim-number.new.self _ _ c.interim-number.result.0 c.interim-number.ensures c.requires.live
