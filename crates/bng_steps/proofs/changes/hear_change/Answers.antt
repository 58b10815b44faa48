use Rattle.std.proofs.Common.{◌∙◌, ℕ, List, [], ◌∷◌, ◌++◌, None, Some, ap, subst, sym}
use Rattle.std.proofs.lemmas.List.{append-nil}
use Rattle.bng_coa.specs.Admission.{IsRequestIn}
use Rattle.bng_radius_wire.specs.Grammar.{Packet, whole as packet_of}
use Rattle.bng_steps.specs.declared.changes.ChangeAnswer.{ChangeAnswer}
use Rattle.bng_steps.specs.Changes.{answer_to}
use Rattle.bng_steps.specs.TermRows.{whole}
use Rattle.bng_steps.proofs.Obeying.{answers_it, answers_none, hears_it, its_answer, reads_none}
use Rattle.bng_steps.proofs.changes.hear_change.Goals as goal

pub returns-in-Some-clause-does : goal.returns-in-Some-clause-does
returns-in-Some-clause-does g c =
    let p = packet_of c.in-Some.request in
    let reads = subst (λ (octets : List ℕ). IsRequestIn p octets) c.payload.ensures.octets c.in-Some.ensures.found in
    hears_it c.args.incoming.now.rules.now (whole c.args.served.now c.args.terms.now) c.args.incoming.now.at c.args.incoming.now.item.now c.args.outs.now.items c.requires.here c.args.incoming.now.moment (whole c.obey-verdict.new.served c.obey-verdict.new.terms) c.obey-verdict.new.outs.items p reads
    c.obey-verdict.ensures.does

pub returns-in-Some-clause-answered : goal.returns-in-Some-clause-answered
returns-in-Some-clause-answered g c e same =
    let r = c.args.incoming.now.rules.now in
    let s = whole c.args.served.now c.args.terms.now in
    let item = c.args.incoming.now.item.now in
    let p = packet_of c.in-Some.request in
    let reads = subst (λ (octets : List ℕ). IsRequestIn p octets) c.payload.ensures.octets c.in-Some.ensures.found in (
      Some (answer_to r s e p),
      answers_it r s item p reads e same,
      c.push_reserved.ensures.items ∙ ap (λ (q : ChangeAnswer). c.args.answers.now.items ++ q ∷ []) (its_answer r s item p c.obey-verdict.result c.obey-verdict.ensures.verdict e same),
    )

pub returns-in-None-clause-does : goal.returns-in-None-clause-does
returns-in-None-clause-does g c =
    let none = subst (λ (octets : List ℕ). (p : Packet) → ¬ (IsRequestIn p octets)) c.payload.ensures.octets c.in-None.ensures.none in
    reads_none c.args.incoming.now.rules.now (whole c.args.served.now c.args.terms.now) c.args.incoming.now.at c.args.incoming.now.item.now c.args.outs.now.items c.requires.here c.args.incoming.now.moment none

pub returns-in-None-clause-answered : goal.returns-in-None-clause-answered
returns-in-None-clause-answered g c e same =
    let none = subst (λ (octets : List ℕ). (p : Packet) → ¬ (IsRequestIn p octets)) c.payload.ensures.octets c.in-None.ensures.none in
    (None, answers_none c.args.incoming.now.rules.now (whole c.args.served.now c.args.terms.now) c.args.incoming.now.item.now none e same, sym (append-nil c.args.answers.now.items))
