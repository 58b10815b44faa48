use Rattle.std.proofs.Common.{◌<◌, ◌^◌, length, refl, sym, subst, ◌∙◌, arith}
use Rattle.std.proofs.lemmas.Bool.{false≢true}
use Rattle.bng_spell.specs.Kept.{AreInOrder}
use Rattle.bng_spell.proofs.FieldReading.{long_fits}
use Rattle.bng_spell.proofs.Rounds.{journals_stand, no_fields, no_numbers, no_end, no_order, head_of, round_found}
use Rattle.bng_spell.proofs.round.read_round.Goals as goal

pub returns-in_default-read-clause-none : goal.returns-in_default-read-clause-none
returns-in_default-read-clause-none c =
    no_fields c.args.text.now c.args.at c.in-Some.at c.in-Some.ensures.found
    (λ n m w rest fn fm fw e.
    c.in_default-read.ensures.none (record { 0 = record { 0 = n } }, (record { 0 = record { 0 = m } }, record { 0 = record { 0 = w } })) rest
    ((long_fits n fn, refl), ((long_fits m fm, refl), (long_fits w fw, refl))) e)

pub returns-in_default-2-clause-none : goal.returns-in_default-2-clause-none
returns-in_default-2-clause-none c =
    let x = c.in-Some-read.fields in
    let found = c.in-Some-read.ensures.found in
    no_numbers c.args.text.now c.args.at c.in-Some.at c.in-Some-read.at x.0.0.0 x.1.0.0.0 x.1.1.0.0 found.0.0.0.1 found.0.1.0.0.1 found.0.1.1.0.1 c.in-Some.ensures.found found.1
    (rw c.in_default-2.is at c.in_ok-allowances.ensures.none)

pub many-requires : goal.many-requires
many-requires c =
    let numbers = rw c.in-Some-2.is at c.in_ok-allowances.ensures.found in
    let stand = journals_stand c.in-Some-read.fields.1.0.0.0 0 c.args.text.now c.in-Some-2.at c.in_ok-journals.at c.in_ok-journals.journals.items numbers.1.within c.in_ok-journals.ensures.1 in
    stand.within

pub returns-in_default-literal-clause-none : goal.returns-in_default-literal-clause-none
returns-in_default-literal-clause-none c =
    let x = c.in-Some-read.fields in
    let found = c.in-Some-read.ensures.found in
    let numbers = rw c.in-Some-2.is at c.in_ok-allowances.ensures.found in
    let few : length c.in-Some-2.allowances.items < 2 ^ 64 = omega (arith, c.in-Some-2.allowances.ok, c.in-Some-2.allowances.small) in
    let head = head_of c.args.text.now c.args.at c.in-Some.at c.in-Some-read.at c.in-Some-2.at x.0.0.0 x.1.0.0.0 x.1.1.0.0 c.in-Some-2.allowances.items found.0.0.0.1 found.0.1.0.0.1 found.0.1.1.0.1 few numbers.0
    c.in-Some.ensures.found found.1 numbers.1 in
    no_end c.args.text.now c.args.at c.in-Some-2.at c.in_ok-outs.at x.0.0.0 x.1.0.0.0 x.1.1.0.0 c.in-Some-2.allowances.items c.in_ok-journals.journals.items c.in_ok-loose.loose.items c.in_ok-refused.refused.items
    c.in_ok-outs.outs.items head
    (record {
      entries_end = c.in_ok-journals.at;
      entries = (c.in_ok-journals.ensures.0 ∙ c.len.ensures ∙ c.in-Some-2.allowances.ok.0, c.in_ok-journals.ensures.1);
      loose_end = c.in_ok-loose.at;
      loose_lines = c.in_ok-loose.ensures;
      refused_end = c.in_ok-refused.at;
      refused_lines = c.in_ok-refused.ensures;
      out_lines = c.in_ok-outs.ensures;
    })
    c.in_default-literal.ensures.none

pub returns-then-not-are_in_order-clause-none : goal.returns-then-not-are_in_order-clause-none
returns-then-not-are_in_order-clause-none c =
    let x = c.in-Some-read.fields in
    let found = c.in-Some-read.ensures.found in
    let numbers = rw c.in-Some-2.is at c.in_ok-allowances.ensures.found in
    let few : length c.in-Some-2.allowances.items < 2 ^ 64 = omega (arith, c.in-Some-2.allowances.ok, c.in-Some-2.allowances.small) in
    let head = head_of c.args.text.now c.args.at c.in-Some.at c.in-Some-read.at c.in-Some-2.at x.0.0.0 x.1.0.0.0 x.1.1.0.0 c.in-Some-2.allowances.items found.0.0.0.1 found.0.1.0.0.1 found.0.1.1.0.1 few numbers.0
    c.in-Some.ensures.found found.1 numbers.1 in
    no_order c.args.text.now c.args.at c.in-Some-2.at c.in_ok-outs.at x.0.0.0 x.1.0.0.0 x.1.1.0.0 c.in-Some-2.allowances.items c.in_ok-journals.journals.items c.in_ok-loose.loose.items c.in_ok-refused.refused.items
    c.in_ok-outs.outs.items head
    (record {
      entries_end = c.in_ok-journals.at;
      entries = (c.in_ok-journals.ensures.0 ∙ c.len.ensures ∙ c.in-Some-2.allowances.ok.0, c.in_ok-journals.ensures.1);
      loose_end = c.in_ok-loose.at;
      loose_lines = c.in_ok-loose.ensures;
      refused_end = c.in_ok-refused.at;
      refused_lines = c.in_ok-refused.ensures;
      out_lines = c.in_ok-outs.ensures;
    })
    (λ order. false≢true (sym c.if-not-are_in_order.true ∙ c.are_in_order.ensures.1 (subst AreInOrder (sym c.as_slice.ensures.value) order)))

pub returns-clause-found : goal.returns-clause-found
returns-clause-found c =
    let x = c.in-Some-read.fields in
    let found = c.in-Some-read.ensures.found in
    let numbers = rw c.in-Some-2.is at c.in_ok-allowances.ensures.found in
    let few : length c.in-Some-2.allowances.items < 2 ^ 64 = omega (arith, c.in-Some-2.allowances.ok, c.in-Some-2.allowances.small) in
    let head = head_of c.args.text.now c.args.at c.in-Some.at c.in-Some-read.at c.in-Some-2.at x.0.0.0 x.1.0.0.0 x.1.1.0.0 c.in-Some-2.allowances.items found.0.0.0.1 found.0.1.0.0.1 found.0.1.1.0.1 few numbers.0
    c.in-Some.ensures.found found.1 numbers.1 in
    round_found
    (record {
      number = x.0.0.0;
      moment = x.1.0.0.0;
      wall = x.1.1.0.0;
      allowances = c.of.result;
      journals = c.of-2.result;
      loose = c.of-3.result;
      outs = c.of-4.result;
      refused = c.of-5.result;
    })
    c.args.text.now c.args.at c.in-Some-2.at c.in_ok-outs.at c.in-Some-literal.next c.in-Some-2.allowances.items c.in_ok-journals.journals.items c.in_ok-loose.loose.items c.in_ok-refused.refused.items
    c.in_ok-outs.outs.items c.of.ensures c.of-2.ensures c.of-3.ensures c.of-5.ensures c.of-4.ensures head numbers.1.within
    (record {
      entries_end = c.in_ok-journals.at;
      entries = (c.in_ok-journals.ensures.0 ∙ c.len.ensures ∙ c.in-Some-2.allowances.ok.0, c.in_ok-journals.ensures.1);
      loose_end = c.in_ok-loose.at;
      loose_lines = c.in_ok-loose.ensures;
      refused_end = c.in_ok-refused.at;
      refused_lines = c.in_ok-refused.ensures;
      out_lines = c.in_ok-outs.ensures;
    })
    (subst AreInOrder c.as_slice.ensures.value (c.are_in_order.ensures.0 c.if-not-are_in_order.false)) c.in-Some-literal.ensures.found
