use Rattle.std.proofs.Common.{◌/◌, ◌%◌, ◌^◌, ◌∙◌, arith}
use Rattle.bng_schema.proofs.AddressTexts.{address_parts, after_number, second_text, third_text, fourth_text}
use Rattle.bng_schema.proofs.peer.address_of.Goals as goal

pub returns-in_err-second-clause-none : goal.returns-in_err-second-clause-none
returns-in_err-second-clause-none c = rw c.from_residual-in_err-second.ensures (λ a small is.
    let first = after_number c.args.text.now c.in_ok-first.first (a.0 / 2 ^ 24) c.in_ok-first.rest.now (second_text a) c.in_ok-first.ensures.found (omega arith) (is ∙ address_parts a) in
    c.in_err-second.ensures.none (a.0 / 2 ^ 16 % 256) (third_text a) record { front = first; octet = omega arith })

pub returns-in_err-third-clause-none : goal.returns-in_err-third-clause-none
returns-in_err-third-clause-none c = rw c.from_residual-in_err-third.ensures (λ a small is.
    let first = after_number c.args.text.now c.in_ok-first.first (a.0 / 2 ^ 24) c.in_ok-first.rest.now (second_text a) c.in_ok-first.ensures.found (omega arith) (is ∙ address_parts a) in
    let second = after_number c.in_ok-first.rest.now c.in_ok-second.second (a.0 / 2 ^ 16 % 256) c.in_ok-second.rest.now (third_text a) c.in_ok-second.ensures.found (omega arith) first in
    c.in_err-third.ensures.none (a.0 / 2 ^ 8 % 256) (fourth_text a) record { front = second; octet = omega arith })

pub returns-in_err-fourth-clause-none : goal.returns-in_err-fourth-clause-none
returns-in_err-fourth-clause-none c = rw c.from_residual-in_err-fourth.ensures (λ a small is.
    let first = after_number c.args.text.now c.in_ok-first.first (a.0 / 2 ^ 24) c.in_ok-first.rest.now (second_text a) c.in_ok-first.ensures.found (omega arith) (is ∙ address_parts a) in
    let second = after_number c.in_ok-first.rest.now c.in_ok-second.second (a.0 / 2 ^ 16 % 256) c.in_ok-second.rest.now (third_text a) c.in_ok-second.ensures.found (omega arith) first in
    let third = after_number c.in_ok-second.rest.now c.in_ok-third.third (a.0 / 2 ^ 8 % 256) c.in_ok-third.rest.now (fourth_text a) c.in_ok-third.ensures.found (omega arith) second in
    c.in_err-fourth.ensures.none (a.0 % 256) (omega arith) third)
