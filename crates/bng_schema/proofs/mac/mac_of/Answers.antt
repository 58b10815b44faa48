use Rattle.std.proofs.Common.{◌∙◌}
use Rattle.bng_schema.proofs.Octets.{six_of, mac_parts, after_octet, second_text, third_text, fourth_text, fifth_text, sixth_text}
use Rattle.bng_schema.proofs.mac.mac_of.Goals as goal

pub returns-in_err-first-clause-none : goal.returns-in_err-first-clause-none
returns-in_err-first-clause-none c = rw c.from_residual.ensures (λ m six fit is.
    let s = six_of m.0 six fit in
    let whole = is ∙ mac_parts m s in
    c.in_err-first.ensures.none s.a (second_text s) record { front = whole; octet = s.fit_a })

pub returns-in_err-second-clause-none : goal.returns-in_err-second-clause-none
returns-in_err-second-clause-none c = rw c.from_residual-in_err-second.ensures (λ m six fit is.
    let s = six_of m.0 six fit in
    let whole = is ∙ mac_parts m s in
    let first = after_octet c.args.text.now c.in_ok-first.first s.a c.in_ok-first.rest.now (second_text s) c.in_ok-first.ensures.found whole in
    c.in_err-second.ensures.none s.b (third_text s) record { front = first; octet = s.fit_b })

pub returns-in_err-third-clause-none : goal.returns-in_err-third-clause-none
returns-in_err-third-clause-none c = rw c.from_residual-in_err-third.ensures (λ m six fit is.
    let s = six_of m.0 six fit in
    let whole = is ∙ mac_parts m s in
    let first = after_octet c.args.text.now c.in_ok-first.first s.a c.in_ok-first.rest.now (second_text s) c.in_ok-first.ensures.found whole in
    let second = after_octet c.in_ok-first.rest.now c.in_ok-second.second s.b c.in_ok-second.rest.now (third_text s) c.in_ok-second.ensures.found first in
    c.in_err-third.ensures.none s.c (fourth_text s) record { front = second; octet = s.fit_c })

pub returns-in_err-fourth-clause-none : goal.returns-in_err-fourth-clause-none
returns-in_err-fourth-clause-none c = rw c.from_residual-in_err-fourth.ensures (λ m six fit is.
    let s = six_of m.0 six fit in
    let whole = is ∙ mac_parts m s in
    let first = after_octet c.args.text.now c.in_ok-first.first s.a c.in_ok-first.rest.now (second_text s) c.in_ok-first.ensures.found whole in
    let second = after_octet c.in_ok-first.rest.now c.in_ok-second.second s.b c.in_ok-second.rest.now (third_text s) c.in_ok-second.ensures.found first in
    let third = after_octet c.in_ok-second.rest.now c.in_ok-third.third s.c c.in_ok-third.rest.now (fourth_text s) c.in_ok-third.ensures.found second in
    c.in_err-fourth.ensures.none s.d (fifth_text s) record { front = third; octet = s.fit_d })

pub returns-in_err-fifth-clause-none : goal.returns-in_err-fifth-clause-none
returns-in_err-fifth-clause-none c = rw c.from_residual-in_err-fifth.ensures (λ m six fit is.
    let s = six_of m.0 six fit in
    let whole = is ∙ mac_parts m s in
    let first = after_octet c.args.text.now c.in_ok-first.first s.a c.in_ok-first.rest.now (second_text s) c.in_ok-first.ensures.found whole in
    let second = after_octet c.in_ok-first.rest.now c.in_ok-second.second s.b c.in_ok-second.rest.now (third_text s) c.in_ok-second.ensures.found first in
    let third = after_octet c.in_ok-second.rest.now c.in_ok-third.third s.c c.in_ok-third.rest.now (fourth_text s) c.in_ok-third.ensures.found second in
    let fourth = after_octet c.in_ok-third.rest.now c.in_ok-fourth.fourth s.d c.in_ok-fourth.rest.now (fifth_text s) c.in_ok-fourth.ensures.found third in
    c.in_err-fifth.ensures.none s.e (sixth_text s) record { front = fourth; octet = s.fit_e })

pub returns-in_err-sixth-clause-none : goal.returns-in_err-sixth-clause-none
returns-in_err-sixth-clause-none c = rw c.from_residual-in_err-sixth.ensures (λ m six fit is.
    let s = six_of m.0 six fit in
    let whole = is ∙ mac_parts m s in
    let first = after_octet c.args.text.now c.in_ok-first.first s.a c.in_ok-first.rest.now (second_text s) c.in_ok-first.ensures.found whole in
    let second = after_octet c.in_ok-first.rest.now c.in_ok-second.second s.b c.in_ok-second.rest.now (third_text s) c.in_ok-second.ensures.found first in
    let third = after_octet c.in_ok-second.rest.now c.in_ok-third.third s.c c.in_ok-third.rest.now (fourth_text s) c.in_ok-third.ensures.found second in
    let fourth = after_octet c.in_ok-third.rest.now c.in_ok-fourth.fourth s.d c.in_ok-fourth.rest.now (fifth_text s) c.in_ok-fourth.ensures.found third in
    let fifth = after_octet c.in_ok-fourth.rest.now c.in_ok-fifth.fifth s.e c.in_ok-fifth.rest.now (sixth_text s) c.in_ok-fifth.ensures.found fourth in
    c.in_err-sixth.ensures.none s.f s.fit_f fifth)
