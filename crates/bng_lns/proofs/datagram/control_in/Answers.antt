use Rattle.std.proofs.Common.{ℕ, ◌<◌, ◌≤◌, inl, inr, length}
use Rattle.std.proofs.lemmas.Bool.{both_ways, cases_lt}
use Rattle.bng_l2tp_wire.specs.View.{control_of}
use Rattle.bng_lns.proofs.datagram.control_in.Goals as goal

few_unless : (n : ℕ) → (64 < n → ⊥) → n ≤ 64
few_unless n unless = elim (cases_lt 64 n) [ inl more ↦ absurd (unless more) | inr few ↦ few ]

pub returns-then-cut-clause-none : goal.returns-then-cut-clause-none
returns-then-cut-clause-none c = λ m is. both_ways c.args.cut is.whole c.if-cut.true

pub returns-in-Ok-clause-found : goal.returns-in-Ok-clause-found
returns-in-Ok-clause-found c =
    let m = control_of c.in-Ok.message in
    record {
      whole = c.if-cut.false;
      message = c.in-Ok.ensures.found;
      few = few_unless (length m.avps) (λ many. let refused = c.in-Ok.ensures.too_many.1 (m, c.in-Ok.ensures.found, many) in cc);
    }

pub returns-in-Err-clause-none : goal.returns-in-Err-clause-none
returns-in-Err-clause-none c = λ m is. c.in-Err.ensures.only m is.message is.few
