use Rattle.std.proofs.Common.{◌≡◌, ◌+◌, ◌-◌, ◌*◌, ◌++◌, ◌∷◌, ℕ, suc, List, [], arith, ap, subst, sym, ◌∙◌, length, length-append, append-nil, vec_capacity}
use Rattle.bng_steps.specs.declared.terms.TermRow.{TermRow}
use Rattle.bng_steps.specs.Opening.{in_order, tenures_after}
use Rattle.bng_steps.specs.TermRows.{tenures_in}
use Rattle.bng_steps.proofs.InCircuits.{AreNew, circuits_from, new_more, new_rows, none_next, one_next}
use Rattle.bng_steps.proofs.terms.rows_of.Goals as goal
use Rattle.bng_steps.proofs.terms.rows_of.Goals.{in-Some, in_default}

pub loop-n-init : goal.loop-n-init
loop-n-init c =
    let first = c.args.number * 1024 + 1 in
    let all : first + 1022 - first ≡ 1022 = omega arith in
    record {
      tenures = ap (λ (rs : List TermRow). tenures_in rs ++ tenures_after c.args.now 0 (circuits_from c.args.circuits.now first (first + 1022 - first))) c.in_ok-rows.ensures.items
          ∙ ap (λ (k : ℕ). tenures_after c.args.now 0 (circuits_from c.args.circuits.now first k)) all;
      new = subst AreNew (sym c.in_ok-rows.ensures.items) tt;
      count = omega (arith, ap length c.in_ok-rows.ensures.items);
      serials = omega arith;
      room = omega (arith, c.in_ok-rows.ensures.capacity);
    }

pub loop-n-preserved : goal.loop-n-preserved
loop-n-preserved c =
    let was = c.loop-n.invariant in
    let circuits = c.args.circuits.now in
    let rows = c.loop-n.rows.items in
    let n = c.loop-n.n in
    let serial = c.loop-n.serial in
    let end = c.args.number * 1024 + 1 + 1022 in
    let all = tenures_after c.args.now 0 (in_order c.args.number circuits) in
    let left : end - n ≡ suc (end - (n + 1)) = omega (arith, c.loop-n-test.true) in
    let rest = circuits_from circuits (n + 1) (end - (n + 1)) in
    elim c.match-circuit_with.branch [
      | in-Some w ↦
          let items = ap (λ v. v.items) w.rows-is ∙ w.push_reserved.ensures.items in
          record {
            tenures = ap (λ (rs : List TermRow). tenures_in rs ++ tenures_after c.args.now c.match-circuit_with.serial rest) items
                ∙ ap (λ (s : ℕ). tenures_in (rows ++ w.begun.result ∷ []) ++ tenures_after c.args.now s rest) w.serial-is
                ∙ one_next c.args.now serial circuits n (end - n) (end - (n + 1)) rows all w.in-Some.circuit.now w.begun.result left w.in-Some.ensures.found w.begun.ensures.tenure was.tenures;
            new = subst AreNew (sym items) (new_more rows w.begun.result was.new w.begun.ensures.carried);
            count = omega (arith, was.count, ap length items, length-append rows (w.begun.result ∷ []));
            serials = omega (arith, was.serials, w.serial-is);
            room = omega (arith, was.room, ap (λ v. vec_capacity v) w.rows-is, w.push_reserved.ensures.capacity);
          }
      | in_default w ↦
          let items = ap (λ v. v.items) w.rows-is in
          record {
            tenures = ap (λ (rs : List TermRow). tenures_in rs ++ tenures_after c.args.now c.match-circuit_with.serial rest) items
                ∙ ap (λ (s : ℕ). tenures_in rows ++ tenures_after c.args.now s rest) w.serial-is
                ∙ none_next c.args.now serial circuits n (end - n) (end - (n + 1)) rows all left w.in_default.ensures.none was.tenures;
            new = subst AreNew (sym items) was.new;
            count = omega (arith, was.count, ap length items);
            serials = omega (arith, was.serials, w.serial-is);
            room = omega (arith, was.room, ap (λ v. vec_capacity v) w.rows-is);
          }
    ]

pub returns-clause-tenures : goal.returns-clause-tenures
returns-clause-tenures c =
    let end = c.args.number * 1024 + 1 + 1022 in
    let none : 0 ≡ end - c.loop-n.n = omega (arith, c.loop-n-test.false) in
    sym (append-nil (tenures_in c.loop-n.rows.items))
    ∙ ap (λ (k : ℕ). tenures_in c.loop-n.rows.items ++ tenures_after c.args.now c.loop-n.serial (circuits_from c.args.circuits.now c.loop-n.n k)) none
    ∙ c.loop-n.invariant.tenures

pub returns-clause-rows : goal.returns-clause-rows
returns-clause-rows c = new_rows c.loop-n.rows.items c.loop-n.invariant.new
