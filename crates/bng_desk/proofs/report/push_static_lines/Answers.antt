use Rattle.std.proofs.Common.{◌≡◌, ◌++◌, ◌+◌, ◌<◌, ℕ, zero, suc, List, [], ◌∷◌, length, take, get_or, sym, ap, ◌∙◌, append_assoc, append-nil, arith, string_bytes}
use Rattle.bng_desk.specs.declared.line.CircuitLine.{CircuitLine}
use Rattle.bng_steps.specs.declared.sums.Traffic.{Traffic}
use Rattle.bng_desk.specs.Model.{no_traffic}
use Rattle.bng_desk.specs.Report.{static_line, static_lines}
use Rattle.bng_desk.proofs.report.push_static_lines.Goals as goal

-- the line of one more circuit
lines_more : (ss : List CircuitLine) (ts : List Traffic) (i : ℕ) (s : CircuitLine) → i < length ss → i < length ts
    → static_lines (take (suc i) ss) ts ≡ static_lines (take i ss) ts ++ static_line (get_or ss i s).address (get_or ts i no_traffic)
lines_more [] ts i s in_circuits in_traffic = absurd (omega arith)
lines_more (x ∷ ss) [] i s in_circuits in_traffic = absurd (omega arith)
lines_more (x ∷ ss) (t ∷ ts) zero s in_circuits in_traffic = append-nil (static_line x.address t)
lines_more (x ∷ ss) (t ∷ ts) (suc i) s in_circuits in_traffic =
    ap (λ rest. static_line x.address t ++ rest) (lines_more ss ts i s (omega arith) (omega arith)) ∙ sym (append_assoc (static_line x.address t) _ _)

pub loop-place-preserved : goal.loop-place-preserved
loop-place-preserved c =
    let n : ℕ = c.loop-place.place in
    let ss : List CircuitLine = c.args.circuits.now in
    let ts : List Traffic = c.args.traffic.now in
    let no_line : CircuitLine = record { session = record { 0 = 0 }; address = record { 0 = 0 }; stopped = no_traffic } in
    let circuit = get_or ss n no_line in
    let traffic = get_or ts n no_traffic in
    let old = string_bytes c.args.text.now in
    let before = static_lines (take n ss) ts in
    let line = static_line circuit.address traffic in
    let in_circuits : n < length ss = omega arith in
    let in_traffic : n < length ts = omega arith in
    let next : suc n ≡ n + 1 = omega arith in
    c.in_ok-push_static_line.ensures
    ∙ ap (λ (octets : List ℕ). octets ++ line) c.loop-place.invariant
    ∙ append_assoc old before line
    ∙ ap (λ (octets : List ℕ). old ++ octets) (sym (lines_more ss ts n no_line in_circuits in_traffic) ∙ ap (λ (k : ℕ). static_lines (take k ss) ts) next)
