use Rattle.std.proofs.Common.{◌≡◌, ◌++◌, ◌+◌, ◌<◌, ℕ, zero, suc, List, [], ◌∷◌, length, take, get_or, sym, ap, ◌∙◌, append_assoc, append-nil, arith, string_bytes}
use Rattle.bng_steps.specs.declared.sums.Traffic.{Traffic}
use Rattle.bng_desk.specs.Model.{no_traffic}
use Rattle.bng_desk.specs.Report.{worker_line, worker_lines}
use Rattle.bng_desk.proofs.report.push_worker_lines.Goals as goal

-- the line of one more worker, where the first has this number
lines_more : (first : ℕ) (ts : List Traffic) (i : ℕ) → i < length ts → worker_lines first (take (suc i) ts) ≡ worker_lines first (take i ts) ++ worker_line (first + i) (get_or ts i no_traffic)
lines_more first [] i lt = absurd (omega arith)
lines_more first (t ∷ ts) zero lt =
    append-nil (worker_line first t) ∙ ap (λ (n : ℕ). worker_line n t) (let e : first ≡ first + 0 = omega arith in e)
lines_more first (t ∷ ts) (suc i) lt =
    ap (λ (rest : List ℕ). worker_line first t ++ rest)
    (lines_more (first + 1) ts i (omega arith) ∙ ap (λ (n : ℕ). worker_lines (first + 1) (take i ts) ++ worker_line n (get_or ts i no_traffic)) (let e : first + 1 + i ≡ first + suc i = omega arith in e))
    ∙ sym (append_assoc (worker_line first t) _ _)

pub loop-number-preserved : goal.loop-number-preserved
loop-number-preserved c =
    let n : ℕ = c.loop-number.number in
    let ts : List Traffic = c.args.workers.now in
    let t = get_or ts n no_traffic in
    let old = string_bytes c.args.text.now in
    let before = worker_lines 0 (take n ts) in
    let line = worker_line n t in
    let within : n < length ts = omega arith in
    let next : suc n ≡ n + 1 = omega arith in
    let here : 0 + n ≡ n = omega arith in
    c.in_ok-push_worker_line.ensures
    ∙ ap (λ (octets : List ℕ). octets ++ line) c.loop-number.invariant
    ∙ append_assoc old before line
    ∙ ap (λ (octets : List ℕ). old ++ octets)
    (ap (λ (k : ℕ). before ++ worker_line k t) (sym here) ∙ sym (lines_more 0 ts n within) ∙ ap (λ (k : ℕ). worker_lines 0 (take k ts)) next)
