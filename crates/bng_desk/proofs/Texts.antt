-- Texts that are appended piece by piece.
use Rattle.std.proofs.Common.{◌≡◌, ℕ, zero, suc, ◌+◌, ◌<◌, List, [], ◌∷◌, ◌++◌, map, take, length, length-append, get_or, append_assoc, append-nil, sym, ap, ◌∙◌, arith}
use Rattle.bng_base.specs.declared.fate.DropCause.{DropCause}
use Rattle.bng_desk.specs.Report.{drop_line, drop_lines}

-- one piece more
pub onto : (o a b p q : List ℕ) → p ≡ o ++ a → q ≡ p ++ b → q ≡ o ++ (a ++ b)
onto o a b p q so_far here = here ∙ ap (λ (xs : List ℕ). xs ++ b) so_far ∙ append_assoc o a b

-- how long it is then
pub longer : (p b q : List ℕ) → q ≡ p ++ b → length q ≡ length p + length b
longer p b q here = omega (arith, ap (λ (xs : List ℕ). length xs) here, length-append p b)

-- the line of one more cause
pub lines_more : (cs : List (DropCause × List ℕ)) (ds : List ℕ) (i : ℕ) → i < length cs → i < length ds
    → drop_lines cs (take (suc i) ds) ≡ drop_lines cs (take i ds) ++ drop_line (get_or (map (λ (c : DropCause × List ℕ). c.1) cs) i []) (get_or ds i 0)
lines_more [] ds i in_causes in_drops = absurd (omega arith)
lines_more (c ∷ cs) [] i in_causes in_drops = absurd (omega arith)
lines_more (c ∷ cs) (n ∷ ds) zero in_causes in_drops = append-nil (drop_line c.1 n)
lines_more (c ∷ cs) (n ∷ ds) (suc i) in_causes in_drops =
    ap (λ rest. drop_line c.1 n ++ rest) (lines_more cs ds i (omega arith) (omega arith)) ∙ sym (append_assoc (drop_line c.1 n) _ _)
