-- Words say one thing at most.
use Rattle.std.proofs.Common.{◌≡◌, ℕ, List, [], ◌∷◌, refl, sym, ap, ap₂, subst, ◌∙◌, codes, arith}
use Rattle.std.specs.Prelude.{Option, None, Some}
use Rattle.bng_words.specs.Words.{Text}
use Rattle.bng_words.specs.Line.{Values, ArePieces, no_values, with_pieces}
use Rattle.bng_words.specs.Meaning.{Meaning, serve, check, exercise, audit, IsNumber, IsNumberOr, given, Means, Says}
use Rattle.bng_words.proofs.LineLaws.{octets_same, one_line}

same_given : (a b : Option Text) → given a ≡ given b → a ≡ b
same_given None None e = refl
same_given None (Some t) e = absurd cc
same_given (Some t) None e = absurd cc
same_given (Some t) (Some u) e = let same : t ≡ u = cc in ap (λ (w : Text). Some w) same

same_number : (absent most : ℕ) (ts : List Text) (m n : ℕ) → IsNumberOr absent most ts m → IsNumberOr absent most ts n → m ≡ n
same_number absent most [] m n a b = a ∙ sym b
same_number absent most (t ∷ []) m n a b = a.value ∙ sym b.value
same_number absent most (t ∷ u ∷ ts) m n a b = absurd a

same_name : (ts : List Text) (a b : Text) → ts ≡ a ∷ [] → ts ≡ b ∷ [] → a ≡ b
same_name ts a b e f = let both : a ∷ [] ≡ b ∷ [] = sym e ∙ f in cc

one_meaning : (word : Text) (v : Values) (m n : Meaning) → Means word v m → Means word v n → m ≡ n
one_meaning word v (serve c t r) (serve d u s) a b =
    let name : c ≡ d = same_name v.names c d a.1 b.1 in
    let trace : t ≡ u = same_given t u (sym a.2 ∙ b.2) in
    let rounds : r ≡ s = same_number 1099511627776 1099511627776 v.rounds r s a.3 b.3 in
    cc
one_meaning word v (serve c t r) (check d) a b = let bad = octets_same 0 (codes "serve") (codes "check") (sym a.0 ∙ b.0) in absurd (omega arith)
one_meaning word v (serve c t r) (exercise k w) a b = let bad = octets_same 0 (codes "serve") (codes "exercise") (sym a.0 ∙ b.0) in absurd (omega arith)
one_meaning word v (serve c t r) (audit d) a b = let bad = octets_same 0 (codes "serve") (codes "audit") (sym a.0 ∙ b.0) in absurd (omega arith)
one_meaning word v (check c) (serve d u s) a b = let bad = octets_same 0 (codes "check") (codes "serve") (sym a.0 ∙ b.0) in absurd (omega arith)
one_meaning word v (check c) (check d) a b = ap check (same_name v.names c d a.1 b.1)
one_meaning word v (check c) (exercise k w) a b = let bad = octets_same 0 (codes "check") (codes "exercise") (sym a.0 ∙ b.0) in absurd (omega arith)
one_meaning word v (check c) (audit d) a b = let bad = octets_same 0 (codes "check") (codes "audit") (sym a.0 ∙ b.0) in absurd (omega arith)
one_meaning word v (exercise k w) (serve d u s) a b = let bad = octets_same 0 (codes "exercise") (codes "serve") (sym a.0 ∙ b.0) in absurd (omega arith)
one_meaning word v (exercise k w) (check d) a b = let bad = octets_same 0 (codes "exercise") (codes "check") (sym a.0 ∙ b.0) in absurd (omega arith)
one_meaning word v (exercise k w) (exercise l x) a b =
    let text : a.1.0 ≡ b.1.0 = same_name v.names a.1.0 b.1.0 a.1.1 b.1.1 in
    let P : Text → Type 0 = λ t. IsNumber 4000 t k in
    let first : k ≡ l = same_number 0 4000 (b.1.0 ∷ []) k l (subst P text a.1.2) b.1.2 in
    ap₂ exercise first (same_number 4 16 v.workers w x a.4 b.4)
one_meaning word v (exercise k w) (audit d) a b = let bad = octets_same 0 (codes "exercise") (codes "audit") (sym a.0 ∙ b.0) in absurd (omega arith)
one_meaning word v (audit c) (serve d u s) a b = let bad = octets_same 0 (codes "audit") (codes "serve") (sym a.0 ∙ b.0) in absurd (omega arith)
one_meaning word v (audit c) (check d) a b = let bad = octets_same 0 (codes "audit") (codes "check") (sym a.0 ∙ b.0) in absurd (omega arith)
one_meaning word v (audit c) (exercise k w) a b = let bad = octets_same 0 (codes "audit") (codes "exercise") (sym a.0 ∙ b.0) in absurd (omega arith)
one_meaning word v (audit c) (audit d) a b = ap audit (same_name v.names c d a.1 b.1)

pub one_saying : (words : List Text) (m n : Meaning) → Says words m → Says words n → m ≡ n
one_saying words m n a b =
    let both : a.word ∷ a.rest ≡ b.word ∷ b.rest = sym a.first ∙ b.first in
    let word : b.word ≡ a.word = cc in
    let rest : b.rest ≡ a.rest = cc in
    let P : List Text → Type 0 = λ ws. ArePieces b.pieces ws in
    let pieces = one_line a.pieces b.pieces a.rest a.spelled (subst P rest b.spelled) in
    let Q : Text → Type 0 = λ w. Means w (with_pieces no_values b.pieces) n in
    let R : Values → Type 0 = λ v. Means a.word v n in
    one_meaning a.word (with_pieces no_values a.pieces) m n a.means (subst R (ap (with_pieces no_values) pieces) (subst Q word b.means))
