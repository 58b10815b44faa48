use Rattle.std.proofs.Common.{◌≡◌, ℕ, ◌+◌, ◌*◌, ◌%◌, ◌^◌, ◌<◌, List, ◌++◌, ap, ◌∙◌, arith}
use Rattle.std.proofs.Math.Nat.{mod-eq_of_lt}
use Rattle.std.specs.Int.{w32, to_le_bytes}
use Rattle.rand_chacha.specs.ChaCha.{ChaCha, key_of, word_at}
use Rattle.bng_desk.specs.Random.{Drawn, draw, word_octets}
use Rattle.bng_desk.proofs.random.Draws.sixteen.Goals as goal

-- the generator of a seed before its word of this number
abbrev before : List ℕ → ℕ → ChaCha
before seed n = record { key = key_of seed; stream = 0; word_pos = n }

next : (seed : List ℕ) (n k : ℕ) (g g' : ChaCha) → n < 2 ^ 66 → n + 1 ≡ k → g ≡ before seed n → g' ≡ record g { word_pos = (g.word_pos + 1) % 2 ^ 68 } → g' ≡ before seed k
next seed n k g g' low up was is = is ∙ ap (λ (x : ChaCha). record x { word_pos = (x.word_pos + 1) % 2 ^ 68 }) was ∙ ap (before seed) (mod-eq_of_lt (omega arith) ∙ up)

four_joined : (a b c d a' b' c' d' : List ℕ) → a ≡ a' → b ≡ b' → c ≡ c' → d ≡ d' → a ++ b ++ c ++ d ≡ a' ++ b' ++ c' ++ d'
four_joined a b c d a' b' c' d' x y z w = cc

abbrev octets_of : ChaCha → List ℕ
octets_of g = to_le_bytes w32 (word_at 10 g.key g.stream g.word_pos)

pub returns-clause-octets : goal.returns-clause-octets
unfolding draw
returns-clause-octets c =
    let seed = c.args.self.now.seed in
    let n = c.args.self.now.drawn in
    let low : n < 2 ^ 62 = c.requires in
    let at_first : c.self.inside.rng ≡ before seed (4 * n) = c.self.invariant.0 ∙ ap (λ (d : Drawn). before d.seed (4 * d.drawn)) c.self.view_is in
    let at_second = next seed (4 * n) (4 * n + 1) c.self.inside.rng c.word-a.new.rng (omega (arith, low)) (omega arith) at_first c.word-a.ensures.next in
    let at_third = next seed (4 * n + 1) (4 * n + 2) c.word-a.new.rng c.word-b.new.rng (omega (arith, low)) (omega arith) at_second c.word-b.ensures.next in
    let at_fourth = next seed (4 * n + 2) (4 * n + 3) c.word-b.new.rng c.word-c.new.rng (omega (arith, low)) (omega arith) at_third c.word-c.ensures.next in
    let a : c.word-a.result ≡ word_octets seed (4 * n) = c.word-a.ensures.octets ∙ ap octets_of at_first in
    let b : c.word-b.result ≡ word_octets seed (4 * n + 1) = c.word-b.ensures.octets ∙ ap octets_of at_second in
    let x : c.word-c.result ≡ word_octets seed (4 * n + 2) = c.word-c.ensures.octets ∙ ap octets_of at_third in
    let d : c.word-d.result ≡ word_octets seed (4 * n + 3) = c.word-d.ensures.octets ∙ ap octets_of at_fourth in
    c.joined.ensures ∙ four_joined _ _ _ _ _ _ _ _ a b x d
