-- The random octets that are drawn from the seed.
use Rattle.std.specs.Prelude.{ℕ, ◌+◌, ◌*◌, List, ◌++◌}
use Rattle.std.specs.Int.{w32, to_le_bytes}
use Rattle.rand_chacha.specs.ChaCha.{word_at, key_of}

-- a word of the ChaCha20 generator of the seed on stream 0, its lowest octet first
abbrev pub word_octets : List ℕ → ℕ → List ℕ
word_octets seed n = to_le_bytes w32 (word_at 10 (key_of seed) 0 n)

-- the sixteen octets of this number, from 0 on: four words
unfoldable pub draw : List ℕ → ℕ → List ℕ
draw seed n = word_octets seed (4 * n) ++ word_octets seed (4 * n + 1) ++ word_octets seed (4 * n + 2) ++ word_octets seed (4 * n + 3)

-- a seed, and how many times sixteen octets were drawn from it
pub record Drawn : Type 0 where
  pub seed : List ℕ
  pub drawn : ℕ
