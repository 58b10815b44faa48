-- Places as bits of words, 64 in a word.
use Rattle.std.specs.Prelude.{ℕ, ◌/◌, ◌%◌, List, slice_index_or}
use Rattle.std.specs.Int.{bit_at}

-- the bit of a place: 1 where it is free, else 0
abbrev pub free_bit : List ℕ → ℕ → ℕ
free_bit words place = bit_at (slice_index_or words (place / 64) 0) (place % 64)
