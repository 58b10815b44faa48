-- Fields in which no separator stands.
use Rattle.std.specs.Prelude.{◌==◌, ◌||◌, ℕ, nat_lt, not, Bool, IsTrue, List}
use Rattle.std.specs.List.{list_all}

-- what parts fields: the line's end, the space, the comma, the dot and the colon
abbrev pub is_separator : ℕ → Bool
is_separator c = nat_lt c 45 || c == 46 || c == 58

abbrev pub is_plain : ℕ → Bool
is_plain c = not (is_separator c)

-- no separator stands in a field
abbrev pub ArePlain : List ℕ → Type 0
ArePlain field = IsTrue (list_all is_plain field)
