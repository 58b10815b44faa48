-- A table of the configuration options that a control protocol negotiates (RFC 1661 section 6), and what it takes of each.
use Rattle.std.specs.Prelude.{ℕ, Bool, ◌&&◌, ◌||◌, ◌==◌, not, nat_le, List, [], length, find, Option, Some, None, if◌then◌else◌}
use Rattle.byteorder.specs.Endian.{big_number, big_bytes}
use Rattle.bng_base.specs.PppGrammar.{PppOption}
use Rattle.bng_ppp_wire.specs.declared.option_table.Width.{Width}
use Rattle.bng_ppp_wire.specs.declared.option_table.Width.TheVariants.{Two, Four}
use Rattle.bng_ppp_wire.specs.declared.option_table.Good.{Good}
use Rattle.bng_ppp_wire.specs.declared.option_table.Good.TheVariants.{Within, Neither, Only}
use Rattle.bng_ppp_wire.specs.declared.option_table.OptionRow.{OptionRow}

abbrev pub octets_in : Width → ℕ
octets_in Two = 2
octets_in Four = 4

-- the number that an option's data are, where they have the octets of this width
abbrev pub number_of : Width → List ℕ → Option ℕ
number_of width value = if length value == octets_in width then Some (big_number (octets_in width) value) else None

-- whether a number is within two bounds
abbrev pub is_within : ℕ → ℕ → ℕ → Bool
is_within least most n = nat_le least n && nat_le n most

-- whether a number is taken
abbrev pub is_good : Good → ℕ → Bool
is_good (Within least most) n = is_within least most n
is_good (Neither first second) n = not (n == first || n == second)
is_good (Only right) n = n == right

-- the row of an option's type, the first one where there are several; a type that is not negotiated has none
abbrev pub row_of : List OptionRow → ℕ → Option OptionRow
row_of rows kind = find (λ row. row.kind == kind) rows

-- the option that a row suggests
abbrev pub suggestion_of : OptionRow → PppOption
suggestion_of row = record { kind = row.kind; value = big_bytes (octets_in row.width) row.suggestion }

-- what is suggested in the place of an option of this type
abbrev pub suggestion_in : ℕ → Option OptionRow → PppOption
suggestion_in kind None = record { kind = kind; value = [] }
suggestion_in kind (Some row) = suggestion_of row

abbrev pub suggested : List OptionRow → PppOption → PppOption
suggested rows o = suggestion_in o.kind (row_of rows o.kind)
