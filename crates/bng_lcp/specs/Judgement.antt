-- The table of the options of which LCP takes a peer's, by RFC 1661 sections 6.1 and 6.4, and how a Configure-Request is judged
-- by it.
use Rattle.std.specs.Prelude.{ℕ, Bool, false, ◌&&◌, ◌==◌, List, [], ◌∷◌, length, if◌then◌else◌}
use Rattle.bng_base.specs.PppGrammar.{PppOption}
use Rattle.bng_ppp_wire.specs.declared.option_table.Width.TheVariants.{Two, Four}
use Rattle.bng_ppp_wire.specs.declared.option_table.Good.TheVariants.{Within, Neither}
use Rattle.bng_ppp_wire.specs.declared.option_table.OptionRow.{OptionRow}
use Rattle.bng_ppp_wire.specs.declared.judgement.Class.{Class}
use Rattle.bng_ppp_wire.specs.declared.judgement.Judged.{Judged}
use Rattle.bng_ppp_wire.specs.OptionTable.{is_within}
use Rattle.bng_ppp_wire.specs.Judgement as table
use Rattle.bng_lcp.specs.Options.{maximum_receive_unit, magic_number, least_mru}
use Rattle.bng_lcp.specs.declared.judgement.LcpRules.{LcpRules}

-- a Maximum-Receive-Unit of the length that the standard gives it
abbrev pub is_mru : PppOption → Bool
is_mru o = o.kind == maximum_receive_unit && length o.value == 2

-- a Magic-Number of the length that the standard gives it
abbrev pub is_magic : PppOption → Bool
is_magic o = o.kind == magic_number && length o.value == 4

-- a Maximum-Receive-Unit that is taken: 128 to the limit
abbrev pub is_mru_within : ℕ → ℕ → Bool
is_mru_within limit mru = is_within least_mru limit mru

-- a magic number made of random octets, which is never 0
abbrev pub magic_from : ℕ → ℕ
magic_from n = if n == 0 then 1 else n

-- Maximum-Receive-Unit: 128 to the limit, which is suggested
abbrev pub mru_row : ℕ → OptionRow
mru_row limit = record {
  kind = maximum_receive_unit;
  width = Two;
  good = Within least_mru limit;
  suggestion = limit;
  must_be_named = false;
}

-- Magic-Number: it is never 0, and two ends have different ones
abbrev pub magic_row : ℕ → ℕ → OptionRow
magic_row own fresh = record {
  kind = magic_number;
  width = Four;
  good = Neither 0 own;
  suggestion = magic_from fresh;
  must_be_named = false;
}

abbrev pub rows_of : LcpRules → List OptionRow
rows_of r = mru_row r.limit ∷ magic_row r.own_magic r.fresh_magic ∷ []

abbrev pub class_of : LcpRules → PppOption → Class
class_of r o = table.class_of (rows_of r) r.no_more_naks o

abbrev pub rejected : LcpRules → List PppOption → List PppOption
rejected r request = table.rejected (rows_of r) r.no_more_naks request

abbrev pub naked : LcpRules → List PppOption → List PppOption
naked r request = table.naked (rows_of r) r.no_more_naks request

abbrev pub IsJudgement : LcpRules → List PppOption → Judged → Type 0
IsJudgement r request judged = table.IsJudgement (rows_of r) r.no_more_naks request judged
