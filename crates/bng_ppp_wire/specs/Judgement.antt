-- How a Configure-Request is judged by a table of options, by RFC 1661 sections 5.2 to 5.4.
use Rattle.std.specs.Prelude.{◌≡◌, ◌≢◌, ℕ, Bool, true, false, ◌&&◌, not, List, [], ◌++◌, map, filter, Option, Some, None, if◌then◌else◌}
use Rattle.bng_base.specs.PppGrammar.{PppOption}
use Rattle.bng_ppp_wire.specs.declared.option_table.Good.{Good}
use Rattle.bng_ppp_wire.specs.declared.option_table.OptionRow.{OptionRow}
use Rattle.bng_ppp_wire.specs.declared.judgement.Class.{Class}
use Rattle.bng_ppp_wire.specs.declared.judgement.Class.TheVariants.{Ack, Nak, Reject}
use Rattle.bng_ppp_wire.specs.declared.judgement.Judged.{Judged}
use Rattle.bng_ppp_wire.specs.declared.judgement.Judged.TheVariants as judged
use Rattle.bng_ppp_wire.specs.View.{options_of}
use Rattle.bng_ppp_wire.specs.Listing.{names}
use Rattle.bng_ppp_wire.specs.MadeOption.{all_made_of}
use Rattle.bng_ppp_wire.specs.OptionTable.{number_of, is_good, row_of, suggestion_of, suggested}

-- the class of an option that is negotiated and whose value is not taken
abbrev pub not_good : Bool → Class
not_good no_more_naks = if no_more_naks then Reject else Nak

-- the class of a value, which is none where the data have another length
abbrev pub class_at : Bool → Good → Option ℕ → Class
class_at no_more_naks good None = Reject
class_at no_more_naks good (Some n) = if is_good good n then Ack else not_good no_more_naks

abbrev pub class_by : Bool → List ℕ → Option OptionRow → Class
class_by no_more_naks value None = Reject
class_by no_more_naks value (Some row) = class_at no_more_naks row.good (number_of row.width value)

-- The class of an option. A type that is not negotiated, and a wrong length, is rejected.
abbrev pub class_of : List OptionRow → Bool → PppOption → Class
class_of rows no_more_naks o = class_by no_more_naks o.value (row_of rows o.kind)

abbrev pub is_nak : Class → Bool
is_nak Ack = false
is_nak Nak = true
is_nak Reject = false

abbrev pub is_reject : Class → Bool
is_reject Ack = false
is_reject Nak = false
is_reject Reject = true

-- the options of a Configure-Reject: those of the request of that class, in its order
abbrev pub rejected : List OptionRow → Bool → List PppOption → List PppOption
rejected rows no_more_naks request = filter (λ o. is_reject (class_of rows no_more_naks o)) request

-- what is suggested in the place of those of the request that are naked, in its order
abbrev pub corrected : List OptionRow → Bool → List PppOption → List PppOption
corrected rows no_more_naks request = map (suggested rows) (filter (λ o. is_nak (class_of rows no_more_naks o)) request)

-- whether a row must be named, and the request does not
abbrev pub is_missing : List PppOption → OptionRow → Bool
is_missing request row = row.must_be_named && not (names request row.kind)

-- what a Configure-Nak adds: what must be named and is not, in the table's order, while Naks may go out
abbrev pub added : List OptionRow → Bool → List PppOption → List PppOption
added rows no_more_naks request = if no_more_naks then [] else map suggestion_of (filter (is_missing request) rows)

-- the options of a Configure-Nak
abbrev pub naked : List OptionRow → Bool → List PppOption → List PppOption
naked rows no_more_naks request = corrected rows no_more_naks request ++ added rows no_more_naks request

-- The answer is the first class, of Reject, Nak and Ack, that has an option.
abbrev pub IsJudgement : List OptionRow → Bool → List PppOption → Judged → Type 0
IsJudgement rows no_more_naks request (judged.Reject options) =
    (options_of options.items ≡ rejected rows no_more_naks request) × (rejected rows no_more_naks request ≢ [])
IsJudgement rows no_more_naks request (judged.Nak options) =
    (rejected rows no_more_naks request ≡ []) × (all_made_of options.items ≡ naked rows no_more_naks request)
    × (naked rows no_more_naks request ≢ [])
IsJudgement rows no_more_naks request judged.Ack =
    (rejected rows no_more_naks request ≡ []) × (naked rows no_more_naks request ≡ [])
