-- What a CoA-Request changes of a term (RFC 5176 section 3.2).
use Rattle.std.specs.Prelude.{ℕ, Bool, List, Option, Some, None, find, max}
use Rattle.std.specs.List.{position}
use Rattle.std.specs.Option.{option_map}
use Rattle.std.specs.Str.{bytes_eq}
use Rattle.bng_base.specs.declared.book.Profile.{Profile}
use Rattle.bng_radius_wire.specs.Attributes.{Field}
use Rattle.bng_radius_wire.specs.Grammar.{Packet}
use Rattle.bng_coa.specs.declared.wanted.Wanted.{Wanted}
use Rattle.bng_coa.specs.Kinds.{has_kind}
use Rattle.bng_coa.specs.Leads.{number_of}

abbrev pub is_called : List ℕ → Profile → Bool
is_called value p = bytes_eq value p.name.items

-- the place of the profile that a Filter-Id names
abbrev pub place_in : List Profile → Option Field → Option ℕ
place_in profiles None = None
place_in profiles (Some f) = position (is_called f.value) profiles

abbrev pub number_from : Option Field → Option ℕ
number_from None = None
number_from (Some f) = number_of f.value

-- the number of the first attribute of this type
abbrev pub number_in : ℕ → List Field → Option ℕ
number_in kind fs = number_from (find (has_kind kind) fs)

-- Filter-Id, Session-Timeout, Idle-Timeout, and Acct-Interim-Interval, which below 60 is taken as 60 (RFC 2869 section 5.16): of each the
-- first counts, and what is not there stays as it is.
abbrev pub wanted : List Profile → Packet → Wanted
wanted profiles p = record {
  profile = place_in profiles (find (has_kind 11) p.attributes);
  session_timeout = number_in 27 p.attributes;
  idle_timeout = number_in 28 p.attributes;
  interim = option_map (λ n. max n 60) (number_in 85 p.attributes);
}
