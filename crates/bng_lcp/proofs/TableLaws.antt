-- The table of options.
use Rattle.std.proofs.Common.{◌≡◌, ◌≤◌, ℕ, Bool, true, false, ◌&&◌, Option, Some, None, List, [], nat_le, length, refl, arith}
use Rattle.std.specs.Prelude.{◌==◌, if◌then◌else◌}
use Rattle.std.proofs.lemmas.Bool.Decides.{nat_tests}
use Rattle.byteorder.specs.Endian.{big_number}
use Rattle.bng_base.specs.PppGrammar.{PppOption}
use Rattle.bng_ppp_wire.specs.declared.option_table.Good.{Good}
use Rattle.bng_ppp_wire.specs.declared.option_table.OptionRow.{OptionRow}
use Rattle.bng_ppp_wire.specs.declared.judgement.Class.TheVariants.{Ack}
use Rattle.bng_ppp_wire.specs.OptionTable.{is_good}
use Rattle.bng_ppp_wire.specs.Judgement.{class_at, class_by, not_good, added}
use Rattle.bng_lcp.specs.declared.judgement.LcpRules.{LcpRules}
use Rattle.bng_lcp.specs.Judgement.{mru_row, rows_of, class_of, is_mru}

-- a Configure-Nak adds nothing
pub none_added : (r : LcpRules) (request : List PppOption) → added (rows_of r) r.no_more_naks request ≡ []
none_added r request = by_test r.no_more_naks
  where
    by_test : (b : Bool) → added (rows_of r) b request ≡ []
    by_test true = refl
    by_test false = refl

-- The Maximum-Receive-Unit of an option that is acknowledged is within the limit.

not_acked : (n : Bool) → not_good n ≡ Ack → ⊥
not_acked true e = cc
not_acked false e = cc

good_at : (n : Bool) (good : Good) (m : ℕ) → class_at n good (Some m) ≡ Ack → is_good good m ≡ true
good_at n good m e = by_test (is_good good m) e
  where
    by_test : (b : Bool) → (if b then Ack else not_good n) ≡ Ack → b ≡ true
    by_test true h = refl
    by_test false h = absurd (not_acked n h)

at_length : (n : Bool) (good : Good) (m : ℕ) (b : Bool) → b ≡ true → class_at n good (if b then Some m else None) ≡ Ack → is_good good m ≡ true
at_length n good m true is e = good_at n good m e
at_length n good m false is e = absurd cc

at_kind : (n : Bool) (value : List ℕ) (row : OptionRow) (other : Option OptionRow) (b : Bool) → b ≡ true → class_by n value (if b then Some row else other) ≡ Ack → class_by n value (Some row) ≡ Ack
at_kind n value row other true is e = e
at_kind n value row other false is e = absurd cc

both : (a b : Bool) → (a && b) ≡ true → (a ≡ true) × (b ≡ true)
both true b e = (refl, e)
both false b e = absurd cc

same_kind : (a b : ℕ) → (a == b) ≡ true → (b == a) ≡ true
same_kind a b e = grind (arith, nat_tests)

below : (least n most : ℕ) → (nat_le least n && nat_le n most) ≡ true → n ≤ most
below least n most e = by_test (nat_le least n) (nat_le n most) e (λ h. le_of n most h)
  where
    le_of : (a b : ℕ) → nat_le a b ≡ true → a ≤ b
    le_of a b h = grind (arith, nat_tests)

    by_test : (a b : Bool) → (a && b) ≡ true → (b ≡ true → n ≤ most) → n ≤ most
    by_test true b h go = go h
    by_test false b h go = absurd cc

pub acked_mru : (r : LcpRules) (o : PppOption) → class_of r o ≡ Ack → is_mru o ≡ true → big_number 2 o.value ≤ r.limit
acked_mru r o acked is =
    let parts = both (o.kind == 1) (length o.value == 2) is in
    let row = at_kind r.no_more_naks o.value (mru_row r.limit) _ (1 == o.kind) (same_kind o.kind 1 parts.0) acked in
    below 128 (big_number 2 o.value) r.limit (at_length r.no_more_naks (mru_row r.limit).good (big_number 2 o.value) (length o.value == 2) parts.1 row)
