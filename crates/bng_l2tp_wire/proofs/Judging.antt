-- What holds of a message that is not refused.
use Rattle.std.proofs.Common.{◌≡◌, ℕ, ◌==◌, Bool, true, false, cond, Option, None, Some, List, length, refl, sym, ap, ◌∙◌}
use Rattle.std.specs.Prelude.{IsSome}
use Rattle.std.proofs.lemmas.Bool.{eqb-true, not-false}
use Rattle.byteorder.specs.Endian.{big_from}
use Rattle.bng_l2tp_wire.specs.Values.{number_in}
use Rattle.bng_l2tp_wire.specs.Judge.{is_type, has_right_length, is_wrong}

pub type_is : (type : Option ℕ) (wanted : ℕ) → is_type type wanted ≡ true → type ≡ Some wanted
type_is None wanted e = absurd cc
type_is (Some type) wanted e = ap (λ (n : ℕ). Some n) (eqb-true type wanted e)

-- a case does not hold, and none after it
pub first_none : {R : Type 0} (b : Bool) (r : R) (rest : Option R) → cond b (Some r) rest ≡ None → (b ≡ false) × (rest ≡ None)
first_none true r rest e = absurd cc
first_none false r rest e = (refl, e)

some_if : (n : ℕ) (b : Bool) → b ≡ true → IsSome {T = ℕ} (cond b (Some n) None)
some_if n true e = refl
some_if n false e = absurd cc

-- a number is there, where the value of its Attribute Type has two octets
pub number_there : (kind : ℕ) (value : Option (List ℕ)) → ((octets : List ℕ) → has_right_length kind octets ≡ (length octets == 2)) → is_wrong kind value ≡ false → IsSome (number_in value)
number_there kind None two e = absurd cc
number_there kind (Some value) two e = some_if (big_from 0 2 value) (length value == 2) (sym (two value) ∙ not-false (has_right_length kind value) e)
