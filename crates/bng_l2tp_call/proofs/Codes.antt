-- Each CDN that refuses a message tells its cause.
use Rattle.std.proofs.Common.{◌≡◌, ℕ, List, length, get_or, refl, ap, arith}
use Rattle.bng_l2tp_wire.specs.Messages.{control_text}
use Rattle.bng_l2tp_call.specs.declared.refusal.CallRefusal.{CallRefusal}
use Rattle.bng_l2tp_call.specs.declared.refusal.CallRefusal.TheVariants.{UnknownAvp, WrongAvp, SequencingRequired, NoSlot}
use Rattle.bng_l2tp_call.specs.Spelling.{icrp, cdn, code_of}

-- two CDNs of the same octets have the same last two codes
result_octet : (a b c d : ℕ) (x y : CallRefusal) → control_text (cdn a b (code_of x)) ≡ control_text (cdn c d (code_of y)) → get_or (control_text (cdn a b (code_of x))) 35 0 ≡ get_or (control_text (cdn c d (code_of y))) 35 0
result_octet a b c d x y e = ap (λ (t : List ℕ). get_or t 35 0) e

error_octet : (a b c d : ℕ) (x y : CallRefusal) → control_text (cdn a b (code_of x)) ≡ control_text (cdn c d (code_of y)) → get_or (control_text (cdn a b (code_of x))) 37 0 ≡ get_or (control_text (cdn c d (code_of y))) 37 0
error_octet a b c d x y e = ap (λ (t : List ℕ). get_or t 37 0) e

pub same_cause : (a b c d : ℕ) (x y : CallRefusal) → control_text (cdn a b (code_of x)) ≡ control_text (cdn c d (code_of y)) → x ≡ y
same_cause a b c d UnknownAvp UnknownAvp e = refl
same_cause a b c d UnknownAvp WrongAvp e = absurd (let h : 8 ≡ 3 = error_octet a b c d UnknownAvp WrongAvp e in omega arith)
same_cause a b c d UnknownAvp SequencingRequired e = absurd (let h : 2 ≡ 5 = result_octet a b c d UnknownAvp SequencingRequired e in omega arith)
same_cause a b c d UnknownAvp NoSlot e = absurd (let h : 2 ≡ 4 = result_octet a b c d UnknownAvp NoSlot e in omega arith)
same_cause a b c d WrongAvp UnknownAvp e = absurd (let h : 3 ≡ 8 = error_octet a b c d WrongAvp UnknownAvp e in omega arith)
same_cause a b c d WrongAvp WrongAvp e = refl
same_cause a b c d WrongAvp SequencingRequired e = absurd (let h : 2 ≡ 5 = result_octet a b c d WrongAvp SequencingRequired e in omega arith)
same_cause a b c d WrongAvp NoSlot e = absurd (let h : 2 ≡ 4 = result_octet a b c d WrongAvp NoSlot e in omega arith)
same_cause a b c d SequencingRequired UnknownAvp e = absurd (let h : 5 ≡ 2 = result_octet a b c d SequencingRequired UnknownAvp e in omega arith)
same_cause a b c d SequencingRequired WrongAvp e = absurd (let h : 5 ≡ 2 = result_octet a b c d SequencingRequired WrongAvp e in omega arith)
same_cause a b c d SequencingRequired SequencingRequired e = refl
same_cause a b c d SequencingRequired NoSlot e = absurd (let h : 5 ≡ 4 = result_octet a b c d SequencingRequired NoSlot e in omega arith)
same_cause a b c d NoSlot UnknownAvp e = absurd (let h : 4 ≡ 2 = result_octet a b c d NoSlot UnknownAvp e in omega arith)
same_cause a b c d NoSlot WrongAvp e = absurd (let h : 4 ≡ 2 = result_octet a b c d NoSlot WrongAvp e in omega arith)
same_cause a b c d NoSlot SequencingRequired e = absurd (let h : 4 ≡ 5 = result_octet a b c d NoSlot SequencingRequired e in omega arith)
same_cause a b c d NoSlot NoSlot e = refl

-- an ICRP has 28 octets, and a CDN 36 or 38
pub icrp_tells_none : (a b c d : ℕ) (y : CallRefusal) → control_text (icrp a b) ≡ control_text (cdn c d (code_of y)) → ⊥
icrp_tells_none a b c d UnknownAvp e = absurd (let h : 28 ≡ 38 = ap length e in omega (arith, h))
icrp_tells_none a b c d WrongAvp e = absurd (let h : 28 ≡ 38 = ap length e in omega (arith, h))
icrp_tells_none a b c d SequencingRequired e = absurd (let h : 28 ≡ 36 = ap length e in omega (arith, h))
icrp_tells_none a b c d NoSlot e = absurd (let h : 28 ≡ 36 = ap length e in omega (arith, h))
