-- AVPs are read in one way.
use Rattle.std.proofs.Common.{◌≡◌, Bool, true, false, ℕ, suc, ◌+◌, ◌*◌, ◌/◌, ◌%◌, ◌<◌, List, [], ◌∷◌, ◌++◌, length, get_or, take, drop, refl, sym, ap, ◌∙◌, arith}
use Rattle.std.proofs.lemmas.List.{take_at, drop_at}
use Rattle.bng_base.specs.Pieces.{IsCode}
use Rattle.bng_l2tp_wire.specs.declared.view.Avp.{Avp}
use Rattle.bng_l2tp_wire.specs.Avps.{L2tpAvp, AvpFits, IsAvp, bit, first_word, avp_text}
use Rattle.bng_l2tp_wire.specs.View.{avp_of, avps_of}

pub bit_below : (b : Bool) → bit b < 2
bit_below true = omega arith
bit_below false = omega arith

same_bit : (a b : Bool) → bit a ≡ bit b → a ≡ b
same_bit true true e = refl
same_bit false false e = refl
same_bit true false e = absurd (omega (arith, e))
same_bit false true e = absurd (omega (arith, e))

sum_below : (m h r s : ℕ) → m < 2 → h < 2 → r < 16 → s < 1024 → 32768 * m + 16384 * h + 1024 * r + s < 65536
sum_below m h r s lm lh lr ls = omega arith

pub word_below : (a : L2tpAvp) → AvpFits a → first_word a < 65536
word_below a f = sum_below (bit a.mandatory) (bit a.hidden) a.reserved (6 + length a.value) (bit_below a.mandatory) (bit_below a.hidden) f.reserved f.size

same_sum : (m h r s m2 h2 r2 s2 : ℕ) → m < 2 → h < 2 → r < 16 → s < 1024 → m2 < 2 → h2 < 2 → r2 < 16 → s2 < 1024
    → 32768 * m + 16384 * h + 1024 * r + s ≡ 32768 * m2 + 16384 * h2 + 1024 * r2 + s2 → (m ≡ m2) × (h ≡ h2) × (r ≡ r2) × (s ≡ s2)
same_sum m h r s m2 h2 r2 s2 lm lh lr ls lm2 lh2 lr2 ls2 e = (omega arith, omega arith, omega arith, omega arith)

-- two octets spell one number
same_word : (m n : ℕ) → m < 65536 → n < 65536 → m / 256 % 256 ≡ n / 256 % 256 → m % 256 ≡ n % 256 → m ≡ n
same_word m n p q h l = omega arith

same_value : (a b x y : List ℕ) → length a ≡ length b → a ++ x ≡ b ++ y → (a ≡ b) × (x ≡ y)
same_value a b x y len e = (
  sym (take_at a x (length a) refl) ∙ ap (take (length a)) e ∙ take_at b y (length a) (sym len),
  sym (drop_at a x (length a) refl) ∙ ap (drop (length a)) e ∙ drop_at b y (length a) (sym len),
)

pub is_code : IsCode AvpFits avp_text
is_code = record {
  nonempty = λ a. omega arith;
  splits = λ a b x y fa fb e.
      let w1 : first_word a / 256 % 256 ≡ first_word b / 256 % 256 = ap (λ (xs : List ℕ). get_or xs 0 0) e in
      let w0 : first_word a % 256 ≡ first_word b % 256 = ap (λ (xs : List ℕ). get_or xs 1 0) e in
      let v1 : a.vendor / 256 % 256 ≡ b.vendor / 256 % 256 = ap (λ (xs : List ℕ). get_or xs 2 0) e in
      let v0 : a.vendor % 256 ≡ b.vendor % 256 = ap (λ (xs : List ℕ). get_or xs 3 0) e in
      let k1 : a.kind / 256 % 256 ≡ b.kind / 256 % 256 = ap (λ (xs : List ℕ). get_or xs 4 0) e in
      let k0 : a.kind % 256 ≡ b.kind % 256 = ap (λ (xs : List ℕ). get_or xs 5 0) e in
      let values : a.value ++ x ≡ b.value ++ y = ap (drop 6) e in
      let words = same_word (first_word a) (first_word b) (word_below a fa) (word_below b fb) w1 w0 in
      let parts = same_sum (bit a.mandatory) (bit a.hidden) a.reserved (6 + length a.value) (bit b.mandatory) (bit b.hidden) b.reserved (6 + length b.value) (bit_below a.mandatory) (bit_below a.hidden) fa.reserved fa.size (bit_below b.mandatory) (bit_below b.hidden) fb.reserved fb.size words in
      let same = same_value a.value b.value x y (omega (arith, parts.3)) values in
      let made : Bool → Bool → ℕ → ℕ → ℕ → List ℕ → L2tpAvp = λ m h r n k v. record { mandatory = m; hidden = h; reserved = r; vendor = n; kind = k; value = v } in (
        ap (λ (m : Bool). made m a.hidden a.reserved a.vendor a.kind a.value) (same_bit a.mandatory b.mandatory parts.0)
            ∙ ap (λ (h : Bool). made b.mandatory h a.reserved a.vendor a.kind a.value) (same_bit a.hidden b.hidden parts.1)
            ∙ ap (λ (r : ℕ). made b.mandatory b.hidden r a.vendor a.kind a.value) parts.2
            ∙ ap (λ (n : ℕ). made b.mandatory b.hidden b.reserved n a.kind a.value) (same_word a.vendor b.vendor fa.vendor fb.vendor v1 v0)
            ∙ ap (λ (k : ℕ). made b.mandatory b.hidden b.reserved b.vendor k a.value) (same_word a.kind b.kind fa.kind fb.kind k1 k0)
            ∙ ap (made b.mandatory b.hidden b.reserved b.vendor b.kind) same.0,
        same.1,
      );
}

-- octets begin with one AVP
pub one_avp : (a b : L2tpAvp) (bytes : List ℕ) → IsAvp a bytes → IsAvp b bytes → a ≡ b
one_avp a b bytes x y = (is_code.splits a b x.0 y.0 x.1.fits y.1.fits (sym x.1.spelled ∙ y.1.spelled)).0

pub avps_of-push : (vs : List Avp) (a : Avp) → avps_of (vs ++ a ∷ []) ≡ avps_of vs ++ avp_of a ∷ []
avps_of-push [] a = refl
avps_of-push (x ∷ vs) a = ap (λ (r : List L2tpAvp). avp_of x ∷ r) (avps_of-push vs a)

pub length-avps_of : (vs : List Avp) → length (avps_of vs) ≡ length vs
length-avps_of [] = refl
length-avps_of (x ∷ vs) = ap suc (length-avps_of vs)
