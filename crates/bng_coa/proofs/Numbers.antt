-- Of 256 numbers one is free while fewer than 256 requests are in hand.
use Rattle.std.proofs.Common.{◌≡◌, ℕ, zero, suc, ◌+◌, ◌<◌, ◌≤◌, Bool, true, false, cond, ◌||◌, eqb, ltb, List, [], ◌∷◌, refl, ap, arith}
use Rattle.std.specs.Prelude.{count_by}
use Rattle.std.specs.List.{list_any}
use Rattle.std.proofs.lemmas.List.Sums.{sum_by-cons}
use Rattle.std.proofs.lemmas.Bool.Decides.{nat_tests}
use Rattle.bng_coa.specs.declared.request.ChangeRequest.{ChangeRequest}
use Rattle.bng_coa.specs.declared.request.RequestStage.{RequestStage}
use Rattle.bng_coa.specs.declared.request.RequestStage.TheVariants.{InHand, Answered}
use Rattle.bng_coa.specs.Requests.{is_in_hand, is_in_hand_at, is_numbered, is_numbered_at}

-- how many of the numbers below k some request has
abbrev used : ℕ → List ChangeRequest → ℕ
used zero rs = 0
used (suc k) rs = used k rs + cond (list_any (is_numbered k) rs) 1 0

-- one, where the stage has a number below k
abbrev own : ℕ → RequestStage → ℕ
own k (InHand number packet) = cond (ltb number k) 1 0
own k (Answered reply) = 0

either_one : (a b : Bool) → cond (a || b) 1 0 ≤ cond a 1 0 + cond b 1 0
either_one true b = omega arith
either_one false b = omega arith

grows : (number k : ℕ) → cond (ltb number k) 1 0 + cond (eqb number k) 1 0 ≤ cond (ltb number (suc k)) 1 0
grows number k = grind (arith, nat_tests)

own_grows : (k : ℕ) (s : RequestStage) → own k s + cond (is_numbered_at k s) 1 0 ≤ own (suc k) s
own_grows k (InHand number packet) = grows number k
own_grows k (Answered reply) = omega arith

at_most_one : (b : Bool) → cond b 1 0 ≤ 1
at_most_one true = omega arith
at_most_one false = omega arith

own_most : (k : ℕ) (s : RequestStage) → own k s ≤ cond (is_in_hand_at s) 1 0
own_most k (InHand number packet) = at_most_one (ltb number k)
own_most k (Answered reply) = omega arith

used_cons : (k : ℕ) (r : ChangeRequest) (rs : List ChangeRequest) → used k (r ∷ rs) ≤ used k rs + own k r.stage
used_cons zero r rs = omega arith
used_cons (suc k) r rs =
    omega (arith, used_cons k r rs, own_grows k r.stage, either_one (is_numbered k r) (list_any (is_numbered k) rs))

used_none : (k : ℕ) → used k [] ≡ 0
used_none zero = refl
used_none (suc k) = omega (arith, used_none k)

-- no more numbers are used than requests are in hand
pub used_most : (k : ℕ) (rs : List ChangeRequest) → used k rs ≤ count_by is_in_hand rs
used_most k [] = omega (arith, used_none k)
used_most k (r ∷ rs) =
    omega (arith, used_cons k r rs, own_most k r.stage, used_most k rs, sum_by-cons (λ x. cond (is_in_hand x) 1 0) r rs)

all_used : (k : ℕ) (rs : List ChangeRequest) → ((n : ℕ) → n < k → list_any (is_numbered n) rs ≡ true) → used k rs ≡ k
all_used zero rs all = refl
all_used (suc k) rs all =
    let one : ◌≡◌ {A = ℕ} (cond (list_any (is_numbered k) rs) 1 0) 1 = ap (λ (b : Bool). cond b 1 0) (all k (omega arith)) in
    omega (arith, one, all_used k rs (λ n lt. all n (omega arith)))

pub none_free : (k : ℕ) (rs : List ChangeRequest) → ((n : ℕ) → n < k → list_any (is_numbered n) rs ≡ true) → k ≤ count_by is_in_hand rs
none_free k rs all = omega (arith, used_most k rs, all_used k rs all)
