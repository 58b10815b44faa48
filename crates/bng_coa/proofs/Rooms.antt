-- Room for one more request.
use Rattle.std.proofs.Common.{◌≡◌, ℕ, suc, ◌+◌, ◌≤◌, Bool, true, false, cond, not, ltb, List, [], ◌∷◌, length, Option, Some, None, refl, ap, ◌∙◌, arith}
use Rattle.std.specs.Prelude.{count_by, filter, position, remove}
use Rattle.std.specs.List.{prefix_len, position_or_len}
use Rattle.std.proofs.lemmas.List.Sums.{sum_by-cons}
use Rattle.std.proofs.lemmas.Bool.{ltb-false, le-ltb}
use Rattle.bng_coa.specs.declared.request.ChangeRequest.{ChangeRequest}
use Rattle.bng_coa.specs.declared.request.RequestStage.{RequestStage}
use Rattle.bng_coa.specs.declared.request.RequestStage.TheVariants.{InHand, Answered}
use Rattle.bng_coa.specs.Requests.{is_in_hand, is_in_hand_at, is_answered, is_answered_at, with_room, without}

counted : (p : ChangeRequest → Bool) (r : ChangeRequest) (rs : List ChangeRequest) → count_by p (r ∷ rs) ≡ cond (p r) 1 0 + count_by p rs
counted p r rs = sum_by-cons (λ x. cond (p x) 1 0) r rs

fewer_cons : (b c : Bool) (p : ChangeRequest → Bool) (r : ChangeRequest) (rs kept : List ChangeRequest) → p r ≡ b → count_by p kept ≤ count_by p rs → count_by p (cond c (r ∷ kept) kept) ≤ cond b 1 0 + count_by p rs
fewer_cons b true p r rs kept e le = omega (arith, le, counted p r kept ∙ ap (λ (t : Bool). cond t 1 0 + count_by p kept) e)
fewer_cons b false p r rs kept e le = omega (arith, le)

-- a filter leaves no more
pub fewer : (p q : ChangeRequest → Bool) (rs : List ChangeRequest) → count_by p (filter q rs) ≤ count_by p rs
fewer p q [] = omega arith
fewer p q (r ∷ rs) = omega (arith, counted p r rs, fewer_cons (p r) (q r) p r rs (filter q rs) refl (fewer p q rs))

either : (s : RequestStage) → is_in_hand_at s ≡ not (is_answered_at s)
either (InHand number packet) = refl
either (Answered reply) = refl

all_step : (b : Bool) (n k : ℕ) → suc n ≤ cond (not b) (1 + k) 0 → ◌≡◌ {A = ℕ} (cond (not b) 1 0) 1
all_step true n k le = absurd (omega arith)
all_step false n k le = refl

rest_step : (b : Bool) (n k : ℕ) → suc n ≤ cond (not b) (1 + k) 0 → n ≤ k
rest_step true n k le = absurd (omega arith)
rest_step false n k le = omega arith

-- where none is answered, all are in hand
pub all_in_hand : (rs : List ChangeRequest) → length rs ≤ prefix_len (λ r. not (is_answered r)) rs → count_by is_in_hand rs ≡ length rs
all_in_hand [] le = refl
all_in_hand (r ∷ rs) le =
    let one : ◌≡◌ {A = ℕ} (cond (is_in_hand r) 1 0) 1 = ap (λ (b : Bool). cond b 1 0) (either r.stage) ∙ all_step (is_answered r) (length rs) (prefix_len (λ x. not (is_answered x)) rs) le in
    omega (arith, counted is_in_hand r rs, one, all_in_hand rs (rest_step (is_answered r) (length rs) (prefix_len (λ x. not (is_answered x)) rs) le))

none_of : (n k : ℕ) (b : Bool) → ltb k n ≡ b → ◌≡◌ {A = Option ℕ} (cond b (Some k) None) None → n ≤ k
none_of n k true e none = absurd cc
none_of n k false e none = ltb-false k n e

pub none_answered : (rs : List ChangeRequest) → position is_answered rs ≡ None → count_by is_in_hand rs ≡ length rs
none_answered rs none =
    all_in_hand rs (none_of (length rs) (position_or_len is_answered rs) (ltb (position_or_len is_answered rs) (length rs)) refl none)

-- where 256 stand, the first that is answered goes
pub room_made : (rs : List ChangeRequest) (place : ℕ) → 256 ≤ length rs → position is_answered rs ≡ Some place → with_room rs ≡ remove rs place
room_made rs place full first =
    ap (λ (b : Bool). cond b rs (without (position is_answered rs) rs)) (le-ltb (length rs) 256 full)
    ∙ ap (λ (o : Option ℕ). without o rs) first
