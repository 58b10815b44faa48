-- The blocks that a password fills.
use Rattle.std.proofs.Common.{◌≡◌, ℕ, ◌+◌, ◌-◌, ◌≤◌, List, ◌++◌, length, take, replicate, ap, ◌∙◌, arith}
use Rattle.std.proofs.lemmas.List.{take-replicate}
use Rattle.std.proofs.Math.Seq.{take-append-add}
use Rattle.bng_access.specs.Request.{blocks_size, padded}

-- the blocks of a password that has zeros behind it
pub blocks_of : (password : List ℕ) → length password ≤ 128
    → take (blocks_size (length password)) (password ++ replicate (128 - length password) 0) ≡ padded password
blocks_of password most =
    let n = length password in
    let size : blocks_size n ≡ n + (blocks_size n - n) = omega arith in
    let few : blocks_size n - n ≤ 128 - n = omega (arith, most) in
    ap (λ (k : ℕ). take k (password ++ replicate (128 - n) 0)) size
    ∙ take-append-add password (replicate (128 - n) 0) (blocks_size n - n)
    ∙ ap (λ (zeros : List ℕ). password ++ zeros) (take-replicate {X = ℕ} (blocks_size n - n) (128 - n) 0 few)
