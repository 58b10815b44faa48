-- The lists of all rounds are the flat lists.
use Rattle.std.proofs.Common.{◌≡◌, ℕ, List, [], ◌∷◌, ◌++◌, length, drop, map, refl, ap, arith}
use Rattle.std.specs.List.{flat_map}
use Rattle.bng_base.specs.declared.item.Entry.{Entry}
use Rattle.bng_base.specs.declared.item.Item.{Item}
use Rattle.bng_base.specs.declared.item.Loose.{Loose}
use Rattle.bng_base.specs.declared.item.OutRecord.{OutRecord}
use Rattle.bng_base.specs.declared.round.RoundRecord.{RoundRecord}
use Rattle.bng_plant.specs.declared.head.Head.{Head}
use Rattle.bng_plant.specs.Rounds.{rounds_of}
use Rattle.bng_plant.specs.MemoryTrace.{head_of}

pub heads_of : (heads : List Head) (ms : List (List ℕ)) (js : List (List (List Entry))) (ls : List (List Loose)) (os : List (List OutRecord)) (rs : List (List Item)) → map head_of (rounds_of heads ms js ls os rs) ≡ heads
heads_of [] ms js ls os rs = refl
heads_of (h ∷ heads) ms js ls os rs = ap (λ (hs : List Head). h ∷ hs) (heads_of heads (drop 1 ms) (drop 1 js) (drop 1 ls) (drop 1 os) (drop 1 rs))

pub allowances_of : (heads : List Head) (ms : List (List ℕ)) (js : List (List (List Entry))) (ls : List (List Loose)) (os : List (List OutRecord)) (rs : List (List Item)) → length ms ≡ length heads → flat_map (λ (r : RoundRecord). r.allowances) (rounds_of heads ms js ls os rs) ≡ flat_map (λ x. x) ms
allowances_of [] [] js ls os rs e = refl
allowances_of [] (x ∷ xs) js ls os rs e = absurd (omega arith)
allowances_of (h ∷ heads) [] js ls os rs e = absurd (omega arith)
allowances_of (h ∷ heads) (x ∷ xs) js ls os rs e = ap (λ (l : List (ℕ)). x ++ l) (allowances_of heads xs (drop 1 js) (drop 1 ls) (drop 1 os) (drop 1 rs) (omega (arith, e)))

pub journals_of : (heads : List Head) (ms : List (List ℕ)) (js : List (List (List Entry))) (ls : List (List Loose)) (os : List (List OutRecord)) (rs : List (List Item)) → length js ≡ length heads → flat_map (λ (r : RoundRecord). r.journals) (rounds_of heads ms js ls os rs) ≡ flat_map (λ x. x) js
journals_of [] ms [] ls os rs e = refl
journals_of [] ms (x ∷ xs) ls os rs e = absurd (omega arith)
journals_of (h ∷ heads) ms [] ls os rs e = absurd (omega arith)
journals_of (h ∷ heads) ms (x ∷ xs) ls os rs e = ap (λ (l : List (List Entry)). x ++ l) (journals_of heads (drop 1 ms) xs (drop 1 ls) (drop 1 os) (drop 1 rs) (omega (arith, e)))

pub loose_of : (heads : List Head) (ms : List (List ℕ)) (js : List (List (List Entry))) (ls : List (List Loose)) (os : List (List OutRecord)) (rs : List (List Item)) → length ls ≡ length heads → flat_map (λ (r : RoundRecord). r.loose) (rounds_of heads ms js ls os rs) ≡ flat_map (λ x. x) ls
loose_of [] ms js [] os rs e = refl
loose_of [] ms js (x ∷ xs) os rs e = absurd (omega arith)
loose_of (h ∷ heads) ms js [] os rs e = absurd (omega arith)
loose_of (h ∷ heads) ms js (x ∷ xs) os rs e = ap (λ (l : List (Loose)). x ++ l) (loose_of heads (drop 1 ms) (drop 1 js) xs (drop 1 os) (drop 1 rs) (omega (arith, e)))

pub outs_of : (heads : List Head) (ms : List (List ℕ)) (js : List (List (List Entry))) (ls : List (List Loose)) (os : List (List OutRecord)) (rs : List (List Item)) → length os ≡ length heads → flat_map (λ (r : RoundRecord). r.outs) (rounds_of heads ms js ls os rs) ≡ flat_map (λ x. x) os
outs_of [] ms js ls [] rs e = refl
outs_of [] ms js ls (x ∷ xs) rs e = absurd (omega arith)
outs_of (h ∷ heads) ms js ls [] rs e = absurd (omega arith)
outs_of (h ∷ heads) ms js ls (x ∷ xs) rs e = ap (λ (l : List (OutRecord)). x ++ l) (outs_of heads (drop 1 ms) (drop 1 js) (drop 1 ls) xs (drop 1 rs) (omega (arith, e)))

pub refused_of : (heads : List Head) (ms : List (List ℕ)) (js : List (List (List Entry))) (ls : List (List Loose)) (os : List (List OutRecord)) (rs : List (List Item)) → length rs ≡ length heads → flat_map (λ (r : RoundRecord). r.refused) (rounds_of heads ms js ls os rs) ≡ flat_map (λ x. x) rs
refused_of [] ms js ls os [] e = refl
refused_of [] ms js ls os (x ∷ xs) e = absurd (omega arith)
refused_of (h ∷ heads) ms js ls os [] e = absurd (omega arith)
refused_of (h ∷ heads) ms js ls os (x ∷ xs) e = ap (λ (l : List (Item)). x ++ l) (refused_of heads (drop 1 ms) (drop 1 js) (drop 1 ls) (drop 1 os) xs (omega (arith, e)))
