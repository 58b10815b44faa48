-- One round more in flat lists.
use Rattle.std.proofs.Common.{◌≡◌, ℕ, ◌≤◌, List, [], ◌∷◌, ◌++◌, length, drop, sum, refl, ◌∙◌, arith}
use Rattle.std.proofs.lemmas.List.{drop-append-le, length-drop}
use Rattle.bng_base.specs.declared.item.Entry.{Entry}
use Rattle.bng_base.specs.declared.item.Item.{Item}
use Rattle.bng_base.specs.declared.item.Loose.{Loose}
use Rattle.bng_base.specs.declared.item.OutRecord.{OutRecord}
use Rattle.bng_base.specs.declared.round.RoundRecord.{RoundRecord}
use Rattle.bng_plant.specs.declared.head.Head.{Head}
use Rattle.bng_plant.specs.Parts.{cut}
use Rattle.bng_plant.specs.Rounds.{rounds_of, first}
use Rattle.bng_plant.proofs.PartsLaws.{cut_more, length_cut}

first_new : {X : Type 0} (xss : List (List X)) (ys : List X) → length xss ≡ 0 → first (xss ++ ys ∷ []) ≡ ys
first_new [] ys e = refl
first_new (xs ∷ xss) ys e = absurd (omega arith)

first_old : {X : Type 0} (xss : List (List X)) (ys : List X) → 1 ≤ length xss → first (xss ++ ys ∷ []) ≡ first xss
first_old [] ys e = absurd (omega arith)
first_old (xs ∷ xss) ys e = refl

-- the round with this head and these lists
abbrev round_with : Head → List ℕ → List (List Entry) → List Loose → List OutRecord → List Item → RoundRecord
round_with h a j l o r = record { number = h.number; moment = h.moment; wall = h.wall; allowances = a; journals = j; loose = l; outs = o; refused = r }

-- lists of each kind for as many rounds as there are heads, and those of one round more
pub rounds_more : (heads : List Head) (h : Head) (ms : List (List ℕ)) (a : List ℕ) (js : List (List (List Entry))) (j : List (List Entry)) (ls : List (List Loose)) (l : List Loose) (os : List (List OutRecord)) (o : List OutRecord) (rs : List (List Item)) (r : List Item)
    → length ms ≡ length heads → length js ≡ length heads → length ls ≡ length heads → length os ≡ length heads → length rs ≡ length heads
    → rounds_of (heads ++ h ∷ []) (ms ++ a ∷ []) (js ++ j ∷ []) (ls ++ l ∷ []) (os ++ o ∷ []) (rs ++ r ∷ []) ≡ rounds_of heads ms js ls os rs ++ round_with h a j l o r ∷ []
rounds_more [] h ms a js j ls l os o rs r ea ej el eo er =
    let fa = first_new ms a ea in
    let fj = first_new js j ej in
    let fl = first_new ls l el in
    let fo = first_new os o eo in
    let fr = first_new rs r er in
    cc
rounds_more (g ∷ heads) h ms a js j ls l os o rs r ea ej el eo er =
    let fa = first_old ms a (omega (arith, ea)) in
    let fj = first_old js j (omega (arith, ej)) in
    let fl = first_old ls l (omega (arith, el)) in
    let fo = first_old os o (omega (arith, eo)) in
    let fr = first_old rs r (omega (arith, er)) in
    let da = drop-append-le 1 ms (a ∷ []) (omega (arith, ea)) in
    let dj = drop-append-le 1 js (j ∷ []) (omega (arith, ej)) in
    let dl = drop-append-le 1 ls (l ∷ []) (omega (arith, el)) in
    let do_ = drop-append-le 1 os (o ∷ []) (omega (arith, eo)) in
    let dr = drop-append-le 1 rs (r ∷ []) (omega (arith, er)) in
    let rest =
    rounds_more heads h (drop 1 ms) a (drop 1 js) j (drop 1 ls) l (drop 1 os) o (drop 1 rs) r
    (omega (arith, ea, length-drop 1 ms)) (omega (arith, ej, length-drop 1 js)) (omega (arith, el, length-drop 1 ls)) (omega (arith, eo, length-drop 1 os)) (omega (arith, er, length-drop 1 rs)) in
    cc

-- the same where the journals of all rounds are one list, which the counts cut
pub rounds_more_cut : (heads : List Head) (h : Head) (ms : List (List ℕ)) (a : List ℕ) (counts : List ℕ) (journals : List (List Entry)) (j : List (List Entry)) (ls : List (List Loose)) (l : List Loose) (os : List (List OutRecord)) (o : List OutRecord) (rs : List (List Item)) (r : List Item)
    → length ms ≡ length heads → length counts ≡ length heads → sum counts ≡ length journals → length ls ≡ length heads → length os ≡ length heads → length rs ≡ length heads
    → rounds_of (heads ++ h ∷ []) (ms ++ a ∷ []) (cut (counts ++ length j ∷ []) (journals ++ j)) (ls ++ l ∷ []) (os ++ o ∷ []) (rs ++ r ∷ []) ≡ rounds_of heads ms (cut counts journals) ls os rs ++ round_with h a j l o r ∷ []
rounds_more_cut heads h ms a counts journals j ls l os o rs r ea ec ej el eo er =
    rw (cut_more counts (length j) journals j ej refl)
    (rounds_more heads h ms a (cut counts journals) j ls l os o rs r ea (length_cut counts journals ∙ ec) el eo er)
