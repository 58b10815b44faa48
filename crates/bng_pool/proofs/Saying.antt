-- What a look says, whatever it finds.
use Rattle.std.proofs.Common.{◌≡◌, ℕ, zero, suc, ◌+◌, ◌%◌, ◌<◌, eqb, Bool, true, false, ◌&&◌, List, Option, None, Some, true≢false, eq-eqb, sym, refl, ap, ◌∙◌, subst, arith}
use Rattle.bng_pool.specs.Ranges.{HasAddress}
use Rattle.bng_pool.specs.Seats.{SeatView, Note, Holds, Notes, notes_now, notes_after, holder_in, looked_at, AgreesWith, Looks, LookSays, IsInRound}
use Rattle.bng_pool.proofs.Scanning.{notes_stay}

noted_first : (may : Bool) (a k p : ℕ) (notes : List Note) → may ≡ true → Notes (notes_after may a (suc k) p notes) a k p
noted_first true a k p notes is = (0, refl)
noted_first false a k p notes is = absurd (true≢false (sym is))

in_round : (q : SeatView) → IsInRound q → notes_now q.full q.phase ≡ true
in_round q round = (λ i. round.1 i && eqb (q.phase % 2) 0) ∙ eq-eqb (q.phase % 2) 0 round.0

says_word : (a w : ℕ) (before : SeatView) → HasAddress before.pool.ranges a → AgreesWith before a w → LookSays a (holder_in w) before (looked_at before a w)
says_word a zero before has agrees = record {
  found_is = λ _. ((λ k note. absurd (let e = agrees.noted k note in omega arith)), (λ held. absurd (let e = agrees.mine held in omega arith)));
  noted = λ b k p n. n;
}
says_word a (suc k) before has agrees = record {
  found_is = (has, (let low = agrees.shard in omega arith), λ round. noted_first (notes_now before.full before.phase) a k before.phase before.notes (in_round before round));
  noted = λ b l p n. notes_stay (notes_now before.full before.phase) a (suc k) before.phase before.notes b l p n;
}

-- a look of an address that has a word
pub word_says : (a : ℕ) (answer : Option ℕ) (before after : SeatView) → HasAddress before.pool.ranges a → Looks a answer before after → LookSays a answer before after
word_says a answer before after has l = subst (λ (z : Option ℕ × SeatView). LookSays a z.0 before z.1) (λ i. (sym l.answered i, sym l.left i)) (says_word a l.word before has l.agrees)

-- a look of an address that has none
pub no_word_says : (a : ℕ) (before : SeatView) → ¬ HasAddress before.pool.ranges a → LookSays a None before before
no_word_says a before none = record { found_is = λ has. absurd (none has); noted = λ b k p n. n }
