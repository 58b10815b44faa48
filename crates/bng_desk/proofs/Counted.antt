-- The sums of a desk, of which each is far below the end of its type.
use Rattle.std.proofs.Common.{◌≡◌, ℕ, ◌+◌, ◌*◌, ◌<◌, ◌≤◌, ◌^◌, Bool, [], ◌∷◌, map, ap, ◌∙◌, arith}
use Rattle.bng_base.specs.declared.book.Book.{Book}
use Rattle.bng_engine.specs.Quantities.{Quantity, in_book}
use Rattle.bng_steps.specs.Sums.{IsLow}
use Rattle.bng_desk.specs.declared.accounts.Stopped.{Stopped}
use Rattle.bng_desk.specs.Kept.{octets_most, rested}
use Rattle.bng_desk.specs.Model.{begun_in, live_of, live_terms, plus_book, total_of}
use Rattle.bng_desk.specs.Taking.{AddsUp}
use Rattle.bng_desk.proofs.InAll.{told_low, told_sum}
use Rattle.bng_desk.proofs.Readying.{Shards}
use Rattle.bng_desk.proofs.Resting.{begun_rested, live_rested, terms_rested}

module _ (tally : Book) (vs : Shards) (t : Stopped) (all : AddsUp tally vs t) where
  -- what the Stops and the terms that are left carried is what the tally tells
  pub seen_adds_up : plus_book t.carried (live_of (map rested vs)) ≡ total_of (tally ∷ [])
  seen_adds_up = ap (plus_book t.carried) (live_rested vs) ∙ told_sum tally vs t all

  -- and each term that began has its Stop, or has none yet
  pub seen_terms : begun_in (map rested vs) ≡ t.stops + live_terms (map rested vs)
  seen_terms = omega (arith, begun_rested vs, terms_rested vs, all.terms)

  pub sums_low : (turns : ℕ) → turns ≤ 2 ^ 41 → IsLow (octets_most * turns) tally → (q : Quantity) (input : Bool) → in_book q input t.carried + in_book q input (live_of vs) < 2 ^ 64
  sums_low turns few low q input = omega (arith, told_low (octets_most * turns) tally vs t low all q input, few)
