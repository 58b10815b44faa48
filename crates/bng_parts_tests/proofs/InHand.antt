-- What a caller with the seats of all shards makes of the law.
use Rattle.std.proofs.Common.{◌≡◌, ℕ, ◌%◌, ◌+◌, ⊎_elim, true, List, [], get_or, length, set, slice_get, Some, None, Option, sym, ap, ◌∙◌, subst, arith}
use Rattle.std.proofs.lemmas.Option.{slice_get_within, slice_get-get_or}
use mathlib.Core.Logic.{dite}
use native.Mathlib.Decide.{ℕ_discrete}
use Rattle.bng_base.specs.declared.address.Ip4.{Ip4}
use Rattle.bng_base.specs.declared.book.Range.{Range}
use Rattle.bng_base.specs.declared.item.Claim.{Claim}
use Rattle.bng_pool.specs.Ranges.{HasAddress}
use Rattle.bng_pool.specs.Seats.{PoolView, SeatView, Holds, Notes, IsInRound, HasMoreNotes, HaveMoreNotes, IsBeside, AreAgreed, Claims, Scans, Looks, without}
use Rattle.bng_pool.specs.Tables.{Table, entry, TableClaims, TableScans, TableFrees}
use Rattle.bng_pool.specs.OneHand.{table_of, AreInOneHand, AreInRound, HasHeard, AgreesWithOthers, ClaimsOfTable, ScansOfTable, LooksOfTable, AllKeepTable, EntriesOfTable, GivesBackOfTable}
use Rattle.bng_pool.proofs.Places.{some_same, set_same, set_other}
use Rattle.bng_pool.proofs.Joined.{was}
use Rattle.bng_pool.proofs.OneHand.{past}

-- what no call of a round changes
pub record IsSameSeat (before after : SeatView) : Type 0 where
  pub pool : after.pool ≡ before.pool
  pub number : after.number ≡ before.number
  pub phase : after.phase ≡ before.phase
  pub full : after.full ≡ before.full

pub claim_same : (a : Ip4) (answer : Claim) (before after : SeatView) → Claims a answer before after → IsSameSeat before after
claim_same a answer before after c = record { pool = ap (λ (z : SeatView). z.pool) c.left; number = ap (λ (z : SeatView). z.number) c.left; phase = ap (λ (z : SeatView). z.phase) c.left; full = ap (λ (z : SeatView). z.full) c.left }

pub scan_same : (r : Range) (n : ℕ) (answer : Claim) (before after : SeatView) → Scans r n answer before after → IsSameSeat before after
scan_same r n answer before after s = let p = past before r.first.0 s.words in ⊎_elim
    (λ h. record { pool = ap (λ (z : SeatView). z.pool) h.2 ∙ p.pool; number = ap (λ (z : SeatView). z.number) h.2 ∙ p.number; phase = ap (λ (z : SeatView). z.phase) h.2 ∙ p.phase; full = ap (λ (z : SeatView). z.full) h.2 ∙ p.full })
    (λ h. record { pool = ap (λ (z : SeatView). z.pool) h.2 ∙ p.pool; number = ap (λ (z : SeatView). z.number) h.2 ∙ p.number; phase = ap (λ (z : SeatView). z.phase) h.2 ∙ p.phase; full = ap (λ (z : SeatView). z.full) h.2 ∙ p.full })
    s.ended

module _ (pool : PoolView) (seats : List SeatView) (hand : AreInOneHand pool seats) (k : ℕ) (before after : SeatView) (at : slice_get seats k ≡ Some before) (same : IsSameSeat before after) where
  -- each seat of the hand is where it was, or the one that changed
  pub changed_seat : (P : ℕ → SeatView → Type 0) → P k after → ((j : ℕ) (q : SeatView) → slice_get seats j ≡ Some q → P j q) → (j : ℕ) (q : SeatView) → slice_get (set seats k after) j ≡ Some q → P j q
  changed_seat P here there j q e = dite (ℕ_discrete j k)
      (λ is. let q_is : after ≡ q = some_same after q (sym (set_same seats k before after at) ∙ (ap (slice_get (set seats k after)) (sym is) ∙ e)) in subst (λ (z : ℕ × SeatView). P z.0 z.1) (λ i. (sym is i, q_is i)) here)
      (λ other. there j q (sym (set_other seats k j after other) ∙ e))

  pub changed_seats : (j : ℕ) (q : SeatView) → slice_get (set seats k after) j ≡ Some q → (q.pool ≡ pool) × (q.number ≡ j)
  changed_seats = let h = hand.each k before at in changed_seat (λ j q. (q.pool ≡ pool) × (q.number ≡ j)) (same.pool ∙ h.0, same.number ∙ h.1) hand.each

  pub changed_round : (phase : ℕ) → AreInRound phase seats → AreInRound phase (set seats k after)
  changed_round phase round = let h = round k before at in changed_seat (λ j q. IsInRound q × (q.phase ≡ phase))
      ((ap (λ z. z % 2) same.phase ∙ h.0.0, same.full ∙ h.0.1), same.phase ∙ h.1) round

  pub others_before : ((p : SeatView) → slice_get (set seats k after) k ≡ Some p → AgreesWithOthers (set seats k after) p) → AgreesWithOthers seats after
  others_before agreed j q other e = agreed after (set_same seats k before after at) j q other (set_other seats k j after (λ is. other (is ∙ sym (same.number ∙ (hand.each k before at).1))) ∙ e)

-- notes change neither the hand, nor its phase, nor its table
pub noted_hand : AllKeepTable → (pool : PoolView) (seats next : List SeatView) → AreInOneHand pool seats → HaveMoreNotes seats next → AreInOneHand pool next × (table_of next ≡ table_of seats)
noted_hand law pool seats next hand more = law pool seats next hand more.0
    (λ k p q e f. let m = more.1 k p q e f in (ap (λ (z : SeatView). z.pool) m.rest, ap (λ (z : SeatView). z.number) m.rest, ap (λ (z : SeatView). z.held) m.rest))

pub noted_round : (seats next : List SeatView) (phase : ℕ) → HaveMoreNotes seats next → AreInRound phase seats → AreInRound phase next
noted_round seats next phase more round k q e = let p = was seats next k q more e in subst (λ (z : SeatView). IsInRound z × (z.phase ≡ phase)) (sym p.2.rest) (round k p.0 p.1)

module _ (keep : AllKeepTable) (pool : PoolView) (seats next : List SeatView) (hand : AreInOneHand pool seats) (k : ℕ) (before after : SeatView) (at : slice_get seats k ≡ Some before) (round : (phase : ℕ) × AreInRound phase seats)
    (agreed : (p : SeatView) → slice_get (set seats k after) k ≡ Some p → AgreesWithOthers (set seats k after) p) (more : HaveMoreNotes (set seats k after) next) where
  pub claimed_in_hand : ClaimsOfTable → (a : Ip4) (answer : Claim) → HasAddress pool.ranges a.0 → Claims a answer before after → AreInOneHand pool next × TableClaims (table_of seats) k a answer (table_of next)
  claimed_in_hand law a answer has c = let t = law pool seats k a answer before after hand at has (round.1 k before at).0 c (others_before pool seats hand k before after at (claim_same a answer before after c) agreed) in
      let n = noted_hand keep pool (set seats k after) next t.0 more in (n.0, subst (λ z. TableClaims (table_of seats) k a answer z) (sym n.1) t.1)

  pub scanned_in_hand : ScansOfTable → (r : Range) (number : ℕ) (answer : Claim) → slice_get pool.ranges number ≡ Some r → Scans r number answer before after → AreInOneHand pool next × TableScans (table_of seats) k r number answer (table_of next)
  scanned_in_hand law r number answer range s = let t = law pool seats k r number answer before after hand at range (round.1 k before at).0 s (others_before pool seats hand k before after at (scan_same r number answer before after s) agreed) in
      let n = noted_hand keep pool (set seats k after) next t.0 more in (n.0, subst (λ z. TableScans (table_of seats) k r number answer z) (sym n.1) t.1)

-- a worker's seat beside the seats of all shards
pub looker_beside : (pool : PoolView) (seats : List SeatView) (looker : SeatView) → AreInOneHand pool seats → looker.pool ≡ pool → looker.number ≡ pool.shards → AreInRound looker.phase seats → (j : ℕ) (q : SeatView) → slice_get seats j ≡ Some q → IsBeside looker q
looker_beside pool seats looker hand of_pool number round j q e = let h = hand.each j q e in let r = round j q e in let within = slice_get_within seats j q e in let all = hand.all in let own = h.1 in record {
  pool = h.0 ∙ sym of_pool;
  apart = λ same. absurd (omega arith);
  phase = r.1;
  full = r.0.1;
}

-- a seat that was compared with each of the hand has heard of what they hold
pub compared_heard : (pool : PoolView) (seats next : List SeatView) (looker : SeatView) → AreInOneHand pool seats → HaveMoreNotes seats next → ((j : ℕ) (q : SeatView) → slice_get seats j ≡ Some q → (a : ℕ) → Holds q.held a → Notes looker.notes a q.number looker.phase)
    → HasHeard next looker
compared_heard pool seats next looker hand more heard j q other e a h = let p = was seats next j q more e in subst (λ z. Notes looker.notes a z looker.phase) (hand.each j p.0 p.1).1 (heard j p.0 p.1 a (subst (λ z. Holds z a) (ap (λ (z : SeatView). z.held) p.2.rest) h))

pub looked_in_hand : LooksOfTable → AllKeepTable → (pool : PoolView) (seats next : List SeatView) (looker before after : SeatView) (a : ℕ) (answer : Option ℕ) → AreInOneHand pool seats → looker.pool ≡ pool → looker.number ≡ pool.shards → IsInRound looker
    → HaveMoreNotes seats next → HasMoreNotes looker before → ((j : ℕ) (q : SeatView) → slice_get seats j ≡ Some q → (b : ℕ) → Holds q.held b → Notes before.notes b q.number before.phase)
    → (HasAddress pool.ranges a → Looks a answer before after) → (¬ HasAddress pool.ranges a → (answer ≡ None) × (after ≡ before)) → ((j : ℕ) (q : SeatView) → slice_get next j ≡ Some q → AreAgreed after q) → answer ≡ entry (table_of seats) a
looked_in_hand law keep pool seats next looker before after a answer hand of_pool number round more noted heard looks without agreed = let n = noted_hand keep pool seats next hand more in let shards = ap (λ (z : SeatView). z.number) noted.rest ∙ number in
    law pool next a answer before after n.0 (ap (λ (z : SeatView). z.pool) noted.rest ∙ of_pool) (λ low. absurd (omega arith)) (subst IsInRound (sym noted.rest) round) (compared_heard pool seats next before hand more heard) looks without (λ j q other e. agreed j q e)
    ∙ ap (λ z. entry z a) n.1

-- all seats went to the next phase
abbrev pub GoesOn : ℕ → List SeatView → List SeatView → Type 0
GoesOn phase seats next = (length next ≡ length seats) × ((j : ℕ) (q : SeatView) → slice_get seats j ≡ Some q → slice_get next j ≡ Some (record q { phase = phase; notes = [] }))

pub went_on : (phase : ℕ) (seats next : List SeatView) → GoesOn phase seats next → (j : ℕ) (q : SeatView) → slice_get next j ≡ Some q → (p : SeatView) × (slice_get seats j ≡ Some p) × (q ≡ record p { phase = phase; notes = [] })
went_on phase seats next on j q e = let long = on.0 in let within = slice_get_within next j q e in let p : SeatView = get_or seats j q in let at : slice_get seats j ≡ Some p = slice_get-get_or seats j q (omega arith) in
    (p, at, some_same q (record p { phase = phase; notes = [] }) (sym e ∙ on.1 j p at))

pub hand_on : AllKeepTable → (pool : PoolView) (phase : ℕ) (seats next : List SeatView) → AreInOneHand pool seats → GoesOn phase seats next → AreInOneHand pool next × (table_of next ≡ table_of seats)
hand_on law pool phase seats next hand on = law pool seats next hand on.0 (λ k p q e f. let is = some_same q (record p { phase = phase; notes = [] }) (sym f ∙ on.1 k p e) in
    (ap (λ (z : SeatView). z.pool) is, ap (λ (z : SeatView). z.number) is, ap (λ (z : SeatView). z.held) is))

-- where each was full, each is there
pub full_on : (phase phase' : ℕ) (seats next : List SeatView) (pool : PoolView) → GoesOn phase' seats next → ((j : ℕ) (q : SeatView) → slice_get seats j ≡ Some q → (q.pool ≡ pool) × (q.full ≡ true) × (q.phase ≡ phase))
    → (j : ℕ) (q : SeatView) → slice_get next j ≡ Some q → (q.pool ≡ pool) × (q.full ≡ true) × (q.phase ≡ phase')
full_on phase phase' seats next pool on each j q e = let w = went_on phase' seats next on j q e in let h = each j w.0 w.1 in (ap (λ (z : SeatView). z.pool) w.2 ∙ h.0, ap (λ (z : SeatView). z.full) w.2 ∙ h.1, ap (λ (z : SeatView). z.phase) w.2)

pub full_in_round : (pool : PoolView) (phase : ℕ) (seats : List SeatView) → AreInOneHand pool seats → AreInRound phase seats → (j : ℕ) (q : SeatView) → slice_get seats j ≡ Some q → (q.pool ≡ pool) × (q.full ≡ true) × (q.phase ≡ phase)
full_in_round pool phase seats hand round j q e = let h = hand.each j q e in let r = round j q e in (h.0, r.0.1, r.1)

pub odd_next : (n : ℕ) → n % 2 ≡ 0 → (n + 1) % 2 ≡ 1
odd_next n even = omega arith

pub even_next : (n : ℕ) → n % 2 ≡ 0 → (n + 1 + 1) % 2 ≡ 0
even_next n even = omega arith

module _ (keep : AllKeepTable) (entries : EntriesOfTable) (pool : PoolView) (seats next : List SeatView) (hand : AreInOneHand pool seats) (phase : ℕ) (round : AreInRound phase seats) (on : GoesOn (phase + 1) seats next) (k a : ℕ) (held : entry (table_of seats) a ≡ Some k)
    (before : SeatView) (at : slice_get next k ≡ Some before) where
  pub settling_hand : AreInOneHand pool next
  settling_hand = (hand_on keep pool (phase + 1) seats next hand on).0

  pub settling_full : (j : ℕ) (q : SeatView) → slice_get next j ≡ Some q → (q.pool ≡ pool) × (q.full ≡ true) × (q.phase ≡ phase + 1)
  settling_full = full_on phase (phase + 1) seats next pool on (full_in_round pool phase seats hand round)

  pub settling_holds : Holds before.held a
  settling_holds = let t = hand_on keep pool (phase + 1) seats next hand on in let h = (entries pool next t.0 a k).0 (ap (λ z. entry z a) t.1 ∙ held) in subst (λ (z : SeatView). Holds z.held a) (some_same h.0 before (sym h.1 ∙ at)) h.2

  module _ (after : SeatView) (is : after ≡ record before { held = without a before.held }) where
    pub given_same : IsSameSeat before after
    given_same = record { pool = ap (λ (z : SeatView). z.pool) is; number = ap (λ (z : SeatView). z.number) is; phase = ap (λ (z : SeatView). z.phase) is; full = ap (λ (z : SeatView). z.full) is }

    pub given_full : (j : ℕ) (q : SeatView) → slice_get (set next k after) j ≡ Some q → (q.pool ≡ pool) × (q.full ≡ true) × (q.phase ≡ phase + 1)
    given_full = let h = settling_full k before at in let s = given_same in changed_seat pool next settling_hand k before after at s (λ j q. (q.pool ≡ pool) × (q.full ≡ true) × (q.phase ≡ phase + 1)) (s.pool ∙ h.0, s.full ∙ h.1, s.phase ∙ h.2) settling_full

    module _ (gives : GivesBackOfTable) (last : List SeatView) (on' : GoesOn (phase + 1 + 1) (set next k after) last) where
      pub given_hand : AreInOneHand pool last × TableFrees (table_of seats) k a (table_of last)
      given_hand = let t = hand_on keep pool (phase + 1) seats next hand on in let g = gives pool next k a before after t.0 at settling_holds is in let u = hand_on keep pool (phase + 1 + 1) (set next k after) last g.0 on' in
          (u.0, subst (λ (z : Table × Table). TableFrees z.0 k a z.1) (λ i. (t.1 i, sym u.1 i)) g.1)

      pub given_round : phase % 2 ≡ 0 → AreInRound (phase + 1 + 1) last
      given_round even j q e = let h = full_on (phase + 1) (phase + 1 + 1) (set next k after) last pool on' given_full j q e in ((ap (λ z. z % 2) h.2 ∙ even_next phase even, h.1), h.2)
