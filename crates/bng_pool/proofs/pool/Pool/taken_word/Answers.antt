use Rattle.std.proofs.Common.{◌≡◌, ◌+◌, ◌<◌, sym, ap, ◌∙◌, subst, arith}
use Rattle.bng_pool.specs.Ranges.{place_of, address_count}
use Rattle.bng_pool.specs.Seats.{SeatView}
use Rattle.bng_pool.specs.Seats.{AgreesWith, tried_at}
use Rattle.bng_pool.specs.Rule.{shown}
use Rattle.bng_pool.proofs.Kept.{tries}
use Rattle.bng_pool.proofs.Seated.{same_pool, tried_seat, tried_same, tried_shown}
use Rattle.bng_pool.proofs.pool.Pool.taken_word.Goals as goal

pub load-requires : goal.load-requires
load-requires c = let s = same_pool _ _ c.seat.inside.token.me.0 _ _ _ _ _ c.seat.view_is c.requires.pool c.self.view_is in let is = c.seat.invariant.0 in
    let at : c.args.place ≡ place_of c.self.inside.words.shared.key.value.ranges c.args.a.0 = c.requires.place.0 ∙ ap (λ z. place_of z.ranges c.args.a.0) (sym c.self.view_is) in
    let count : c.self.inside.words.shared.table_id.words ≡ address_count c.self.inside.words.shared.key.value.ranges + 1 = c.self.invariant.0 in
    let low : c.args.place < address_count c.self.inside.words.shared.key.value.ranges = subst (λ z. c.args.place < address_count z.ranges) (sym c.self.view_is) c.requires.place.1 in
    let placed : place_of c.self.inside.words.shared.key.value.ranges c.args.a.0 + 1 < address_count c.self.inside.words.shared.key.value.ranges + 1 = omega arith in
    (s.0, omega arith, rw at (tries _ _ _ _ _ _ _ _ _ is.counted placed s.1))

pub invariant_of-seat : goal.invariant_of-seat
invariant_of-seat c = let s = same_pool _ _ c.seat.inside.token.me.0 _ _ _ _ _ c.seat.view_is c.requires.pool c.self.view_is in
    let at : c.args.place ≡ place_of c.seat.inside.token.me.0.ranges c.args.a.0 = c.requires.place.0 ∙ (ap (λ z. place_of z.ranges c.args.a.0) (sym c.self.view_is) ∙ ap (λ z. place_of z c.args.a.0) (sym s.1)) in
    let did = c.load.ensures.2 in let now = did.1 c.args.a.0 (ap (λ z. z + 1) at) in let same = tried_same c.seat.inside.token.me.0 c.args.a.0 c.load.result in let number = c.seat.invariant.1 in let phase = c.seat.invariant.2 in
    (tried_seat _ _ _ _ c.seat.invariant.0 did.0 now.0, ap (λ z. z.number) now.0 ∙ (same.0 ∙ number), ap (λ z. z.phase) now.0 ∙ (same.1 ∙ phase))

pub returns-clause-left : goal.returns-clause-left
returns-clause-left c = let s = same_pool _ _ c.seat.inside.token.me.0 _ _ _ _ _ c.seat.view_is c.requires.pool c.self.view_is in
    let at : c.args.place ≡ place_of c.seat.inside.token.me.0.ranges c.args.a.0 = c.requires.place.0 ∙ (ap (λ z. place_of z.ranges c.args.a.0) (sym c.self.view_is) ∙ ap (λ z. place_of z c.args.a.0) (sym s.1)) in
    let did = c.load.ensures in let now = did.2.1 c.args.a.0 (ap (λ z. z + 1) at) in
    (λ i. shown (did.0 i) (now.0 i)) ∙ (tried_shown c.seat.inside.token.table_id c.seat.inside.token.me.0 c.args.a.0 c.load.result ∙ ap (λ (z : SeatView). tried_at z c.args.a.0 c.load.result) c.seat.view_is)

pub returns-clause-agrees : goal.returns-clause-agrees
returns-clause-agrees c = let s = same_pool _ _ c.seat.inside.token.me.0 _ _ _ _ _ c.seat.view_is c.requires.pool c.self.view_is in
    let at : c.args.place ≡ place_of c.seat.inside.token.me.0.ranges c.args.a.0 = c.requires.place.0 ∙ (ap (λ z. place_of z.ranges c.args.a.0) (sym c.self.view_is) ∙ ap (λ z. place_of z c.args.a.0) (sym s.1)) in
    let now = c.load.ensures.2.1 c.args.a.0 (ap (λ z. z + 1) at) in
    subst (λ (z : SeatView). AgreesWith z c.args.a.0 c.load.result) c.seat.view_is now.1
