use Rattle.std.proofs.Common.{◌≡◌, ℕ, Some, length, length-set, slice_get, refl, sym, ◌∙◌, subst, arith}
use Rattle.std.proofs.lemmas.Option.{slice_get_read, slice_get_within}
use Rattle.bng_round.specs.Opening.{HasSeats}
use Rattle.bng_round.proofs.Places.{at_set_other}
use Rattle.bng_round.proofs.Openings.{seats_on, room_on, rows_on, seats_none}
use Rattle.bng_round.proofs.opening.deal_all.Goals as goal

pub loop-s-init : goal.loop-s-init
loop-s-init g c = record {
  count = refl;
  dealt = seats_none c.args.rows.now.items c.args.rooms.now.items (λ k x e. (c.requires.room k x e).0);
  rows_count = refl;
  before = λ j r low e. absurd (omega (arith, low));
  after = λ j low. refl;
}

pub deal_row-requires-clause-count : goal.deal_row-requires-clause-count
deal_row-requires-clause-count g c = let inv = c.loop-s.invariant in
    let at : slice_get c.loop-s.rows.items c.loop-s.s ≡ Some c.index_mut.result.now = slice_get_read c.loop-s.rows.items (length c.loop-s.rows.items) c.loop-s.s c.index_mut.result.now refl (omega (arith, c.loop-s-test.true, c.len-s-end.ensures, inv.rows_count)) c.index_mut.ensures.value in
    c.requires.counts c.loop-s.s c.index_mut.result.now (sym (inv.after c.loop-s.s (omega arith)) ∙ at) ∙ sym inv.count

pub deal_row-requires-clause-room : goal.deal_row-requires-clause-room
deal_row-requires-clause-room g c = let inv = c.loop-s.invariant in
    let at : slice_get c.loop-s.rows.items c.loop-s.s ≡ Some c.index_mut.result.now = slice_get_read c.loop-s.rows.items (length c.loop-s.rows.items) c.loop-s.s c.index_mut.result.now refl (omega (arith, c.loop-s-test.true, c.len-s-end.ensures, inv.rows_count)) c.index_mut.ensures.value in
    room_on c.args.rooms.now.items c.loop-s.rooms.items c.args.rows.now.items c.loop-s.s inv.dealt (length c.args.rows.now.items) (omega (arith, c.loop-s-test.true, c.len-s-end.ensures)) c.requires.room inv.count

pub loop-s-preserved : goal.loop-s-preserved
loop-s-preserved g c = let inv = c.loop-s.invariant in
    let r = c.index_mut.result.now in
    let at : slice_get c.loop-s.rows.items c.loop-s.s ≡ Some r = slice_get_read c.loop-s.rows.items (length c.loop-s.rows.items) c.loop-s.s r refl (omega (arith, c.loop-s-test.true, c.len-s-end.ensures, inv.rows_count)) c.index_mut.ensures.value in
    let was : slice_get c.args.rows.now.items c.loop-s.s ≡ Some r = sym (inv.after c.loop-s.s (omega arith)) ∙ at in
    let did = c.deal_row.ensures in record {
      count = did.dealt.count ∙ inv.count;
      dealt = seats_on c.args.rooms.now.items c.loop-s.rooms.items c.deal_row.new.rooms.items c.args.rows.now.items r c.loop-s.s was did.dealt inv.dealt;
      rows_count = length-set c.loop-s.rows.items c.loop-s.s c.deal_row.new.row ∙ inv.rows_count;
      before = rows_on c.loop-s.rows.items c.deal_row.new.row c.loop-s.s (length c.args.rooms.now.items) inv.before (did.row.0, omega (arith, did.row.1, c.requires.counts c.loop-s.s r was, r.ok));
      after = λ j low. at_set_other c.loop-s.rows.items c.loop-s.s j c.deal_row.new.row (λ e. omega (arith, e, low)) ∙ inv.after j (omega (arith, low));
    }

pub returns-clause-dealt : goal.returns-clause-dealt
returns-clause-dealt g c = let inv = c.loop-s.invariant in let all : c.loop-s.s ≡ length c.args.rows.now.items = omega (arith, c.loop-s-test.false, c.len-s-end.ensures, c.loop-s.auto.s-end) in
    λ k x e. subst (λ (n : ℕ). HasSeats c.args.rows.now.items k n x (slice_get c.loop-s.rooms.items k)) all (inv.dealt k x e)

pub returns-clause-rows : goal.returns-clause-rows
returns-clause-rows g c = let inv = c.loop-s.invariant in
    (inv.rows_count, λ s r e. inv.before s r (omega (arith, c.loop-s-test.false, c.len-s-end.ensures, inv.rows_count, slice_get_within c.loop-s.rows.items s r e)) e)
