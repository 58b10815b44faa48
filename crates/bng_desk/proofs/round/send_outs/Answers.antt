use Rattle.std.proofs.Common.{rules, ◌≡◌, ◌+◌, ◌*◌, ◌^◌, ℕ, List, [], ◌∷◌, ◌++◌, drop, length, length-append, refl, sym, ap, subst, ◌∙◌, arith}
use Rattle.std.specs.List.{count_by}
use Rattle.std.proofs.lemmas.List.{drop_all, drop_more}
use Rattle.std.proofs.lemmas.List.Sums.{count_by-le-length}
use Rattle.bng_base.specs.Batches.{Batch}
use Rattle.bng_base.specs.declared.item.OutRecord.{OutRecord}
use Rattle.bng_base.specs.Stretch.{ExtendsPlant}
use Rattle.bng_engine.specs.Protocol.{IsOwned}
use Rattle.bng_engine.specs.Showing.{ChargesShown}
use Rattle.bng_base.specs.declared.item.Entry.{Entry}
use Rattle.bng_engine.specs.Views.{ShardView, row_keys}
use Rattle.bng_steps.specs.Protocol.{ShardState, pppoe}
use Rattle.bng_steps.specs.Sums.{AreCovered, charged_as}
use Rattle.bng_desk.specs.Reading.{sending}
use Rattle.bng_desk.specs.Round.{is_failed}
use Rattle.bng_desk.proofs.Sending.{SendsSome, failed_within, sends_none, sends_more, sends_all, sent_low, book_has, row_has, still_covered}
use Rattle.bng_desk.proofs.round.send_outs.Given.{Over}
use Rattle.bng_desk.proofs.round.send_outs.Goals as goal
use Rattle.bng_desk.proofs.round.send_outs.Goals.{After-push_sent}

pub loop-out-init : goal.loop-out-init
loop-out-init g c = record {
  sends = sends_none c.args.shard.now c.drain-journal.new.self (g.P.Plant.told c.args.plant.now) c.args.outs.now.items c.as_slice-out-items.result.now c.args.drops.now c.args.tally.now c.drain-journal.ensures.after
      (c.as_slice-out-items.ensures ∙ c.drain-journal.ensures.outs);
  count = omega arith;
  room = refl;
}

pub push_sent-requires : goal.push_sent-requires
push_sent-requires g c = record {
  room = omega (
    arith,
    c.requires.room,
    c.loop-out.invariant.count,
    c.loop-out.invariant.room,
    c.loop-out-test.true,
    ap (λ (os : List OutRecord). length os) c.as_slice-out-items.ensures,
    ap (λ (os : List OutRecord). length os) c.drain-journal.ensures.outs,
  );
}

-- the next one was sent, and stands last among the outs of the turn
module _ (g : Over) (c : After-push_sent g) where
  abbrev o : OutRecord
  o = c.out-item.result

  abbrev left : List OutRecord
  left = drop (c.loop-out.out-index + 1) c.as_slice-out-items.result.now

  abbrev answered : OutRecord
  answered = record o { sent = c.send-sent.result }

  so_far : SendsSome c.args.shard.now c.loop-out.shard (g.P.Plant.told c.args.plant.now) (g.P.Plant.told c.loop-out.plant) c.args.outs.now.items c.loop-out.outs.items (o ∷ left) c.args.drops.now c.loop-out.drops c.args.tally.now c.loop-out.tally
  so_far =
      let i = c.loop-out.out-index in
      let items = c.as_slice-out-items.result.now in
      subst (λ (xs : List OutRecord). SendsSome c.args.shard.now c.loop-out.shard (g.P.Plant.told c.args.plant.now) (g.P.Plant.told c.loop-out.plant) c.args.outs.now.items c.loop-out.outs.items xs c.args.drops.now c.loop-out.drops c.args.tally.now c.loop-out.tally)
      (drop_more items i o c.loop-out-test.true ∙ ap (λ (x : OutRecord). x ∷ left) (sym c.out-item.is)) c.loop-out.invariant.sends

  pushed : c.push_sent.new.self.items ≡ c.loop-out.outs.items ++ answered ∷ []
  pushed = ap (λ (b : Batch OutRecord). b.items) c.push_sent.ensures

  more : length c.push_sent.new.self.items ≡ length c.loop-out.outs.items + 1
  more = omega (arith, ap (λ (b : Batch OutRecord). length b.items) c.push_sent.ensures, length-append c.loop-out.outs.items (answered ∷ []))

pub last_of-requires : goal.last_of-requires
last_of-requires g c = record { some = omega (arith, more g (goal.at.last_of-requires g c).After-push_sent) }

pub charge-charged-requires : goal.charge-charged-requires
charge-charged-requires g c =
    let b = (goal.at.charge-charged-requires g c).After-push_sent in
    let v = c.args.shard.now in
    let w = c.loop-out.shard in
    let was = so_far g b in
    let t = c.requires.turns in
    let x = was.turn t.was t.now t.turning in
    let sent = c.send-sent.result in
    let last = sym (c.last_of.ensures c.loop-out.outs.items (answered g b) (pushed g b)) in
    record {
      low = λ q input. omega (arith, sent_low v t.was t.now t.turning w was.sends x (o g b ∷ left g b) was.are_outs (2 ^ 62 + 2 ^ 61) (4160 * 1024) c.requires.low c.requires.light q input);
      covered = subst (λ (r : OutRecord). AreCovered w.books r) last (book_has v t.was t.now t.turning w was.sends x (left g b) (o g b) (answered g b) sent was.are_outs refl);
      own = subst (λ (r : OutRecord). IsOwned (row_keys w.rows) r) last (row_has v t.was t.now t.turning w was.sends x (left g b) (o g b) (answered g b) sent was.are_outs refl);
    }

pub count_failed-requires : goal.count_failed-requires
count_failed-requires g c =
    let was = c.loop-out.invariant.sends in
    let n = count_by is_failed was.sends in
    failed_within (2 ^ 62 + 2 ^ 61) n (2 ^ 63) c.args.drops.now c.loop-out.drops
    (omega (
      arith,
      count_by-le-length is_failed was.sends,
      ap (λ (os : List OutRecord). length os) was.outs_are,
      length-append c.args.outs.now.items was.sends,
      c.loop-out.invariant.count,
      c.loop-out-test.true,
      ap (λ (os : List OutRecord). length os) c.as_slice-out-items.ensures,
      ap (λ (os : List OutRecord). length os) c.drain-journal.ensures.outs,
      c.requires.few,
    )) c.requires.drops was.drops_are

pub take_back-requires : goal.take_back-requires
take_back-requires g c =
    let b = (goal.at.take_back-requires g c).After-push_sent in
    let was = so_far g b in
    still_covered c.args.shard.now c.args.tally.now c.loop-out.tally was.sends (left g b) (o g b) (answered g b) c.charge-charged.result c.send-sent.result c.requires.covered was.falls was.are_outs refl
    (c.charge-charged.ensures.answer ∙ ap (λ (r : OutRecord). charged_as r.charge) (c.last_of.ensures c.loop-out.outs.items (answered g b) (pushed g b)))

pub loop-out-preserved : goal.loop-out-preserved
loop-out-preserved g c =
    let b = (goal.at.loop-out-preserved g c).After-push_sent in
    let told = g.P.Plant.told in
    let last = c.last_of.ensures c.loop-out.outs.items (answered g b) (pushed g b) in
    let sent_is = subst (λ (octets : List ℕ). ExtendsPlant (told c.loop-out.plant) (told c.send-sent.new.plant) (sending c.out-item.result.role c.out-item.result.to octets c.send-sent.result)) c.as_slice.ensures.octets c.send-sent.ensures in
    record {
      sends = sends_more c.args.shard.now c.loop-out.shard c.charge-charged.new.self (told c.args.plant.now) (told c.loop-out.plant) (told c.send-sent.new.plant) c.args.outs.now.items c.loop-out.outs.items c.push_sent.new.self.items (left g b) (o g b)
          c.args.drops.now c.loop-out.drops c.count_failed.new.drops c.args.tally.now c.loop-out.tally c.take_back.new.tally c.send-sent.result c.charge-charged.result
          (so_far g b) (answered g b) refl sent_is
          (subst (λ (r : OutRecord). ChargesShown pppoe c.loop-out.shard r c.charge-charged.new.self) last c.charge-charged.ensures.after) (pushed g b)
          (c.charge-charged.ensures.answer ∙ ap (λ (r : OutRecord). charged_as r.charge) last) c.count_failed.ensures c.take_back.ensures;
      count = omega (arith, more g b, c.loop-out.invariant.count);
      room = ap (λ (x : Batch OutRecord). x.room) c.push_sent.ensures ∙ c.loop-out.invariant.room;
    }

pub returns-clause-sends : goal.returns-clause-sends
returns-clause-sends g c =
    let told = g.P.Plant.told in
    let items = c.as_slice-out-items.result.now in
    let i = c.loop-out.out-index in
    sends_all c.args.shard.now c.loop-out.shard c.keep_outs.new.self (told c.args.plant.now) (told c.loop-out.plant) c.args.outs.now.items c.loop-out.outs.items (drop i items)
    c.drain-journal.result.0.items c.args.drops.now c.loop-out.drops c.args.tally.now c.loop-out.tally c.requires.turns c.loop-out.invariant.sends (drop_all i items (omega (arith, c.loop-out-test.false))) c.drain-journal.ensures.journal
    c.keep_outs.ensures

pub returns-then-len-eq0-clause-sends : goal.returns-then-len-eq0-clause-sends
returns-then-len-eq0-clause-sends g c =
    let told = g.P.Plant.told (c.args.plant.now) in
    let v = c.args.shard.now in
    let w = c.drain-journal.new.self in
    sends_all v w w told told c.args.outs.now.items c.args.outs.now.items [] c.drain-journal.result.0.items c.args.drops.now c.args.drops.now c.args.tally.now c.args.tally.now c.requires.turns
    (sends_none v w told c.args.outs.now.items [] c.args.drops.now c.args.tally.now c.drain-journal.ensures.after (search rules)) refl c.drain-journal.ensures.journal
    (c.drain-journal.ensures.after ∙ sym (ap (λ (x : ShardView ShardState Entry). record x { room = 0 }) c.drain-journal.ensures.after))
