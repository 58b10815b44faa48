use Rattle.std.proofs.Common.{ℕ, false, ◌≡◌, ◌+◌, ◌++◌, List, [], ◌∷◌, None, length, length-append, append-nil, refl, sym, ap, ◌∙◌, arith}
use Rattle.bng_base.specs.declared.item.Item.{Item}
use Rattle.bng_base.specs.Batches.{Batch}
use Rattle.bng_base.specs.Packet.{Packet}
use Rattle.bng_desk.specs.Items.{drawn_from, nobody}
use Rattle.bng_desk.specs.Logins.{timeout_items, verdict_item, silence}
use Rattle.bng_desk.specs.Random.{Drawn, draw}
use Rattle.bng_desk.proofs.Drawing.{drawn_more}
use Rattle.bng_desk.proofs.LoginLaws.{gave_up_more, gave_up_all, draws_one, timeouts_length, timeouts_more, verdict_drawn}
use Rattle.bng_desk.proofs.due.add_timeouts.Goals as goal

pub returns-then-not-is_due-clause-adds : goal.returns-then-not-is_due-clause-adds
returns-then-not-is_due-clause-adds c =
    let l = c.args.lane.now in
    record {
      timed = [];
      times_out = gave_up_all c.args.now c.args.most l l l [] None refl (c.if-not-is_due.ensures.given_up refl) refl (omega arith);
      items_are = sym (append-nil c.args.items.now.items);
      draws_are = ap (λ (n : ℕ). record c.args.draws.now { drawn = n }) (omega arith);
    }

pub returns-in_default-clause-adds : goal.returns-in_default-clause-adds
returns-in_default-clause-adds c =
    let so_far = c.loop-given_up.invariant in
    record {
      timed = so_far.timed;
      times_out = gave_up_all c.args.now c.args.most c.args.lane.now c.loop-given_up.lane c.give_up.new.self so_far.timed c.give_up.result so_far.given_up c.give_up.ensures c.in_default.is (omega (arith, so_far.count, c.loop-given_up-test.true));
      items_are = so_far.items;
      draws_are = so_far.draws;
    }

pub push-requires : goal.push-requires
push-requires c = record { room = omega (arith, c.loop-given_up-test.true, c.loop-given_up.invariant.number, c.loop-given_up.invariant.capacity, c.requires.room) }

pub loop-given_up-preserved : goal.loop-given_up-preserved
loop-given_up-preserved c =
    let so_far = c.loop-given_up.invariant in
    let q = c.in-Some.number in
    let seed = c.args.draws.now.seed in
    let n = c.args.draws.now.drawn in
    let old = c.args.items.now.items in
    let before = timeout_items so_far.timed in
    let here = verdict_item silence q ∷ [] in
    let counted : length before ≡ length so_far.timed = timeouts_length so_far.timed in
    let drawn_so_far : c.loop-given_up.draws ≡ record c.args.draws.now { drawn = n + length before } =
    so_far.draws ∙ ap (λ (k : ℕ). record c.args.draws.now { drawn = n + k }) (sym counted) in
    record {
      timed = so_far.timed ++ q ∷ [];
      count = omega (arith, so_far.count, length-append so_far.timed (q ∷ []));
      given_up = gave_up_more c.args.now c.args.lane.now c.loop-given_up.lane c.give_up.new.self so_far.timed c.give_up.result q so_far.given_up c.give_up.ensures c.in-Some.is;
      items = drawn_more seed n old c.loop-given_up.items.items c.push.new.self.items before here c.loop-given_up.draws so_far.items drawn_so_far
          (verdict_drawn c.loop-given_up.items.items c.push.new.self.items c.verdict.result nobody false q c.new.result.payload [] c.sixteen-random.result (draw c.loop-given_up.draws.seed c.loop-given_up.draws.drawn)
          (ap (λ (b : Batch Item). b.items) c.push.ensures) c.verdict.ensures (ap (λ (p : Packet). p.payload) c.new.ensures) c.sixteen-random.ensures.octets)
          ∙ ap (λ (is : List Item). old ++ drawn_from seed n is) (sym (timeouts_more so_far.timed q));
      draws = draws_one c.args.draws.now c.loop-given_up.draws c.sixteen-random.new.self so_far.timed q so_far.draws c.sixteen-random.ensures.counted;
      number = omega (arith, ap (λ (b : Batch Item). length b.items) c.push.ensures, length-append c.loop-given_up.items.items (c.verdict.result ∷ []), so_far.number);
      capacity = ap (λ (b : Batch Item). b.room) c.push.ensures ∙ so_far.capacity;
    }

pub returns-in_default-clause-few : goal.returns-in_default-clause-few
returns-in_default-clause-few c = omega (arith, c.loop-given_up.invariant.number, c.loop-given_up-test.true)

pub returns-in_default-clause-few_drawn : goal.returns-in_default-clause-few_drawn
returns-in_default-clause-few_drawn c = omega (arith, c.loop-given_up.invariant.count, c.loop-given_up-test.true, ap (λ (d : Drawn). d.drawn) c.loop-given_up.invariant.draws)

pub returns-clause-few : goal.returns-clause-few
returns-clause-few c = omega (arith, c.loop-given_up.invariant.number)

pub returns-clause-few_drawn : goal.returns-clause-few_drawn
returns-clause-few_drawn c = omega (arith, c.loop-given_up.invariant.count, ap (λ (d : Drawn). d.drawn) c.loop-given_up.invariant.draws)
