use Rattle.std.proofs.Common.{rules, ◌≡◌, ℕ, length, get_or, sym, ap, subst, ◌∙◌, arith}
use Rattle.bng_base.specs.declared.item.Entry.{Entry}
use Rattle.bng_engine.specs.Calls.{Kept, IsReady}
use Rattle.bng_engine.specs.Views.{ShardView}
use Rattle.bng_engine.proofs.Walks.{same_at, walk_more, zip_weaker}
use Rattle.bng_steps.specs.Protocol.{ShardState}
use Rattle.bng_desk.specs.Allowing.{allowance_of}
use Rattle.bng_desk.specs.Taking.{IsEmpty, HasRows}
use Rattle.bng_desk.proofs.Readying.{IsMadeReady, IsLeft, all_ready, some_ready, all_right, all_onward}
use Rattle.bng_desk.proofs.round.prepare_all.Goals as goal

pub allowance-allowance-requires-clause-number : goal.allowance-allowance-requires-clause-number
allowance-allowance-requires-clause-number c =
    let i = c.loop-number.number in let d = c.index-shards-number.result in
    ap (λ (v : ShardView ShardState Entry). v.number) (same_at c.args.shards.now c.loop-number.shards i d c.loop-number.invariant.rest) ∙ c.requires.numbers i d c.loop-number-test.true

pub prepare_one-requires-clause-empty : goal.prepare_one-requires-clause-empty
prepare_one-requires-clause-empty c =
    let i = c.loop-number.number in let d = c.index-shards-number.result in
    subst IsEmpty (sym (same_at c.args.shards.now c.loop-number.shards i d c.loop-number.invariant.rest)) (c.requires.empty i d c.loop-number-test.true)

pub returns-then-not-prepare_one-clause-kept : goal.returns-then-not-prepare_one-clause-kept
returns-then-not-prepare_one-clause-kept c =
    let here : IsLeft (get_or c.loop-number.shards c.loop-number.number c.index-shards-number.result) c.prepare_one.new.shard = record { kept = c.prepare_one.ensures.kept; empty = λ _. c.prepare_one.ensures.empty } in
    zip_weaker IsLeft Kept (λ x y h. h.kept) c.args.shards.now _
    (some_ready c.args.items c.args.free (length c.args.shards.now) c.args.shards.now c.loop-number.shards c.loop-number.number c.index-shards-number.result c.prepare_one.new.shard c.loop-number-test.true c.loop-number.invariant here)

pub returns-then-not-prepare_one-clause-empty : goal.returns-then-not-prepare_one-clause-empty
returns-then-not-prepare_one-clause-empty c =
    let here : IsLeft (get_or c.loop-number.shards c.loop-number.number c.index-shards-number.result) c.prepare_one.new.shard = record { kept = c.prepare_one.ensures.kept; empty = λ _. c.prepare_one.ensures.empty } in
    all_onward IsLeft IsEmpty (λ x y h e. h.empty e) c.args.shards.now _
    (some_ready c.args.items c.args.free (length c.args.shards.now) c.args.shards.now c.loop-number.shards c.loop-number.number c.index-shards-number.result c.prepare_one.new.shard c.loop-number-test.true c.loop-number.invariant here)
    c.requires.empty

pub loop-number-preserved : goal.loop-number-preserved
loop-number-preserved c =
    let i = c.loop-number.number in
    let v = get_or c.loop-number.shards i c.index-shards-number.result in
    let w = c.prepare_one.new.shard in
    let count = length c.args.shards.now in
    let made : IsReady c.args.items c.allowance-allowance.result w = search rules in
    let allowed : c.allowance-allowance.result ≡ allowance_of c.args.free count v = c.allowance-allowance.ensures.allowance in
    let here : IsMadeReady c.args.items c.args.free count v w = record { kept = c.prepare_one.ensures.kept; ready = subst (λ (n : ℕ). IsReady c.args.items n w) allowed made; rows = c.prepare_one.ensures.rows } in
    walk_more (IsMadeReady c.args.items c.args.free count) c.args.shards.now c.loop-number.shards i c.index-shards-number.result w c.loop-number-test.true c.loop-number.invariant here

pub returns-clause-kept : goal.returns-clause-kept
returns-clause-kept c =
    let count = length c.args.shards.now in
    zip_weaker (IsMadeReady c.args.items c.args.free count) Kept (λ x y h. h.kept) c.args.shards.now c.loop-number.shards
    (all_ready c.args.items c.args.free count c.args.shards.now c.loop-number.shards c.loop-number.number (omega arith) (omega arith) c.loop-number.invariant)

pub returns-clause-empty : goal.returns-clause-empty
returns-clause-empty c =
    let count = length c.args.shards.now in
    all_right (IsMadeReady c.args.items c.args.free count) IsEmpty (λ x y h. (h.ready.journal, h.ready.outs)) c.args.shards.now c.loop-number.shards
    (all_ready c.args.items c.args.free count c.args.shards.now c.loop-number.shards c.loop-number.number (omega arith) (omega arith) c.loop-number.invariant)

pub returns-clause-ready : goal.returns-clause-ready
returns-clause-ready c _ =
    let count = length c.args.shards.now in
    zip_weaker (IsMadeReady c.args.items c.args.free count) (λ v w. IsReady c.args.items (allowance_of c.args.free count v) w) (λ x y h. h.ready) c.args.shards.now c.loop-number.shards
    (all_ready c.args.items c.args.free count c.args.shards.now c.loop-number.shards c.loop-number.number (omega arith) (omega arith) c.loop-number.invariant)

pub returns-clause-rows : goal.returns-clause-rows
returns-clause-rows c _ =
    let count = length c.args.shards.now in
    all_right (IsMadeReady c.args.items c.args.free count) HasRows (λ x y h. h.rows) c.args.shards.now c.loop-number.shards
    (all_ready c.args.items c.args.free count c.args.shards.now c.loop-number.shards c.loop-number.number (omega arith) (omega arith) c.loop-number.invariant)
