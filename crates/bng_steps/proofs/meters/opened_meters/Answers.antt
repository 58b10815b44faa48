use Rattle.std.proofs.Common.{◌≡◌, ◌∙◌, ℕ, ◌+◌, ◌*◌, List, [], ◌∷◌, ◌++◌, map, length, refl, sym, ap, arith}
use Rattle.std.specs.List.{range_with_len}
use Rattle.std.proofs.lemmas.List.FromFn.{length-map-range_with_len, map-range_with_len_more}
use Rattle.bng_steps.specs.declared.meters.Meters.{Meters}
use Rattle.bng_steps.specs.Opening.{circuit_at, circuit_meters, opened_meters}
use Rattle.bng_steps.proofs.meters.opened_meters.Goals as goal

pub push_reserved-requires : goal.push_reserved-requires
push_reserved-requires c =
    let f : ℕ → Meters = λ n. circuit_meters c.args.profiles.now c.args.now (circuit_at c.args.circuits.now n) in
    let count = ap (λ (ms : List Meters). length ms) c.loop-index.invariant.items ∙ length-map-range_with_len f (c.args.number * 1024) c.loop-index.index in
    omega (arith, count, c.loop-index.invariant.room, c.loop-index-test.true)

pub loop-index-preserved : goal.loop-index-preserved
loop-index-preserved c =
    let f : ℕ → Meters = λ n. circuit_meters c.args.profiles.now c.args.now (circuit_at c.args.circuits.now n) in
    let first : ℕ = c.args.number * 1024 in
    record {
      items = c.push_reserved.ensures.items
          ∙ ap (λ (ms : List Meters). ms ++ c.circuit_meters-input.result ∷ []) c.loop-index.invariant.items
          ∙ ap (λ (m : Meters). map f (range_with_len first c.loop-index.index) ++ m ∷ []) c.circuit_meters-input.ensures
          ∙ sym (map-range_with_len_more f first c.loop-index.index (first + c.loop-index.index) refl);
      room = omega (arith, c.loop-index.invariant.room, c.push_reserved.ensures.capacity);
    }

pub returns : goal.returns
unfolding opened_meters
returns c =
    let f : ℕ → Meters = λ n. circuit_meters c.args.profiles.now c.args.now (circuit_at c.args.circuits.now n) in
    let all : c.loop-index.index ≡ 1024 = omega arith in
    c.loop-index.invariant.items ∙ ap (λ (k : ℕ). map f (range_with_len (c.args.number * 1024) k)) all
