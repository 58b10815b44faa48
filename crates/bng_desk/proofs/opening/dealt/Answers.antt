use Rattle.std.proofs.Common.{◌++◌, ◌∷◌, List, [], not, sym, ap, ◌∙◌, arith, append_assoc}
use Rattle.bng_base.specs.declared.settings.Static.{Static}
use Rattle.bng_desk.proofs.Outfit.{of_shard, circuit_low, dealt_more, if_true, list_count}
use Rattle.bng_desk.proofs.opening.dealt.Goals as goal

pub index_mut-requires : goal.index_mut-requires
index_mut-requires c =
    let was = c.loop-circuit.invariant in
    let done = c.loop-circuit.yielded in
    omega (
      arith,
      circuit_low c.args.circuits.items done c.next.new.self.rest.items c.loop-circuit.circuit-iterator.rest.items c.in-Some.circuit c.args.shards c.requires was.whole c.in-Some.ensures.steps.0,
      list_count (λ x. x.items) (of_shard done) c.loop-circuit.lists.items c.args.shards was.dealt,
      c.from-shard.ensures,
    )

pub loop-circuit-preserved : goal.loop-circuit-preserved
loop-circuit-preserved c =
    let was = c.loop-circuit.invariant in
    let done = c.loop-circuit.yielded in
    let circuit = c.in-Some.circuit in
    let left = c.next.new.self.rest.items in
    let low = circuit_low c.args.circuits.items done left c.loop-circuit.circuit-iterator.rest.items circuit c.args.shards c.requires was.whole c.in-Some.ensures.steps.0 in
    let count = list_count (λ x. x.items) (of_shard done) c.loop-circuit.lists.items c.args.shards was.dealt in
    record {
      whole = was.whole ∙ ap (λ (cs : List Static). done ++ cs) c.in-Some.ensures.steps.0 ∙ sym (append_assoc done (circuit ∷ []) left);
      dealt = dealt_more (λ x. x.items) done circuit c.args.shards c.from-shard.result c.loop-circuit.lists.items c.index_mut.result.now c.push.new.self was.dealt c.from-shard.ensures (omega (arith, low, count, c.from-shard.ensures))
          (if_true _ _ _ _ c.push.ensures.items (c.is_err.ensures.negation ∙ ap not c.if-is_err.false) ∙ ap (λ v. v.items ++ circuit ∷ []) c.index_mut.ensures.value);
    }
