use Rattle.std.proofs.Common.{ℕ, ◌++◌, ◌∷◌, List, [], length, map, sym, ap, subst, ◌∙◌, arith, append_assoc, length-append}
use Rattle.std.specs.List.{All, range_with_len}
use Rattle.std.proofs.lemmas.List.Elements.{All-append, All-cons, All-nil}
use Rattle.std.proofs.lemmas.List.FromFn.{map-range_with_len_more, length-map-range_with_len}
use Rattle.bng_base.specs.declared.item.Entry.{Entry}
use Rattle.bng_base.specs.declared.settings.Static.{Static}
use Rattle.bng_engine.specs.Views.{ShardView}
use Rattle.bng_profile.specs.Books.{AreDifferent, names_of}
use Rattle.bng_steps.specs.declared.rules.Rules.{Rules}
use Rattle.bng_steps.specs.Protocol.{opened}
use Rattle.bng_steps.specs.Protocol.{ShardState}
use Rattle.bng_desk.specs.Taking.{HasFewSessions}
use Rattle.bng_desk.proofs.Outfit.{of_shard, list_count, list_next, next_are}
use Rattle.bng_desk.proofs.opening.shards.Goals as goal

pub open-requires-clause-number : goal.open-requires-clause-number
open-requires-clause-number c =
    let was = c.loop-circuits.invariant in
    let next = list_next (λ x. x.items) (of_shard c.args.circuits.items) c.loop-circuits.yielded c.next.new.self.rest.items c.loop-circuits.circuits-iterator.rest.items c.in-Some.circuits c.args.rules.now.shards c.loop-circuits.number was.left c.in-Some.ensures.steps.0 was.number in
    omega (arith, next.0, c.requires.few)

pub open-requires-clause-own : goal.open-requires-clause-own
open-requires-clause-own c =
    let was = c.loop-circuits.invariant in
    (next_are (λ x. x.items) c.args.rules.now c.in_ok-own.own c.args.circuits.items c.as_slice.result.now c.loop-circuits.yielded c.next.new.self.rest.items c.loop-circuits.circuits-iterator.rest.items c.in-Some.circuits c.loop-circuits.number c.requires.circuits was.left c.in-Some.ensures.steps.0 was.number c.in_ok-own.ensures c.as_slice.ensures.value).own

pub open-requires-clause-sessions : goal.open-requires-clause-sessions
open-requires-clause-sessions c =
    let was = c.loop-circuits.invariant in
    (next_are (λ x. x.items) c.args.rules.now c.in_ok-own.own c.args.circuits.items c.as_slice.result.now c.loop-circuits.yielded c.next.new.self.rest.items c.loop-circuits.circuits-iterator.rest.items c.in-Some.circuits c.loop-circuits.number c.requires.circuits was.left c.in-Some.ensures.steps.0 was.number c.in_ok-own.ensures c.as_slice.ensures.value).sessions

pub open-requires-clause-addresses : goal.open-requires-clause-addresses
open-requires-clause-addresses c =
    let was = c.loop-circuits.invariant in
    (next_are (λ x. x.items) c.args.rules.now c.in_ok-own.own c.args.circuits.items c.as_slice.result.now c.loop-circuits.yielded c.next.new.self.rest.items c.loop-circuits.circuits-iterator.rest.items c.in-Some.circuits c.loop-circuits.number c.requires.circuits was.left c.in-Some.ensures.steps.0 was.number c.in_ok-own.ensures c.as_slice.ensures.value).addresses

pub open-requires-clause-ports : goal.open-requires-clause-ports
open-requires-clause-ports c =
    let was = c.loop-circuits.invariant in
    (next_are (λ x. x.items) c.args.rules.now c.in_ok-own.own c.args.circuits.items c.as_slice.result.now c.loop-circuits.yielded c.next.new.self.rest.items c.loop-circuits.circuits-iterator.rest.items c.in-Some.circuits c.loop-circuits.number c.requires.circuits was.left c.in-Some.ensures.steps.0 was.number c.in_ok-own.ensures c.as_slice.ensures.value).ports

pub open-requires-clause-profiles : goal.open-requires-clause-profiles
open-requires-clause-profiles c =
    let was = c.loop-circuits.invariant in
    (next_are (λ x. x.items) c.args.rules.now c.in_ok-own.own c.args.circuits.items c.as_slice.result.now c.loop-circuits.yielded c.next.new.self.rest.items c.loop-circuits.circuits-iterator.rest.items c.in-Some.circuits c.loop-circuits.number c.requires.circuits was.left c.in-Some.ensures.steps.0 was.number c.in_ok-own.ensures c.as_slice.ensures.value).profiles

pub push_reserved-requires : goal.push_reserved-requires
push_reserved-requires c =
    let was = c.loop-circuits.invariant in
    let next = list_next (λ x. x.items) (of_shard c.args.circuits.items) c.loop-circuits.yielded c.next.new.self.rest.items c.loop-circuits.circuits-iterator.rest.items c.in-Some.circuits c.args.rules.now.shards c.loop-circuits.number was.left c.in-Some.ensures.steps.0 was.number in
    let open_shard = λ (n : ℕ). opened n c.args.rules.now (of_shard c.args.circuits.items n) c.args.now in
    omega (arith, next.0, was.room, ap (λ (vs : List (ShardView ShardState Entry)). length vs) was.opens, length-map-range_with_len open_shard 0 c.loop-circuits.number)

pub loop-circuits-preserved : goal.loop-circuits-preserved
loop-circuits-preserved c =
    let was = c.loop-circuits.invariant in
    let done = c.loop-circuits.yielded in
    let left = c.next.new.self.rest.items in
    let n = c.loop-circuits.number in
    let next = list_next (λ x. x.items) (of_shard c.args.circuits.items) done left c.loop-circuits.circuits-iterator.rest.items c.in-Some.circuits c.args.rules.now.shards n was.left c.in-Some.ensures.steps.0 was.number in
    let open_shard = λ (n : ℕ). opened n c.args.rules.now (of_shard c.args.circuits.items n) c.args.now in
    record {
      left = ap (map (λ x. x.items)) (append_assoc done (c.in-Some.circuits ∷ []) left ∙ sym (ap (λ xs. done ++ xs) c.in-Some.ensures.steps.0)) ∙ was.left;
      opens = c.push_reserved.ensures.items
          ∙ ap (λ (vs : List (ShardView ShardState Entry)). vs ++ c.in-Ok-open.shard ∷ []) was.opens
          ∙ ap (λ (v : ShardView ShardState Entry). map open_shard (range_with_len 0 n) ++ v ∷ []) (c.in-Ok-open.ensures.opened ∙ ap (λ (r : Rules). opened n r c.as_slice.result.now c.args.now) c.in_ok-own.ensures ∙ ap (λ (cs : List Static). opened n c.args.rules.now cs c.args.now) (c.as_slice.ensures.value ∙ next.1))
          ∙ sym (map-range_with_len_more open_shard 0 n n (omega arith));
      sessions = subst (λ (vs : List (ShardView ShardState Entry)). All HasFewSessions vs) (sym c.push_reserved.ensures.items)
          (All-append HasFewSessions c.loop-circuits.opens.items (c.in-Ok-open.shard ∷ []) was.sessions (All-cons HasFewSessions c.in-Ok-open.shard [] c.in-Ok-open.ensures.few (All-nil HasFewSessions)));
      number = omega (arith, length-append done (c.in-Some.circuits ∷ []), was.number);
      room = omega (arith, c.push_reserved.ensures.capacity, was.room);
    }

pub returns-clause-opened : goal.returns-clause-opened
returns-clause-opened c =
    let was = c.loop-circuits.invariant in
    let done = c.loop-circuits.yielded in
    let rest = c.loop-circuits.circuits-iterator.rest in
    let open_shard = λ (n : ℕ). opened n c.args.rules.now (of_shard c.args.circuits.items n) c.args.now in
    let count = list_count (λ x. x.items) (of_shard c.args.circuits.items) (done ++ rest.items) c.args.rules.now.shards was.left in
    was.opens ∙ ap (λ (n : ℕ). map open_shard (range_with_len 0 n)) (omega (arith, was.number, count, c.in-None.ensures.steps.0, rest.ok, length-append done rest.items))

pub overflow_add-number : goal.overflow_add-number
overflow_add-number c =
    let was = c.loop-circuits.invariant in
    let next = list_next (λ x. x.items) (of_shard c.args.circuits.items) c.loop-circuits.yielded c.next.new.self.rest.items c.loop-circuits.circuits-iterator.rest.items c.in-Some.circuits c.args.rules.now.shards c.loop-circuits.number was.left c.in-Some.ensures.steps.0 was.number in
    omega (arith, next.0, c.requires.few)

pub open-requires-clause-few_pools : goal.open-requires-clause-few_pools
open-requires-clause-few_pools c = omega (arith, c.requires.few_pools, ap (λ (r : Rules). length r.pools) c.in_ok-own.ensures)

pub open-requires-clause-some_profile : goal.open-requires-clause-some_profile
open-requires-clause-some_profile c = omega (arith, c.requires.some_profile, ap (λ (r : Rules). length r.profiles) c.in_ok-own.ensures)

pub open-requires-clause-few_profiles : goal.open-requires-clause-few_profiles
open-requires-clause-few_profiles c = omega (arith, c.requires.few_profiles, ap (λ (r : Rules). length r.profiles) c.in_ok-own.ensures)

pub open-requires-clause-different : goal.open-requires-clause-different
open-requires-clause-different c = subst (λ (r : Rules). AreDifferent (names_of r.profiles)) (sym c.in_ok-own.ensures) c.requires.different
