use Rattle.std.proofs.Common.{◌≡◌, ◌∙◌, ◌<◌, ℕ, T, List, [], sym, ap, subst, arith}
use Rattle.std.specs.FinMap.{is_sorted}
use Rattle.std.specs.Ordering.{nat_cmp}
use Rattle.bng_steps.specs.Serving.{AreOfShard}
use Rattle.bng_steps.specs.declared.session.Session.{Session}
use Rattle.bng_steps_tests.specs.Plain.{seen}
use Rattle.bng_steps_tests.proofs.PlainLaws.{none_of_shard, none_seen}
use Rattle.bng_steps_tests.proofs.plain.Plain.open.Goals as goal

pub invariant_of-result : goal.invariant_of-result
invariant_of-result c =
    let none = c.in_ok-sessions.ensures.items in
    let room = c.in_ok-sessions.ensures.capacity in
    record {
      low = c.requires;
      sorted = subst (λ (es : List (ℕ × Session)). T (is_sorted nat_cmp es)) (sym none) tt;
      of_shard = subst (λ (es : List (ℕ × Session)). AreOfShard (seen c.args.shard es)) (sym none) (none_of_shard c.args.shard);
      room = omega (arith, room);
    }

pub returns : goal.returns
returns c = ap (λ (es : List (ℕ × Session)). seen c.args.shard es) c.in_ok-sessions.ensures.items ∙ none_seen c.args.shard
