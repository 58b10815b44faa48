use Rattle.std.proofs.Common.{rules, ◌≡◌, ◌<◌, length, get_or, refl, sym, ap, subst, ◌∙◌, arith}
use Rattle.std.proofs.lemmas.List.{get_or_read_under}
use Rattle.std.proofs.lemmas.List.Elements.{All-set, All-weaker}
use Rattle.bng_base.specs.declared.item.Entry.{Entry}
use Rattle.bng_engine.specs.Views.{ShardView}
use Rattle.bng_steps.specs.declared.rules.Rules.{Rules}
use Rattle.bng_steps.specs.declared.whose.Whose.TheVariants.{Stands}
use Rattle.bng_steps.specs.Protocol.{ShardState, entry_of}
use Rattle.bng_shard.specs.Handling.{HasPools, Handles}
use Rattle.bng_pool.specs.Tables.{entry}
use Rattle.bng_steps.specs.Whose.{IsWhose}
use Rattle.bng_desk.proofs.Asking.{grows, held_on}
use Rattle.bng_desk.proofs.Returning.{HoldsOwn}
use Rattle.bng_desk.proofs.round.deal.Goals as goal

pub returns-in-Stands-clause-deals : goal.returns-in-Stands-clause-deals
returns-in-Stands-clause-deals c =
    let n = c.from.result in
    let e = entry_of 0 c.args.dealt.now.place c.args.dealt.now.moment c.args.dealt.now.item.now in
    let whose : IsWhose c.args.rules.now (entry c.args.pool.now.table) c.args.dealt.now.item.now (Stands n) = search rules in
    let within : n < length c.args.shards.now = search rules in
    let v = c.index-shards-from.result in
    let w = c.step.new.self in
    let was = get_or c.args.shards.now n v in
    let same : was ≡ get_or c.args.shards.now n w = sym c.index-shards-from.is ∙ get_or_read_under c.args.shards.now n (length c.args.shards.now) v w c.index-shards-from.is within refl in
    let handles : Handles (get_or c.args.shards.now n w) w c.args.pool.now c.step.new.pool e c.step.result c.args.tally.now c.step.new.ledger =
    subst (λ (x : ShardView ShardState Entry). Handles x w c.args.pool.now c.step.new.pool e c.step.result c.args.tally.now c.step.new.ledger) same c.step.ensures in
    record {
      whose = Stands n;
      is_whose = whose;
      deals = (record { within = within; shard = w; handles = handles; others = refl }, refl);
    }

-- the others hold what they held
pub returns-in-Stands-clause-held : goal.returns-in-Stands-clause-held
returns-in-Stands-clause-held c =
    let before = c.args.pool.now in
    let after = c.step.new.pool in
    let w = c.step.new.self in
    let g = grows _ c.step.ensures.claim before after c.step.ensures.answers in
    All-set (HoldsOwn after.table) c.args.shards.now c.from.result w c.step.ensures.held
    (All-weaker (HoldsOwn before.table) (HoldsOwn after.table) (λ v held. held_on before.table after.table g.keeps v held) c.args.shards.now c.requires.held)

pub step-requires-clause-pools : goal.step-requires-clause-pools
step-requires-clause-pools c =
    let n = c.from.result in
    let within : n < length c.args.shards.now = search rules in
    let v = c.index-shards-from.result in
    subst (λ (r : Rules). HasPools r.pools c.args.pool.now.ranges) (sym (c.requires.one_rule n v within)) c.requires.pools

pub step-requires-clause-shards : goal.step-requires-clause-shards
step-requires-clause-shards c =
    let n = c.from.result in
    let within : n < length c.args.shards.now = search rules in
    let v = c.index-shards-from.result in
    let number = ap (λ (x : ShardView ShardState Entry). x.number) c.index-shards-from.is ∙ c.requires.numbers n v within in
    omega (arith, number, c.requires.numbers n v within, within, c.requires.count, c.requires.places)

pub step-requires-clause-held : goal.step-requires-clause-held
step-requires-clause-held c =
    let n = c.from.result in
    let within : n < length c.args.shards.now = search rules in
    c.requires.held n c.index-shards-from.result within
