use Rattle.std.proofs.Common.{rules, ap, ◌∙◌, ◌≡◌, length, sym, subst, arith}
use Rattle.std.specs.Prelude.{filter}
use Rattle.std.specs.List.{AllByRecursion}
use Rattle.std.proofs.lemmas.Fn.{filter_same}
use Rattle.std.proofs.lemmas.List.Sums.{length-filter, count_by-le-length}
use Rattle.bng_coa.specs.Requests.{is_held, IsSound}
use Rattle.bng_coa.proofs.Each.{filtered}
use Rattle.bng_coa.proofs.requests.ChangeRequests.forget_old.Goals as goal

pub invariant_of-self : goal.invariant_of-self
invariant_of-self c =
    let old = c.self.inside.list.items in
    let left : c.retain.new.self.items ≡ filter (is_held c.args.now) old = filter_same _ _ _ (λ x b f' k. search rules) _ _ c.retain.ensures.filtered in (
      omega (arith, ap length left, length-filter (is_held c.args.now) old, count_by-le-length (is_held c.args.now) old, c.self.invariant.0),
      omega (arith, c.retain.ensures.capacity, c.self.invariant.1),
      subst (AllByRecursion IsSound) (sym left) (filtered IsSound (is_held c.args.now) old c.self.invariant.2),
    )

pub returns : goal.returns
returns c =
    let left : c.retain.new.self.items ≡ filter (is_held c.args.now) c.self.inside.list.items = filter_same _ _ _ (λ x b f' k. search rules) _ _ c.retain.ensures.filtered in
    left ∙ ap (filter (is_held c.args.now)) c.self.view_is
