use Rattle.std.proofs.Common.{rules, tests, Bool, List, ℕ, sym, ◌∙◌}
use Rattle.std.specs.Str.{bytes_eq}
use Rattle.std.proofs.lemmas.Iterator.{YieldsList-from_slice}
use Rattle.std.proofs.lemmas.Iterator.Search.{any_from_yields_List}
use Rattle.bng_base.specs.declared.book.Profile.{Profile}
use Rattle.bng_coa.proofs.Views.{list_any-map}
use Rattle.bng_coa.proofs.refusal.is_profile.Goals as goal

pub returns : goal.returns
returns c =
    let name : Profile → List ℕ = λ p. p.name.items in
    let test : Profile → Bool = λ p. bytes_eq c.args.value.now (name p) in
    any_from_yields_List test _ _ _ c.any.ensures.ran (YieldsList-from_slice c.args.profiles.now cc) (λ x b q k. search (rules, tests))
    ∙ sym (list_any-map name (bytes_eq c.args.value.now) c.args.profiles.now)
