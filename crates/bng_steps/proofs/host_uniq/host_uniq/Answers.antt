use Rattle.std.proofs.Common.{List, Option, option_map, ap, ◌∙◌}
use Rattle.bng_base.specs.PppoeGrammar.{PppoeTag}
use Rattle.bng_pppoe_wire.specs.declared.view.Tag.{Tag}
use Rattle.bng_pppoe_wire.specs.View.{tags_of}
use Rattle.bng_steps.specs.Discovery.{host_uniq_of}
use Rattle.bng_steps.proofs.Finding.{uniq_of}
use Rattle.bng_steps.proofs.host_uniq.host_uniq.Goals as goal

pub returns : goal.returns
returns c = λ ts are.
    c.value.ensures ∙ ap (λ (o : Option Tag). option_map (λ (t : Tag). t.value.now) o) c.first.ensures ∙ uniq_of c.as_slice.result.now
    ∙ ap (λ (x : List PppoeTag). host_uniq_of x) (ap tags_of c.as_slice.ensures.value ∙ c.tags-found.ensures.only ts are)
