use Rattle.std.proofs.Common.{map, take}
use Rattle.toml.specs.View.{view}
use Rattle.bng_schema.specs.declared.keys.Key.TheVariants.{Of}
use Rattle.bng_schema.specs.First.{NoneOf}
use Rattle.bng_schema.specs.Rules.{Breaks}
use Rattle.bng_schema.proofs.first.first_of_fields.Given as goal

-- nor at one of the keys so far
abbrev pub invariant-loop-field : goal.invariant-loop-field
invariant-loop-field l = NoneOf (Breaks (view l.document) l.rule) (map (λ f. Of f l.place) (take l.field-index l.fields))
