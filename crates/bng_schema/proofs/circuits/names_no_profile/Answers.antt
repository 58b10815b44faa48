use Rattle.std.proofs.Common.{not}
use Rattle.toml.specs.View.{view}
use Rattle.bng_schema.specs.declared.keys.Field.TheVariants.{StaticProfile}
use Rattle.bng_schema.specs.declared.keys.Key.TheVariants.{Of}
use Rattle.bng_schema.specs.Repeats.{HasText}
use Rattle.bng_schema.specs.Circuits.{IsProfileName}
use Rattle.bng_schema.proofs.Tests.{not_so}
use Rattle.bng_schema.proofs.Such.{one_such, none_such, text_once}
use Rattle.bng_schema.proofs.circuits.names_no_profile.Goals as goal

pub returns-in-Some : goal.returns-in-Some
returns-in-Some c =
    let document = view c.args.document.now in
    let key = Of StaticProfile c.args.place in
    one_such (HasText document key) (λ n. ¬ IsProfileName document n) (text_once document key) c.in-Some.name.now (not c.is_profile_name.result) c.in-Some.ensures.found
    (not_so c.is_profile_name.result (IsProfileName document c.in-Some.name.now) c.is_profile_name.ensures)

pub returns-in-None : goal.returns-in-None
returns-in-None c =
    let document = view c.args.document.now in
    none_such (HasText document (Of StaticProfile c.args.place)) (λ n. ¬ IsProfileName document n) c.in-None.ensures.none
