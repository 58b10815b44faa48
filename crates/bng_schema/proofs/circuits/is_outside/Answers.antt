use Rattle.std.proofs.Common.{not, subst, ◌↔◌, IsTrue}
use Rattle.toml.specs.View.{view}
use Rattle.bng_base.specs.declared.address.Ip4.{Ip4}
use Rattle.bng_schema.specs.declared.keys.Table.TheVariants.{Pool}
use Rattle.bng_schema.specs.declared.keys.Field.TheVariants.{StaticAddress}
use Rattle.bng_schema.specs.declared.keys.Key.TheVariants.{Of}
use Rattle.bng_schema.specs.Keys.{entries}
use Rattle.bng_schema.specs.Forms.{StandsAt, IsAddress}
use Rattle.bng_schema.specs.Circuits.{IsPooledBelow}
use Rattle.bng_schema.proofs.Once.{address_at_once, one_at}
use Rattle.bng_schema.proofs.Tests.{not_so}
use Rattle.bng_schema.proofs.Such.{one_such, none_such}
use Rattle.bng_schema.proofs.circuits.is_outside.Goals as goal

pub returns-in-Some : goal.returns-in-Some
returns-in-Some c =
    let document = view c.args.document.now in
    one_such (λ (a : Ip4). StandsAt document (Of StaticAddress c.args.place) (λ d. IsAddress d a)) (λ a. ¬ IsPooledBelow document (entries document Pool) a) (one_at IsAddress address_at_once)
    c.in-Some.address (not c.is_pooled_below.result) c.in-Some.ensures.found
    (not_so c.is_pooled_below.result (IsPooledBelow document (entries document Pool) c.in-Some.address)
    (subst (λ n. IsTrue c.is_pooled_below.result ↔ IsPooledBelow document n c.in-Some.address) c.entries_of-pools.ensures c.is_pooled_below.ensures))

pub returns-in-None : goal.returns-in-None
returns-in-None c =
    let document = view c.args.document.now in
    none_such (λ (a : Ip4). StandsAt document (Of StaticAddress c.args.place) (λ d. IsAddress d a)) (λ a. ¬ IsPooledBelow document (entries document Pool) a) c.in-None.ensures.none
