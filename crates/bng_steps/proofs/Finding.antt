-- What is found in a list.
use Rattle.std.proofs.Common.{◌≡◌, ◌==◌, true, false, cond, List, [], ◌∷◌, Some, refl, option_map}
use Rattle.std.specs.Prelude.{find}
use Rattle.bng_base.specs.PppoeGrammar.{PppoeTag}
use Rattle.bng_pppoe_wire.specs.declared.view.Tag.{Tag}
use Rattle.bng_pppoe_wire.specs.declared.kind.TheConstants.{HOST_UNIQ}
use Rattle.bng_pppoe_wire.specs.View.{tags_of}
use Rattle.bng_steps.specs.Discovery.{host_uniq_of}

-- the value of the first Host-Uniq among tags as they were read
pub uniq_of : (xs : List Tag) → option_map (λ (t : Tag). t.value.now) (find (λ (t : Tag). t.kind == HOST_UNIQ) xs) ≡ host_uniq_of (tags_of xs)
uniq_of [] = refl
uniq_of (x ∷ xs) =
    elim (x.kind == HOST_UNIQ) as (λ b. option_map (λ (t : Tag). t.value.now) (cond b (Some x) (find (λ (t : Tag). t.kind == HOST_UNIQ) xs)) ≡ option_map (λ (t : PppoeTag). t.value) (cond b (Some (record { kind = x.kind; value = x.value.now })) (find (λ (t : PppoeTag). t.kind == HOST_UNIQ) (tags_of xs))))
    [ true ↦ refl | false ↦ uniq_of xs ]
