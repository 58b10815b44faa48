-- The items of a turn that came from the outside do not stay.
use Rattle.std.proofs.Common.{◌≡◌, Bool, true, false, List, [], ◌∷◌, ◌++◌, map, length, get_or, refl, sym, subst}
use Rattle.std.specs.List.{All, range_with_len}
use Rattle.std.proofs.lemmas.Bool.{false≢true}
use Rattle.std.proofs.lemmas.List.Elements.{All-nil, All-cons, All-head, All-tail, All-append, All-map}
use Rattle.bng_base.specs.declared.item.Item.{Item}
use Rattle.bng_base.specs.declared.item.ItemKind.{ItemKind}
use Rattle.bng_base.specs.declared.item.ItemKind.TheVariants as kind
use Rattle.bng_base.specs.declared.outside.Role.{Role}
use Rattle.bng_base.specs.declared.outside.Role.TheVariants.{Access, Core, Tunnel}
use Rattle.bng_steps.specs.declared.rules.Rules.{Rules}
use Rattle.bng_desk.specs.Items.{DataReading, arrived, kind_of, is_from_outside, stays, taken_items}
use Rattle.bng_desk.specs.Turn.{data_roles, ports_up_to, tunnel_roles}

abbrev is_outside : Item → Bool
is_outside i = is_from_outside i.kind

abbrev IsData : Role → Type 0
IsData role = is_from_outside (kind_of role) ≡ true

tunnels_are : (serves : Bool) → All IsData (tunnel_roles serves)
tunnels_are true = All-cons IsData Tunnel [] refl (All-nil IsData)
tunnels_are false = All-nil IsData

data_roles_are : (r : Rules) → All IsData (data_roles r)
data_roles_are r =
    All-append IsData (tunnel_roles r.serves_tunnels) (ports_up_to (length r.access) ++ Core ∷ []) (tunnels_are r.serves_tunnels)
    (All-append IsData (ports_up_to (length r.access)) (Core ∷ [])
    (All-map IsData Access (range_with_len 1 (length r.access)) (λ k d l. refl))
    (All-cons IsData Core [] refl (All-nil IsData)))

taken_outside : (readings : List DataReading) → All IsData (map (λ (r : DataReading). r.role) readings) → All (λ i. is_outside i ≡ true) (taken_items readings)
taken_outside [] of = All-nil (λ (i : Item). is_outside i ≡ true)
taken_outside (r ∷ rs) of =
    let roles = map (λ (x : DataReading). x.role) rs in
    All-append (λ (i : Item). is_outside i ≡ true) (map (arrived r.role) r.arrivals) (taken_items rs)
    (All-map (λ (i : Item). is_outside i ≡ true) (arrived r.role) r.arrivals (λ k d l. All-head IsData r.role roles of))
    (taken_outside rs (All-tail IsData r.role roles of))

goes : (k : ItemKind) → is_from_outside k ≡ true → stays k ≡ false
goes (kind.Access number) e = refl
goes kind.Core e = refl
goes kind.Tunnel e = refl
goes kind.Verdict e = absurd (false≢true e)
goes kind.Change e = absurd (false≢true e)
goes kind.Tick e = absurd (false≢true e)
goes kind.End e = absurd (false≢true e)

-- what was taken for tunnels, on the access ports and from the core
pub taken_goes : (r : Rules) (readings : List DataReading) → map (λ (x : DataReading). x.role) readings ≡ data_roles r → All (λ i. stays i.kind ≡ false) (taken_items readings)
taken_goes r readings roles k d lt =
    let of_data : All IsData (map (λ (x : DataReading). x.role) readings) = subst (λ (qs : List Role). All IsData qs) (sym roles) (data_roles_are r) in
    goes (get_or (taken_items readings) k d).kind (taken_outside readings of_data k d lt)
