-- What was read of a reader whose octets are known.
use Rattle.std.proofs.Common.{◌≡◌, ◌++◌, ℕ, List, [], Option, Some, None, IfSome, option_map, take}

pub front_known : (known : Option (List ℕ)) (most : ℕ) (text : List ℕ) → IfSome (option_map (take most) known) (λ octets. text ≡ [] ++ octets) → IfSome known (λ octets. text ≡ take most octets)
front_known None most text is = is
front_known (Some octets) most text is = is
