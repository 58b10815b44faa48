-- No two roles have one place.
use Rattle.std.proofs.Common.{◌≡◌, ◌+◌, ◌-◌, ℕ, ◌==◌, if◌then◌else◌, refl, sym, ap, ◌∙◌, arith}
use Rattle.std.proofs.lemmas.Bool.Decides.{nat_tests}
use Rattle.bng_base.specs.declared.outside.Role.{Role}
use Rattle.bng_base.specs.declared.outside.Role.TheVariants.{Access, Core, Tunnel, Auth, Acct, Coa, Control}
use Rattle.bng_real.specs.Places.{place, IsOwn}

-- the role that has a place
role_at : ℕ → Role
role_at n =
    if n == 0 then Control
    else (if n == 1 then Core
    else (if n == 2 then Auth
    else (if n == 3 then Acct
    else (if n == 4 then Tunnel
    else (if n == 5 then Coa
    else Access (n - 6))))))

port_at : (n : ℕ) → role_at (6 + n) ≡ Access n
unfolding role_at
port_at n = grind (arith, nat_tests)

role_at-place : (role : Role) → role_at (place role) ≡ role
unfolding role_at
role_at-place Control = refl
role_at-place Core = refl
role_at-place Auth = refl
role_at-place Acct = refl
role_at-place Tunnel = refl
role_at-place Coa = refl
role_at-place (Access n) = port_at n

pub one_place : (a b : Role) → place a ≡ place b → a ≡ b
one_place a b same = sym (role_at-place a) ∙ ap role_at same ∙ role_at-place b

pub own : (role : Role) (n : ℕ) → place role ≡ n → IsOwn n role
own role n is = record { its = is; alone = λ other same. one_place other role (same ∙ sym is) }
