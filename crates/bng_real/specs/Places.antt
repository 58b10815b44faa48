-- Where the socket of a role stands.
use Rattle.std.specs.Prelude.{◌≡◌, ◌+◌, ℕ}
use Rattle.bng_base.specs.declared.outside.Role.{Role}
use Rattle.bng_base.specs.declared.outside.Role.TheVariants.{Access, Core, Tunnel, Auth, Acct, Coa, Control}

-- the roles that are there once, and then the access ports by their numbers
abbrev pub place : Role → ℕ
place Control = 0
place Core = 1
place Auth = 2
place Acct = 3
place Tunnel = 4
place Coa = 5
place (Access port) = 6 + port

-- this place is the role's, and no other's
pub record IsOwn (n : ℕ) (role : Role) : Type 0 where
  pub its : place role ≡ n
  pub alone : (other : Role) → place other ≡ n → other ≡ role
