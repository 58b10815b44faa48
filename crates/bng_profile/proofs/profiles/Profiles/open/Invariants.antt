use Rattle.std.proofs.Common.{◌≡◌, map, take, replicate}
use Rattle.bng_base.specs.Books.{empty_book}
use Rattle.bng_profile.specs.Books.{names_of}
use Rattle.bng_profile.proofs.profiles.Profiles.open.Given as goal

abbrev pub invariant-loop-profile : goal.invariant-loop-profile
invariant-loop-profile l = (map (λ n. n.items) l.names.items ≡ names_of (take l.profile-index l.list)) × (l.books.items ≡ replicate l.profile-index empty_book)
