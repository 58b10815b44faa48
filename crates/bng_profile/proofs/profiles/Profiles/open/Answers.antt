use Rattle.std.proofs.Common.{rules, ◌≡◌, ◌+◌, ◌<◌, ℕ, suc, [], ◌∷◌, ◌++◌, map, take, length, slice_get, Some, sym, ap, ◌∙◌, refl, arith}
use Rattle.std.proofs.lemmas.Option.{slice_get_read}
use Rattle.std.proofs.lemmas.List.{map-append, replicate-append-replicate}
use Rattle.bng_base.specs.Books.{empty_book}
use Rattle.bng_profile.specs.Books.{names_of}
use Rattle.bng_profile.proofs.Places.{take_more}
use Rattle.bng_profile.proofs.profiles.Profiles.open.Goals as goal

pub loop-profile-preserved : goal.loop-profile-preserved
loop-profile-preserved c = let inv = c.loop-profile.invariant in let i : ℕ = c.loop-profile.profile-index in
    let within : c.loop-profile.profile-index < length c.args.list.now = search rules in
    let at : slice_get c.args.list.now c.loop-profile.profile-index ≡ Some c.profile-item.result = slice_get_read c.args.list.now (length c.args.list.now) c.loop-profile.profile-index c.profile-item.result refl within c.profile-item.is in
    let next : c.loop-profile.profile-index + 1 ≡ suc c.loop-profile.profile-index = omega arith in
    let taken : take (c.loop-profile.profile-index + 1) c.args.list.now ≡ take c.loop-profile.profile-index c.args.list.now ++ c.profile-item.result ∷ [] = ap (λ z. take z c.args.list.now) next ∙ take_more c.args.list.now i c.profile-item.result at in
    let items : c.push.new.self.items ≡ c.loop-profile.names.items ++ c.copied.result ∷ [] = search rules in
    let same : c.copied.result.items ≡ c.profile-item.result.name.items = search rules in
    let books : c.push-in-loop-profile.new.self.items ≡ c.loop-profile.books.items ++ empty_book ∷ [] = search rules in (
      ap (map (λ n. n.items)) items ∙ (map-append (λ n. n.items) c.loop-profile.names.items (c.copied.result ∷ []) ∙ ((λ j. inv.0 j ++ same j ∷ [])
          ∙ sym (ap names_of taken ∙ map-append (λ p. p.name.items) (take c.loop-profile.profile-index c.args.list.now) (c.profile-item.result ∷ [])))),
      books ∙ (ap (λ z. z ++ empty_book ∷ []) inv.1 ∙ replicate-append-replicate i 1 empty_book),
    )
