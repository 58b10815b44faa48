-- A request with another identifier.
use Rattle.std.proofs.Common.{◌≡◌, ℕ, ◌-◌, ◌≤◌, List, [], ◌∷◌, ◌++◌, length, take, drop, sym, ap, subst, ◌∙◌, arith}
use Rattle.std.proofs.lemmas.List.{length-take, length-drop, append-nil}
use Rattle.bng_radius_wire.specs.Grammar.{AreOctets, Packet, IsRadius, length_in, spelling}
use Rattle.bng_radius_wire.proofs.Spelled.{size_of, packet_is, spelling_reads, length-spelling}

long : (p : Packet) (octets : List ℕ) → IsRadius p octets → length p.authenticator ≡ 16
long p octets is = omega (arith, ap length is.authenticator, length-take 16 (drop 4 octets), length-drop 4 octets, is.at_least, is.is_there)

sized : (p : Packet) (octets : List ℕ) → IsRadius p octets → size_of p ≡ length_in octets
sized p octets is = omega (arith, ap length is.attributes.spelled, length-take (length_in octets - 20) (drop 20 octets), length-drop 20 octets, is.at_least, is.is_there)

module _ (p : Packet) (octets new : List ℕ) (id : ℕ) (small : AreOctets octets) (is : IsRadius p octets)
    (e : new ≡ take 1 (take (length_in octets) octets) ++ (id ∷ []) ++ drop 2 (take (length_in octets) octets)) where
  respelled : new ≡ spelling (record p { id = id })
  unfolding spelling
  respelled = e ∙ ap (λ (t : List ℕ). take 1 t ++ (id ∷ []) ++ drop 2 t) (packet_is p octets small is)

  pub renumbered : IsRadius (record p { id = id }) new
  renumbered = subst (IsRadius (record p { id = id })) (append-nil (spelling (record p { id = id })) ∙ sym respelled)
      (spelling_reads (record p { id = id }) [] (long p octets is) is.attributes.fit (subst (λ (n : ℕ). n ≤ 4096) (sym (sized p octets is)) is.at_most))

  pub length_of_new : length new ≡ length_in octets
  length_of_new = ap length respelled ∙ length-spelling (record p { id = id }) (long p octets is) ∙ sized p octets is
