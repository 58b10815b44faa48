-- Requests that are sent to a RADIUS server, one after the other.
use Rattle.std.proofs.Common.{◌≡◌, ℕ, ◌+◌, Bool, true, false, not, List, [], ◌∷◌, ◌++◌, cond, refl, sym, ap, subst, ◌∙◌}
use Rattle.std.specs.List.{count_by, flat_map}
use Rattle.std.proofs.lemmas.Grind.{flat_map-append}
use Rattle.std.proofs.lemmas.List.Sums.{sum_by-append}
use Rattle.bng_base.specs.declared.address.Peer.{Peer}
use Rattle.bng_base.specs.declared.outside.Datagram.{Datagram}
use Rattle.bng_base.specs.declared.outside.Role.{Role}
use Rattle.bng_base.specs.Stretch.{ExtendsPlant, PlantStretch, plant_joined}
use Rattle.bng_base.specs.Told.{PlantTold}
use Rattle.bng_base.proofs.StretchLaws.{plant_more}
use Rattle.bng_lane.specs.Sends.{LaneSend}
use Rattle.bng_desk.specs.Reading.{sending}

abbrev pub datagram : Role → Peer → LaneSend → List Datagram
datagram role server s = cond s.sent (record { role = role; peer = server; octets = s.octets } ∷ []) []

-- what sends of this role add to what the plant tells
abbrev pub sends : Role → Peer → List LaneSend → PlantStretch
sends role server ss = record { heard = []; taken = []; sent = flat_map (datagram role server) ss; failed = count_by (λ (s : LaneSend). not s.sent) ss }

module _ (role : Role) where
  sends_joined : (server : Peer) (ss ts : List LaneSend) → plant_joined (sends role server ss) (sends role server ts) ≡ sends role server (ss ++ ts)
  sends_joined server ss ts =
      let lost = λ (s : LaneSend). not s.sent in
      ap (λ (ds : List Datagram). let p : PlantStretch = record { heard = []; taken = []; sent = ds; failed = count_by lost ss + count_by lost ts } in p) (sym (flat_map-append (datagram role server) ss ts))
      ∙ ap (λ (n : ℕ). let p : PlantStretch = record { heard = []; taken = []; sent = flat_map (datagram role server) (ss ++ ts); failed = n } in p) (sym (sum_by-append (λ (s : LaneSend). cond (not s.sent) 1 0) ss ts))

  one_sent : (server : Peer) (id : ℕ) (octets : List ℕ) (sent : Bool) → sending role server octets sent ≡ sends role server (record { id = id; octets = octets; sent = sent } ∷ [])
  one_sent server id octets true = refl
  one_sent server id octets false = refl

  -- one more was sent
  pub sent_more : (server at : Peer) (p₀ p₁ p₂ : PlantTold) (ss : List LaneSend) (s : LaneSend) → at ≡ server → ExtendsPlant p₀ p₁ (sends role server ss) → ExtendsPlant p₁ p₂ (sending role at s.octets s.sent)
      → ExtendsPlant p₀ p₂ (sends role server (ss ++ s ∷ []))
  sent_more server at p₀ p₁ p₂ ss s same so_far here =
      let there : ExtendsPlant p₁ p₂ (sends role server (s ∷ [])) =
      subst (λ (p : PlantStretch). ExtendsPlant p₁ p₂ p) (ap (λ (q : Peer). sending role q s.octets s.sent) same ∙ one_sent server s.id s.octets s.sent) here in
      subst (λ (p : PlantStretch). ExtendsPlant p₀ p₂ p) (sends_joined server ss (s ∷ [])) (plant_more p₀ p₁ p₂ (sends role server ss) (sends role server (s ∷ [])) so_far there)

  -- and more still
  pub sent_join : (server at : Peer) (p₀ p₁ p₂ : PlantTold) (ss ts : List LaneSend) → at ≡ server → ExtendsPlant p₀ p₁ (sends role server ss) → ExtendsPlant p₁ p₂ (sends role at ts)
      → ExtendsPlant p₀ p₂ (sends role server (ss ++ ts))
  sent_join server at p₀ p₁ p₂ ss ts same so_far here =
      let there : ExtendsPlant p₁ p₂ (sends role server ts) = subst (λ (q : Peer). ExtendsPlant p₁ p₂ (sends role q ts)) same here in
      subst (λ (p : PlantStretch). ExtendsPlant p₀ p₂ p) (sends_joined server ss ts) (plant_more p₀ p₁ p₂ (sends role server ss) (sends role server ts) so_far there)
