-- No two of the gateway's own ends are one.
use Rattle.std.proofs.Common.{◌≡◌, ◌≢◌, ℕ, ◌<◌, false, List, [], ◌∷◌, ◌++◌, length, map, get_or, Option, Some, None, option_and_then, codes, refl, ap, subst, ◌∙◌, arith, inl, inr}
use Rattle.std.specs.List.{All, AllPairs}
use Rattle.std.proofs.lemmas.List.Elements.{All-append}
use Rattle.std.proofs.lemmas.Option.{same_Some}
use Rattle.toml.specs.Data.{Data, string, get}
use Rattle.bng_base.specs.declared.address.Peer.{Peer}
use Rattle.bng_base.specs.declared.settings.AccessPort.{AccessPort}
use Rattle.bng_base.specs.declared.settings.CoaPart.{CoaPart}
use Rattle.bng_schema.specs.declared.keys.Table.TheVariants.{Access}
use Rattle.bng_schema.specs.declared.keys.Field.TheVariants.{CoreLocal, ControlLocal, AccessLocal, RadiusAuthLocal, RadiusAcctLocal, TunnelLocal, CoaLocal}
use Rattle.bng_schema.specs.declared.keys.Key.{Key}
use Rattle.bng_schema.specs.declared.keys.Key.TheVariants.{Of}
use Rattle.bng_schema.specs.declared.rule.Rule.TheVariants.{C10}
use Rattle.bng_schema.specs.Address.{peer_text}
use Rattle.bng_schema.specs.Keys.{named, value_at, entry_count, entries}
use Rattle.bng_schema.specs.Forms.{StandsAt, IsPeer}
use Rattle.bng_schema.specs.Repeats.{HasText, IsEndBeforeAccess, IsEndBeforeAuth, IsEndBeforeAcct, IsEndBeforeTunnel, IsEndBeforeCoa}
use Rattle.bng_schema.proofs.Sound.{sound_field}
use Rattle.bng_config.specs.declared.config.Config.{Config}
use Rattle.bng_config.specs.Rules.{end_if, coa_end, ends_of}
use Rattle.bng_config.specs.Configuration.{IsTunnel, IsCoa, Configures}
use Rattle.bng_config.proofs.Held.{control_there, radius_there}
use Rattle.bng_config.proofs.Pairs.{all_one, all_two, all_map, pairs_one, pairs_cons, pairs_append, pairs_map}

-- the text of an end
pub end_text : {document : Data} {key : Key} (p : Peer) → StandsAt document key (λ d. IsPeer d p) → HasText document key (peer_text p)
end_text p s = s.found ∙ ap Some s.is.text

-- one end more
module _ (Before : List ℕ → Type 0) where
  pub add_end : (xs : List Peer) (y : Peer) → All (λ p. Before (peer_text p)) xs → ¬ Before (peer_text y) → AllPairs (λ a b. a ≢ b) xs → AllPairs (λ a b. a ≢ b) (xs ++ y ∷ [])
  add_end xs y covered new apart =
      pairs_append (λ a b. a ≢ b) xs (y ∷ []) apart (pairs_one (λ a b. a ≢ b) y)
      (λ i d less. all_one (λ b. get_or xs i d ≢ b) y (λ same. new (subst (λ p. Before (peer_text p)) same (covered i d less))))

  -- which may be none
  pub add_if : (xs : List Peer) (o : Option Peer) → All (λ p. Before (peer_text p)) xs → ((y : Peer) → o ≡ Some y → ¬ Before (peer_text y)) → AllPairs (λ a b. a ≢ b) xs
      → AllPairs (λ a b. a ≢ b) (xs ++ end_if o)
  add_if xs None covered new apart = pairs_append (λ a b. a ≢ b) xs [] apart (λ i j d less long. absurd (omega arith)) (λ i d less j e short. absurd (omega arith))
  add_if xs (Some y) covered new apart = add_end xs y covered (new y refl) apart

  -- where the texts that count grow
  pub more_covered : (After : List ℕ → Type 0) → ((text : List ℕ) → Before text → After text) → (xs : List Peer) (o : Option Peer) → All (λ p. Before (peer_text p)) xs
      → ((y : Peer) → o ≡ Some y → After (peer_text y)) → All (λ p. After (peer_text p)) (xs ++ end_if o)
  more_covered After then xs None covered here = All-append (λ p. After (peer_text p)) xs [] (λ i d less. then (peer_text (get_or xs i d)) (covered i d less)) (λ i d less. absurd (omega arith))
  more_covered After then xs (Some y) covered here =
      All-append (λ p. After (peer_text p)) xs (y ∷ []) (λ i d less. then (peer_text (get_or xs i d)) (covered i d less)) (all_one (λ p. After (peer_text p)) y (here y refl))

-- where something stands at a key of a table that is no list, the table has an entry
field_there : (o : Option Data) (name : List ℕ) (d : Data) → option_and_then (value_at (named name ∷ [])) o ≡ Some d → 0 < entry_count false (option_and_then (value_at []) o)
field_there None name d e = cc
field_there (Some x) name d e = omega arith

module _ (document : Data) (c : Config) (h : Configures document c) where
  abbrev locals : List Peer
  locals = map (λ a. a.local) c.access

  abbrev first_two : List Peer
  first_two = c.core_local ∷ c.control_local ∷ []

  control_new : c.core_local ≢ c.control_local
  control_new same =
      sound_field document h.sound C10 ControlLocal 0 (control_there document h.sound)
      (peer_text c.control_local, end_text c.control_local h.control_local, subst (λ p. HasText document (Of CoreLocal 0) (peer_text p)) same (end_text c.core_local h.core_local))

  two_apart : AllPairs (λ a b. a ≢ b) first_two
  two_apart = pairs_cons (λ a b. a ≢ b) c.core_local (c.control_local ∷ []) (all_one (λ b. c.core_local ≢ b) c.control_local control_new) (pairs_one (λ a b. a ≢ b) c.control_local)

  two_covered : All (λ p. IsEndBeforeAccess document (peer_text p)) first_two
  two_covered = all_two (λ p. IsEndBeforeAccess document (peer_text p)) c.core_local c.control_local (inl (end_text c.core_local h.core_local)) (inr (end_text c.control_local h.control_local))

  local_text : (i : ℕ) (d : AccessPort) → i < length c.access → HasText document (Of AccessLocal i) (peer_text (get_or c.access i d).local)
  local_text i d less = end_text (get_or c.access i d).local (h.access.are i d less).local

  port_within : (i : ℕ) → i < length c.access → i < entries document Access
  port_within i less = subst (λ n. i < n) h.access.all less

  port_new : (i : ℕ) (d : AccessPort) → i < length c.access → ¬ IsEndBeforeAccess document (peer_text (get_or c.access i d).local)
  port_new i d less before =
      sound_field document h.sound C10 AccessLocal i (port_within i less) (peer_text (get_or c.access i d).local, local_text i d less, inl before)

  ports_differ : AllPairs (λ a b. a.local ≢ b.local) c.access
  ports_differ i j d less long same =
      sound_field document h.sound C10 AccessLocal j (port_within j long)
      (peer_text (get_or c.access j d).local, local_text j d long, inr (i, less, subst (λ p. HasText document (Of AccessLocal i) (peer_text p)) same (local_text i d (omega arith))))

  with_ports : AllPairs (λ a b. a ≢ b) (first_two ++ locals)
  with_ports =
      pairs_append (λ a b. a ≢ b) first_two locals two_apart (pairs_map (λ a. a.local) (λ a b. a ≢ b) c.access ports_differ)
      (λ i d less. all_map (λ a. a.local) (λ b. get_or first_two i d ≢ b) c.access
      (λ j e short same. port_new j e short (subst (λ p. IsEndBeforeAccess document (peer_text p)) same (two_covered i d less))))

  ports_covered : All (λ p. IsEndBeforeAuth document (peer_text p)) (first_two ++ locals)
  ports_covered =
      All-append (λ p. IsEndBeforeAuth document (peer_text p)) first_two locals (λ i d less. inl (two_covered i d less))
      (all_map (λ a. a.local) (λ p. IsEndBeforeAuth document (peer_text p)) c.access (λ i d less. inr (i, port_within i less, local_text i d less)))

  auth_new : ¬ IsEndBeforeAuth document (peer_text c.auth_local)
  auth_new before = sound_field document h.sound C10 RadiusAuthLocal 0 (radius_there document h.sound) (peer_text c.auth_local, end_text c.auth_local h.auth_local, before)

  abbrev to_auth : List Peer
  to_auth = first_two ++ locals ++ c.auth_local ∷ []

  with_auth : AllPairs (λ a b. a ≢ b) to_auth
  with_auth = add_end (IsEndBeforeAuth document) (first_two ++ locals) c.auth_local ports_covered auth_new with_ports

  auth_covered : All (λ p. IsEndBeforeAcct document (peer_text p)) to_auth
  auth_covered =
      All-append (λ p. IsEndBeforeAcct document (peer_text p)) (first_two ++ locals) (c.auth_local ∷ []) (λ i d less. inl (ports_covered i d less))
      (all_one (λ p. IsEndBeforeAcct document (peer_text p)) c.auth_local (inr (end_text c.auth_local h.auth_local)))

  acct_new : ¬ IsEndBeforeAcct document (peer_text c.acct_local)
  acct_new before = sound_field document h.sound C10 RadiusAcctLocal 0 (radius_there document h.sound) (peer_text c.acct_local, end_text c.acct_local h.acct_local, before)

  abbrev to_acct : List Peer
  to_acct = to_auth ++ c.acct_local ∷ []

  with_acct : AllPairs (λ a b. a ≢ b) to_acct
  with_acct = add_end (IsEndBeforeAcct document) to_auth c.acct_local auth_covered acct_new with_auth

  acct_covered : All (λ p. IsEndBeforeTunnel document (peer_text p)) to_acct
  acct_covered =
      All-append (λ p. IsEndBeforeTunnel document (peer_text p)) to_auth (c.acct_local ∷ []) (λ i d less. inl (auth_covered i d less))
      (all_one (λ p. IsEndBeforeTunnel document (peer_text p)) c.acct_local (inr (end_text c.acct_local h.acct_local)))

  -- the end of L2TP, where there is one
  tunnel_text : (o : Option Peer) → IsTunnel document o → (y : Peer) → o ≡ Some y → HasText document (Of TunnelLocal 0) (peer_text y)
  tunnel_text None is y e = cc
  tunnel_text (Some p) is y e = subst (λ q. HasText document (Of TunnelLocal 0) (peer_text q)) (same_Some p y e) (end_text p is)

  tunnel_new : (y : Peer) → c.tunnel_local ≡ Some y → ¬ IsEndBeforeTunnel document (peer_text y)
  tunnel_new y e before =
      let here = tunnel_text c.tunnel_local h.tunnel_local y e in
      sound_field document h.sound C10 TunnelLocal 0 (field_there (get (codes "tunnel") document) (codes "local") (string (peer_text y)) here) (peer_text y, here, before)

  abbrev to_tunnel : List Peer
  to_tunnel = to_acct ++ end_if c.tunnel_local

  with_tunnel : AllPairs (λ a b. a ≢ b) to_tunnel
  with_tunnel = add_if (IsEndBeforeTunnel document) to_acct c.tunnel_local acct_covered tunnel_new with_acct

  tunnel_covered : All (λ p. IsEndBeforeCoa document (peer_text p)) to_tunnel
  tunnel_covered =
      more_covered (IsEndBeforeTunnel document) (IsEndBeforeCoa document) (λ text before. inl before) to_acct c.tunnel_local acct_covered
      (λ y e. inr (tunnel_text c.tunnel_local h.tunnel_local y e))

  -- the end of those who may ask for changes, where there are some
  coa_text : (o : Option CoaPart) → IsCoa document o → (part : CoaPart) → o ≡ Some part → HasText document (Of CoaLocal 0) (peer_text part.local)
  coa_text None is part e = cc
  coa_text (Some p) is part e = subst (λ (q : CoaPart). HasText document (Of CoaLocal 0) (peer_text q.local)) (same_Some p part e) (end_text p.local is.local)

  coa_new : (part : CoaPart) → c.coa ≡ Some part → ¬ IsEndBeforeCoa document (peer_text part.local)
  coa_new part e before =
      let here = coa_text c.coa h.coa part e in
      sound_field document h.sound C10 CoaLocal 0 (field_there (get (codes "coa") document) (codes "local") (string (peer_text part.local)) here) (peer_text part.local, here, before)

  with_coa : (o : Option CoaPart) → c.coa ≡ o → AllPairs (λ a b. a ≢ b) (to_tunnel ++ coa_end o)
  with_coa None e = pairs_append (λ a b. a ≢ b) to_tunnel [] with_tunnel (λ i j d less long. absurd (omega arith)) (λ i d less j f short. absurd (omega arith))
  with_coa (Some part) e = add_end (IsEndBeforeCoa document) to_tunnel part.local tunnel_covered (coa_new part e) with_tunnel

  pub ends_apart : AllPairs (λ a b. a ≢ b) (ends_of c)
  ends_apart = with_coa c.coa refl
