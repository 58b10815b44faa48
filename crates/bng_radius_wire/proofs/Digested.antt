-- The digests of a packet, as they are taken over its octets.
use Rattle.std.proofs.Common.{◌≡◌, ℕ, ◌+◌, ◌-◌, ◌≤◌, List, [], ◌∷◌, ◌++◌, length, get_or, take, drop, refl, sym, ap, ◌∙◌, arith, length-append, append_assoc}
use Rattle.std.specs.Prelude.{slice_range, slice_set}
use Rattle.std.specs.List.{concat}
use Rattle.std.proofs.lemmas.List.{take_at, drop_at, drop-drop, get_or-drop, length-drop, append-nil, set_at}
use Rattle.std.proofs.lemmas.List.Concat.{flat_map-append}
use Rattle.md5.specs.Md5.{md5}
use Rattle.bng_digest.specs.Authentication.{hmac_md5}
use Rattle.bng_radius_wire.specs.declared.kinds.TheConstants.{MESSAGE_AUTHENTICATOR}
use Rattle.bng_radius_wire.specs.Attributes.{Field, text}
use Rattle.bng_radius_wire.specs.Grammar.{Packet, IsSpelled, attributes_text}
use Rattle.bng_radius_wire.specs.Digests.{zeros, response_authenticator, message_authenticator, with_message_authenticator}
use Rattle.bng_radius_wire.proofs.Spelled.{attributes_of, with_parts}

pub response_is : (p : Packet) (packet request secret : List ℕ) → IsSpelled p packet
    → md5 (concat (take 4 packet ∷ request ∷ drop 20 packet ∷ secret ∷ [])) ≡ response_authenticator p request secret
response_is p packet request secret h =
    let t = attributes_text p.attributes in
    ap md5
    (ap (λ (a : List ℕ). take 4 packet ++ (request ++ (a ++ (secret ++ [])))) (attributes_of p packet h)
    ∙ ap (λ (s : List ℕ). take 4 packet ++ (request ++ (t ++ s))) (append-nil secret)
    ∙ ap (λ (r : List ℕ). take 4 packet ++ r) (sym (append_assoc request t secret))
    ∙ sym (append_assoc (take 4 packet) (request ++ t) secret)
    ∙ ap (λ (r : List ℕ). r ++ secret) (sym (with_parts p (record p { authenticator = request }) packet h refl refl refl)))

-- an attribute of a packet stands at this place
pub record Stands (p : Packet) (before after : List Field) (here : Field) (at : ℕ) : Type 0 where
  pub are : p.attributes ≡ before ++ here ∷ after
  pub place : at ≡ 20 + length (attributes_text before)

module _ (p : Packet) (before after : List Field) (here : Field) (at : ℕ) (packet : List ℕ) (stands : Stands p before after here at) (h : IsSpelled p packet) where
  pub text_parts : attributes_text p.attributes ≡ attributes_text before ++ (text here ++ attributes_text after)
  text_parts = ap attributes_text stands.are ∙ flat_map-append text before (here ∷ after)

  pub at_place : drop at packet ≡ text here ++ attributes_text after
  at_place =
      ap (λ (n : ℕ). drop n packet) (stands.place) ∙ sym (drop-drop (length (attributes_text before)) 20 packet)
      ∙ ap (drop (length (attributes_text before))) (attributes_of p packet h ∙ text_parts)
      ∙ drop_at (attributes_text before) (text here ++ attributes_text after) (length (attributes_text before)) refl

  pub size_at : get_or packet (at + 1) 0 ≡ 2 + length here.value
  size_at = sym (get_or-drop at packet 1 0) ∙ ap (λ (o : List ℕ). get_or o 1 0) at_place

  pub place_there : at + (2 + length here.value) ≤ length packet
  place_there = omega (arith, ap length at_place, length-drop at packet, length-append here.value (attributes_text after))

  pub value_at : length here.value ≡ 16 → slice_range packet (at + 2) (at + 2 + 16) ≡ here.value
  value_at sixteen =
      ap (λ (n : ℕ). take n (drop (at + 2) packet)) (let e : at + 2 + 16 - (at + 2) ≡ 16 = omega arith in e)
      ∙ ap (take 16) (sym (drop-drop 2 at packet) ∙ ap (drop 2) at_place)
      ∙ take_at here.value (attributes_text after) 16 sixteen

  front_part : slice_range packet 20 (at + 2) ≡ attributes_text before ++ here.kind ∷ (2 + length here.value) ∷ []
  front_part =
      ap (take (at + 2 - 20)) (attributes_of p packet h ∙ text_parts ∙ sym (append_assoc (attributes_text before) (here.kind ∷ (2 + length here.value) ∷ []) (here.value ++ attributes_text after)))
      ∙ take_at (attributes_text before ++ here.kind ∷ (2 + length here.value) ∷ []) (here.value ++ attributes_text after) (at + 2 - 20)
      (omega (arith, stands.place, length-append (attributes_text before) (here.kind ∷ (2 + length here.value) ∷ [])))

  pub back_part : length here.value ≡ 16 → drop (at + 18) packet ≡ attributes_text after
  back_part sixteen =
      sym (drop-drop 18 at packet) ∙ ap (drop 18) at_place ∙ drop_at here.value (attributes_text after) 16 sixteen

  -- the packet with another value there
  pub replaced : (value : List ℕ) → (with_message_authenticator p (length before) value).attributes ≡ before ++ record { kind = MESSAGE_AUTHENTICATOR; value = value } ∷ after
  replaced value = ap (λ (fs : List Field). slice_set fs (length before) (record { kind = MESSAGE_AUTHENTICATOR; value = value })) stands.are ∙ set_at before here after (record { kind = MESSAGE_AUTHENTICATOR; value = value }) (length before) refl

  pub replaced_text : (value : List ℕ) → length value ≡ 16 → here.kind ≡ MESSAGE_AUTHENTICATOR → length here.value ≡ 16
      → attributes_text (with_message_authenticator p (length before) value).attributes ≡ slice_range packet 20 (at + 2) ++ (value ++ drop (at + 18) packet)
  replaced_text value long kind sixteen =
      ap attributes_text (replaced value)
      ∙ flat_map-append text before (record { kind = MESSAGE_AUTHENTICATOR; value = value } ∷ after)
      ∙ sym (append_assoc (attributes_text before) (MESSAGE_AUTHENTICATOR ∷ (2 + length value) ∷ []) (value ++ attributes_text after))
      ∙ ap (λ (k : ℕ). (attributes_text before ++ k ∷ (2 + length value) ∷ []) ++ (value ++ attributes_text after)) (sym kind)
      ∙ ap (λ (n : ℕ). (attributes_text before ++ here.kind ∷ (2 + n) ∷ []) ++ (value ++ attributes_text after)) (long ∙ sym sixteen)
      ∙ ap (λ (r : List ℕ). r ++ (value ++ attributes_text after)) (sym front_part)
      ∙ ap (λ (r : List ℕ). slice_range packet 20 (at + 2) ++ (value ++ r)) (sym (back_part sixteen))

  pub replaced_size : (value : List ℕ) → length value ≡ 16 → length here.value ≡ 16
      → length (attributes_text (with_message_authenticator p (length before) value).attributes) ≡ length (attributes_text p.attributes)
  replaced_size value long sixteen =
      ap (λ (fs : List Field). length (attributes_text fs)) (replaced value)
      ∙ ap length (flat_map-append text before (record { kind = MESSAGE_AUTHENTICATOR; value = value } ∷ after))
      ∙ (let e : length (attributes_text before ++ (text (record { kind = MESSAGE_AUTHENTICATOR; value = value }) ++ attributes_text after)) ≡ length (attributes_text before ++ (text here ++ attributes_text after)) =
      omega (arith, length-append (attributes_text before) (text (record { kind = MESSAGE_AUTHENTICATOR; value = value }) ++ attributes_text after), length-append (attributes_text before) (text here ++ attributes_text after), length-append value (attributes_text after), length-append here.value (attributes_text after)) in e)
      ∙ ap length (sym text_parts)

  pub message_is : (authenticator secret : List ℕ) → here.kind ≡ MESSAGE_AUTHENTICATOR → length here.value ≡ 16
      → hmac_md5 secret (concat (take 4 packet ∷ authenticator ∷ slice_range packet 20 (at + 2) ∷ zeros ∷ drop (at + 18) packet ∷ [])) ≡ message_authenticator p (length before) authenticator secret
  message_is authenticator secret kind sixteen =
      ap (hmac_md5 secret)
      (ap (λ (r : List ℕ). take 4 packet ++ (authenticator ++ (slice_range packet 20 (at + 2) ++ (zeros ++ r)))) (append-nil (drop (at + 18) packet))
      ∙ ap (λ (r : List ℕ). take 4 packet ++ (authenticator ++ r)) (sym (replaced_text zeros refl kind sixteen))
      ∙ sym (with_parts p (with_message_authenticator (record p { authenticator = authenticator }) (length before) zeros) packet h refl refl (ap (λ (n : ℕ). 20 + n) (replaced_size zeros refl sixteen))))
