-- Keys that have a default.
use Rattle.std.proofs.Common.{◌≡◌, ◌≢◌, ℕ, zero, suc, ◌≤◌, [], ◌∷◌, length, Some, option_and_then, sym, ap, ◌∙◌, arith, inl, inr}
use Rattle.std.specs.List.{AllPairs, All}
use Rattle.arrayvec.specs.ArrayVec.{ArrayVec}
use Rattle.toml.specs.Data.{Data, as_integer}
use Rattle.bng_base.specs.declared.address.Ip4.{Ip4}
use Rattle.bng_base.specs.declared.settings.AuthKind.{AuthKind}
use Rattle.bng_base.specs.declared.settings.AuthKind.TheVariants.{Chap, Pap}
use Rattle.bng_schema.specs.declared.keys.Field.TheVariants.{GatewayShards, GatewayTerms}
use Rattle.bng_schema.specs.declared.keys.Key.{Key}
use Rattle.bng_schema.specs.declared.keys.Key.TheVariants.{Of}
use Rattle.bng_schema.specs.Names.{IsShortText}
use Rattle.bng_schema.specs.Keys.{path_of, value_at}
use Rattle.bng_schema.specs.Forms.{StandsOr, IsNumber, AreServices, AreAddresses, AreKinds, natural_or, shards_of}
use Rattle.bng_schema.specs.Circuits.{terms_of}

-- a number that is in range, by itself or by default
pub range_or : {document : Data} {key : Key} (low high default n : ℕ) → low ≤ default → default ≤ high
    → StandsOr document key (λ d. IsNumber low high d n) (n ≡ default) → (low ≤ n) × (n ≤ high)
range_or low high default n above below (inl h) = let same = h.1 in (omega arith, omega arith)
range_or low high default n above below (inr h) = (h.is.low, h.is.high)

-- a number that is read, or its default, is that of the document
known : (document : Data) (key : Key) (low high default n : ℕ) → StandsOr document key (λ d. IsNumber low high d n) (n ≡ default)
    → n ≡ natural_or default (option_and_then as_integer (value_at (path_of key) document))
known document key low high default n (inl h) = h.1 ∙ sym (ap (λ o. natural_or default (option_and_then as_integer o)) h.0)
known document key low high default n (inr h) = sym (ap (λ o. natural_or default (option_and_then as_integer o)) (h.found ∙ ap Some h.is.number))

pub known_shards : (document : Data) (n : ℕ) → StandsOr document (Of GatewayShards 0) (λ d. IsNumber 1 64 d n) (n ≡ 4) → n ≡ shards_of document
known_shards document n h = known document (Of GatewayShards 0) 1 64 4 n h

pub known_terms : (document : Data) (n : ℕ) → StandsOr document (Of GatewayTerms 0) (λ d. IsNumber 64 262144 d n) (n ≡ 8192) → n ≡ terms_of document
known_terms document n h = known document (Of GatewayTerms 0) 64 262144 8192 n h

pub services_kept : {document : Data} {key : Key} (s : ArrayVec (ArrayVec ℕ)) → StandsOr document key (λ d. AreServices d s) (s.items ≡ [])
    → (length s.items ≤ 8) × All (λ x. IsShortText 64 x.items) s.items
services_kept s (inl h) = (rw h.1 (omega arith), rw h.1 (λ i d less. absurd (omega arith)))
services_kept s (inr h) = (h.is.few, h.is.are)

pub servers_kept : {document : Data} {key : Key} (s : ArrayVec Ip4) → StandsOr document key (λ d. AreAddresses 0 2 d s) (s.items ≡ []) → length s.items ≤ 2
servers_kept s (inl h) = rw h.1 (omega arith)
servers_kept s (inr h) = h.is.few

both_differ : AllPairs (λ a b. a ≢ b) (Chap ∷ Pap ∷ [])
both_differ zero zero d less long = absurd (omega arith)
both_differ zero (suc zero) d less long = λ e. cc
both_differ zero (suc (suc j)) d less long = absurd (omega arith)
both_differ (suc i) zero d less long = absurd (omega arith)
both_differ (suc i) (suc j) d less long = absurd (omega arith)

pub kinds_kept : {document : Data} {key : Key} (k : ArrayVec AuthKind) → StandsOr document key (λ d. AreKinds d k) (k.items ≡ Chap ∷ Pap ∷ [])
    → (1 ≤ length k.items) × (length k.items ≤ 2) × AllPairs (λ a b. a ≢ b) k.items
kinds_kept k (inl h) = (rw h.1 (omega arith), rw h.1 (omega arith), rw h.1 both_differ)
kinds_kept k (inr h) = (h.is.some, h.is.few, h.is.different)
