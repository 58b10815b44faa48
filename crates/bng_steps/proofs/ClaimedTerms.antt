-- A term begins with each address that a step claims, and no other begins.
use Rattle.std.proofs.Common.{◌≡◌, inl, inr, ℕ, Bool, List, [], ◌∷◌, ◌++◌, map, refl, sym, ap, ◌∙◌, append-nil, arith}
use Rattle.bng_base.specs.declared.address.Ip4.{Ip4}
use Rattle.bng_engine.specs.Terms.{Key, keys}
use Rattle.bng_steps.specs.declared.rules.Rules.{Rules}
use Rattle.bng_steps.specs.Deed.{Deed}
use Rattle.bng_steps.specs.Lasting.{BeginsByClaims}
use Rattle.bng_steps.specs.Protocol.{claimed_by, key_in, term_in}
use Rattle.bng_steps.specs.State.{State}
use Rattle.bng_steps.specs.Step.{Step}
use Rattle.bng_steps.specs.Tenures.{Tenure}
use Rattle.bng_steps.proofs.TermLaws.{AnyCause, Moves, step_moves, zip_keys}

-- the keys of terms, read of the terms themselves
its_keys : (ts : List Tenure) → keys (map term_in ts) ≡ map key_in ts
its_keys [] = refl
its_keys (t ∷ ts) = ap (λ (ks : List Key). key_in t ∷ ks) (its_keys ts)

keys_then : (ts us : List Tenure) → map key_in (ts ++ us) ≡ map key_in ts ++ map key_in us
keys_then [] us = refl
keys_then (t ∷ ts) us = ap (λ (ks : List Key). key_in t ∷ ks) (keys_then ts us)

moves_by_claims : (r : Rules) (s : State) (limited : Bool) (d : Deed) → Moves r s limited d → BeginsByClaims s d
moves_by_claims r s limited d (inl (none, m)) = record {
  began = [];
  one_each = sym none;
  count = omega (arith, m.begun);
  numbers = refl;
  news = m.news ∙ sym (append-nil s.news);
  keys = sym (its_keys d.next.terms) ∙ zip_keys AnyCause s.terms d.next.terms m.terms ∙ its_keys s.terms ∙ sym (append-nil (map key_in s.terms));
  shard = m.shard;
}
moves_by_claims r s limited d (inr (a, is, may, m)) = record {
  began = m.one ∷ [];
  one_each = ap (λ (b : Ip4). b.0 ∷ []) m.address ∙ sym (ap claimed_by is);
  count = m.begun;
  numbers = ap (λ (n : ℕ). n ∷ []) m.serial;
  news = m.news;
  keys = ap (λ (ts : List Tenure). map key_in ts) m.terms ∙ keys_then s.terms (m.one ∷ []);
  shard = m.shard;
}

pub step_by_claims : (r : Rules) (s : State) (limited : Bool) (d : Deed) → Step r s limited d → BeginsByClaims s d
step_by_claims r s limited d h = moves_by_claims r s limited d (step_moves r s limited d h)
