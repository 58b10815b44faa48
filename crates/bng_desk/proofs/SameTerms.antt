-- Shards that were made ready have the terms that they had.
use Rattle.std.proofs.Common.{◌≡◌, ℕ, ◌+◌, ◌-◌, ◌<◌, ◌^◌, min, get_or, length, List, [], ◌∷◌, ◌++◌, map, refl, sym, ap, subst, ◌∙◌, arith}
use Rattle.std.specs.List.{All, AllZip}
use Rattle.std.proofs.lemmas.List.Elements.{AllZip-get_or, length_all_zip}
use Rattle.bng_billing.specs.State.{BillingState}
use Rattle.bng_engine.specs.Calls.{IsReady, Kept}
use Rattle.bng_engine.specs.Terms.{Key, keys}
use Rattle.bng_steps.specs.Granting.{IsSound}
use Rattle.bng_steps.specs.Lasting.{AreTenures}
use Rattle.bng_steps.specs.Protocol.{ShardState, terms_of}
use Rattle.bng_desk.specs.Accounting.{KnowsBegun}
use Rattle.bng_desk.specs.Allowing.{allowance_of, share_of}
use Rattle.bng_desk.specs.Model.{keys_in}
use Rattle.bng_desk.specs.Taking.{HasNumbers, KeepsTerms, Shown}
use Rattle.bng_desk.proofs.Knowing.{knows_later}
use Rattle.bng_desk.proofs.Readying.{Shards, all_onward}

pub kept_keys : (vs ws : Shards) → AllZip Kept vs ws → keys_in ws ≡ keys_in vs
kept_keys [] [] h = refl
kept_keys [] (w ∷ ws) h = absurd h
kept_keys (v ∷ vs) [] h = absurd h
kept_keys (v ∷ vs) (w ∷ ws) h = ap (λ (s : ShardState). keys (terms_of s) ++ keys_in ws) h.0.state ∙ ap (λ (ks : List Key). keys (terms_of v.state) ++ ks) (kept_keys vs ws h.1)

one_kept : (moment : ℕ) (v w : Shown) → Kept v w → KeepsTerms moment v → KeepsTerms moment w
one_kept moment v w k here = record {
  sound = subst (λ (s : ShardState). IsSound s.slots) (sym k.state) here.sound;
  number = ap (λ (s : ShardState). s.slots.sessions.shard) k.state ∙ here.number ∙ sym k.number;
  tenures = subst (λ (s : ShardState). AreTenures moment s.slots) (sym k.state) here.tenures;
  owes_none = ap (λ (s : ShardState). s.slots.news) k.state ∙ here.owes_none;
  numbers = omega (arith, here.numbers, ap (λ (s : ShardState). s.slots.begun) k.state);
}

pub terms_held : (moment : ℕ) (vs ws : Shards) → AllZip Kept vs ws → All (KeepsTerms moment) vs → All (KeepsTerms moment) ws
terms_held moment vs ws kept here = all_onward Kept (KeepsTerms moment) (one_kept moment) vs ws kept here

pub knows_held : (vs ws : Shards) (b : BillingState) → AllZip Kept vs ws → KnowsBegun vs b → KnowsBegun ws b
knows_held vs ws b kept knows = knows_later Kept (λ x y k. omega (arith, ap (λ (s : ShardState). s.slots.begun) k.state)) vs ws kept b knows

-- each with its allowance
abbrev pub MadeReady : (items free n : ℕ) → Shown → Shown → Type 0
MadeReady items free n v w = IsReady items (allowance_of free n v) w

pub ready_each : (items free n : ℕ) (vs ws : Shards) → AllZip (MadeReady items free n) vs ws → All (λ (w : Shown). IsReady items w.allowance w) ws
ready_each items free n vs ws ready k d lt =
    let here = AllZip-get_or (MadeReady items free n) vs ws k d d ready (omega (arith, lt, length_all_zip (MadeReady items free n) vs ws ready)) in
    record { allowance_is = refl; journal = here.journal; outs = here.outs; sends = here.sends; stops = here.stops; starts = here.starts; room = here.room }

-- there are numbers for what it is allowed
numbers_by : (share begun allowance : ℕ) → begun < 2 ^ 48 → allowance ≡ min share (2 ^ 48 - 1 - begun) → begun + allowance < 2 ^ 48
numbers_by share begun allowance few is = omega (arith, few, is)

pub numbers_each : (moment items free n : ℕ) (vs ws : Shards) → AllZip Kept vs ws → AllZip (MadeReady items free n) vs ws → All (KeepsTerms moment) vs → All HasNumbers ws
numbers_each moment items free n vs ws kept ready keeps k d lt =
    let within : k < length vs = omega (arith, lt, length_all_zip (MadeReady items free n) vs ws ready) in
    let v = get_or vs k d in
    let here = AllZip-get_or Kept vs ws k d d kept within in
    omega (
      arith,
      numbers_by (share_of free n v.number) v.state.slots.begun (get_or ws k d).allowance (keeps k d within).numbers (AllZip-get_or (MadeReady items free n) vs ws k d d ready within).allowance_is,
      ap (λ (s : ShardState). s.slots.begun) here.state,
    )

pub allowed_as : (items free n : ℕ) (vs ws : Shards) → AllZip (MadeReady items free n) vs ws → map (λ (w : Shown). w.allowance) ws ≡ map (allowance_of free n) vs
allowed_as items free n [] [] ready = refl
allowed_as items free n [] (w ∷ ws) ready = absurd ready
allowed_as items free n (v ∷ vs) [] ready = absurd ready
allowed_as items free n (v ∷ vs) (w ∷ ws) ready =
    ap (λ (m : ℕ). m ∷ map (λ (x : Shown). x.allowance) ws) ready.0.allowance_is ∙ ap (λ (ms : List ℕ). allowance_of free n v ∷ ms) (allowed_as items free n vs ws ready.1)
