-- A red packet may be forgotten.
use Rattle.std.proofs.Common.{◌≡◌, ℕ, zero, suc, ◌+◌, ◌-◌, ◌*◌, ◌≤◌, Bool, true, false, cond, List, [], ◌∷◌, nat_lt, refl, sym, ap, subst, ◌∙◌, arith, mul-le-mul_left}
use Rattle.std.specs.Prelude.{nat_le}
use Rattle.bng_base.specs.declared.book.Rate.{Rate}
use Rattle.bng_meter.specs.declared.colour.Colour.{Colour}
use Rattle.bng_meter.specs.declared.colour.Colour.TheVariants.{Green, Yellow, Red}
use Rattle.bng_meter.specs.Bucket.{Buckets, Offer, Rise, arrived, colour_of, colours, colours_kept, filled, is_red, kept, taken, with_token, with_tokens, without}

-- the buckets with another moment of the last packet
abbrev moved : ℕ → Buckets → Buckets
moved moment b = record b { last = moment }

moved_choice : (moment : ℕ) (t : Bool) (a b : Buckets) → cond t (moved moment a) (moved moment b) ≡ moved moment (cond t a b)
moved_choice moment true a b = refl
moved_choice moment false a b = refl

moved_token : (moment : ℕ) (b : Buckets) → with_token (moved moment b) ≡ moved moment (with_token b)
moved_token moment b =
    let low = nat_lt b.committed b.rate.cbs in
    let room = nat_lt b.excess b.rate.ebs in
    let c : Buckets = record b { committed = b.committed + 1 } in
    let e : Buckets = record b { excess = b.excess + 1 } in
    ap (λ (z : Buckets). cond low (moved moment c) z) (moved_choice moment room e b) ∙ moved_choice moment low c (cond room e b)

-- tokens do not look at the moment of the last packet
moved_tokens : (n moment : ℕ) (b : Buckets) → with_tokens n (moved moment b) ≡ moved moment (with_tokens n b)
moved_tokens zero moment b = refl
moved_tokens (suc n) moment b = ap with_token (moved_tokens n moment b) ∙ moved_token moment (with_tokens n b)

-- tokens in two goes
tokens_more : (m n : ℕ) (b : Buckets) → with_tokens m (with_tokens n b) ≡ with_tokens (m + n) b
tokens_more zero n b = let same : n ≡ zero + n = omega arith in ap (λ (k : ℕ). with_tokens k b) same
tokens_more (suc m) n b =
    let same : suc (m + n) ≡ suc m + n = omega arith in
    ap with_token (tokens_more m n b) ∙ ap (λ (k : ℕ). with_tokens k b) same

-- what three buckets have in common, the one of them that is chosen has
module _ {X : Type 0} where
  chosen : (f : Buckets → X) (x : X) (p q : Bool) (a b c : Buckets) → f a ≡ x → f b ≡ x → f c ≡ x → f (cond p a (cond q b c)) ≡ x
  chosen f x true q a b c in_a in_b in_c = in_a
  chosen f x false true a b c in_a in_b in_c = in_b
  chosen f x false false a b c in_a in_b in_c = in_c

rate_of_token : (b : Buckets) → (with_token b).rate ≡ b.rate
rate_of_token b = chosen (λ (z : Buckets). z.rate) b.rate (nat_lt b.committed b.rate.cbs) (nat_lt b.excess b.rate.ebs) (record b { committed = b.committed + 1 }) (record b { excess = b.excess + 1 }) b refl refl refl

start_of_token : (b : Buckets) → (with_token b).start ≡ b.start
start_of_token b = chosen (λ (z : Buckets). z.start) b.start (nat_lt b.committed b.rate.cbs) (nat_lt b.excess b.rate.ebs) (record b { committed = b.committed + 1 }) (record b { excess = b.excess + 1 }) b refl refl refl

rate_of_tokens : (n : ℕ) (b : Buckets) → (with_tokens n b).rate ≡ b.rate
rate_of_tokens zero b = refl
rate_of_tokens (suc n) b = rate_of_token (with_tokens n b) ∙ rate_of_tokens n b

start_of_tokens : (n : ℕ) (b : Buckets) → (with_tokens n b).start ≡ b.start
start_of_tokens zero b = refl
start_of_tokens (suc n) b = start_of_token (with_tokens n b) ∙ start_of_tokens n b

-- a packet's tokens do not move the moment
last_of_spent : (b : Buckets) (size : ℕ) → (without b size).last ≡ b.last
last_of_spent b size = chosen (λ (z : Buckets). z.last) b.last (nat_le size b.committed) (nat_le size b.excess) (record b { committed = b.committed - size }) (record b { excess = b.excess - size }) b refl refl refl

-- no tokens leave before they came
arrived_more : (rate : Rate) (s t : ℕ) → s ≤ t → arrived rate s ≤ arrived rate t
arrived_more rate s t le = let product : rate.cir * s ≤ rate.cir * t = mul-le-mul_left rate.cir le in omega arith

-- how many tokens arrive from one moment to a later one
abbrev between : Rate → ℕ → ℕ → ℕ → ℕ
between rate start s t = arrived rate (t - start) - arrived rate (s - start)

between_more : (rate : Rate) (start s t u : ℕ) → s ≤ t → t ≤ u → between rate start t u + between rate start s t ≡ between rate start s u
between_more rate start s t u early late =
    let before = arrived_more rate (s - start) (t - start) (omega arith) in
    let after = arrived_more rate (t - start) (u - start) (omega arith) in
    omega arith

-- The tokens up to a moment, and then those up to a later one, are those up to the later one.
pub filled_twice : (b : Buckets) (t u : ℕ) → b.last ≤ t → t ≤ u → filled (filled b t) u ≡ filled b u
filled_twice b t u early late =
    let first : ℕ = between b.rate b.start b.last t in
    let later : ℕ = between b.rate b.start t u in
    let z : Buckets = with_tokens first b in
    let rate : z.rate ≡ b.rate = rate_of_tokens first b in
    let start : z.start ≡ b.start = start_of_tokens first b in
    let count : between z.rate z.start t u ≡ later = λ i. between (rate i) (start i) t u in
    ap (moved u) (moved_tokens (between z.rate z.start t u) t z)
    ∙ ap (moved u) (ap (λ (n : ℕ). with_tokens n z) count ∙ tokens_more later first b
    ∙ ap (λ (n : ℕ). with_tokens n b) (between_more b.rate b.start b.last t u early late))

-- a red packet takes no tokens
red_leaves : (p q : Bool) (a b c : Buckets) → is_red (cond p Green (cond q Yellow Red)) ≡ true → cond p a (cond q b c) ≡ c
red_leaves true q a b c red = absurd (cc)
red_leaves false true a b c red = absurd (cc)
red_leaves false false a b c red = refl

-- at each moment from this one on, these two have the same buckets
abbrev StandAlike : ℕ → Buckets → Buckets → Type 0
StandAlike from a b = (now : ℕ) → from ≤ now → filled a now ≡ filled b now

alike_after : (r : Bool) (from : ℕ) (a b : Buckets) (x : Offer) → a.last ≤ from → from ≤ x.0 → StandAlike from a b → is_red (colour_of (filled a x.0) x.1) ≡ r → StandAlike x.0 (cond r a (taken a x)) (taken b x)
alike_after true from a b x low rise alike red now late =
    let f : Buckets = filled a x.0 in
    let leaves : without f x.1 ≡ f = red_leaves (nat_le x.1 f.committed) (nat_le x.1 f.excess) (record f { committed = f.committed - x.1 }) (record f { excess = f.excess - x.1 }) f red in
    let same : taken b x ≡ f = sym (ap (λ (z : Buckets). without z x.1) (alike x.0 rise)) ∙ leaves in
    sym (ap (λ (z : Buckets). filled z now) same ∙ filled_twice a x.0 now (omega arith) late)
alike_after false from a b x low rise alike passes now late = ap (λ (z : Buckets). filled (without z x.1) now) (alike x.0 rise)

last_after : (r : Bool) (from : ℕ) (a : Buckets) (x : Offer) → a.last ≤ from → from ≤ x.0 → (cond r a (taken a x)).last ≤ x.0
last_after true from a x low rise = omega arith
last_after false from a x low rise = subst (λ (m : ℕ). m ≤ x.0) (sym (last_of_spent (filled a x.0) x.1)) (omega arith)

alike_colours : (xs : List Offer) (from : ℕ) (a b : Buckets) → a.last ≤ from → StandAlike from a b → Rise from xs → colours_kept a xs ≡ colours b xs
alike_colours [] from a b low alike rise = refl
alike_colours (x ∷ xs) from a b low alike rise =
    let red = is_red (colour_of (filled a x.0) x.1) in
    let rest = alike_colours xs x.0 (kept a x) (taken b x) (last_after red from a x low rise.0) (alike_after red from a b x low rise.0 alike refl) rise.1 in
    ap (λ (z : Buckets). colour_of z x.1 ∷ colours_kept (kept a x) xs) (alike x.0 rise.0)
    ∙ ap (λ (cs : List Colour). colour_of (filled b x.0) x.1 ∷ cs) rest

pub colours_stay : (b : Buckets) (xs : List Offer) → Rise b.last xs → colours_kept b xs ≡ colours b xs
colours_stay b xs rise = alike_colours xs b.last b b (omega arith) (λ now late. refl) rise
