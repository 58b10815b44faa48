-- What a shard's seat holds are the addresses of its terms.
use Rattle.std.proofs.Common.{◌≡◌, ◌≢◌, ℕ, zero, suc, ◌⊎◌, inl, inr, ⊎_elim, List, [], ◌∷◌, ◌++◌, map, refl, sym, ap, subst}
use mathlib.Core.Option.{some}
use Rattle.std.specs.List.{All, AllByRecursion}
use Rattle.std.proofs.lemmas.List.Elements.{All-from_recursion}
use Rattle.bng_base.specs.declared.item.Claim.{Claim}
use Rattle.bng_base.specs.declared.item.Claim.TheVariants.{NoClaim, Claimed, Held, Exhausted}
use Rattle.bng_base.specs.declared.address.Ip4.{Ip4}
use Rattle.bng_engine.specs.Lists.{AnyOf}
use Rattle.bng_engine.specs.Protocol.{StepLaws}
use Rattle.bng_engine.specs.Terms.{Key, Term, keys}
use Rattle.bng_engine.proofs.SameLists.{any_same}
use Rattle.bng_pool.specs.Seats.{SeatView, Holds}
use Rattle.bng_round.specs.Asking.{Asks, Takes, AreHeldBy}
use Rattle.bng_steps.specs.Protocol.{ShardState, Handled, claimed_by, pppoe, terms_of}

held_any : (q : SeatView) (terms : List Term) → AreHeldBy q terms → (k : Key) → AnyOf (λ (j : Key). j ≡ k) (keys terms) → Holds q.held k.address.0
held_any q [] all k h = absurd h
held_any q (t ∷ ts) all k (inl e) = subst (λ (x : Key). Holds q.held x.address.0) e all.0
held_any q (t ∷ ts) all k (inr h) = held_any q ts all.1 k h

any_held : (q : SeatView) (terms : List Term) → ((k : Key) → AnyOf (λ (j : Key). j ≡ k) (keys terms) → Holds q.held k.address.0) → AreHeldBy q terms
any_held q [] each = tt
any_held q (t ∷ ts) each = (each t.key (inl refl), any_held q ts (λ k h. each k (inr h)))

any_parts : (xs ys : List Key) (k : Key) → AnyOf (λ (j : Key). j ≡ k) (xs ++ ys) → AnyOf (λ (j : Key). j ≡ k) xs ⊎ AnyOf (λ (j : Key). j ≡ k) ys
any_parts [] ys k h = inr h
any_parts (x ∷ xs) ys k (inl e) = inl (inl e)
any_parts (x ∷ xs) ys k (inr h) = ⊎_elim (λ a. inl (inr a)) (λ b. inr b) (any_parts xs ys k h)

any_leases : (ks : List Key) (k : Key) → AnyOf (λ (j : Key). j ≡ k) ks → AnyOf (λ (n : ℕ). n ≡ k.address.0) (map (λ (j : Key). j.address.0) ks)
any_leases [] k h = absurd h
any_leases (j ∷ ks) k (inl e) = inl (ap (λ (x : Key). x.address.0) e)
any_leases (j ∷ ks) k (inr h) = inr (any_leases ks k h)

held_still : (claim : Claim) (q q' : SeatView) → Asks claim q q' → (a : ℕ) → Holds q.held a → Holds q'.held a
held_still NoClaim q q' asks a h = subst (λ (z : SeatView). Holds z.held a) (sym asks) h
held_still (Claimed b) q q' asks a h = subst (λ (l : List ℕ). Holds l a) (sym asks.held) (suc h.0, h.1)
held_still (Held b) q q' asks a h = subst (λ (l : List ℕ). Holds l a) (sym asks.0.held) h
held_still (Exhausted n) q q' asks a h = subst (λ (l : List ℕ). Holds l a) (sym asks.0.held) h

held_now : (claim : Claim) (q q' : SeatView) → Asks claim q q' → (a : ℕ) → AnyOf (λ (n : ℕ). n ≡ a) (claimed_by claim) → Holds q'.held a
held_now NoClaim q q' asks a h = absurd h
held_now (Claimed b) q q' asks a (inl e) = subst (λ (l : List ℕ). Holds l a) (sym asks.held) (zero, ap some e)
held_now (Claimed b) q q' asks a (inr h) = absurd h
held_now (Held b) q q' asks a h = absurd h
held_now (Exhausted n) q q' asks a h = absurd h

-- after a step, which began a term with what it claimed and no other
pub held_on : StepLaws pppoe → (s : ShardState) (h : Handled) (q q' : SeatView) → (pppoe).is_step s h → Asks h.deed.entry.claim q q' → AreHeldBy q (terms_of s) → AreHeldBy q' (terms_of ((pppoe).next s h))
held_on laws s h q q' step asks held =
    let b = laws.begins s h step in
    any_held q' (terms_of ((pppoe).next s h)) (λ k among.
    ⊎_elim
    (λ (was : AnyOf (λ (j : Key). j ≡ k) (keys (terms_of s))). held_still h.deed.entry.claim q q' asks k.address.0 (held_any q (terms_of s) held k was))
    (λ (new : AnyOf (λ (j : Key). j ≡ k) b.began). held_now h.deed.entry.claim q q' asks k.address.0 (subst (λ (l : List ℕ). AnyOf (λ (n : ℕ). n ≡ k.address.0) l) b.leases (any_leases b.began k new)))
    (any_parts (keys (terms_of s)) b.began k (any_same k (keys (terms_of ((pppoe).next s h))) (keys (terms_of s) ++ b.began) b.keys among)))

free_each : (q : SeatView) (a : ℕ) (terms : List Term) → ¬ (Holds q.held a) → AreHeldBy q terms → AllByRecursion (λ (t : Term). t.key.address.0 ≢ a) terms
free_each q a [] free held = tt
free_each q a (t ∷ ts) free held = ((λ e. free (subst (λ (n : ℕ). Holds q.held n) e held.0)), free_each q a ts free held.1)

-- an address that was claimed is no term's
pub free_of : (claim : Claim) (q q' : SeatView) (terms : List Term) → Asks claim q q' → AreHeldBy q terms → (a : Ip4) → claim ≡ Claimed a → All (λ (t : Term). t.key.address.0 ≢ a.0) terms
free_of claim q q' terms asks held a is =
    let takes : Takes a.0 q q' = subst (λ (c : Claim). Asks c q q') is asks in
    All-from_recursion (λ (t : Term). t.key.address.0 ≢ a.0) terms (free_each q a.0 terms takes.free held)
