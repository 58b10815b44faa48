-- The table of a gateway that was just opened has each circuit's address, held by the circuit's shard.
use Rattle.std.proofs.Common.{◌≡◌, ◌≢◌, ℕ, zero, suc, ◌+◌, ◌<◌, ◌==◌, Bool, true, false, cond, eqb, List, [], ◌∷◌, ◌++◌, Option, Some, None, option_map, map, length, take, get_or, inl, inr, ◌*◌, refl, sym, ap, subst, ◌∙◌, arith}
use Rattle.std.specs.List.{All, AllByRecursion, AllPairs, flat_map, range_with_len}
use Rattle.std.proofs.lemmas.Bool.Decides.{nat_tests}
use Rattle.std.proofs.lemmas.List.{take_more}
use Rattle.std.proofs.lemmas.List.Elements.{All-filter, All-from_recursion, filter_passes, recursion_from_All}
use Rattle.bng_base.specs.declared.address.Ip4.{Ip4}
use Rattle.bng_base.specs.declared.item.Claim.{Claim}
use Rattle.bng_base.specs.declared.settings.Static.{Static}
use Rattle.bng_engine.specs.Terms.{Term}
use Rattle.bng_engine.proofs.Everywhere.{all_append}
use Rattle.bng_pool.specs.Tables.{Table, TableClaims, entry}
use Rattle.bng_steps.specs.declared.rules.Rules.{Rules}
use Rattle.bng_steps.specs.Opening.{circuit_at, in_order, tenures_after}
use Rattle.bng_steps.specs.Protocol.{opened, term_in}
use Rattle.bng_desk.specs.Opening.{circuit_with, shard_of}
use Rattle.bng_desk.proofs.Outfit.{of_shard}
use Rattle.bng_desk.proofs.Parts.{pairs_head, pairs_tail}
use Rattle.bng_desk.proofs.Returning.{HoldsOwn}

here : (x a : ℕ) → eqb x a ≡ true → a ≡ x
here x a e = grind (arith, nat_tests)

same_number : (a n : ℕ) → eqb a n ≡ true → a ≡ n
same_number a n e = grind (arith, nat_tests)

elsewhere : (x a : ℕ) → eqb x a ≡ false → a ≢ x
elsewhere x a e = grind (arith, nat_tests)

is_itself : (a : ℕ) → eqb a a ≡ true
is_itself a = grind (arith, nat_tests)

-- Claims ------------------------------------------------------------------------------------------------------------------

-- who holds an address, where each of these circuits claimed its own
abbrev pub ClaimedBy : List Static → Table → Type 0
ClaimedBy circuits table = (a : ℕ) → entry table a ≡ option_map shard_of (circuit_with circuits a)

abbrev one_with : Static → ℕ → Option Static
one_with c a = cond (eqb c.address.0 a) (Some c) None

abbrev or_else : Option Static → Option Static → Option Static
or_else (Some x) next = Some x
or_else None next = next

first_by : (b : Bool) (x : Static) (found next : Option Static) → cond b (Some x) (or_else found next) ≡ or_else (cond b (Some x) found) next
first_by true x found next = refl
first_by false x found next = refl

-- a circuit more
found_more : (cs : List Static) (c : Static) (a : ℕ) → circuit_with (cs ++ c ∷ []) a ≡ or_else (circuit_with cs a) (one_with c a)
found_more [] c a = refl
found_more (x ∷ cs) c a = ap (cond (eqb x.address.0 a) (Some x)) (found_more cs c a) ∙ first_by (eqb x.address.0 a) x (circuit_with cs a) (one_with c a)

none_found : (found : Option Static) → None ≡ option_map shard_of found → found ≡ None
none_found None e = refl
none_found (Some c) e = absurd cc

some_found : (found next : Option Static) (k : ℕ) → Some k ≡ option_map shard_of found → or_else found next ≡ found
some_found None next k e = absurd cc
some_found (Some c) next k e = refl

nothing_more : (found : Option Static) → or_else found None ≡ found
nothing_more None = refl
nothing_more (Some c) = refl

module _ (cs : List Static) (c : Static) (table table' : Table) (so_far : ClaimedBy cs table) where
  -- its address was free
  put_at : (a : ℕ) (b : Bool) → eqb c.address.0 a ≡ b → entry table c.address.0 ≡ None → entry table' c.address.0 ≡ Some (shard_of c) → ((x : ℕ) → x ≢ c.address.0 → entry table' x ≡ entry table x)
      → entry table' a ≡ option_map shard_of (or_else (circuit_with cs a) (cond b (Some c) None))
  put_at a true e free put others =
      let same : a ≡ c.address.0 = here c.address.0 a e in
      let none : circuit_with cs a ≡ None = none_found (circuit_with cs a) (sym free ∙ ap (entry table) (sym same) ∙ so_far a) in
      ap (entry table') same ∙ put ∙ ap (λ (x : Option Static). option_map shard_of (or_else x (Some c))) (sym none)
  put_at a false e free put others = others a (elsewhere c.address.0 a e) ∙ so_far a ∙ ap (option_map shard_of) (sym (nothing_more (circuit_with cs a)))

  -- it was held, by a circuit before this one
  held_at : (a : ℕ) (b : Bool) (k : ℕ) → eqb c.address.0 a ≡ b → entry table c.address.0 ≡ Some k → entry table a ≡ option_map shard_of (or_else (circuit_with cs a) (cond b (Some c) None))
  held_at a true k e taken =
      let same : a ≡ c.address.0 = here c.address.0 a e in
      so_far a ∙ ap (option_map shard_of) (sym (some_found (circuit_with cs a) (Some c) k (sym taken ∙ ap (entry table) (sym same) ∙ so_far a)))
  held_at a false k e taken = so_far a ∙ ap (option_map shard_of) (sym (nothing_more (circuit_with cs a)))

  pub claimed_more : (claim : Claim) → TableClaims table (shard_of c) c.address claim table' → ClaimedBy (cs ++ c ∷ []) table'
  claimed_more claim (inl (is, puts)) a = put_at a (eqb c.address.0 a) refl puts.free puts.put puts.elsewhere ∙ ap (option_map shard_of) (sym (found_more cs c a))
  claimed_more claim (inr (is, taken, same)) a =
      ap (λ (t : Table). entry t a) same ∙ held_at a (eqb c.address.0 a) taken.0 refl taken.1 ∙ ap (option_map shard_of) (sym (found_more cs c a))

pub claimed_next : (circuits : List Static) (i : ℕ) (d : Static) (table table' : Table) (claim : Claim) → i < length circuits → ClaimedBy (take i circuits) table → TableClaims table (shard_of (get_or circuits i d)) (get_or circuits i d).address claim table' → ClaimedBy (take (i + 1) circuits) table'
claimed_next circuits i d table table' claim lt so_far claims =
    subst (λ (cs : List Static). ClaimedBy cs table') (sym (take_more circuits i d lt)) (claimed_more (take i circuits) (get_or circuits i d) table table' so_far claim claims)

-- Circuits ----------------------------------------------------------------------------------------------------------------

other_address : (c d : Static) (b : Bool) → eqb c.address.0 d.address.0 ≡ b → c.address ≢ d.address → b ≡ false
other_address c d true e other = absurd (other (ap (λ (n : ℕ). let i : Ip4 = record { 0 = n } in i) (same_number c.address.0 d.address.0 e)))
other_address c d false e other = refl

-- of circuits with different addresses each is the one with its own
found_itself : (cs : List Static) (k : ℕ) (d : Static) → AllPairs (λ a b. a.address ≢ b.address) cs → k < length cs → circuit_with cs (get_or cs k d).address.0 ≡ Some (get_or cs k d)
found_itself [] k d apart lt = absurd (omega (arith, lt))
found_itself (c ∷ cs) zero d apart lt = ap (λ (b : Bool). cond b (Some c) (circuit_with cs c.address.0)) (is_itself c.address.0)
found_itself (c ∷ cs) (suc k) d apart lt =
    let x = get_or cs k d in
    let away = other_address c x (eqb c.address.0 x.address.0) refl (pairs_head (λ (a b : Static). a.address ≢ b.address) c cs apart k d (omega (arith, lt))) in
    ap (λ (b : Bool). cond b (Some c) (circuit_with cs x.address.0)) away
    ∙ found_itself cs k d (pairs_tail (λ (a b : Static). a.address ≢ b.address) c cs apart) (omega (arith, lt))

abbrev HeldBy : Table → ℕ → Static → Type 0
HeldBy table n c = entry table c.address.0 ≡ Some n

all_flat : (P : Static → Type 0) (f : ℕ → List Static) → ((n : ℕ) → AllByRecursion P (f n)) → (ns : List ℕ) → AllByRecursion P (flat_map f ns)
all_flat P f all [] = tt
all_flat P f all (n ∷ ns) = all_append P (f n) (flat_map f ns) (all n) (all_flat P f all ns)

all_in_order : (P : Static → Type 0) (shard : ℕ) (cs : List Static) → All P cs → AllByRecursion P (in_order shard cs)
all_in_order P shard cs all = all_flat P (circuit_at cs) (λ n. recursion_from_All P (circuit_at cs n) (All-filter (λ (c : Static). c.session.0 == n) P cs all)) (range_with_len (shard * 1024 + 1) 1022)

terms_held : (table : Table) (n now m : ℕ) (cs : List Static) → AllByRecursion (HeldBy table n) cs → AllByRecursion (λ (t : Term). entry table t.key.address.0 ≡ Some n) (map term_in (tenures_after now m cs))
terms_held table n now m [] all = tt
terms_held table n now m (c ∷ cs) all = (all.0, terms_held table n now (m + 1) cs all.1)

module _ (circuits : List Static) (table : Table) (apart : AllPairs (λ a b. a.address ≢ b.address) circuits) (claimed : ClaimedBy circuits table) where
  each_held : All (λ c. HeldBy table (shard_of c) c) circuits
  each_held k d lt = claimed (get_or circuits k d).address.0 ∙ ap (option_map shard_of) (found_itself circuits k d apart lt)

  shard_held : (n : ℕ) → All (HeldBy table n) (of_shard circuits n)
  shard_held n k d lt =
      let p = λ (c : Static). shard_of c == n in
      All-filter p (λ (c : Static). HeldBy table (shard_of c) c) circuits each_held k d lt ∙ ap Some (same_number (shard_of (get_or (of_shard circuits n) k d)) n (filter_passes p circuits k d lt))

  -- a shard that was just opened over its circuits holds their addresses
  pub opened_holds : (rules : Rules) (now n : ℕ) → HoldsOwn table (opened n rules (of_shard circuits n) now)
  opened_holds rules now n =
      let cs = of_shard circuits n in
      All-from_recursion (λ (t : Term). entry table t.key.address.0 ≡ Some n) (map term_in (tenures_after now 0 (in_order n cs))) (terms_held table n now 0 (in_order n cs) (all_in_order (HeldBy table n) n cs (shard_held n)))
