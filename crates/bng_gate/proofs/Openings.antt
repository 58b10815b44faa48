-- A desk that was opened over a configuration: its terms are those of the circuits.
use Rattle.std.proofs.Common.{◌≡◌, ◌||◌, ℕ, zero, suc, ◌+◌, ◌*◌, Bool, true, false, List, [], ◌∷◌, Option, Some, None, is_some, ◌/◌, cond, map, length, refl, sym, ap, ◌∙◌, arith, eqb, zero-add}
use Rattle.std.specs.Prelude.{filter, replicate, ◌<◌}
use Rattle.std.specs.Option.{option_map}
use Rattle.std.specs.List.{AllByRecursion, sum_by, count_by, range_with_len}
use Rattle.std.proofs.lemmas.List.{get_or-replicate, length-replicate}
use Rattle.std.proofs.lemmas.Bool.{eqb-true, ne_eqb}
use Rattle.std.proofs.lemmas.List.Elements.{recursion_from_All}
use Rattle.std.proofs.lemmas.List.Kept.{AllPairs-filter}
use Rattle.std.proofs.lemmas.List.Sums.{sum_by-cons}
use Rattle.std.proofs.lemmas.Nat.{div-add-mod'}
use Rattle.bng_base.specs.declared.address.Ip4.{Ip4}
use Rattle.bng_base.specs.declared.book.Profile.{Profile}
use Rattle.bng_base.specs.declared.settings.Static.{Static}
use Rattle.bng_config.specs.declared.config.Config.{Config}
use Rattle.bng_config.specs.Rules.{KeepsRules}
use Rattle.bng_schema.specs.Names.{IsSessionOf}
use Rattle.bng_engine.specs.Accounted.{AreEmpty, IsNew, SayNothing, nothing_yet}
use Rattle.bng_engine.specs.Claims.{is_held}
use Rattle.bng_engine.specs.Exact.{holders}
use Rattle.bng_engine.specs.Histories.{ShardHistory}
use Rattle.bng_engine.specs.Laws.{Opens}
use Rattle.bng_engine.specs.Lists.{one_if}
use Rattle.bng_engine.specs.Protocol.{AreNumbered, HaveProfiles}
use Rattle.bng_engine.specs.Quantities.{empty_book}
use Rattle.bng_engine.specs.Showing.{with_journal}
use Rattle.bng_engine.specs.Terms.{Key, Term, keys, leases_at}
use Rattle.bng_engine.specs.Views.{new_row, row_keys}
use Rattle.bng_engine.proofs.Everywhere.{all_filter}
use Rattle.bng_pool.specs.Plain.{PlainView}
use Rattle.bng_pool.specs.Tables.{Table, entry}
use Rattle.bng_steps.specs.declared.rules.Rules.{Rules}
use Rattle.bng_sessions.specs.Sessions.{IsNumberOf}
use Rattle.bng_steps.specs.Opening.{in_order, opened_slots, tenure_from, tenures_after}
use Rattle.bng_steps.specs.Protocol.{ShardState, Handled, key_in, pppoe, opened, term_in, terms_of}
use Rattle.bng_steps.proofs.InOrder as ordered
use Rattle.bng_desk.specs.Opening.{IsOpenedPool, circuit_with, opened_shards, shard_of, statics_of}
use Rattle.bng_desk.specs.Round.{views_of, view_of, held_by}
use Rattle.bng_gate.proofs.Lists.{Apart, apart_of, IsWithin, sum_parts}

-- What a configuration keeps, by recursion ------------------------------------------------------------------------------

same_address : (x y : Ip4) → x.0 ≡ y.0 → x ≡ y
same_address x y e = let make : ℕ → Ip4 = λ n. record { 0 = n } in ap make e

abbrev pub address_in : Static → ℕ
address_in c = c.address.0

pub addresses_apart : (config : Config) → KeepsRules config → Apart address_in config.statics
addresses_apart config rules = apart_of address_in config.statics (λ i j d lt within e. rules.addresses i j d lt within (same_address _ _ e))

all_in : (shards : ℕ) (cs : List Static) → AllByRecursion (λ c. IsSessionOf shards c.session.0) cs → AllByRecursion (λ c. IsWithin 0 shards (shard_of c)) cs
all_in shards [] h = tt
all_in shards (c ∷ cs) h =
    let low = h.0.shard in
    (record { low = omega arith; high = omega (arith, low) }, all_in shards cs h.1)

pub shards_within : (config : Config) → KeepsRules config → AllByRecursion (λ c. IsWithin 0 config.shards (shard_of c)) config.statics
shards_within config rules = all_in config.shards config.statics (recursion_from_All (λ c. IsSessionOf config.shards c.session.0) config.statics rules.sharded)

-- the parts of the shards, each counted for itself, are the whole
pub sum_shards : (config : Config) → KeepsRules config → (h : Static → ℕ) → sum_by (λ n. sum_by h (statics_of config n)) (range_with_len 0 config.shards) ≡ sum_by h config.statics
sum_shards config rules h = sum_parts shard_of h 0 config.shards config.statics (shards_within config rules)

-- a shard's circuits: no two have one number, and each number is the shard's
pub shard_apart : (config : Config) → KeepsRules config → (n : ℕ) → ordered.Apart (statics_of config n)
shard_apart config rules n = ordered.apart_of (statics_of config n) (AllPairs-filter (λ a b. a.session ≡ b.session → ⊥) (λ c. eqb (shard_of c) n) config.statics rules.sessions)

own_number : (n shards m : ℕ) → m / 1024 ≡ n → IsSessionOf shards m → IsNumberOf n m
own_number n shards m e h =
    let parts = div-add-mod' m 1024 in
    let times = ap (λ k. k * 1024) e in
    (omega (arith, parts, times, h.low), omega (arith, parts, times, h.high))

own_where : (n shards : ℕ) (b : Bool) (c : Static) (cs : List Static) → eqb (shard_of c) n ≡ b → IsSessionOf shards c.session.0 → AllByRecursion (λ d. IsNumberOf n d.session.0) cs → AllByRecursion (λ d. IsNumberOf n d.session.0) (cond b (c ∷ cs) cs)
own_where n shards true c cs e h rest = (own_number n shards c.session.0 (eqb-true (shard_of c) n e) h, rest)
own_where n shards false c cs e h rest = rest

own_in : (n shards : ℕ) (cs : List Static) → AllByRecursion (λ c. IsSessionOf shards c.session.0) cs → AllByRecursion (λ c. IsNumberOf n c.session.0) (filter (λ c. eqb (shard_of c) n) cs)
own_in n shards [] h = tt
own_in n shards (c ∷ cs) h = own_where n shards (eqb (shard_of c) n) c (filter (λ d. eqb (shard_of d) n) cs) refl h.0 (own_in n shards cs h.1)

pub shard_own : (config : Config) → KeepsRules config → (n : ℕ) → AllByRecursion (λ c. IsNumberOf n c.session.0) (statics_of config n)
shard_own config rules n = own_in n config.shards config.statics (recursion_from_All (λ c. IsSessionOf config.shards c.session.0) config.statics rules.sharded)

-- The opening -----------------------------------------------------------------------------------------------------------

-- the terms of these circuits, numbered on after n, that began at this moment
abbrev pub terms_from : ℕ → ℕ → List Static → List Term
terms_from now n cs = map term_in (tenures_after now n cs)

numbered : (now n m : ℕ) (cs : List Static) → m ≡ n + length cs → AreNumbered n (keys (terms_from now n cs)) m
numbered now n m [] e = omega (arith, e)
numbered now n m (c ∷ cs) e = (refl, numbered now (n + 1) m cs (omega (arith, e)))

keys_of_new : (ks : List Key) → row_keys (map new_row ks) ≡ ks
keys_of_new [] = refl
keys_of_new (k ∷ ks) = ap (λ (js : List Key). k ∷ js) (keys_of_new ks)

new_say_nothing : (ks : List Key) → SayNothing (map new_row ks)
new_say_nothing [] = tt
new_say_nothing (k ∷ ks) = (refl, new_say_nothing ks)

one_empty : AreEmpty (empty_book ∷ [])
one_empty zero lt = refl
one_empty (suc i) lt = absurd (omega (arith, lt))

all_empty : (n : ℕ) → AreEmpty (replicate n empty_book)
all_empty n i lt = get_or-replicate n i empty_book empty_book (omega (arith, lt, length-replicate n empty_book))

-- each circuit has a profile that there is
abbrev HasOneOf : ℕ → Static → Type 0
HasOneOf profiles c = c.profile < profiles

their_profiles : (profiles now n : ℕ) (cs : List Static) → AllByRecursion (HasOneOf profiles) cs → HaveProfiles profiles (terms_from now n cs)
their_profiles profiles now n [] h = tt
their_profiles profiles now n (c ∷ cs) h = (h.0, their_profiles profiles now (n + 1) cs h.1)

-- no term has ended
abbrev pub IsLive : Term → Type 0
IsLive t = t.ended ≡ false

pub all_live : (now n : ℕ) (cs : List Static) → AllByRecursion IsLive (terms_from now n cs)
all_live now n [] = tt
all_live now n (c ∷ cs) = (refl, all_live now (n + 1) cs)

-- as many ones as there are circuits
ones : (cs : List Static) → sum_by (λ _. 1) cs ≡ length cs
ones [] = refl
ones (c ∷ cs) =
    let one : Static → ℕ = λ _. 1 in
    omega (arith, sum_by-cons one c cs, ones cs)

-- by rising number there are as many
pub as_many : (n : ℕ) (cs : List Static) → AllByRecursion (λ c. IsNumberOf n c.session.0) cs → length cs ≡ length (in_order n cs)
as_many n cs own = omega (arith, ones cs, ones (in_order n cs), ordered.sum_in_order (λ _. 1) n cs own)

module _ (r : Rules) (now : ℕ) where
  abbrev fresh : ℕ → List Static → ShardState
  fresh number cs = record { rules = r; slots = opened_slots number r.profiles cs now; changed = [] }

  new_shard : (number : ℕ) (cs : List Static) → AllByRecursion (λ c. IsNumberOf number c.session.0) cs → AllByRecursion (HasOneOf (length r.profiles)) cs → IsNew pppoe (with_journal {E = Handled} (opened number r cs now) [])
  new_shard number cs own profiles =
      let circuits = in_order number cs in
      record {
        live = all_live now 0 circuits;
        numbered = record {
          in_order = keys (terms_from now 0 circuits);
          same = λ f. refl;
          numbered = numbered now 0 (length cs) circuits (as_many number cs own ∙ sym (zero-add (length circuits)));
        };
        fit = λ f. ap (sum_by f) (keys_of_new (keys (terms_of (fresh number cs))));
        rows = new_say_nothing (keys (terms_of (fresh number cs)));
        profiled = their_profiles (length r.profiles) now 0 circuits (ordered.all_in_order (HasOneOf (length r.profiles)) number cs profiles);
        profiles = length-replicate (length r.profiles) empty_book;
        books = all_empty (length r.profiles);
      }

  new_shards : (config : Config) → KeepsRules config → (ns : List ℕ) → AllByRecursion (HasOneOf (length r.profiles)) config.statics → AllByRecursion (IsNew pppoe) (views_of (map (λ n. opened n r (statics_of config n) now) ns))
  new_shards config rules [] profiles = tt
  new_shards config rules (n ∷ ns) profiles = (
    new_shard n (statics_of config n) (shard_own config rules n) (all_filter (HasOneOf (length r.profiles)) (λ c. eqb (shard_of c) n) config.statics profiles),
    new_shards config rules ns profiles,
  )

  -- how many terms of a shard have an address
  leases_are : (a n : ℕ) (cs : List Static) → leases_at a (keys (terms_from now n cs)) ≡ count_by (λ c. eqb (address_in c) a) cs
  leases_are a n [] = refl
  leases_are a n (c ∷ cs) =
      omega (
        arith,
        sum_by-cons (λ (k : Key). one_if (eqb k.address.0 a)) (key_in (tenure_from now c (n + 1))) (keys (terms_from now (n + 1) cs)),
        sum_by-cons (λ (x : Static). one_if (eqb (address_in x) a)) c cs,
        leases_are a (n + 1) cs,
      )

  -- of a shard that was opened
  leases_opened : (a n : ℕ) (cs : List Static) → AllByRecursion (λ c. IsNumberOf n c.session.0) cs → leases_at a (keys (terms_of (fresh n cs))) ≡ count_by (λ c. eqb (address_in c) a) cs
  leases_opened a n cs own =
      leases_are a 0 (in_order n cs)
      ∙ ordered.sum_in_order (λ (c : Static). one_if (eqb (address_in c) a)) n cs own

  holders_are : (config : Config) → KeepsRules config → (a : ℕ) (ns : List ℕ) → holders pppoe a (map nothing_yet (views_of (map (λ n. opened n r (statics_of config n) now) ns))) ≡ sum_by (λ n. count_by (λ c. eqb (address_in c) a) (statics_of config n)) ns
  holders_are config rules a [] = refl
  holders_are config rules a (n ∷ ns) =
      let rest = views_of (map (λ (m : ℕ). opened m r (statics_of config m) now) ns) in
      omega (
        arith,
        sum_by-cons (λ (h : ShardHistory ShardState). leases_at a (keys (terms_of h.state))) (nothing_yet (with_journal {E = Handled} (opened n r (statics_of config n) now) [])) (map nothing_yet rest),
        sum_by-cons (λ (m : ℕ). count_by (λ (c : Static). eqb (address_in c) a) (statics_of config m)) n ns,
        leases_opened a n (statics_of config n) (shard_own config rules n),
        holders_are config rules a ns,
      )

-- an address that no two have is there once, or not at all
none_at : (a : ℕ) (c : Static) (cs : List Static) → address_in c ≡ a → AllByRecursion (λ y. address_in y ≡ address_in c → ⊥) cs → count_by (λ x. eqb (address_in x) a) cs ≡ 0
none_at a c [] e h = refl
none_at a c (y ∷ ys) e h =
    omega (
      arith,
      sum_by-cons (λ (x : Static). one_if (eqb (address_in x) a)) y ys,
      ap one_if (ne_eqb (address_in y) a (λ f. h.0 (f ∙ sym e))),
      none_at a c ys e h.1,
    )

held_at : (a : ℕ) (c : Static) (cs : List Static) (b : Bool) → eqb (address_in c) a ≡ b → AllByRecursion (λ y. address_in y ≡ address_in c → ⊥) cs → count_by (λ x. eqb (address_in x) a) cs ≡ one_if (is_some (circuit_with cs a))
    → one_if b + count_by (λ x. eqb (address_in x) a) cs ≡ one_if (is_some (cond b (Some c) (circuit_with cs a)))
held_at a c cs true e h rest = omega (arith, none_at a c cs (eqb-true (address_in c) a e) h)
held_at a c cs false e h rest = omega (arith, rest)

-- as many circuits have an address as the first that has it
pub held_once : (a : ℕ) (cs : List Static) → Apart address_in cs → count_by (λ c. eqb (address_in c) a) cs ≡ one_if (is_some (circuit_with cs a))
held_once a [] h = refl
held_once a (c ∷ cs) h = sum_by-cons (λ (x : Static). one_if (eqb (address_in x) a)) c cs ∙ held_at a c cs (eqb (address_in c) a) refl h.0 (held_once a cs h.1)

-- an address is held where the table has an entry for it
one_entry : (b : Bool) (k : ℕ) (o : Option ℕ) (held : Bool) → held ≡ is_some o → (b || held) ≡ is_some (cond b (Some k) o)
one_entry true k o held e = refl
one_entry false k o held e = e

held_entry : (a : ℕ) (table : Table) → is_held a (map (λ e. record { 0 = e.0 }) table) ≡ is_some (entry table a)
held_entry a [] = refl
held_entry a (e ∷ rest) = one_entry (eqb e.0 a) e.1 (entry rest a) (is_held a (map (λ (d : ℕ × ℕ). record { 0 = d.0 }) rest)) (held_entry a rest)

mapped_some : (o : Option Static) → is_some (option_map shard_of o) ≡ is_some o
mapped_some None = refl
mapped_some (Some c) = refl

-- it is held at the opening where a circuit has it
pool_holds : (config : Config) (pool : PlainView) → IsOpenedPool config pool → (a : ℕ) → is_held a (held_by pool) ≡ is_some (circuit_with config.statics a)
pool_holds config pool is a = held_entry a pool.table ∙ ap is_some (is.table a) ∙ mapped_some (circuit_with config.statics a)

-- the desk at its opening holds each circuit's term with its address, and nothing else
pub opens : (r : Rules) (config : Config) (now : ℕ) (pool : PlainView) → KeepsRules config → IsOpenedPool config pool → r.profiles ≡ config.profiles → Opens pppoe (view_of (opened_shards config r now) pool (empty_book ∷ []))
opens r config now pool rules is profiles = record {
  new = new_shards r now config rules (range_with_len 0 config.shards)
      (recursion_from_All (HasOneOf (length r.profiles)) config.statics (λ i d lt. omega (arith, rules.profiled i d lt, ap (λ (ps : List Profile). length ps) profiles)));
  holds = λ a.
      holders_are r now config rules a (range_with_len 0 config.shards) ∙ sum_shards config rules (λ (c : Static). one_if (eqb (address_in c) a)) ∙ held_once a config.statics (addresses_apart config rules)
      ∙ sym (ap one_if (pool_holds config pool is a));
  tallies = one_empty;
}
