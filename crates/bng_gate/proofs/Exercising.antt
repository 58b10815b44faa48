-- The configuration of an exercise keeps the rules.
use Rattle.std.proofs.Common.{◌≡◌, ◌≢◌, ◌≤◌, ◌<◌, inl, ◌∙◌, ℕ, zero, suc, List, [], ◌∷◌, length, map, codes, Option, Some, None, IfSome, IsSome, refl, sym, ap, subst, arith}
use Rattle.std.specs.Prelude.{slice_get}
use Rattle.std.specs.List.{All, AllPairs, AllByRecursion}
use Rattle.std.proofs.lemmas.Option.{same_Some}
use Rattle.arrayvec.specs.ArrayVec.{ArrayVec}
use Rattle.bng_base.specs.declared.address.Ip4.{Ip4}
use Rattle.bng_base.specs.declared.address.Peer.{Peer}
use Rattle.bng_base.specs.declared.book.Profile.{Profile}
use Rattle.bng_base.specs.declared.book.Range.{Range}
use Rattle.bng_base.specs.declared.book.Rate.{Rate}
use Rattle.bng_base.specs.declared.settings.AccessPort.{AccessPort}
use Rattle.bng_base.specs.declared.settings.AuthKind.{AuthKind}
use Rattle.bng_base.specs.declared.settings.AuthKind.TheVariants.{Chap, Pap}
use Rattle.bng_base.specs.declared.settings.CoaPart.{CoaPart}
use Rattle.bng_base.specs.declared.settings.Lac.{Lac}
use Rattle.bng_base.specs.declared.settings.NamedRange.{NamedRange}
use Rattle.bng_base.specs.declared.settings.Static.{Static}
use Rattle.bng_config.specs.declared.config.Config.{Config}
use Rattle.bng_config.specs.Pools.{ArePools, ranges_of}
use Rattle.bng_config.specs.Rules.{IsCoaRules, IsMetered, IsPlaced, KeepsRules, ends_of}
use Rattle.bng_config.proofs.Pairs.{all_one, pairs_one, pairs_cons, pairs_map}
use Rattle.bng_schema.specs.Names.{IsGatewayName, IsLabelName, IsLabelOctet, IsPrintable, IsSessionOf, IsShortText}
use Rattle.bng_schema.specs.Ranges.{HasAddress, address_count}
use Rattle.bng_gate.specs.Exercise.{IsExercise, ip, loopback, the_range}

-- Lists ---------------------------------------------------------------------------------------------------------------------

all_of : {X : Type 0} (P : X → Type 0) (xs : List X) → AllByRecursion P xs → All P xs
all_of P [] all k d less = absurd (omega (arith, less))
all_of P (x ∷ xs) all zero d less = all.0
all_of P (x ∷ xs) all (suc k) d less = all_of P xs all.1 k d (omega (arith, less))

pairs_none : {X : Type 0} (R : X → X → Type 0) → AllPairs R []
pairs_none R i j d less long = absurd (omega (arith, long))

-- the elements of a list, by what they have
map_one : {X Y : Type 0} (f : X → Y) (xs : List X) (y : Y) → map f xs ≡ y ∷ [] → (x : X) × (xs ≡ x ∷ []) × (f x ≡ y)
map_one f [] y e = absurd cc
map_one f (x ∷ []) y e = let same : f x ≡ y = cc in (x, refl, same)
map_one f (x ∷ z ∷ xs) y e = absurd cc

map_two : {X Y : Type 0} (f : X → Y) (xs : List X) (y z : Y) → map f xs ≡ y ∷ z ∷ [] → (a : X) × (b : X) × (xs ≡ a ∷ b ∷ []) × (f a ≡ y) × (f b ≡ z)
map_two f [] y z e = absurd cc
map_two f (a ∷ []) y z e = absurd cc
map_two f (a ∷ b ∷ []) y z e = let first : f a ≡ y = cc in let second : f b ≡ z = cc in (a, b, refl, first, second)
map_two f (a ∷ b ∷ c ∷ xs) y z e = absurd cc

-- Texts ---------------------------------------------------------------------------------------------------------------------

name_fits : IsGatewayName (codes "bng1")
name_fits =
    let octet : (n : ℕ) → 33 ≤ n → n ≤ 126 → IsPrintable n = λ n low high. record { low = low; high = high } in
    let four : length (codes "bng1") ≡ 4 = refl in
    record {
      some = omega (arith, four);
      short = omega (arith, four);
      printable = all_of IsPrintable (codes "bng1") (octet 98 (omega arith) (omega arith), (octet 110 (omega arith) (omega arith), (octet 103 (omega arith) (omega arith), (octet 49 (omega arith) (omega arith), tt))));
    }

letter : (n : ℕ) → 97 ≤ n → n ≤ 122 → IsLabelOctet n
letter n low high = inl (low, high)

main_fits : IsLabelName (codes "main")
main_fits =
    let four : length (codes "main") ≡ 4 = refl in
    record {
      some = omega (arith, four);
      short = omega (arith, four);
      octets = all_of IsLabelOctet (codes "main") (letter 109 (omega arith) (omega arith), (letter 97 (omega arith) (omega arith), (letter 105 (omega arith) (omega arith), (letter 110 (omega arith) (omega arith), tt))));
    }

default_fits : IsLabelName (codes "default")
default_fits =
    let seven : length (codes "default") ≡ 7 = refl in
    record {
      some = omega (arith, seven);
      short = omega (arith, seven);
      octets = all_of IsLabelOctet (codes "default") (letter 100 (omega arith) (omega arith), (letter 101 (omega arith) (omega arith), (letter 102 (omega arith) (omega arith), (letter 97 (omega arith) (omega arith), (letter 117 (omega arith) (omega arith), (letter 108 (omega arith) (omega arith), (letter 116 (omega arith) (omega arith), tt)))))));
    }

short_text : (text : List ℕ) (n : ℕ) → length text ≡ n → 1 ≤ n → n ≤ 64 → IsShortText 64 text
short_text text n is some few = record { some = omega (arith, is, some); short = omega (arith, is, few) }

lac_fits : (o : Option (ArrayVec ℕ)) → IfSome o (λ s. s.items ≡ codes "t") → IfSome o (λ s. IsShortText 64 s.items)
lac_fits None e = tt
lac_fits (Some s) e = subst (λ (t : List ℕ). IsShortText 64 t) (sym e) (short_text (codes "t") 1 refl (omega arith) (omega arith))

-- The pool ------------------------------------------------------------------------------------------------------------------

only_range : (k : ℕ) (r : Range) → slice_get (the_range ∷ []) k ≡ Some r → (k ≡ 0) × (r ≡ the_range)
only_range zero r e = (refl, sym (same_Some the_range r e))
only_range (suc k) r e = absurd cc

pool_fits : ArePools (the_range ∷ [])
pool_fits =
    let addresses : address_count (the_range ∷ []) ≡ 65533 = refl in
    record {
      few = omega arith;
      ordered = λ k r e. subst (λ (q : Range). q.first.0 ≤ q.last.0) (sym (only_range k r e).1) (omega arith);
      apart = λ i j r q other first second a in_r in_q. let x = (only_range i r first).0 in let y = (only_range j q second).0 in other (omega (arith, x, y));
      addresses = omega (arith, addresses);
    }

own_free : ¬ HasAddress (the_range ∷ []) 167772161
own_free h =
    let low : the_range.first.0 ≤ 167772161 = subst (λ (q : Range). q.first.0 ≤ 167772161) (only_range h.0 h.1 h.2).1 h.3.0 in
    omega (arith, low)

-- The sockets ---------------------------------------------------------------------------------------------------------------

apart : (a b : ℕ) → a ≢ b → loopback a ≢ loopback b
apart a b other e = other (ap (λ (p : Peer). p.port) e)

abbrev ports : List ℕ
ports = 9000 ∷ 9002 ∷ 9010 ∷ 9003 ∷ 9004 ∷ 1701 ∷ []

abbrev Apart : ℕ → ℕ → Type 0
Apart a b = loopback a ≢ loopback b

ports_apart : AllPairs Apart ports
ports_apart =
    let far : (a b : ℕ) → a ≢ b → Apart a b = apart in
    pairs_cons Apart 9000 (9002 ∷ 9010 ∷ 9003 ∷ 9004 ∷ 1701 ∷ [])
    (all_of (Apart 9000) (9002 ∷ 9010 ∷ 9003 ∷ 9004 ∷ 1701 ∷ []) (far 9000 9002 (omega arith), (far 9000 9010 (omega arith), (far 9000 9003 (omega arith), (far 9000 9004 (omega arith), (far 9000 1701 (omega arith), tt))))))
    (pairs_cons Apart 9002 (9010 ∷ 9003 ∷ 9004 ∷ 1701 ∷ [])
    (all_of (Apart 9002) (9010 ∷ 9003 ∷ 9004 ∷ 1701 ∷ []) (far 9002 9010 (omega arith), (far 9002 9003 (omega arith), (far 9002 9004 (omega arith), (far 9002 1701 (omega arith), tt)))))
    (pairs_cons Apart 9010 (9003 ∷ 9004 ∷ 1701 ∷ [])
    (all_of (Apart 9010) (9003 ∷ 9004 ∷ 1701 ∷ []) (far 9010 9003 (omega arith), (far 9010 9004 (omega arith), (far 9010 1701 (omega arith), tt))))
    (pairs_cons Apart 9003 (9004 ∷ 1701 ∷ [])
    (all_of (Apart 9003) (9004 ∷ 1701 ∷ []) (far 9003 9004 (omega arith), (far 9003 1701 (omega arith), tt)))
    (pairs_cons Apart 9004 (1701 ∷ []) (all_of (Apart 9004) (1701 ∷ []) (far 9004 1701 (omega arith), tt))
    (pairs_one Apart 1701)))))

-- All of it -----------------------------------------------------------------------------------------------------------------

module _ (many : ℕ) (some : 1 ≤ many) (few : many ≤ 16) (c : Config) (is : IsExercise many c) where
  service : (x : ArrayVec ℕ) × (c.services.items ≡ x ∷ []) × (x.items ≡ codes "inet")
  service = map_one (λ (s : ArrayVec ℕ). s.items) c.services.items (codes "inet") is.services

  pool : (x : NamedRange) × (c.pools ≡ x ∷ []) × (x.name.items ≡ codes "main")
  pool = map_one (λ (p : NamedRange). p.name.items) c.pools (codes "main") is.pool_names

  profile : (x : Profile) × (c.profiles ≡ x ∷ []) × (x.name.items ≡ codes "default")
  profile = map_one (λ (p : Profile). p.name.items) c.profiles (codes "default") is.profile_names

  lac : (a : Lac) × (b : Lac) × (c.lacs ≡ a ∷ b ∷ []) × (a.ip ≡ ip 2130706434) × (b.ip ≡ ip 2130706435)
  lac = map_two (λ (l : Lac). l.ip) c.lacs (ip 2130706434) (ip 2130706435) is.lacs

  no_statics : (P : Static → Type 0) → All P c.statics
  no_statics P = subst (λ (xs : List Static). All P xs) (sym is.statics) (all_of P [] tt)

  no_pairs : (R : Static → Static → Type 0) → AllPairs R c.statics
  no_pairs R = subst (λ (xs : List Static). AllPairs R xs) (sym is.statics) (pairs_none R)

  abbrev OtherPool : NamedRange → NamedRange → Type 0
  OtherPool a b = a.name.items ≢ b.name.items

  abbrev OtherProfile : Profile → Profile → Type 0
  OtherProfile a b = a.name.items ≢ b.name.items

  abbrev OtherLac : Lac → Lac → Type 0
  OtherLac a b = a.ip ≢ b.ip

  abbrev OtherKind : AuthKind → AuthKind → Type 0
  OtherKind a b = a ≢ b

  lacs_differ : lac.0.ip ≢ lac.1.ip
  lacs_differ e =
      let same : ip 2130706434 ≡ ip 2130706435 = sym lac.3 ∙ e ∙ lac.4 in
      omega (arith, ap (λ (a : Ip4). a.0) same)

  ends_are : ends_of c ≡ map loopback ports
  ends_are = rw (is.core_local, is.control_local, is.access, is.auth_local, is.acct_local, is.tunnel_local, is.coa) refl

  pub keeps_rules : KeepsRules c
  keeps_rules = record {
    name = subst IsGatewayName (sym is.name) name_fits;
    some_shard = omega (arith, is.shards);
    few_shards = omega (arith, is.shards);
    some_worker = omega (arith, is.workers, some);
    few_workers = omega (arith, is.workers, few);
    some_terms = omega (arith, is.terms);
    few_terms = omega (arith, is.terms);
    few_services = omega (arith, ap (λ (xs : List (ArrayVec ℕ)). length xs) service.1);
    services = subst (λ (xs : List (ArrayVec ℕ)). All (λ s. IsShortText 64 s.items) xs) (sym service.1)
        (all_one (λ (s : ArrayVec ℕ). IsShortText 64 s.items) service.0 (subst (λ (t : List ℕ). IsShortText 64 t) (sym service.2) (short_text (codes "inet") 4 refl (omega arith) (omega arith))));
    few_dns = omega (arith, ap (λ (xs : List Ip4). length xs) is.dns);
    some_auth = omega (arith, ap (λ (xs : List AuthKind). length xs) is.auth);
    few_auth = omega (arith, ap (λ (xs : List AuthKind). length xs) is.auth);
    auth = subst (λ (xs : List AuthKind). AllPairs OtherKind xs) (sym is.auth) (pairs_cons OtherKind Chap (Pap ∷ []) (all_one (OtherKind Chap) Pap (λ e. absurd cc)) (pairs_one OtherKind Pap));
    echo = omega (arith, is.echo);
    some_port = omega (arith, ap (λ (xs : List AccessPort). length xs) is.access);
    few_ports = omega (arith, ap (λ (xs : List AccessPort). length xs) is.access);
    some_pool = omega (arith, ap (λ (xs : List NamedRange). length xs) pool.1);
    pools = subst ArePools (sym is.ranges) pool_fits;
    address = λ h. own_free (subst (λ (rs : List Range). HasAddress rs 167772161) is.ranges (subst (λ (a : Ip4). HasAddress (ranges_of c.pools) a.0) is.address h));
    pool_names = subst (λ (xs : List NamedRange). All (λ p. IsLabelName p.name.items) xs) (sym pool.1) (all_one (λ (p : NamedRange). IsLabelName p.name.items) pool.0 (subst IsLabelName (sym pool.2) main_fits));
    different_pools = subst (λ (xs : List NamedRange). AllPairs OtherPool xs) (sym pool.1) (pairs_one OtherPool pool.0);
    few_lacs = omega (arith, ap (λ (xs : List Lac). length xs) lac.2);
    lacs = λ k d less. lac_fits _ (is.secrets k d less).1;
    different_lacs = subst (λ (xs : List Lac). AllPairs OtherLac xs) (sym lac.2) (pairs_cons OtherLac lac.0 (lac.1 ∷ []) (all_one (OtherLac lac.0) lac.1 lacs_differ) (pairs_one OtherLac lac.1));
    tunnelled = λ _. subst (λ (o : Option Peer). IsSome o) (sym is.tunnel_local) refl;
    coa = subst (λ (o : Option CoaPart). IfSome o IsCoaRules) (sym is.coa) tt;
    some_profile = omega (arith, ap (λ (xs : List Profile). length xs) profile.1);
    few_profiles = omega (arith, ap (λ (xs : List Profile). length xs) profile.1);
    profile_names = subst (λ (xs : List Profile). All (λ p. IsLabelName p.name.items) xs) (sym profile.1) (all_one (λ (p : Profile). IsLabelName p.name.items) profile.0 (subst IsLabelName (sym profile.2) default_fits));
    different_profiles = subst (λ (xs : List Profile). AllPairs OtherProfile xs) (sym profile.1) (pairs_one OtherProfile profile.0);
    metered = λ k d less. let none = is.unmetered k d less in record { up = subst (λ (o : Option Rate). IfSome o IsMetered) (sym none.0) tt; down = subst (λ (o : Option Rate). IfSome o IsMetered) (sym none.1) tt };
    few_statics = omega (arith, ap (λ (xs : List Static). length xs) is.statics);
    enough_terms = omega (arith, ap (λ (xs : List Static). length xs) is.statics);
    placed = no_statics (IsPlaced (length c.access));
    sharded = no_statics (λ x. IsSessionOf c.shards x.session.0);
    pooled = no_statics (λ x. HasAddress (ranges_of c.pools) x.address.0);
    users = no_statics (λ x. IsShortText 128 x.user.items);
    profiled = no_statics (λ x. x.profile < length c.profiles);
    secret = subst (λ (t : List ℕ). IsShortText 64 t) (sym is.secret) (short_text (codes "xyzzy5461") 9 refl (omega arith) (omega arith));
    some_tries = omega (arith, is.tries);
    few_tries = omega (arith, is.tries);
    ends = subst (λ (ps : List Peer). AllPairs (λ a b. a ≢ b) ps) (sym ends_are) (pairs_map loopback (λ a b. a ≢ b) ports ports_apart);
    sessions = no_pairs (λ a b. a.session ≢ b.session);
    addresses = no_pairs (λ a b. a.address ≢ b.address);
  }
