-- The session that was made for a request before, and the one that leases an address.
use Rattle.std.proofs.Common.{◌≡◌, ◌≢◌, ◌↔◌, ℕ, ◌==◌, ◌&&◌, Bool, true, false, not, List, Option, Some, None, find, option_map, option_and_then, refl, sym, ap, ◌∙◌}
use Rattle.std.specs.Option.{option_map_or}
use Rattle.std.proofs.lemmas.Bool.{and_parts, eqb-true, eq-eqb, false≢true}
use Rattle.bng_base.specs.declared.address.Ip4.{Ip4}
use Rattle.bng_base.specs.declared.address.Mac.{Mac}
use Rattle.bng_base.specs.declared.address.SessionNo.{SessionNo}
use Rattle.bng_sessions.specs.Sessions.{Sessions, read_at, value_at}
use Rattle.bng_sessions.specs.Listed.{values}
use Rattle.bng_steps.specs.declared.session.Lease.{Lease}
use Rattle.bng_steps.specs.declared.session.Service.{Service}
use Rattle.bng_steps.specs.declared.session.Service.TheVariants.{Provisioned, Linked}
use Rattle.bng_steps.specs.declared.session.Session.{Session}
use Rattle.bng_steps.specs.declared.way.Way.{Way}
use Rattle.bng_steps.specs.declared.way.Way.TheVariants.{Port, Call}
use Rattle.bng_steps.specs.Discovery.{is_repeated, is_repeated_in, same_option}
use Rattle.bng_steps.specs.Indexed.{address_of}
use Rattle.bng_steps.specs.Listing.{IsLowestPassing, does_pass}
use Rattle.bng_steps.specs.Serving.{AreOwn, AreYoung, is_young, is_young_in}
use Rattle.bng_steps.specs.State.{is_on, is_on_way, is_port, leases}
use Rattle.bng_steps.proofs.Earliest.{read_there}
use Rattle.bng_steps.proofs.Listing.{lowest_is, none_is}
use Rattle.bng_steps.proofs.Values.{find_none, find_only, none_some, same_some}

right_true : (a b : Bool) → (a && b) ≡ true → b ≡ true
right_true true b e = e
right_true false b e = absurd (false≢true e)

same_number : (a b : SessionNo) → a.0 ≡ b.0 → a ≡ b
same_number a b e = λ i. record { 0 = e i }

pass_there : (test : Session → Bool) (o : Option Session) → does_pass test o ≡ true → (x : Session) × (o ≡ Some x)
pass_there test None e = absurd (false≢true e)
pass_there test (Some x) e = (x, refl)

repeated_young : (v : Service) (host_uniq : Option (List ℕ)) → is_repeated_in host_uniq v ≡ true → is_young_in v ≡ true
repeated_young (Provisioned l) host_uniq e = e
repeated_young (Linked m) host_uniq e = right_true (same_option m.host_uniq host_uniq) (not m.ended && not m.link.lcp.kept.was_opened) e

-- a session on an access port is at one
on_port : (port : ℕ) (mac : Mac) (way : Way) → is_on_way port mac way ≡ true → is_port way ≡ true
on_port port mac (Port p m) e = refl
on_port port mac (Call c) e = e

both_true : (a b : Bool) → a ≡ true → b ≡ true → (a && b) ≡ true
both_true true b e f = f
both_true false b e f = e

-- The session for the same request before has the lowest number of the young ones that were made for it.
pub repeated_number : (s : Sessions Session) (young : List SessionNo) (port : ℕ) (mac : Mac) (host_uniq : Option (List ℕ)) → AreOwn s → AreYoung s young → (lowest : Option SessionNo) → IsLowestPassing (is_repeated port mac host_uniq) s young lowest → lowest ≡ option_map (λ (x : Session). x.number) (find (is_repeated port mac host_uniq) (values s))
repeated_number s young port mac host_uniq own listed lowest is =
    let test = is_repeated port mac host_uniq in
    let passes : (x : Session) → test x ≡ true → is_young x ≡ true = λ x e.
    let parts = and_parts (is_on port mac x) (is_repeated_in host_uniq x.service) e in
    both_true (is_port x.way) (is_young_in x.service) (on_port port mac x.way parts.0) (repeated_young x.service host_uniq parts.1) in
    elim lowest as (λ o. IsLowestPassing test s young o → o ≡ option_map (λ (x : Session). x.number) (find test (values s))) [
      | None ↦ λ none. sym (ap (option_map (λ (x : Session). x.number)) (none_is is_young test passes s young listed none))
      | Some n ↦ λ low.
          let first = lowest_is is_young test passes s young listed n low in
          let there = pass_there test (value_at s n.0) low.0 in
          sym (ap (option_map (λ (x : Session). x.number)) (first ∙ there.1) ∙ ap (λ (m : SessionNo). Some m) (same_number there.0.number n (own n.0 there.0 there.1)))
    ] is

same_address : (a b : Ip4) → a.0 ≡ b.0 → a ≡ b
same_address a b e = λ i. record { 0 = e i }

leases_is : (o : Option Lease) (a : Ip4) → option_map_or (λ (l : Lease). l.address.0 == a.0) o false ≡ true → option_map (λ (l : Lease). l.address) o ≡ Some a
leases_is None a e = absurd (false≢true e)
leases_is (Some l) a e = ap (λ (b : Ip4). Some b) (same_address l.address a (eqb-true l.address.0 a.0 e))

is_leased : (o : Option Lease) (a : Ip4) → option_map (λ (l : Lease). l.address) o ≡ Some a → option_map_or (λ (l : Lease). l.address.0 == a.0) o false ≡ true
is_leased None a e = absurd (none_some a e)
is_leased (Some l) a e = eq-eqb l.address.0 a.0 (ap (λ (b : Ip4). b.0) (same_some l.address a e))

module _ (s : Sessions Session) (a : Ip4) where
  -- what does not lease the address fails
  fails : (x : Session) → (address_of x ≡ Some a → ⊥) → leases a x ≡ false
  fails x other =
      elim (leases a x) as (λ b. leases a x ≡ b → b ≡ false) [
        | true ↦ λ e. absurd (other (leases_is x.lease a e))
        | false ↦ λ e. refl
      ] refl

  pub holder_none : ((n : ℕ) → read_at address_of s n ≢ Some a) → find (leases a) (values s) ≡ None
  holder_none nobody = find_none (leases a) s (λ n x is. fails x (λ e. nobody n (ap (option_and_then address_of) is ∙ e)))

  pub holder_is : (n : SessionNo) → ((m : SessionNo) → ◌≡◌ {A = Option SessionNo} (Some n) (Some m) ↔ (read_at address_of s m.0 ≡ Some a)) → find (leases a) (values s) ≡ value_at s n.0
  holder_is n found =
      let x = read_there address_of (value_at s n.0) a ((found n).0 refl) in
      find_only (leases a) s n.0 x.0 x.1 (is_leased x.0.lease a x.2)
      (λ m y differ e. fails y (λ has.
      let same = same_some n (record { 0 = m }) ((found (record { 0 = m })).1 (ap (option_and_then address_of) e ∙ has)) in
      differ (sym (ap (λ (k : SessionNo). k.0) same))))
      ∙ sym x.1
