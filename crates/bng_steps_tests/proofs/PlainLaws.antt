-- The entries of a plain store, and the map that they are.
use Rattle.std.proofs.Common.{◌≡◌, ℕ, T, List, ◌∷◌, [], map, Option, Some, None, option_map, find, cond, Bool, true, false, length, ◌≤◌, ◌<◌, sum_by, refl, sym, ap, subst, IsSome, ◌∙◌, arith}
use Rattle.std.proofs.lemmas.Bool.{false≢true}
use Rattle.std.proofs.lemmas.List.Sums.{sum_by-cons}
use Rattle.std.specs.Ordering.{nat_cmp, eq_by_cmp}
use Rattle.std.specs.Cmp.{nat_cmp_total}
use Rattle.std.specs.FinMap as fin
use Rattle.std.specs.FinMap.{empty, empty_of_len, from_sorted, is_sorted, get-from_sorted, get-insert, get-remove, same_map, nat_cmp-IsAntisymmetric, entries-from_sorted}
use Rattle.std.specs.FinMap.{len-entries}
use Rattle.bng_sessions.specs.Sessions.{Sessions, used, value_at, with_value, without}
use Rattle.bng_sessions.specs.Listed.{values}
use Rattle.bng_sessions.proofs.Entries.{Inserted, Removed}
use Rattle.bng_steps.specs.declared.session.Lease.{Lease}
use Rattle.bng_steps.specs.declared.session.Service.{Service}
use Rattle.bng_steps.specs.declared.session.Service.TheVariants.{Provisioned, Linked}
use Rattle.bng_steps.specs.declared.session.Session.{Session}
use Rattle.bng_steps_tests.specs.Plain.{seen}
use Rattle.bng_steps.specs.Serving.{AreOfShard, KeepsLease}
use Rattle.bng_steps.proofs.Listing.{passing_most}
use Rattle.bng_steps.proofs.Values.{used_is}

-- no entry, no session
pub none_seen : (shard : ℕ) → seen shard [] ≡ record { shard = shard; by_number = empty }
none_seen shard =
    let none : List (ℕ × Session) = [] in
    ap (λ m. record { shard = shard; by_number = m }) (empty_of_len (from_sorted none) (len-entries (from_sorted none) ∙ ap (λ (ds : List (ℕ × Session)). length ds) (entries-from_sorted nat_cmp none tt)))

pub none_of_shard : (shard : ℕ) → AreOfShard (seen shard [])
none_of_shard shard n some =
    let none : List (ℕ × Session) = [] in
    absurd (false≢true (subst IsSome (get-from_sorted nat_cmp none n tt) some))

module _ (shard : ℕ) (es fs : List (ℕ × Session)) (sorted : T (is_sorted nat_cmp es)) (k : ℕ) where
  pub put_seen : (x : Session) → Inserted nat_cmp nat_cmp_total es fs k x → seen shard fs ≡ with_value (seen shard es) k x
  put_seen x h =
      ap (λ m. record { shard = shard; by_number = m })
      (same_map nat_cmp_total nat_cmp-IsAntisymmetric (from_sorted fs) (fin.insert (from_sorted es) k x)
      (λ q. get-from_sorted nat_cmp fs q h.sorted ∙ h.finds q ∙ ap (cond (eq_by_cmp nat_cmp q k) (Some x)) (sym (get-from_sorted nat_cmp es q sorted)) ∙ sym (get-insert nat_cmp_total (from_sorted es) k x q)))

  pub take_seen : Removed nat_cmp nat_cmp_total es fs k → seen shard fs ≡ without (seen shard es) k
  take_seen h =
      ap (λ m. record { shard = shard; by_number = m })
      (same_map nat_cmp_total nat_cmp-IsAntisymmetric (from_sorted fs) (fin.remove (from_sorted es) k)
      (λ q. get-from_sorted nat_cmp fs q h.sorted ∙ h.finds q ∙ ap (cond (eq_by_cmp nat_cmp q k) None) (sym (get-from_sorted nat_cmp es q sorted)) ∙ sym (get-remove nat_cmp_total (from_sorted es) k q)))

-- the first entry that passes has the first value that does
pub find_value : (p : Session → Bool) (es : List (ℕ × Session)) → option_map (λ (e : ℕ × Session). e.1) (find (λ (e : ℕ × Session). p e.1) es) ≡ find p (map (λ (e : ℕ × Session). e.1) es)
find_value p [] = refl
find_value p (e ∷ es) =
    elim (p e.1) as (λ b. option_map (λ (d : ℕ × Session). d.1) (cond b (Some e) (find (λ (d : ℕ × Session). p d.1) es)) ≡ cond b (Some e.1) (find p (map (λ (d : ℕ × Session). d.1) es)))
    [ true ↦ refl | false ↦ find_value p es ]

pub holder_seen : (shard : ℕ) (p : Session → Bool) (es : List (ℕ × Session)) → T (is_sorted nat_cmp es) → option_map (λ (e : ℕ × Session). e.1) (find (λ (e : ℕ × Session). p e.1) es) ≡ find p (values (seen shard es))
holder_seen shard p es sorted = find_value p es ∙ ap (λ (ds : List (ℕ × Session)). find p (map (λ (d : ℕ × Session). d.1) ds)) (sym (entries-from_sorted nat_cmp es sorted))

ones : (xs : List Session) → sum_by (λ (x : Session). cond true 1 0) xs ≡ length xs
ones [] = refl
ones (x ∷ xs) =
    let rest = ones xs in
    let all = sum_by-cons (λ (y : Session). cond true 1 0) x xs in
    omega (arith, rest, all)

pub used_seen : (shard : ℕ) (es : List (ℕ × Session)) → T (is_sorted nat_cmp es) → used (seen shard es) ≡ length es
used_seen shard es sorted = len-entries (from_sorted es) ∙ ap (λ (ds : List (ℕ × Session)). length ds) (entries-from_sorted nat_cmp es sorted)

-- there are at most as many as the shard has numbers
pub few : (shard : ℕ) (es : List (ℕ × Session)) → T (is_sorted nat_cmp es) → AreOfShard (seen shard es) → length es ≤ 1022
few shard es sorted own =
    let most = passing_most (λ (x : Session). true) (seen shard es) own in
    let all = ones (values (seen shard es)) in
    let same = used_is (seen shard es) in
    let used = used_seen shard es sorted in
    omega (arith, most, all, same, used)

-- a lease in the place of another
pub leased_again : (s : Service) (l k : Lease) → KeepsLease s (Some l) → KeepsLease s (Some k)
leased_again (Provisioned over) l k h = tt
leased_again (Linked m) l k h = (h.0, λ some. h.1 refl)
