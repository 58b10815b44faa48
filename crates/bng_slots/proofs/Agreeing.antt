-- An index that agrees with a map still does after a session came or left.
use Rattle.std.proofs.Common.{◌≡◌, ◌+◌, ◌≤◌, ◌≢◌, ◌↔◌, true, false, true≢false, [], length, Option, Some, None, is_some, cond, ◌⊎◌, inl, inr, refl, sym, ap, ◌∙◌, arith}
use Rattle.std.specs.Option.{option_and_then}
use Rattle.std.specs.declared.cmp.Ordering.{Ordering}
use Rattle.std.specs.declared.cmp.Ordering.TheVariants.{Less, Equal, Greater}
use Rattle.std.specs.Ordering.{nat_cmp, eq_by_cmp, is_eq}
use Rattle.std.specs.Cmp.{IsTotalOrder, nat_cmp_total}
use Rattle.std.proofs.lemmas.Cmp.{tied_itself}
use Rattle.std.proofs.lemmas.Bool.{cases_eq}
use Rattle.std.proofs.lemmas.List.Sums.{count_by-le-length}
use Rattle.std.specs.FinMap.{FinMap, IsAntisymmetric, nat_cmp-IsAntisymmetric, get, find, insert, remove, empty, entries, len, get-insert, get-remove, get-empty, len-entries, len-empty}
use Rattle.bng_base.specs.declared.address.SessionNo.{SessionNo}
use Rattle.bng_slots.specs.Listing.{Listing}
use Rattle.bng_slots.specs.Inside.{Agrees, noted, forgotten}
use Rattle.bng_sessions.proofs.Numbers.{same_number, other_number}
use Rattle.bng_sessions.proofs.MapSums.{sum-insert, sum-remove}

same_session : (p q : SessionNo) → p.0 ≡ q.0 → p ≡ q
same_session p q e = λ i. record { 0 = e i }

pub none_some : {A : Type 0} (a : A) → None ≡ Some a → ⊥
none_some a e = cc

pub some_same : {A : Type 0} (a b : A) → Some a ≡ Some b → a ≡ b
some_same a b e = cc

same_number_of : (p q : SessionNo) → Some p ≡ Some q → p.0 ≡ q.0
same_number_of p q e = ap (λ s. s.0) (some_same p q e)

-- a key ties with itself, and with no other
module _ {K : Type 0} (R : K → K → Ordering) (o : IsTotalOrder R) (same : IsAntisymmetric R) where
  pub ties : (k key : K) → k ≡ key → eq_by_cmp R k key ≡ true
  ties k key e = ap (λ j. eq_by_cmp R j key) e ∙ ap is_eq (tied_itself o key)

  pub tied : (k key : K) → eq_by_cmp R k key ≡ true → k ≡ key
  tied k key e =
      elim (R k key) as (λ r. R k key ≡ r → is_eq r ≡ true → k ≡ key) [
        | Less ↦ λ p f. absurd (cc)
        | Equal ↦ λ p f. same k key p
        | Greater ↦ λ p f. absurd (cc)
      ] refl e

  -- either they are one key, or they do not tie
  pub decide : (k key : K) → (k ≡ key) ⊎ (eq_by_cmp R k key ≡ false)
  decide k key =
      elim (eq_by_cmp R k key) as (λ b. eq_by_cmp R k key ≡ b → (k ≡ key) ⊎ (eq_by_cmp R k key ≡ false)) [
        | true ↦ λ e. inl (tied k key e)
        | false ↦ λ e. inr e
      ] refl

module _ {K V : Type 0} (R : K → K → Ordering) (o : IsTotalOrder R) (same : IsAntisymmetric R) (read : SessionNo → V → Option K) where
  -- no entry has a key that no slot has
  pub absent : (m : FinMap nat_cmp V) (x : Listing K) → Agrees R read m x → (key : K) → ((q : SessionNo) → option_and_then (read q) (get m q.0) ≢ Some key) → find R key x.entries ≡ None
  absent m x is key none =
      elim (find R key x.entries) as (λ f. find R key x.entries ≡ f → f ≡ None) [
        | None ↦ λ e. refl
        | Some q ↦ λ e. absurd (none q ((is.finds key q).0 e))
      ] refl

  module _ (m : FinMap nat_cmp V) (x x' : Listing K) (is : Agrees R read m x) (n : SessionNo) (v : V) where
    -- what every other slot has stays when the session comes
    came_other : (q : SessionNo) → q.0 ≢ n.0 → get (insert m n.0 v) q.0 ≡ get m q.0
    came_other q differ = get-insert nat_cmp_total m n.0 v q.0 ∙ ap (λ b. cond b (Some v) (get m q.0)) (other_number q.0 n.0 differ)

    came_this : (q : SessionNo) → q.0 ≡ n.0 → get (insert m n.0 v) q.0 ≡ Some v
    came_this q e = get-insert nat_cmp_total m n.0 v q.0 ∙ ap (λ b. cond b (Some v) (get m q.0)) (same_number q.0 n.0 e)

    left_other : (q : SessionNo) → q.0 ≢ n.0 → get (remove m n.0) q.0 ≡ get m q.0
    left_other q differ = get-remove nat_cmp_total m n.0 q.0 ∙ ap (λ b. cond b None (get m q.0)) (other_number q.0 n.0 differ)

    left_this : (q : SessionNo) → q.0 ≡ n.0 → get (remove m n.0) q.0 ≡ None
    left_this q e = get-remove nat_cmp_total m n.0 q.0 ∙ ap (λ b. cond b None (get m q.0)) (same_number q.0 n.0 e)

    -- what the session's own slot has
    own : (q : SessionNo) → q.0 ≡ n.0 → read q v ≡ read n v
    own q e = ap (λ s. read s v) (same_session q n e)

    came_finds : (key : Option K) → get m n.0 ≡ None → read n v ≡ key → ((j : K) → key ≡ Some j → find R j x.entries ≡ None) → ((k : K) → find R k x'.entries ≡ noted R key n k (find R k x.entries)) → (k : K) (q : SessionNo) → (find R k x'.entries ≡ Some q) ↔ (option_and_then (read q) (get (insert m n.0 v) q.0) ≡ Some k)
    came_finds None vacant e free is' k q = elim (cases_eq q.0 n.0) [
      | inl this ↦
          let slot : option_and_then (read q) (get (insert m n.0 v) q.0) ≡ None = ap (option_and_then (read q)) (came_this q this) ∙ own q this ∙ e in
          let before : option_and_then (read q) (get m q.0) ≡ None = ap (λ j. option_and_then (read q) (get m j)) this ∙ ap (option_and_then (read q)) vacant in
          (λ f. absurd (none_some k (sym before ∙ (is.finds k q).0 (sym (is' k) ∙ f))), λ f. absurd (none_some k (sym slot ∙ f)))
      | inr differ ↦
          let kept : option_and_then (read q) (get (insert m n.0 v) q.0) ≡ option_and_then (read q) (get m q.0) = ap (option_and_then (read q)) (came_other q differ) in
          (λ f. kept ∙ (is.finds k q).0 (sym (is' k) ∙ f), λ f. is' k ∙ (is.finds k q).1 (sym kept ∙ f))
    ]
    came_finds (Some key) vacant e free is' k q = elim (decide R o same k key) [
      | inl one ↦
          let now : find R k x'.entries ≡ Some n = is' k ∙ ap (λ b. cond b (Some n) (find R k x.entries)) (ties R o same k key one) in
          elim (cases_eq q.0 n.0) [
            | inl this ↦ (λ f. ap (option_and_then (read q)) (came_this q this) ∙ own q this ∙ e ∙ ap Some (sym one), λ f. now ∙ ap Some (sym (same_session q n this)))
            | inr differ ↦ (
              λ f. absurd (differ (sym (same_number_of n q (sym now ∙ f)))),
              λ f. absurd (none_some q (sym (ap (λ j. find R j x.entries) one ∙ free key refl) ∙ (is.finds k q).1 (sym (ap (option_and_then (read q)) (came_other q differ)) ∙ f))),
            )
          ]
      | inr apart ↦
          let now : find R k x'.entries ≡ find R k x.entries = is' k ∙ ap (λ b. cond b (Some n) (find R k x.entries)) apart in
          elim (cases_eq q.0 n.0) [
            | inl this ↦
                let before : option_and_then (read q) (get m q.0) ≡ None = ap (λ j. option_and_then (read q) (get m j)) this ∙ ap (option_and_then (read q)) vacant in (
                  λ f. absurd (none_some k (sym before ∙ (is.finds k q).0 (sym now ∙ f))),
                  λ f. absurd (true≢false (sym (ties R o same k key (some_same k key (sym f ∙ ap (option_and_then (read q)) (came_this q this) ∙ own q this ∙ e))) ∙ apart)),
                )
            | inr differ ↦
                let kept : option_and_then (read q) (get (insert m n.0 v) q.0) ≡ option_and_then (read q) (get m q.0) = ap (option_and_then (read q)) (came_other q differ) in
                (λ f. kept ∙ (is.finds k q).0 (sym now ∙ f), λ f. now ∙ (is.finds k q).1 (sym kept ∙ f))
          ]
    ]

    left_finds : (key : Option K) → get m n.0 ≡ Some v → read n v ≡ key → ((k : K) → find R k x'.entries ≡ forgotten R key k (find R k x.entries)) → (k : K) (q : SessionNo) → (find R k x'.entries ≡ Some q) ↔ (option_and_then (read q) (get (remove m n.0) q.0) ≡ Some k)
    left_finds None held e is' k q = elim (cases_eq q.0 n.0) [
      | inl this ↦
          let slot : option_and_then (read q) (get (remove m n.0) q.0) ≡ None = ap (option_and_then (read q)) (left_this q this) in
          let before : option_and_then (read q) (get m q.0) ≡ None = ap (λ j. option_and_then (read q) (get m j)) this ∙ ap (option_and_then (read q)) held ∙ own q this ∙ e in
          (λ f. absurd (none_some k (sym before ∙ (is.finds k q).0 (sym (is' k) ∙ f))), λ f. absurd (none_some k (sym slot ∙ f)))
      | inr differ ↦
          let kept : option_and_then (read q) (get (remove m n.0) q.0) ≡ option_and_then (read q) (get m q.0) = ap (option_and_then (read q)) (left_other q differ) in
          (λ f. kept ∙ (is.finds k q).0 (sym (is' k) ∙ f), λ f. is' k ∙ (is.finds k q).1 (sym kept ∙ f))
    ]
    left_finds (Some key) held e is' k q = elim (decide R o same k key) [
      | inl one ↦
          let now : find R k x'.entries ≡ None = is' k ∙ ap (λ b. cond b None (find R k x.entries)) (ties R o same k key one) in (
            λ f. absurd (none_some q (sym now ∙ f)),
            λ f. elim (cases_eq q.0 n.0) [
              | inl this ↦ absurd (none_some k (sym (ap (option_and_then (read q)) (left_this q this)) ∙ f))
              | inr differ ↦
                  let theirs : find R k x.entries ≡ Some q = (is.finds k q).1 (sym (ap (option_and_then (read q)) (left_other q differ)) ∙ f) in
                  let ours : find R k x.entries ≡ Some n = (is.finds k n).1 (ap (option_and_then (read n)) held ∙ e ∙ ap Some (sym one)) in
                  absurd (differ (same_number_of q n (sym theirs ∙ ours)))
            ],
          )
      | inr apart ↦
          let now : find R k x'.entries ≡ find R k x.entries = is' k ∙ ap (λ b. cond b None (find R k x.entries)) apart in
          elim (cases_eq q.0 n.0) [
            | inl this ↦ (
              λ f. absurd (true≢false (sym (ties R o same k key (some_same k key (sym ((is.finds k q).0 (sym now ∙ f)) ∙ ap (λ j. option_and_then (read q) (get m j)) this ∙ ap (option_and_then (read q)) held ∙ own q this ∙ e))) ∙ apart)),
              λ f. absurd (none_some k (sym (ap (option_and_then (read q)) (left_this q this)) ∙ f)),
            )
            | inr differ ↦
                let kept : option_and_then (read q) (get (remove m n.0) q.0) ≡ option_and_then (read q) (get m q.0) = ap (option_and_then (read q)) (left_other q differ) in
                (λ f. kept ∙ (is.finds k q).0 (sym now ∙ f), λ f. now ∙ (is.finds k q).1 (sym kept ∙ f))
          ]
    ]

    -- the index still agrees once the session is noted under what its value has
    pub agrees_came : get m n.0 ≡ None → ((j : K) → read n v ≡ Some j → find R j x.entries ≡ None) → ((k : K) → find R k x'.entries ≡ noted R (read n v) n k (find R k x.entries)) → length x'.entries ≡ length x.entries + cond (is_some (read n v)) 1 0 → x'.room ≡ x.room → Agrees R read (insert m n.0 v) x'
    agrees_came vacant free is' longer room =
        let sums = sum-insert nat_cmp nat_cmp_total nat_cmp-IsAntisymmetric (λ e. cond (is_some (read (record { 0 = e.0 }) e.1)) 1 0) m n.0 v vacant in
        record {
          finds = came_finds (read n v) vacant refl free is';
          counts = omega (arith, sums, longer, is.counts);
          room = omega (arith, room, is.room);
        }

    -- the index still agrees once what the value had is forgotten
    pub agrees_left : get m n.0 ≡ Some v → ((k : K) → find R k x'.entries ≡ forgotten R (read n v) k (find R k x.entries)) → length x'.entries + cond (is_some (read n v)) 1 0 ≡ length x.entries → x'.room ≡ x.room → Agrees R read (remove m n.0) x'
    agrees_left held is' shorter room =
        let sums = sum-remove nat_cmp nat_cmp_total nat_cmp-IsAntisymmetric (λ e. cond (is_some (read (record { 0 = e.0 }) e.1)) 1 0) m n.0 v held in
        record {
          finds = left_finds (read n v) held refl is';
          counts = omega (arith, sums, shorter, is.counts);
          room = omega (arith, room, is.room);
        }

  -- an index has no more entries than there are sessions
  pub fits : (m : FinMap nat_cmp V) (x : Listing K) → Agrees R read m x → length x.entries ≤ len m
  fits m x is =
      let most = count_by-le-length (λ e. is_some (read (record { 0 = e.0 }) e.1)) (entries m) in
      let all = len-entries m in
      omega (arith, most, all, is.counts)

  -- with no session, an index is empty
  pub agrees_empty : (x : Listing K) → x.entries ≡ [] → 1022 ≤ x.room → Agrees R read empty x
  agrees_empty x none room =
      let nobody : FinMap nat_cmp V = empty in
      let all = len-entries nobody in
      let most = count_by-le-length (λ e. is_some (read (record { 0 = e.0 }) e.1)) (entries nobody) in
      let nothing = len-empty nat_cmp V in
      record {
        finds = λ k q. (
          λ f. absurd (none_some q (sym (ap (find R k) none) ∙ f)),
          λ f. absurd (none_some k (sym (ap (option_and_then (read q)) (get-empty nat_cmp q.0)) ∙ f)),
        );
        counts = ap length none ∙ omega (arith, most, all, nothing);
        room = room;
      }
