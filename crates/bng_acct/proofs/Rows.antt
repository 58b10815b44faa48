-- Numbers in a row, of which one is added or taken out.
use Rattle.std.proofs.Common.{◌≡◌, ◌≢◌, ℕ, zero, suc, ◌≤◌, ◌<◌, ◌⊎◌, inl, inr, List, [], ◌∷◌, ◌++◌, length, set, sym, ap, subst, ◌∙◌, refl, arith, length-append}
use Rattle.std.specs.List.{AllByRecursion}
use Rattle.std.proofs.lemmas.List.{get_or-set_same, get_or-set_other, length-set}
use Rattle.std.proofs.lemmas.Bool.{cases_eq, ne_eqb, eq-eqb}
use Rattle.bng_acct.specs.Queue.{Apart, without, IsIn}
use Rattle.bng_acct.specs.Row.{at, walk, Chain, IsRow, row}
use Rattle.bng_acct.proofs.GoingOn.{all_both}
use Rattle.bng_acct.proofs.Queues.{apart-push, apart-part, part, without-others}

abbrev NotIn : ℕ → List ℕ → Type 0
NotIn n ns = AllByRecursion (λ m. m ≢ n) ns

pub differs : (n k : ℕ) (ns : List ℕ) → NotIn n ns → IsIn k ns → k ≢ n
differs n k [] h i = absurd i
differs n k (m ∷ ns) h (inl e) = λ same. h.0 (e ∙ same)
differs n k (m ∷ ns) h (inr i) = differs n k ns h.1 i

not_below : (ns : List ℕ) (z : ℕ) → AllByRecursion (λ n. n < z) ns → NotIn z ns
not_below [] z h = tt
not_below (n ∷ ns) z h = ((λ e. let less = h.0 in absurd (omega (arith, less, e))), not_below ns z h.1)

-- a chain of which no number was written is a chain still
same_chain : (A B A' B' : List ℕ) (p : ℕ) (ns : List ℕ) (z : ℕ) → Chain A B p ns z → at A' p ≡ at A p → AllByRecursion (λ n. at A' n ≡ at A n) ns
    → AllByRecursion (λ n. at B' n ≡ at B n) ns → at B' z ≡ at B z → Chain A' B' p ns z
same_chain A B A' B' p [] z c a fa fb b = (a ∙ c.0, b ∙ c.1)
same_chain A B A' B' p (n ∷ ns) z c a fa fb b = (a ∙ c.0, fb.0 ∙ c.1, same_chain A B A' B' n ns z c.2 fa.0 fa.1 fb.1 b)

each : (P : ℕ → Type 0) (n : ℕ) → ((m : ℕ) → m ≢ n → P m) → (ns : List ℕ) → NotIn n ns → AllByRecursion P ns
each P n f [] h = tt
each P n f (m ∷ ns) h = (f m h.0, each P n f ns h.1)

-- what stands before the end, before a number and after it
last_in : (A B : List ℕ) (p : ℕ) (ns : List ℕ) (z : ℕ) → Chain A B p ns z → (at B z ≡ p) ⊎ IsIn (at B z) ns
last_in A B p [] z c = inl c.1
last_in A B p (n ∷ ns) z c = elim (last_in A B n ns z c.2) [ inl e ↦ inr (inl (sym e)) | inr i ↦ inr (inr i) ]

pub front_in : (A B : List ℕ) (p : ℕ) (ns : List ℕ) (z n : ℕ) → Chain A B p ns z → IsIn n ns → (at B n ≡ p) ⊎ IsIn (at B n) ns
front_in A B p [] z n c i = absurd i
front_in A B p (m ∷ ns) z n c (inl e) = inl (ap (at B) (sym e) ∙ c.1)
front_in A B p (m ∷ ns) z n c (inr i) = elim (front_in A B m ns z n c.2 i) [ inl e ↦ inr (inl (sym e)) | inr j ↦ inr (inr j) ]

first_in : (A B : List ℕ) (p : ℕ) (ns : List ℕ) (z : ℕ) → Chain A B p ns z → (at A p ≡ z) ⊎ IsIn (at A p) ns
first_in A B p [] z c = inl c.0
first_in A B p (m ∷ ns) z c = inr (inl (sym c.0))

pub behind_in : (A B : List ℕ) (p : ℕ) (ns : List ℕ) (z n : ℕ) → Chain A B p ns z → IsIn n ns → (at A n ≡ z) ⊎ IsIn (at A n) ns
behind_in A B p [] z n c i = absurd i
behind_in A B p (m ∷ ns) z n c (inl e) = elim (first_in A B m ns z c.2) [ inl f ↦ inl (ap (at A) (sym e) ∙ f) | inr j ↦ inr (inr (subst (λ (k : ℕ). IsIn (at A k) ns) e j)) ]
behind_in A B p (m ∷ ns) z n c (inr i) = elim (behind_in A B m ns z n c.2 i) [ inl f ↦ inl f | inr j ↦ inr (inr j) ]

-- one number was put between the last and the end
record IsPushed (A B A' B' : List ℕ) (last n z : ℕ) : Type 0 where
  after_last : at A' last ≡ n
  after_new : at A' n ≡ z
  after_other : (k : ℕ) → k ≢ last → k ≢ n → at A' k ≡ at A k
  before_new : at B' n ≡ last
  before_end : at B' z ≡ n
  before_other : (k : ℕ) → k ≢ n → k ≢ z → at B' k ≡ at B k

pushed : (A B A' B' : List ℕ) (last n z p : ℕ) (ns : List ℕ) → IsPushed A B A' B' last n z → Chain A B p ns z → at B z ≡ last → NotIn p ns → Apart ns → NotIn z ns → NotIn n ns → p ≢ n
    → Chain A' B' p (ns ++ n ∷ []) z
pushed A B A' B' last n z p [] w c is_last not_p a not_z not_n other =
    let e : last ≡ p = sym is_last ∙ c.1 in
    (ap (at A') (sym e) ∙ w.after_last, w.before_new ∙ e, (w.after_new, w.before_end))
pushed A B A' B' last n z p (m ∷ ns) w c is_last not_p a not_z not_n other =
    let not_last : p ≢ last = elim (last_in A B m ns z c.2) [
      | inl e ↦ λ same. not_p.0 (sym e ∙ is_last ∙ sym same)
      | inr i ↦ λ same. differs p (at B z) ns not_p.1 i (is_last ∙ sym same)
    ] in
    (w.after_other p not_last other ∙ c.0, w.before_other m not_n.0 not_z.0 ∙ c.1, pushed A B A' B' last n z m ns w c.2 is_last a.0 a.1 not_z.1 not_n.1 not_n.0)

-- two numbers stand beside each other that had one between them
record IsJoined (A B A' B' : List ℕ) (front behind : ℕ) : Type 0 where
  after_front : at A' front ≡ behind
  after_other : (k : ℕ) → k ≢ front → at A' k ≡ at A k
  before_behind : at B' behind ≡ front
  before_other : (k : ℕ) → k ≢ behind → at B' k ≡ at B k

skips : (A B A' B' : List ℕ) (p m : ℕ) (ns : List ℕ) (z : ℕ) → IsJoined A B A' B' p (at A m) → Chain A B m ns z → NotIn p ns → Apart ns → NotIn z ns → Chain A' B' p ns z
skips A B A' B' p m [] z w c not_p a not_z = (w.after_front ∙ c.0, ap (at B') (sym c.0) ∙ w.before_behind)
skips A B A' B' p m (k ∷ ns) z w c not_p a not_z = (
  w.after_front ∙ c.0,
  ap (at B') (sym c.0) ∙ w.before_behind,
  same_chain A B A' B' k ns z c.2 (w.after_other k not_p.0) (each (λ n. at A' n ≡ at A n) p (λ n e. w.after_other n e) ns not_p.1)
      (each (λ n. at B' n ≡ at B n) k (λ n e. w.before_other n (λ same. e (same ∙ c.0))) ns a.0) (w.before_other z (λ same. not_z.0 (sym (same ∙ c.0)))),
)

removed : (A B A' B' : List ℕ) (n z p : ℕ) (ns : List ℕ) → IsJoined A B A' B' (at B n) (at A n) → Chain A B p ns z → IsIn n ns → NotIn p ns → Apart ns → NotIn z ns → Chain A' B' p (without n ns) z
removed A B A' B' n z p [] w c i not_p a not_z = absurd i
removed A B A' B' n z p (m ∷ ns) w c i not_p a not_z = elim (cases_eq m n) [
  | inl e ↦
      let here = subst (λ (k : ℕ). IsJoined A B A' B' k (at A n)) (ap (at B) (sym e) ∙ c.1) w in
      let joined = subst (λ (k : ℕ). IsJoined A B A' B' p (at A k)) (sym e) here in
      let rest : without n ns ≡ ns = without-others ns n (subst (λ (k : ℕ). NotIn k ns) e a.0) in
      rw (eq-eqb m n e, rest) (skips A B A' B' p m ns z joined c.2 not_p.1 a.1 not_z.1)
  | inr apart ↦
      let j : IsIn n ns = elim i [ inl e ↦ absurd (apart e) | inr j ↦ j ] in
      let not_front : p ≢ at B n = elim (front_in A B m ns z n c.2 j) [
        | inl e ↦ λ same. not_p.0 (sym (same ∙ e))
        | inr k ↦ λ same. differs p (at B n) ns not_p.1 k (sym same)
      ] in
      let not_behind : m ≢ at A n = elim (behind_in A B m ns z n c.2 j) [
        | inl e ↦ λ same. not_z.0 (same ∙ e)
        | inr k ↦ λ same. differs m (at A n) ns a.0 k (sym same)
      ] in
      rw (ne_eqb m n apart) (w.after_other p not_front ∙ c.0, w.before_other m not_behind ∙ c.1, removed A B A' B' n z m ns w c.2 j a.0 a.1 not_z.1)
]

-- the walk goes over the numbers of a chain
walked : (k : ℕ) (A B : List ℕ) (p : ℕ) (ns : List ℕ) (z : ℕ) → Chain A B p ns z → NotIn z ns → length ns ≤ k → walk k A z (at A p) ≡ ns
walked zero A B p [] z c h le = refl
walked zero A B p (n ∷ ns) z c h le = absurd (omega arith)
walked (suc k) A B p [] z c h le = rw (c.0, eq-eqb z z refl) refl
walked (suc k) A B p (n ∷ ns) z c h le = rw (c.0, ne_eqb n z h.0) (ap (λ (r : List ℕ). n ∷ r) (walked k A B n ns z c.2 h.1 (omega (arith, le))))

pub record IsRowOf (A B : List ℕ) (end : ℕ) (ns : List ℕ) : Type 0 where
  pub are : (row A end).numbers ≡ ns
  pub is : IsRow A B end (row A end).numbers

row_of : (A B : List ℕ) (end : ℕ) (ns : List ℕ) → IsRow A B end ns → IsRowOf A B end ns
row_of A B end ns r =
    let e = walked end A B end ns end r.chain (not_below ns end r.below) r.few in
    record { are = e; is = subst (IsRow A B end) (sym e) r }

length-without : (n : ℕ) (ns : List ℕ) → length (without n ns) ≤ length ns
length-without n [] = omega arith
length-without n (m ∷ ns) = elim (cases_eq m n) [
  | inl e ↦ rw (eq-eqb m n e) (omega (arith, length-without n ns))
  | inr other ↦ rw (ne_eqb m n other) (omega (arith, length-without n ns))
]

bounded : (n z : ℕ) (ns : List ℕ) → AllByRecursion (λ m. m < z) ns → IsIn n ns → n < z
bounded n z [] h i = absurd i
bounded n z (m ∷ ns) h (inl e) = let less = h.0 in omega (arith, less, e)
bounded n z (m ∷ ns) h (inr i) = bounded n z ns h.1 i

-- each place that is read or written is there
pub below_last : (A B : List ℕ) (end : ℕ) (ns : List ℕ) → IsRow A B end ns → at B end ≤ end
below_last A B end ns r = elim (last_in A B end ns end r.chain) [ inl e ↦ omega (arith, e) | inr i ↦ let less = bounded (at B end) end ns r.below i in omega (arith, less) ]

pub below_here : (A B : List ℕ) (end n : ℕ) (ns : List ℕ) → IsRow A B end ns → IsIn n ns → n < end
below_here A B end n ns r i = bounded n end ns r.below i

pub below_front : (A B : List ℕ) (end n : ℕ) (ns : List ℕ) → IsRow A B end ns → IsIn n ns → at B n < length A
below_front A B end n ns r i = elim (front_in A B end ns end n r.chain i) [
  | inl e ↦ omega (arith, e, r.after_all)
  | inr j ↦ let less = bounded (at B n) end ns r.below j in omega (arith, less, r.after_all)
]

pub below_behind : (A B : List ℕ) (end n : ℕ) (ns : List ℕ) → IsRow A B end ns → IsIn n ns → at A n < length B
below_behind A B end n ns r i = elim (behind_in A B end ns end n r.chain i) [
  | inl e ↦ omega (arith, e, r.before_all)
  | inr j ↦ let less = bounded (at A n) end ns r.below j in omega (arith, less, r.before_all)
]

pub row_pushed : (A B : List ℕ) (end n : ℕ) (ns : List ℕ) → IsRow A B end ns → n < end → AllByRecursion (λ m. m ≢ n) ns → length ns < end
    → IsRowOf (set (set A (at B end) n) n end) (set (set B n (at B end)) end n) end (ns ++ n ∷ [])
row_pushed A B end n ns r less fresh few =
    let last = at B end in
    let A' = set (set A last n) n end in
    let B' = set (set B n last) end n in
    let not_end = not_below ns end r.below in
    let end_other : end ≢ n = λ e. absurd (omega (arith, e, less)) in
    let last_other : last ≢ n = elim (last_in A B end ns end r.chain) [ inl e ↦ λ same. end_other (sym e ∙ same) | inr i ↦ differs n last ns fresh i ] in
    let sizes = length-set A last n in
    let sizes_behind = length-set B n last in
    let w : IsPushed A B A' B' last n end = record {
      after_last = get_or-set_other (set A last n) n last end 0 last_other ∙ get_or-set_same A last n 0 (omega (arith, below_last A B end ns r, r.after_all));
      after_new = get_or-set_same (set A last n) n end 0 (omega (arith, less, sizes, r.after_all));
      after_other = λ k p q. get_or-set_other (set A last n) n k end 0 q ∙ get_or-set_other A last k n 0 p;
      before_new = get_or-set_other (set B n last) end n n 0 (λ e. end_other (sym e)) ∙ get_or-set_same B n last 0 (omega (arith, less, r.before_all));
      before_end = get_or-set_same (set B n last) end n 0 (omega (arith, sizes_behind, r.before_all));
      before_other = λ k p q. get_or-set_other (set B n last) end k n 0 q ∙ get_or-set_other B n k last 0 p;
    } in
    row_of A' B' end (ns ++ n ∷ []) (record {
      after_all = length-set (set A last n) n end ∙ sizes ∙ r.after_all;
      before_all = length-set (set B n last) end n ∙ sizes_behind ∙ r.before_all;
      chain = pushed A B A' B' last n end end ns w r.chain refl not_end r.apart not_end fresh end_other;
      apart = apart-push ns n r.apart fresh;
      below = all_both (λ m. m < end) ns (n ∷ []) r.below (less, tt);
      few = omega (arith, length-append ns (n ∷ []), few);
    })

pub row_removed : (A B : List ℕ) (end n : ℕ) (ns : List ℕ) → IsRow A B end ns → IsIn n ns → IsRowOf (set A (at B n) (at A n)) (set B (at A n) (at B n)) end (without n ns)
row_removed A B end n ns r i =
    let front = at B n in
    let behind = at A n in
    let A' = set A front behind in
    let B' = set B behind front in
    let not_end = not_below ns end r.below in
    let w : IsJoined A B A' B' front behind = record {
      after_front = get_or-set_same A front behind 0 (below_front A B end n ns r i);
      after_other = λ k p. get_or-set_other A front k behind 0 p;
      before_behind = get_or-set_same B behind front 0 (below_behind A B end n ns r i);
      before_other = λ k p. get_or-set_other B behind k front 0 p;
    } in
    row_of A' B' end (without n ns) (record {
      after_all = length-set A front behind ∙ r.after_all;
      before_all = length-set B behind front ∙ r.before_all;
      chain = removed A B A' B' n end end ns w r.chain i not_end r.apart not_end;
      apart = apart-part ns n r.apart;
      below = part (λ m. m < end) ns n r.below;
      few = omega (arith, length-without n ns, r.few);
    })
