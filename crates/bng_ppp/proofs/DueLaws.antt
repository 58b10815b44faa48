-- Which of a link's timers is due.
use Rattle.std.proofs.Common.{◌↔◌, ◌+◌, ◌≤◌, ◌⊎◌, inl, inr, ℕ, Option, Some, None, option_map, arith}
use Rattle.std.specs.Prelude.{IsSomeAnd}
use Rattle.std.proofs.lemmas.Bool.Decides.{leb_tells}
use Rattle.bng_ppp.specs.LcpRelation.{earliest}

-- the moment is there, and has come
abbrev pub IsDue : Option ℕ → ℕ → Type 0
IsDue o now = IsSomeAnd o (λ t. t ≤ now)

-- the earlier of two is due exactly where one of them is
earliest_due : (a b : Option ℕ) (now : ℕ) → IsDue (earliest a b) now ↔ (IsDue a now ⊎ IsDue b now)
earliest_due None b now = (λ h. inr h, λ h. elim h [ inl x ↦ absurd x | inr y ↦ y ])
earliest_due (Some a) None now = (λ h. inl h, λ h. elim h [ inl x ↦ x | inr y ↦ absurd y ])
earliest_due (Some a) (Some b) now = (
  λ h. elim (leb_tells a now) [ inl x ↦ inl x.1 | inr y ↦ let later = y.1 in inr (omega (arith, h, later)) ],
  λ h. elim h [ inl x ↦ omega (arith, x) | inr y ↦ omega (arith, y) ],
)

later_due : (o : Option ℕ) (now : ℕ) → IsDue (option_map (λ t. t + 3000) o) now ↔ IsSomeAnd o (λ t. t + 3000 ≤ now)
later_due None now = (λ h. h, λ h. h)
later_due (Some t) now = (λ h. h, λ h. h)

-- the earliest of a link's timers
pub one_is_due : (lcp echo auth ipcp : Option ℕ) (now : ℕ) → IsDue (earliest (earliest (earliest (option_map (λ t. t + 3000) lcp) echo) auth) (option_map (λ t. t + 3000) ipcp)) now
    ↔ (IsSomeAnd lcp (λ t. t + 3000 ≤ now) ⊎ (IsDue echo now ⊎ (IsDue auth now ⊎ IsSomeAnd ipcp (λ t. t + 3000 ≤ now))))
one_is_due lcp echo auth ipcp now =
    let l = option_map (λ (t : ℕ). t + 3000) lcp in
    let i = option_map (λ (t : ℕ). t + 3000) ipcp in
    let all = earliest_due (earliest (earliest l echo) auth) i now in
    let three = earliest_due (earliest l echo) auth now in
    let two = earliest_due l echo now in
    let first = later_due lcp now in
    let last = later_due ipcp now in (
      λ h. elim (all.0 h) [
        | inl x ↦ elim (three.0 x) [
          | inl y ↦ elim (two.0 y) [ inl z ↦ inl (first.0 z) | inr z ↦ inr (inl z) ]
          | inr y ↦ inr (inr (inl y))
        ]
        | inr x ↦ inr (inr (inr (last.0 x)))
      ],
      λ h. elim h [
        | inl x ↦ all.1 (inl (three.1 (inl (two.1 (inl (first.1 x))))))
        | inr x ↦ elim x [
          | inl y ↦ all.1 (inl (three.1 (inl (two.1 (inr y)))))
          | inr y ↦ elim y [
            | inl z ↦ all.1 (inl (three.1 (inr z)))
            | inr z ↦ all.1 (inr (last.1 z))
          ]
        ]
      ],
    )
