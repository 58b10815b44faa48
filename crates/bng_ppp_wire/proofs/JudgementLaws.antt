-- A request is acknowledged exactly where each of its options is, and nothing is added.
use Rattle.std.proofs.Common.{◌≡◌, ◌↔◌, suc, Bool, false, cond, List, [], ◌∷◌, ◌++◌, map, filter, refl, ap, ◌∙◌, arith, All}
use Rattle.std.proofs.lemmas.List.Elements.{All-cons}
use Rattle.bng_base.specs.PppGrammar.{PppOption}
use Rattle.bng_ppp_wire.specs.declared.view.Opt.{Opt}
use Rattle.bng_ppp_wire.specs.View.{option_of, options_of}
use Rattle.bng_ppp_wire.specs.declared.option_table.OptionRow.{OptionRow}
use Rattle.bng_ppp_wire.specs.declared.judgement.Class.{Class}
use Rattle.bng_ppp_wire.specs.declared.judgement.Class.TheVariants.{Ack, Nak, Reject}
use Rattle.bng_ppp_wire.specs.declared.judgement.Judged.{Judged}
use Rattle.bng_ppp_wire.specs.declared.judgement.Judged.TheVariants as judged
use Rattle.bng_ppp_wire.specs.OptionTable.{suggested}
use Rattle.bng_ppp_wire.specs.Judgement.{class_of, is_nak, is_reject, corrected, added, rejected, naked, IsJudgement}

no_reject : (c : Class) (x : PppOption) (rest : List PppOption) → cond (is_reject c) (x ∷ rest) rest ≡ [] → (is_reject c ≡ false) × (rest ≡ [])
no_reject Ack x rest e = (refl, e)
no_reject Nak x rest e = (refl, e)
no_reject Reject x rest e = absurd cc

no_nak : (f : PppOption → PppOption) (c : Class) (x : PppOption) (rest : List PppOption) → map f (cond (is_nak c) (x ∷ rest) rest) ≡ [] → (is_nak c ≡ false) × (map f rest ≡ [])
no_nak f Ack x rest e = (refl, e)
no_nak f Nak x rest e = absurd cc
no_nak f Reject x rest e = (refl, e)

neither : (c : Class) → is_reject c ≡ false → is_nak c ≡ false → c ≡ Ack
neither Ack p q = refl
neither Nak p q = absurd cc
neither Reject p q = absurd cc

append-none : (xs ys : List PppOption) → xs ++ ys ≡ [] → (xs ≡ []) × (ys ≡ [])
append-none [] ys e = (refl, e)
append-none (x ∷ xs) ys e = absurd cc

all_acked : (r : List OptionRow) (n : Bool) (os : List Opt) → rejected r n (options_of os) ≡ [] → corrected r n (options_of os) ≡ [] → All (λ o. class_of r n (option_of o) ≡ Ack) os
all_acked r n [] p q = λ k d h. absurd (omega arith)
all_acked r n (o ∷ os) p q =
    let c = class_of r n (option_of o) in
    let first = no_reject c (option_of o) (rejected r n (options_of os)) p in
    let others = filter (λ (x : PppOption). is_nak (class_of r n x)) (options_of os) in
    let second = no_nak (suggested r) c (option_of o) others q in
    All-cons (λ x. class_of r n (option_of x) ≡ Ack) o os (neither c first.0 second.0) (all_acked r n os first.1 second.1)

none_else : (r : List OptionRow) (n : Bool) (os : List Opt) → All (λ o. class_of r n (option_of o) ≡ Ack) os → (rejected r n (options_of os) ≡ []) × (corrected r n (options_of os) ≡ [])
none_else r n [] all = (refl, refl)
none_else r n (o ∷ os) all =
    let here : class_of r n (option_of o) ≡ Ack = all 0 o (omega arith) in
    let rest = none_else r n os (λ k d h. all (suc k) d (omega arith)) in
    let others = filter (λ (x : PppOption). is_nak (class_of r n x)) (options_of os) in (
      ap (λ (c : Class). cond (is_reject c) (option_of o ∷ rejected r n (options_of os)) (rejected r n (options_of os))) here ∙ rest.0,
      ap (λ (c : Class). map (suggested r) (cond (is_nak c) (option_of o ∷ others) others)) here ∙ rest.1,
    )

none_naked : (r : List OptionRow) (n : Bool) (os : List Opt) → corrected r n (options_of os) ≡ [] → added r n (options_of os) ≡ [] → naked r n (options_of os) ≡ []
none_naked r n os p q = ap (λ (xs : List PppOption). xs ++ added r n (options_of os)) p ∙ q

pub ack_iff : (r : List OptionRow) (n : Bool) (os : List Opt) (j : Judged) → IsJudgement r n (options_of os) j → (j ≡ judged.Ack) ↔ (All (λ o. class_of r n (option_of o) ≡ Ack) os × (added r n (options_of os) ≡ []))
ack_iff r n os judged.Ack is =
    let parts = append-none (corrected r n (options_of os)) (added r n (options_of os)) is.1 in
    (λ _. (all_acked r n os is.0 parts.0, parts.1), λ _. refl)
ack_iff r n os (judged.Nak made) is = (λ e. absurd cc, λ h. absurd (is.2 (none_naked r n os (none_else r n os h.0).1 h.1)))
ack_iff r n os (judged.Reject options) is = (λ e. absurd cc, λ h. absurd (is.1 (none_else r n os h.0).0))
