-- When each answer comes, from what each answer says.
use Rattle.std.proofs.Common.{◌≡◌, ℕ, ◌<◌, ◌≤◌, List, length, Result, Ok, Err, refl, ap, arith}
use Rattle.std.specs.Prelude.{◌↔◌, MatchResult, IfOk, IsOkAnd}
use Rattle.arrayvec.specs.ArrayVec.{ArrayVec}
use Rattle.bng_base.proofs.PieceLaws.{one_list}
use Rattle.bng_ppp_wire.specs.declared.view.Opt.{Opt}
use Rattle.bng_base.specs.declared.codec.ReadError.{ReadError}
use Rattle.bng_base.specs.declared.codec.ReadError.TheVariants.{Outside, TooMany}
use Rattle.bng_base.specs.PppGrammar.{PppOption, OptionFits, option_text, AreOptions}
use Rattle.bng_ppp_wire.specs.View.{options_of}
use Rattle.bng_ppp_wire.specs.Listing.{WhyNoOptions}
use Rattle.bng_ppp_wire.proofs.OptionLaws.{is_code, length-options_of}

abbrev Answer : List ℕ → Result (ArrayVec Opt) ReadError → Type 0
Answer body r = MatchResult r (λ v. AreOptions (options_of v.items) body) (λ e. WhyNoOptions e body)

pub outside_iff : (body : List ℕ) (r : Result (ArrayVec Opt) ReadError) → Answer body r → (r ≡ Err Outside) ↔ ((fs : List PppOption) → AreOptions fs body → ⊥)
outside_iff body (Ok v) h = (λ e. absurd cc, λ none. absurd (none (options_of v.items) h))
outside_iff body (Err Outside) h = (λ _. h, λ _. refl)
outside_iff body (Err TooMany) h = (λ e. absurd cc, λ none. absurd (none h.0 h.1))

pub too_many_iff : (body : List ℕ) (r : Result (ArrayVec Opt) ReadError) → Answer body r → IfOk r (λ v. length v.items ≤ 64) → (r ≡ Err TooMany) ↔ ((fs : List PppOption) × AreOptions fs body × (64 < length fs))
too_many_iff body (Ok v) h few = (
  λ e. absurd cc,
  λ w.
      let same = one_list OptionFits option_text 64 is_code w.0 (options_of v.items) body w.1 h in
      absurd (omega (arith, few, w.2, ap length same, length-options_of v.items)),
)
too_many_iff body (Err Outside) h few = (λ e. absurd cc, λ w. absurd (h w.0 w.1))
too_many_iff body (Err TooMany) h few = (λ _. h, λ _. refl)

pub only_list : (body : List ℕ) (r : Result (ArrayVec Opt) ReadError) → Answer body r → (os : List PppOption) → AreOptions os body → length os ≤ 64 → IsOkAnd r (λ v. options_of v.items ≡ os)
only_list body (Ok v) h os are few = one_list OptionFits option_text 64 is_code (options_of v.items) os body h are
only_list body (Err Outside) h os are few = absurd (h os are)
only_list body (Err TooMany) h os are few =
    let same = one_list OptionFits option_text 64 is_code h.0 os body h.1 are in
    absurd (omega (arith, few, h.2, ap length same))
