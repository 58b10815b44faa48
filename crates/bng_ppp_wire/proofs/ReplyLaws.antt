-- Replies that repeat options of a request.
use Rattle.std.proofs.Common.{◌≡◌, ◌↔◌, ◌<◌, ◌+◌, ℕ, Bool, true, false, cond, List, [], ◌∷◌, length, take, get_or, filter, sym, ap, subst, ◌∙◌}
use Rattle.std.specs.List.{AllByRecursion}
use Rattle.bng_base.specs.PppGrammar.{PppOption, OptionFits, option_text, options_text, AreOptions}
use Rattle.bng_base.proofs.PieceLaws.{one_list}
use Rattle.std.proofs.lemmas.List.{take_more, map-append}
use Rattle.bng_base.proofs.PieceLaws.{AllByRecursion-push}
use Rattle.bng_ppp_wire.specs.declared.made_option.MadeOpt.{MadeOpt}
use Rattle.bng_ppp_wire.specs.MadeOption.{made_of, all_made_of}
use Rattle.bng_ppp_wire.specs.Listing.{names}
use Rattle.bng_ppp_wire.specs.ConfigureReply.{named_of}
use Rattle.bng_ppp_wire.proofs.OptionLaws.{is_code}

-- those of a list that pass a test fit, where all do
pub fits-filter : (p : PppOption → Bool) (xs : List PppOption) → AllByRecursion OptionFits xs → AllByRecursion OptionFits (filter p xs)
fits-filter p [] h = tt
fits-filter p (x ∷ xs) h = by_test (p x) (fits-filter p xs h.1)
  where
    by_test : (b : Bool) → AllByRecursion OptionFits (filter p xs) → AllByRecursion OptionFits (cond b (x ∷ filter p xs) (filter p xs))
    by_test true rest = (h.0, rest)
    by_test false rest = rest

-- the octets of one list of options are those of another exactly where the lists are the same
pub same_text : (os listed : List PppOption) (body : List ℕ) → AreOptions os body → AllByRecursion OptionFits listed → (body ≡ options_text listed) ↔ (os ≡ listed)
same_text os listed body lists fit = (
  λ e. one_list OptionFits option_text 64 is_code os listed body lists (record { fit = fit; spelled = e }),
  λ e. lists.spelled ∙ ap options_text e,
)

-- one more option that fits
pub fit_more : (os : List MadeOpt) (i : ℕ) (d : MadeOpt) → i < length os → AllByRecursion OptionFits (all_made_of (take i os)) → OptionFits (made_of (get_or os i d)) → AllByRecursion OptionFits (all_made_of (take (i + 1) os))
fit_more os i d within before here =
    let more = ap all_made_of (take_more os i d within) ∙ map-append made_of (take i os) (get_or os i d ∷ []) in
    subst (AllByRecursion OptionFits) (sym more) (AllByRecursion-push OptionFits option_text (all_made_of (take i os)) (made_of (get_or os i d)) before here)

-- Octets that list options are an Ack's body exactly where they are the text of those asked for.
pub acked_iff : (asked : List PppOption) (body : List ℕ) → AreOptions asked (options_text asked) → (body ≡ options_text asked) ↔ AreOptions asked body
acked_iff asked body again = (λ e. record { fit = again.fit; spelled = e }, λ are. are.spelled)

-- The options that octets list are those of the asked ones that they name exactly where the octets are the text of these.
pub part_iff : (asked os : List PppOption) (body : List ℕ) → AreOptions asked (options_text asked) → AreOptions os body → (body ≡ options_text (named_of asked os)) ↔ (os ≡ named_of asked os)
part_iff asked os body again lists = same_text os (named_of asked os) body lists (fits-filter (λ o. names os o.kind) asked again.fit)
