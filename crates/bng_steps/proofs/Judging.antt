-- What a discovery frame is answered, of what is known of its parts.
use Rattle.std.proofs.Common.{◌≡◌, ◌⊎◌, ℕ, Bool, true, false, List, Option, Some, None, inl, inr, is_some, option_map, refl, sym, ap, subst, ◌∙◌}
use Rattle.bng_base.specs.declared.address.SessionNo.{SessionNo}
use Rattle.bng_base.specs.PppoeGrammar.{PppoeTag, PppoeFrame}
use Rattle.bng_discovery.specs.declared.answers.Answer.{Answer}
use Rattle.bng_discovery.specs.declared.answers.Answer.TheVariants as answer
use Rattle.bng_discovery.specs.declared.answers.ErrorTag.TheVariants.{AcSystemError}
use Rattle.bng_discovery.specs.declared.port.PortRules.{PortRules}
use Rattle.bng_discovery.specs.Table.{table, first_row}
use Rattle.bng_steps.specs.declared.answering.DiscoveryReply.{DiscoveryReply}
use Rattle.bng_steps.specs.declared.answering.DiscoveryReply.TheVariants.{Make, Refuse}
use Rattle.bng_steps.specs.declared.session.Session.{Session}
use Rattle.bng_steps.specs.State.{State}
use Rattle.bng_steps.specs.Discovery.{IsVacancy, repeated, host_uniq_of}
use Rattle.bng_steps.specs.Replying.{IsAnswer, IsDiscoveryReply}
use Rattle.bng_steps.proofs.Rows.{other_answer, refused, again_if_known}
use Rattle.bng_steps.proofs.Vacating.{vacancy_of}
use Rattle.bng_steps.proofs.Values.{none_some, same_some}

some_mapped : (o : Option Session) (found : Option SessionNo) → found ≡ option_map (λ (x : Session). x.number) o → is_some found ≡ is_some o
some_mapped None found e = ap (λ (f : Option SessionNo). is_some f) e
some_mapped (Some x) found e = ap (λ (f : Option SessionNo). is_some f) e

mapped_from : (o : Option Session) (n : SessionNo) → Some n ≡ option_map (λ (x : Session). x.number) o → (x : Session) × (o ≡ Some x) × (x.number ≡ n)
mapped_from None n e = absurd (none_some n (sym e))
mapped_from (Some x) n e = (x, refl, sym (same_some n x.number e))

module _ (s : State) (number : ℕ) (offers : PortRules) (p : PppoeFrame) (tags : List PppoeTag) (found : Option SessionNo) (found_is : found ≡ option_map (λ (x : Session). x.number) (repeated s number p.src (host_uniq_of tags))) where
  abbrev known : Bool
  known = is_some (repeated s number p.src (host_uniq_of tags))

  -- by whether a session was found
  pub row_known : (a : Answer) → Some a ≡ first_row (table offers p tags (is_some found) true) → Some a ≡ first_row (table offers p tags known true)
  row_known a row = subst (λ (k : Bool). Some a ≡ first_row (table offers p tags k true)) (some_mapped (repeated s number p.src (host_uniq_of tags)) found found_is) row

  -- an answer that makes no session does not depend on a vacancy
  pub other : (a : Answer) → Some a ≡ first_row (table offers p tags (is_some found) true) → (a ≡ answer.Make → ⊥) → (v : Option ℕ) × IsAnswer s number offers p tags v a
  other a row not_make =
      let (v, is) = vacancy_of s in
      (v, (is, other_answer offers p tags a known (is_some v) (row_known a row) not_make))

  -- a new session, or none where there may be none more
  pub make_or_refuse : (reply : DiscoveryReply) → Some answer.Make ≡ first_row (table offers p tags (is_some found) true) → ((n : SessionNo) → reply ≡ Make n → IsVacancy s (Some n.0))
      → ((reply ≡ Refuse AcSystemError) × IsVacancy s None) ⊎ ((n : SessionNo) × (reply ≡ Make n)) → IsDiscoveryReply reply s number offers p tags
  make_or_refuse reply row make (inl (is, full)) =
      subst (λ (x : DiscoveryReply). IsDiscoveryReply x s number offers p tags) (sym is) (None, (full, refused offers p tags known (row_known answer.Make row)))
  make_or_refuse reply row make (inr (n, is)) =
      subst (λ (x : DiscoveryReply). IsDiscoveryReply x s number offers p tags) (sym is) (make n is, row_known answer.Make row)

  -- the PADS is sent again only where there is a session
  pub never_again : Some answer.Again ≡ first_row (table offers p tags (is_some found) true) → found ≡ None → ⊥
  never_again row none =
      let e : is_some found ≡ true = again_if_known offers p tags (is_some found) true row in
      let f : is_some found ≡ false = ap (λ (o : Option SessionNo). is_some o) none in
      let never : true ≡ false = sym e ∙ f in cc

  pub session_again : (n : SessionNo) → found ≡ Some n → (x : Session) × (repeated s number p.src (host_uniq_of tags) ≡ Some x) × (x.number ≡ n)
  session_again n is = mapped_from (repeated s number p.src (host_uniq_of tags)) n (sym is ∙ found_is)
