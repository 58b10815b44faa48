use Rattle.std.proofs.Common.{◌≡◌, Some, ℕ, List, refl, sym, ap, subst, ◌∙◌}
use Rattle.std.specs.Prelude.{position}
use Rattle.std.specs.List.{list_any}
use Rattle.bng_coa.specs.Requests.{is_numbered}
use Rattle.bng_coa.specs.State.{State}
use Rattle.bng_coa.specs.Replies.{IsReplied, IsAnswered}
use Rattle.bng_coa.proofs.Staying.{count_settled}
use Rattle.bng_coa.proofs.Places.{passes_at, there_is, numbered_in_hand}
use Rattle.bng_coa.proofs.desk.CoaDesk.answer.Goals as goal

pub answer-requires-clause-in_hand : goal.answer-requires-clause-in_hand
answer-requires-clause-in_hand c = λ r is.
    let first : position (is_numbered c.args.number) c.self.inside.requests ≡ Some c.in-Some.place = sym c.place_of.ensures ∙ c.in-Some.is in
    let h = passes_at (is_numbered c.args.number) c.self.inside.requests c.in-Some.place first in
    let same : h.element ≡ r = let e : Some h.element ≡ Some r = sym h.is ∙ is in cc in
    numbered_in_hand c.args.number r.stage (ap (is_numbered c.args.number) (sym same) ∙ h.passes)

pub unreachable-requires : goal.unreachable-requires
unreachable-requires c =
    let number : ℕ = c.args.number in
    there_is (is_numbered number) c.self.inside.requests
    (ap (λ (s : State). list_any (is_numbered number) s.requests) c.self.view_is ∙ c.requires)
    (sym c.place_of.ensures ∙ c.in-None.is)

pub returns-clause-answered : goal.returns-clause-answered
returns-clause-answered c =
    let first : position (is_numbered c.args.number) c.self.inside.requests ≡ Some c.in-Some.place = sym c.place_of.ensures ∙ c.in-Some.is in
    let h = passes_at (is_numbered c.args.number) c.self.inside.requests c.in-Some.place first in
    let done = c.answer.ensures h.element h.is in
    let new : State = record { peers = c.self.inside.peers.items; secret = c.self.inside.secret.items; requests = c.answer.new.self } in
    subst (λ (s : State). IsAnswered s new c.args.number c.args.verdict c.answer.new.into) c.self.view_is
    (record {
      settled = record {
        place = c.in-Some.place;
        request = h.element;
        stands = h.is;
        numbered = h.passes;
        list = done.1;
      };
      replied = subst (λ (x : List ℕ). IsReplied h.element c.args.verdict x c.answer.new.into) c.as_slice.ensures.value done.0;
      peers = refl;
      secret = refl;
    })

pub returns-clause-in_hand : goal.returns-clause-in_hand
returns-clause-in_hand c =
    let h = returns-clause-answered c in
    count_settled c.args.self.now.requests c.answer.new.self c.args.number c.answer.new.into.payload h.settled
