use Rattle.std.proofs.Common.{inl, inr}
use Rattle.bng_ppp.proofs.LinkQuestions.{asked_is_open, open_was_asked, begins_unasked, accepted_by_verdict, only_frames_ask}
use Rattle.bng_ppp.proofs.laws.questions_open_by_asking.Goals as goal

pub returns : goal.returns
returns c = record {
  asked = λ r now random what old says new claim x. asked_is_open r now random what old says new x claim;
  opens = open_was_asked;
  begun = begins_unasked;
  same = λ r now random what old says new x e. elim (accepted_by_verdict r now random what old says new x e) [ inl before ↦ inr before | inr now_yes ↦ inl now_yes.1 ];
  timer = only_frames_ask;
}
