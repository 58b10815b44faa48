use Rattle.std.proofs.Common.{refl, sym, ap, ◌∙◌}
use Rattle.bng_auth.specs.Questions.{PapQuestion, verdict_of}
use Rattle.bng_auth.proofs.pap.Pap.on_frame.Goals as goal

pub returns-in-Some-verdict : goal.returns-in-Some-verdict
returns-in-Some-verdict c =
    let v = c.in-Some-verdict.verdict in (
      refl,
      (c.in-Some.name.now, c.in-Some.password.now, c.in-Some.ensures.found),
      (record { yes = v.yes; text = v.text.items }, sym (ap (λ (q : PapQuestion). q.verdict) c.self.view_is) ∙ ap verdict_of c.in-Some-verdict.is, c.replied.ensures),
    )
