use Rattle.std.proofs.Common.{ℕ, ◌≡◌, refl, sym, ap, subst, ◌∙◌}
use Rattle.bng_ppp_wire.specs.View.{packet_of}
use Rattle.bng_auth.specs.Requests.{IsResponse}
use Rattle.bng_auth.specs.Questions.{ChapQuestion, verdict_of}
use Rattle.bng_auth.proofs.chap.Chap.on_frame.Goals as goal

pub returns-in_default : goal.returns-in_default
returns-in_default c =
    let id : c.self.inside.id ≡ c.args.self.now.id = ap (λ (q : ChapQuestion). q.id) c.self.view_is in
    let none = c.in_default.ensures in
    (refl, λ value name response. absurd (none.none value name (subst (λ (i : ℕ). IsResponse i (packet_of c.args.packet.now) value name) (sym id) response)))

pub returns-in-Some-verdict : goal.returns-in-Some-verdict
returns-in-Some-verdict c =
    let v = c.in-Some-verdict.verdict in
    let id : c.self.inside.id ≡ c.args.self.now.id = ap (λ (q : ChapQuestion). q.id) c.self.view_is in (
      refl,
      (c.in-Some.value.now, c.in-Some.name.now, subst (λ (i : ℕ). IsResponse i (packet_of c.args.packet.now) c.in-Some.value.now c.in-Some.name.now) id c.in-Some.ensures.found),
      (record { yes = v.yes; text = v.text.items }, sym (ap (λ (q : ChapQuestion). q.verdict) c.self.view_is) ∙ ap verdict_of c.in-Some-verdict.is, c.replied.ensures),
    )
