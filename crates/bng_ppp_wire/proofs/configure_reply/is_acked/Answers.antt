use Rattle.std.proofs.Common.{◌≡◌, ◌↔◌, rules}
use Rattle.std.specs.Prelude.{IsTrue}
use Rattle.bng_base.specs.PppGrammar.{options_text}
use Rattle.bng_ppp_wire.specs.MadeOption.{all_made_of}
use Rattle.bng_ppp_wire.proofs.ReplyLaws.{acked_iff}
use Rattle.bng_ppp_wire.proofs.configure_reply.is_acked.Goals as goal

pub returns : goal.returns
returns c =
    let same = acked_iff (all_made_of c.args.asked.now) c.args.body.now c.put_made.ensures.again in
    let is_text : IsTrue c.eq.result ↔ (c.args.body.now ≡ options_text (all_made_of c.args.asked.now)) = search rules in
    (λ h. same.0 (is_text.0 h), λ are. is_text.1 (same.1 are))
