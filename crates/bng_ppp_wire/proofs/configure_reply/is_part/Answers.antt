use Rattle.std.proofs.Common.{◌≡◌, ◌↔◌, rules}
use Rattle.std.specs.Prelude.{IsTrue}
use Rattle.bng_base.specs.PppGrammar.{options_text}
use Rattle.bng_ppp_wire.specs.View.{options_of}
use Rattle.bng_ppp_wire.specs.MadeOption.{all_made_of}
use Rattle.bng_ppp_wire.specs.ConfigureReply.{named_of}
use Rattle.bng_ppp_wire.proofs.ReplyLaws.{part_iff}
use Rattle.bng_ppp_wire.proofs.configure_reply.is_part.Goals as goal

pub returns : goal.returns
returns c =
    let asked = all_made_of c.args.asked.now in
    let os = options_of c.args.options.now in
    let same = part_iff asked os c.args.body.now c.put_named.ensures.again c.requires.lists in
    let is_text : IsTrue c.eq.result ↔ (c.args.body.now ≡ options_text (named_of asked os)) = search rules in
    (λ h. same.0 (is_text.0 h), λ e. is_text.1 (same.1 e))
