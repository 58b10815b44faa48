use Rattle.std.proofs.Common.{◌≡◌, take}
use Rattle.std.specs.Prelude.{fold}
use Rattle.bng_ppp_wire.specs.View.{options_of}
use Rattle.bng_lcp.specs.ConfigureReply.{changed_by}
use Rattle.bng_lcp.proofs.ask.LcpAsk.after_nak.Given as goal

abbrev pub invariant-loop-option : goal.invariant-loop-option
invariant-loop-option l = l.wanted ≡ fold (changed_by l.self l.magic) l.self.wanted (options_of (take l.option-index l.options))
