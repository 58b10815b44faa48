use Rattle.std.proofs.Common.{inl, inr, refl}
use Rattle.bng_grant.specs.Grants.{gift}
use Rattle.bng_verdict.specs.Verdicts.{said}
use Rattle.bng_steps.proofs.Wishing.{not_false}
use Rattle.bng_steps.proofs.wish.octets_wish.Goals as goal

pub returns-in_default : goal.returns-in_default
returns-in_default c = inl (c.in_default.ensures, refl)

pub returns : goal.returns
returns c = inr (inr (said c.in-Some.verdict, c.in-Some.ensures, not_false c.in-Some.verdict.yes c.if-not-verdict.false, gift c.in-Some-grant_of.grant, c.in-Some-grant_of.ensures.grant, c.wish_of.ensures))
