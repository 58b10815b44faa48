-- The text of a reply fits into a verdict.
use Rattle.std.proofs.Common.{◌≤◌, Bool, true, false, cond, List, [], ◌∷◌, length, Option, Some, arith}
use Rattle.std.specs.Prelude.{find}
use Rattle.std.specs.List.{AllByRecursion}
use Rattle.bng_radius_wire.specs.Attributes.{Field, Fits}
use Rattle.bng_verdict.specs.Verdicts.{is_reply_message, value_or_empty, reply_text}

found_fits : (b : Bool) (f : Field) (rest : Option Field) → Fits f → length (value_or_empty rest) ≤ 253 → length (value_or_empty (cond b (Some f) rest)) ≤ 253
found_fits true f rest fits others = omega (arith, fits)
found_fits false f rest fits others = others

pub text_fits : (fs : List Field) → AllByRecursion Fits fs → length (reply_text fs) ≤ 253
text_fits [] fit = omega arith
text_fits (f ∷ fs) fit = found_fits (is_reply_message f) f (find is_reply_message fs) fit.0 (text_fits fs fit.1)
