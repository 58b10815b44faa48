use Rattle.std.proofs.Common.{ℕ, ◌++◌, codes, string_bytes, ap, ◌∙◌}
use Rattle.bng_gate.specs.Exercise.{number_text}
use Rattle.bng_gate.proofs.Joining.{joined_two}
use Rattle.bng_gate.proofs.exercise.line.push_input.Goals as goal

pub returns : goal.returns
returns c =
    joined_two _ _ _ _ _
    (c.in_ok-push_number.ensures ∙ ap (λ (n : ℕ). string_bytes c.args.text.now ++ number_text (codes " in_packets=") n) c.from.ensures)
    (c.in_ok-push_number-2.ensures ∙ ap (λ (n : ℕ). string_bytes c.push_number.new.text ++ number_text (codes " in_octets=") n) c.from-2.ensures)
