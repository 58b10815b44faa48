use Rattle.std.proofs.Common.{rules, ◌≡◌, ◌∷◌, ◌++◌, [], sym, ap, ◌∙◌, append_assoc}
use Rattle.bng_parts_tests.proofs.turn.sign.Goals as goal

pub leave-requires-clause-state : goal.leave-requires-clause-state
leave-requires-clause-state g c = let opened = c.args.turn.now.opening.entries.items in let seen = c.enter-roll.new.seat.seen in
    let more : c.push.new.self.items ≡ c.enter-roll.result.entries.items ++ (c.args.number, c.args.place) ∷ [] = search rules in
    let number : c.enter-roll.new.seat.number ≡ c.args.number = ap (λ z. z.number) c.enter-roll.ensures.seat ∙ c.requires.seat.2 in
    (c.args.place, more ∙ ((λ i. c.enter-roll.ensures.state i ++ (sym number i, c.args.place) ∷ []) ∙ append_assoc opened seen ((c.enter-roll.new.seat.number, c.args.place) ∷ [])))
