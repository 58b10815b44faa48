use Rattle.std.proofs.Common.{rules, Err, inl, refl, sym, ap, subst, ◌∙◌}
use Rattle.bng_words.specs.Meaning.{meaning_of}
use Rattle.bng_words.specs.Words.{texts}
use Rattle.bng_gate.specs.declared.texts.Refusal.{Refusal}
use Rattle.bng_gate.specs.Run.{Told}
use Rattle.bng_gate.proofs.Commanding.{in_range, unread}
use Rattle.bng_gate.proofs.commands.obey.Goals as goal

pub carry_out-requires : goal.carry_out-requires
carry_out-requires g c = search (rules, in_range (texts c.args.words.now.items) (meaning_of c.in-Ok.command) c.in-Ok.ensures.command)

pub returns-in-Ok : goal.returns-in-Ok
returns-in-Ok g c = inl (meaning_of c.in-Ok.command, c.in-Ok.ensures.command, c.carry_out.ensures)

pub returns-in-Err : goal.returns-in-Err
returns-in-Err g c =
    unread (texts c.args.words.now.items) _ _ _ c.in-Err.error (λ is. c.read.ensures.refused.0 (c.in-Err.is ∙ ap Err is))
    (λ is none. let both = sym (c.in-Err.is ∙ ap Err is) ∙ c.read.ensures.refused.1 none in absurd cc)
    (subst (λ (r : Refusal). Told (g.X.Sink.told c.args.err.now) (g.X.Sink.told c.refuse.new.err) r c.refuse.result) c.refusal_of.ensures c.refuse.ensures)
    (record { files = refl; plant = refl; clock = refl; entropy = refl; trace = refl; out = refl })
