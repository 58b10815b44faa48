use Rattle.std.proofs.Common.{refl}
use Rattle.bng_spell.proofs.FieldReading.{long_fits}
use Rattle.bng_spell.proofs.Openings.{no_opening, no_head, no_configuration}
use Rattle.bng_spell.proofs.opening.read_opening.Goals as goal

pub returns-in_default-clause-none : goal.returns-in_default-clause-none
returns-in_default-clause-none c = no_opening c.args.text.now c.in_default.ensures.none

pub returns-in_default-read-clause-none : goal.returns-in_default-read-clause-none
returns-in_default-read-clause-none c =
    no_head c.args.text.now c.in-Some.at c.in-Some.ensures.found
    (λ o rest f e.
    c.in_default-read.ensures.none (record { 0 = record { 0 = o.now } }, (record { 0 = record { 0 = o.wall } }, record { 0 = record { 0 = o.seed } })) rest
    ((long_fits o.now f.now, refl), ((long_fits o.wall f.wall, refl), ((f.seed, f.thirty_two), refl))) e)

pub returns-in_default-2-clause-none : goal.returns-in_default-2-clause-none
returns-in_default-2-clause-none c =
    let x = c.in-Some-read.fields in
    let found = c.in-Some-read.ensures.found in
    no_configuration c.args.text.now c.in-Some.at c.in-Some-read.at x.0.0.0 x.1.0.0.0 x.1.1.0.0 found.0.0.0.1 found.0.1.0.0.1 found.0.1.1.0.0 c.in-Some.ensures.found found.1
    (rw c.in_default-2.is at c.in_ok-configuration.ensures.none)
