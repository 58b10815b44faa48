-- A run is its opening, its turns and its report.
use Rattle.std.proofs.Common.{◌≡◌, ◌<◌, ◌≤◌, inl, inr, ℕ, Bool, false, ◌||◌, List, [], ◌∷◌, ◌++◌, length, length-append, refl, sym, ap, subst, ◌∙◌, arith}
use Rattle.bng_base.specs.Causes.{Rose}
use Rattle.bng_base.specs.Told.{TraceTold, SinkTold}
use Rattle.bng_base.specs.Stretch.{Outside, Stretch, Extends}
use Rattle.bng_base.proofs.StretchLaws.{joined_none, extends_more}
use Rattle.bng_base.proofs.ToldLaws.{rose_late}
use Rattle.bng_config.specs.declared.config.Config.{Config}
use Rattle.bng_desk.specs.declared.desk.DeskState.TheVariants.{Starved}
use Rattle.bng_desk.specs.Model.{Desk, state_of}
use Rattle.bng_gate.specs.declared.texts.Refusal.{Refusal}
use Rattle.bng_gate.specs.declared.texts.Refusal.TheVariants.{Usage, Refused, CannotOpen, OutOfMemory, TraceFailed, OutputFailed}
use Rattle.bng_gate.specs.Run.{turns_most, Begins, Completes, CompletesTo, FailsToNote, Reports, FailsToReport, IsUnreported, Runs, IsUnserved}
use Rattle.bng_gate.specs.Serving.{Made, run_stretch, ending_stretch, EndsServing, MakesTurns, FailsTurning}
use Rattle.bng_gate.proofs.States.{ended_of}

pub both_noted : (a b : Bool) → a ≡ false → b ≡ false → (a || b) ≡ false
both_noted a b x y = cc

-- What was made of an opened desk.
module _ (config : Config) (most : ℕ) (few : most ≤ turns_most) (seed : List ℕ) (old between new : Outside) (opening last : Desk) (begins : Begins config most seed old.plant between.plant old.clock between.clock opening) (untraced : between.trace ≡ old.trace) where
  all_turns : opening.rounds ≡ most
  all_turns = ap (λ (d : Desk). d.rounds) begins.is_opened.desk

  pub ends_all : (turns : List Made) → EndsServing opening.rounds turns → EndsServing most turns
  ends_all turns ends = subst (λ (n : ℕ). EndsServing n turns) all_turns ends

  pub few_turns : (turns : List Made) → length turns ≤ opening.rounds → length turns ≤ turns_most
  few_turns turns within = omega (arith, within, all_turns, few)

  abbrev pub completes_of : MakesTurns opening last between new → Completes config most seed old new
  completes_of made = record {
    course = record {
      opening_outside = between;
      opening = opening;
      begins = begins;
      untraced = untraced;
      turns = made.serves.turns;
      over = made.over;
      run = made.serves.run;
      endings = made.finishes.ends;
      last = last;
      ending = made.finishes.run;
      few_turns = few_turns made.serves.turns made.serves.ends.within;
      few_endings = made.finishes.within;
      told = extends_more between made.between new (run_stretch made.serves.turns) (ending_stretch made.finishes.ends) made.serves.told made.finishes.told;
    };
    whole = record {
      ends = ends_all made.serves.turns made.serves.ends;
      over = made.finishes.over;
      noted = both_noted (run_stretch made.serves.turns).unnoted (ending_stretch made.finishes.ends).unnoted made.serves.noted made.finishes.noted;
    };
  }

  pub completes_to : MakesTurns opening last between new → CompletesTo config most seed old new last
  completes_to made = record { completes = completes_of made; last = refl }

  rose_here : Rose between.trace.faults new.trace.faults → Rose old.trace.faults new.trace.faults
  rose_here rose = subst (λ (t : TraceTold). Rose t.faults new.trace.faults) untraced rose

  -- a round was not noted
  pub fails_to_note : FailsTurning opening last between new → FailsToNote config most seed old new
  fails_to_note (inl f) =
      let turns = f.turns ++ f.fault ∷ [] in
      record {
        course = record {
          opening_outside = between;
          opening = opening;
          begins = begins;
          untraced = untraced;
          turns = turns;
          over = last;
          run = f.run;
          endings = [];
          last = last;
          ending = refl;
          few_turns = few_turns turns (omega (arith, f.within, length-append f.turns (f.fault ∷ [])));
          few_endings = omega arith;
          told = subst (λ (s : Stretch). Extends between new s) (sym (joined_none (run_stretch turns))) f.told;
        };
        breaks = inl (record {
          before = f.turns;
          fault = f.fault;
          are = refl;
          none = refl;
          noted = f.noted;
          unnoted = f.unnoted;
          within = subst (λ (n : ℕ). length f.turns < n) all_turns f.within;
          none_before = f.none_before;
        });
        rose = rose_here f.rose;
      }
  fails_to_note (inr f) =
      let endings = f.fails.ends ++ f.fails.fault ∷ [] in
      record {
        course = record {
          opening_outside = between;
          opening = opening;
          begins = begins;
          untraced = untraced;
          turns = f.serves.turns;
          over = f.over;
          run = f.serves.run;
          endings = endings;
          last = last;
          ending = f.fails.run;
          few_turns = few_turns f.serves.turns f.serves.ends.within;
          few_endings = omega (arith, f.fails.within, length-append f.fails.ends (f.fails.fault ∷ []));
          told = extends_more between f.between new (run_stretch f.serves.turns) (ending_stretch endings) f.serves.told f.fails.told;
        };
        breaks = inr (record {
          ends = ends_all f.serves.turns f.serves.ends;
          served = f.serves.noted;
          before = f.fails.ends;
          fault = f.fails.fault;
          are = refl;
          noted = f.fails.noted;
          unnoted = f.fails.unnoted;
        });
        rose = rose_here (rose_late between.trace.faults f.between.trace.faults new.trace.faults f.serves.told.cause.later f.fails.rose);
      }

-- What was told of a run whose turns came to their end.
module _ (config : Config) (most : ℕ) (seed : List ℕ) (old new : Outside) (d : Desk) (c : CompletesTo config most seed old new d) (out out' : SinkTold) where
  pub unstarved : ¬ (state_of d ≡ Starved) → ¬ (state_of c.completes.course.last ≡ Starved)
  unstarved none is = none (ap (λ (x : Desk). state_of x) (sym c.last) ∙ is)

  abbrev pub runs_of : Reports d out out' → Runs config most seed old new out out'
  runs_of reports = record {
    completes = c.completes;
    ended = ended_of (state_of c.completes.course.last) c.completes.whole.over (unstarved reports.unstarved);
    reports = subst (λ (x : Desk). Reports x out out') (sym c.last) reports;
  }

  -- the report was not written
  pub unprinted_of : (refusal : Refusal) → IsUnreported d out out' refusal → IsUnserved config most seed old new out out' refusal
  unprinted_of Usage w = absurd w
  unprinted_of (Refused fault) w = absurd w
  unprinted_of (CannotOpen what) w = absurd w
  unprinted_of OutOfMemory w = (inr c.completes, w)
  unprinted_of TraceFailed w = absurd w
  unprinted_of OutputFailed w = record {
    completes = c.completes;
    ended = ended_of (state_of c.completes.course.last) c.completes.whole.over (unstarved w.unstarved);
    fails = subst (λ (x : Desk). FailsToReport x out out') (sym c.last) w;
  }
