use Rattle.std.proofs.Common.{◌≡◌, ℕ, List, [], ◌∷◌, Option, Some, slice_get, inr, take, sym, ap, subst, ◌∙◌, arith}
use Rattle.std.proofs.lemmas.List.{take_all}
use Rattle.std.proofs.lemmas.List.Elements.{All-head}
use Rattle.std.specs.Option.{option_and_then, option_map}
use Rattle.bng_acct.specs.declared.facts.StatusType.TheVariants.{Start}
use Rattle.bng_acct.specs.declared.held.Held.{Held}
use Rattle.bng_acct.specs.Spool.{number_of}
use Rattle.bng_engine.specs.Terms.{Key}
use Rattle.bng_steps.specs.declared.term.LiveTerm.{LiveTerm}
use Rattle.bng_steps.specs.Protocol.{key_of}
use Rattle.bng_desk.specs.Taking.{BooksStarts}
use Rattle.bng_desk.proofs.Beginning.{IsNew, MayBegin, next_may}
use Rattle.bng_desk.proofs.Booking.{starts_more, starts_none}
use Rattle.bng_desk.proofs.Parts.{StandsAt, found_at, found_none}
use Rattle.bng_desk.proofs.ShardKeys.{keys_of}
use Rattle.bng_desk.proofs.TermsLeft.{says_began, says_classes}
use Rattle.bng_desk.proofs.starts.start_all.Goals as goal
use Rattle.bng_desk.proofs.starts.start_all.Goals.{In-Some}

-- the key that is found
there : (keys : List Key) (place : ℕ) (r : Option LiveTerm) (t : LiveTerm) → option_map key_of r ≡ slice_get keys place → r ≡ Some t → StandsAt keys place (key_of t)
there keys place r t e is = found_at keys place (key_of t) (sym e ∙ ap (option_map key_of) is)

module _ (c : In-Some) where
  stands : StandsAt (keys_of c.args.shard.now) c.loop-term.place (key_of c.in-Some.term)
  stands = there (keys_of c.args.shard.now) c.loop-term.place c.term.result c.in-Some.term (c.term.ensures.keys ∙ ap (λ (ks : List Key). slice_get ks c.loop-term.place) c.requires.rows) c.in-Some.is

  -- the next may begin
  may : MayBegin (key_of c.in-Some.term ∷ []) c.loop-term.accounts.billing
  may = next_may c.args.shard.now.state.slots.terms c.args.moment c.args.wall c.loop-term.place (keys_of c.args.shard.now) (key_of c.in-Some.term) c.args.accounts.now c.loop-term.accounts stands
      (record { room = c.requires.room; new = c.requires.fresh; apart = c.requires.apart }) c.loop-term.invariant.booked

  nothing : IsNew c.loop-term.accounts.billing.spool.held (key_of c.in-Some.term)
  nothing = All-head (IsNew c.loop-term.accounts.billing.spool.held) (key_of c.in-Some.term) [] may.new

pub loop-term-init : goal.loop-term-init
loop-term-init c = record { booked = starts_none c.args.shard.now.state.slots.terms c.args.moment c.args.wall c.args.accounts.now; within = omega arith }

pub start-requires-clause-classes : goal.start-requires-clause-classes
start-requires-clause-classes c =
    let t = c.in-Some.term in
    says_classes c.args.moment c.args.shard.now.state.slots c.requires.terms t.user.items t.class.items t.began (key_of t) c.in-Some.ensures.says

pub start-requires-clause-began : goal.start-requires-clause-began
start-requires-clause-began c =
    let t = c.in-Some.term in
    says_began c.args.moment c.args.shard.now.state.slots c.requires.terms t.user.items t.class.items t.began (key_of t) c.in-Some.ensures.says

pub start-requires-clause-admitted : goal.start-requires-clause-admitted
start-requires-clause-admitted c = let b = (goal.at.start-requires-clause-admitted c).In-Some in inr (omega (arith, (may b).room))

pub start-requires-clause-once : goal.start-requires-clause-once
start-requires-clause-once c = ap (λ (o : Option Held). option_and_then (number_of Start) o) (nothing (goal.at.start-requires-clause-once c).In-Some)

pub loop-term-smaller : goal.loop-term-smaller
loop-term-smaller c = omega (arith, (stands (goal.at.loop-term-smaller c).In-Some).within)

pub loop-term-preserved : goal.loop-term-preserved
loop-term-preserved c =
    let v = c.args.shard.now in
    let terms = v.state.slots.terms in
    let i = c.loop-term.place in
    let t = c.in-Some.term in
    let at = stands (goal.at.loop-term-preserved c).In-Some in
    record {
      booked = subst (λ (ks : List Key). BooksStarts terms c.args.moment c.args.wall ks c.args.accounts.now c.start.new.self) (sym at.next)
          (starts_more terms c.args.moment c.args.wall (take i (keys_of v)) (key_of t ∷ []) c.args.accounts.now c.loop-term.accounts c.start.new.self c.loop-term.invariant.booked (c.start.ensures terms c.in-Some.ensures.says));
      within = omega (arith, at.within);
    }

pub returns : goal.returns
returns c =
    let v = c.args.shard.now in
    let past = found_none (keys_of v) c.loop-term.place (sym (c.term.ensures.keys ∙ ap (λ (ks : List Key). slice_get ks c.loop-term.place) c.requires.rows) ∙ ap (option_map key_of) c.in_default.is) in
    subst (λ (ks : List Key). BooksStarts v.state.slots.terms c.args.moment c.args.wall ks c.args.accounts.now c.loop-term.accounts) (take_all c.loop-term.place (keys_of v) past) c.loop-term.invariant.booked
