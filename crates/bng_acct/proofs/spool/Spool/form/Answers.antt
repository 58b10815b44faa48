use Rattle.std.proofs.Common.{◌≡◌, ℕ, ◌<◌, ◌≤◌, ◌⊎◌, None, Some, List, length, sym, ap, subst, ◌∙◌, arith, inl, inr, false, true}
use Rattle.std.specs.Prelude.{IsSome}
use Rattle.bng_base.specs.declared.circuit.TermId.{TermId}
use Rattle.bng_acct.specs.declared.held.Held.{Held}
use Rattle.bng_acct.specs.declared.sheet.Sheet.{Sheet}
use Rattle.bng_acct.specs.Roster.{of_term, Puts}
use Rattle.bng_acct.specs.Request.{AreClasses}
use Rattle.bng_acct.specs.Spool.{State, open_of, IsAdmitted, IsReady, IsLiveOrStopped, is_kept, stops_in, stop_count}
use Rattle.bng_acct.specs.declared.facts.StatusType.{StatusType}
use Rattle.bng_acct.specs.declared.facts.StatusType.TheVariants.{Start, Interim, Stop}
use Rattle.bng_acct.proofs.Marks.{Marks, formed, term-formed, kept-with, forms_marks, sum_le, stop_count_le}
use Rattle.bng_acct.proofs.Agreeing.{room_for_one, counts_more, stops_more, agree_more, puts_all, stopped-formed, ready_more, none_some}
use Rattle.bng_acct.proofs.spool.Spool.form.Goals as goal

not_there : (held : List Held) (t : TermId) (terms room : ℕ) → room ≡ terms → of_term t held ≡ None → IsSome (of_term t held) ⊎ (length held < terms) → length held < room
not_there held t terms room e none (inl there) = absurd (none_some (of_term t held) none there)
not_there held t terms room e none (inr more) = omega (arith, e, more)

small_stops : (s : StatusType) → stops_in s ≤ 1
small_stops Start = omega arith
small_stops Interim = omega arith
small_stops Stop = omega arith

pub add-number-requires-clause-room : goal.add-number-requires-clause-room
add-number-requires-clause-room c =
    let inv = c.self.invariant in
    let t = c.args.facts.now.term in
    let closed = ap (λ (s : State). open_of t c.args.status s.held) c.self.view_is ∙ c.requires.once in
    let admitted = subst (λ (s : State). IsAdmitted s t) (sym c.self.view_is) c.requires.admitted in
    let room = room_for_one t c.args.status c.self.inside.roster.held c.self.inside.rules.terms closed admitted (omega (arith, c.known_of-known.ensures.room, inv.room)) in
    omega (arith, room, inv.most, inv.counted)

pub put-requires : goal.put-requires
put-requires c = λ none.
    let inv = c.self.invariant in
    let t = c.args.facts.now.term in
    let here = ap (λ (h : Held). h.term) (rw (c.ended_by.ensures, c.known_of-known.ensures.held) at c.with_number.ensures) ∙ term-formed c.args.status c.add-number.result t c.self.inside.roster.held in
    let missing = ap (λ (u : TermId). of_term u c.self.inside.roster.held) (sym here) ∙ none in
    let admitted = subst (λ (s : State). IsAdmitted s t) (sym c.self.view_is) c.requires.admitted in
    not_there c.self.inside.roster.held t c.self.inside.rules.terms c.self.inside.roster.room inv.room missing admitted

pub overflow_add-self : goal.overflow_add-self
overflow_add-self c =
    let inv = c.self.invariant in
    omega (arith, inv.stops_are, sum_le stop_count 1 stop_count_le c.self.inside.roster.held, c.known_of-known.ensures.room, inv.room, inv.few, small_stops c.args.status, c.stops_in.ensures)

pub invariant_of-self : goal.invariant_of-self
invariant_of-self c =
    let inv = c.self.invariant in
    let t = c.args.facts.now.term in
    let status = c.args.status in
    let n = c.add-number.result in
    let old = c.self.inside.roster.held in
    let new = c.put.new.self.held in
    let closed = ap (λ (s : State). open_of t status s.held) c.self.view_is ∙ c.requires.once in
    let is_formed = rw (c.ended_by.ensures, c.known_of-known.ensures.held) at c.with_number.ensures in
    let puts : Puts old new (formed status n t old) = subst (Puts old new) is_formed c.put.ensures.puts in
    let kept = puts_all (λ x. is_kept x ≡ true) old new (formed status n t old) puts inv.agree.kept (kept-with status n _) in
    let stopped = puts_all IsLiveOrStopped old new (formed status n t old) puts inv.agree.stopped (stopped-formed status n t old inv.agree.stopped) in
    let marks = subst (λ (u : TermId). Marks old new u status (Some n)) (sym c.copied.ensures.term) (forms_marks old new t status n puts) in
    let sheet : Sheet = record { «record» = record { status = status; facts = c.copied.result; moment = c.args.moment }; handed = false } in
    let classes = c.requires.classes in
    let ready : IsReady sheet.record = record { classes = classes.0; are = subst (AreClasses classes.0) (sym c.copied.ensures.class) classes.1; began = omega (arith, c.requires.began, c.copied.ensures.began) } in
    record {
      room = c.put.ensures.room ∙ inv.room;
      few = inv.few;
      most = c.add-number.ensures.most ∙ inv.most;
      agree = agree_more c.self.inside.queue.sheets c.add-number.new.self.sheets old new sheet n inv.agree c.add-number.ensures.fresh c.add-number.ensures.sets
          (ap (λ (u : TermId). open_of u status old) c.copied.ensures.term ∙ closed) marks kept stopped puts.rises;
      counted = omega (arith, c.add-number.ensures.counts, inv.counted, counts_more old new t status n puts closed);
      ready = ready_more c.self.inside.queue.sheets c.add-number.new.self.sheets n sheet inv.ready c.add-number.ensures.sets ready;
      stops_are = omega (arith, inv.stops_are, stops_more old new t status n puts closed, c.stops_in.ensures);
    }
