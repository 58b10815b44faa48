use Rattle.bng_shard.specs.declared.body.Body.{Body}
use Rattle.bng_shard.specs.Fits.{Fits, shown_of}
use Rattle.std.proofs.Common.{◌≡◌, ◌≢◌, ◌≤◌, sym, ap, subst, arith, not, true, ◌∙◌}
use Rattle.std.specs.List.{All, AllPairs}
use Rattle.bng_sessions.specs.Sessions.{Sessions}
use Rattle.bng_steps.specs.declared.session.Session.{Session}
use Rattle.bng_steps.specs.declared.terms.TermRow.{TermRow}
use Rattle.bng_steps.specs.Placed.{ArePlaced}
use Rattle.bng_steps.specs.TermRows.{AreTied, TermsView, tenures_in}
use Rattle.bng_steps.specs.State.{State, leaves}
use Rattle.bng_steps.proofs.LeavingFirst.{left_all, left_pairs, none_over}
use Rattle.bng_shard.proofs.Reaping.{ended_said, ended_so, ended_unused, placed_kept, reaped_shown, tied_kept, tied_left}
use Rattle.bng_steps.proofs.Values.{kept}
use Rattle.bng_shard.proofs.shard.Shard.take_ended.Goals as goal

pub invariant_of-self : goal.invariant_of-self
invariant_of-self c =
    let a : Body = c.deref_mut-body.result.now in
    let was : Fits c.deref_mut-body.result.now = subst Fits (sym c.deref_mut-body.ensures.value) c.self.invariant in
    let same = sym c.in_default.ensures.none.1 in
    let now = c.settle.ensures in
    let begun = sym (ap (λ (s : State). s.begun) now) in
    let stay = kept (λ (x : Session). not (leaves x)) a.served.sessions in
    let sessions : stay ≡ c.settle.new.self.sessions = sym (ap (λ (s : State). s.sessions) now) in
    record {
      numbered = subst (λ (t : TermsView). All (λ (r : TermRow). r.term.serial ≤ c.settle.new.self.begun) t.rows) same (subst (λ n. All (λ (r : TermRow). r.term.serial ≤ n) a.terms.rows) begun was.numbered);
      numbered_news = subst (λ (t : TermsView). All (λ (r : TermRow). r.term.serial ≤ c.settle.new.self.begun) t.news) same (subst (λ n. All (λ (r : TermRow). r.term.serial ≤ n) a.terms.news) begun was.numbered_news);
      apart = subst (λ (t : TermsView). AllPairs (λ (b d : TermRow). b.address ≢ d.address) t.rows) same was.apart;
      tied = subst (λ (t : TermsView). AreTied c.settle.new.self.sessions (tenures_in t.rows)) same
          (subst (λ (xs : Sessions Session). AreTied xs (tenures_in a.terms.rows)) sessions (tied_kept a.served.sessions (tenures_in a.terms.rows) was.tied));
      left = λ some. absurd (omega (arith, some));
      numbers = λ some. omega (arith, was.numbers some, begun);
      placed = subst (ArePlaced a.rules) sessions (placed_kept a.served.sessions a.rules was.placed);
      few_pools = was.few_pools;
      auth = was.auth;
      offers = was.offers;
      few_profiles = was.few_profiles;
      named = was.named;
      booked = was.booked;
      journal_room = omega (arith, was.journal_room);
      outs_room = λ some. absurd (omega (arith, some));
      terms_room = omega arith;
      changed_room = omega (arith, was.changed_room);
    }

pub returns-in_default-clause-none : goal.returns-in_default-clause-none
returns-in_default-clause-none c =
    let a : Body = c.deref_mut-body.result.now in
    let seen = ap shown_of c.deref_mut-body.ensures.value ∙ c.self.view_is in
    let none = c.in_default.ensures.none in
    rw (← seen) (
      none_over a.terms.rows none.0,
      reaped_shown a.rules a.served a.changed.items a.profiles.books a.allowance a.journal.items a.outs.items a.terms c.take_first_over.new.self c.settle.new.self a.room none.0 none.1 c.settle.ensures,
    )

pub invariant_of-self-2 : goal.invariant_of-self-2
invariant_of-self-2 c =
    let a : Body = c.deref_mut-body.result.now in
    let was : Fits c.deref_mut-body.result.now = subst Fits (sym c.deref_mut-body.ensures.value) c.self.invariant in
    let rows = c.take_first_over.new.self.rows in
    let r = c.in-Some.row in
    let one = c.in-Some.ensures.one in
    record {
      numbered = left_all a.terms.rows rows r true (λ (q : TermRow). q.term.serial ≤ a.served.begun) one.0 was.numbered;
      numbered_news = subst (All (λ (q : TermRow). q.term.serial ≤ a.served.begun)) (sym (ap (λ (v : TermsView). v.news) one.1)) was.numbered_news;
      apart = left_pairs a.terms.rows rows r true (λ (b d : TermRow). b.address ≢ d.address) one.0 was.apart;
      tied = tied_left a.served.sessions a.terms.rows rows r one.0 was.tied;
      left = λ some. absurd (omega (arith, some));
      numbers = was.numbers;
      placed = was.placed;
      few_pools = was.few_pools;
      auth = was.auth;
      offers = was.offers;
      few_profiles = was.few_profiles;
      named = was.named;
      booked = was.booked;
      journal_room = omega (arith, was.journal_room);
      outs_room = λ some. absurd (omega (arith, some));
      terms_room = omega arith;
      changed_room = omega (arith, was.changed_room);
    }

pub returns-clause-one : goal.returns-clause-one
returns-clause-one c =
    let a : Body = c.deref_mut-body.result.now in
    let seen = ap shown_of c.deref_mut-body.ensures.value ∙ c.self.view_is in
    let one = c.in-Some.ensures.one in
    rw (← seen) (
    ended_so a.rules a.served a.changed.items a.profiles.books a.allowance a.journal.items a.outs.items a.terms c.take_first_over.new.self a.room c.in-Some.row c.stop_from.result one.0 one.1 c.stop_from.ensures.one
    )

pub returns-clause-says : goal.returns-clause-says
returns-clause-says c =
    let a : Body = c.deref_mut-body.result.now in
    let seen = ap shown_of c.deref_mut-body.ensures.value ∙ c.self.view_is in
    rw (← seen) (ended_said a.terms.rows c.take_first_over.new.self.rows c.in-Some.row c.stop_from.result c.in-Some.ensures.one.0 c.stop_from.ensures.one c.stop_from.ensures.says)

pub returns-clause-unused : goal.returns-clause-unused
returns-clause-unused c =
    let a : Body = c.deref_mut-body.result.now in
    let was : Fits c.deref_mut-body.result.now = subst Fits (sym c.deref_mut-body.ensures.value) c.self.invariant in
    ended_unused a.terms.rows c.take_first_over.new.self.rows c.in-Some.row c.stop_from.result c.in-Some.ensures.one.0 was.apart c.stop_from.ensures.one
