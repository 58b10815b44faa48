use Rattle.std.proofs.Common.{◌≡◌, ◌∙◌, ℕ, ◌&&◌, Bool, true, false, Option, Some, None, ap, refl, subst, sym}
use Rattle.std.specs.Prelude.{if◌then◌else◌}
use Rattle.std.proofs.lemmas.Bool.{false≢true}
use Rattle.bng_base.specs.declared.address.SessionNo.{SessionNo}
use Rattle.bng_sessions.specs.Sessions.{value_at}
use Rattle.bng_steps.specs.declared.session.Session.{Session}
use Rattle.bng_steps.specs.Cutting.{cut_of, is_cut}
use Rattle.bng_steps.specs.Placed.{ArePlaced}
use Rattle.bng_steps.specs.Indexed.{address_of}
use Rattle.bng_steps.specs.Link.{ended}
use Rattle.bng_steps.specs.Listing.{does_pass}
use Rattle.bng_steps.specs.TermRows.{whole}
use Rattle.bng_steps.specs.Serving.{KeepsLease}
use Rattle.bng_steps.specs.State.{State, is_way_of, lives_in, with_ended, with_session}
use Rattle.bng_steps.specs.Timers.{does_live}
use Rattle.bng_steps.proofs.Replacing.{ended_keeps, number_back, placed_with, put_back, vacant_back, whole_ended}
use Rattle.bng_steps.proofs.Serves.{live_stays, nothing_shared}
use Rattle.bng_steps.proofs.SumsKept.{closed_keeps, keeps_same}
use Rattle.bng_steps.proofs.cutting.cut_one.Given.{Over}
use Rattle.bng_steps.proofs.cutting.cut_one.Goals as goal
use Rattle.bng_steps.proofs.cutting.cut_one.Goals.{After-end}

second_of : (a b : Bool) → (a && b) ≡ true → b ≡ true
second_of true b e = e
second_of false b e = absurd (false≢true e)

-- a call that is cut lives
lives_where : (tunnel : ℕ) (o : Option Session) → does_pass (is_cut tunnel) o ≡ true → does_live o ≡ true
lives_where tunnel None e = absurd (false≢true e)
lives_where tunnel (Some x) e = second_of (is_way_of tunnel x.way) (lives_in x.service) e

-- one that is not cut stays as it is
uncut : (tunnel : ℕ) (s : State) (n : ℕ) (o : Option Session) → does_pass (is_cut tunnel) o ≡ false → s ≡ cut_of tunnel s n o
uncut tunnel s n None e = refl
uncut tunnel s n (Some x) e = sym (ap (λ (b : Bool). if b then with_ended s n x.lease 2 (ended x) else s) e)

pub take-session-requires : goal.take-session-requires
take-session-requires g c =
    let o = value_at c.args.served.now.sessions c.args.number.0 in
    live_stays o (lives_where c.args.tunnel.0 o (sym c.is_cut.ensures ∙ c.if-not-is_cut.false))

-- it keeps its number
same_number : (g : Over) (c : After-end g) → c.end.new.self.number.0 ≡ c.args.number.0
same_number g c = ap (λ (y : Session). y.number.0) c.end.ensures ∙ ap (λ (n : SessionNo). n.0) c.take-session.ensures.number

pub put-requires-clause-number : goal.put-requires-clause-number
put-requires-clause-number g c =
    let d = (goal.at.put-requires-clause-number g c).After-end in
    number_back c.args.served.now c.take-session.new.self c.args.number.0 c.end.new.self.number.0 c.take-session.ensures.after (same_number g d) c.take-session.ensures.of_shard

pub put-requires-clause-vacant : goal.put-requires-clause-vacant
put-requires-clause-vacant g c =
    let d = (goal.at.put-requires-clause-vacant g c).After-end in
    vacant_back c.args.served.now c.take-session.new.self c.args.number.0 c.end.new.self.number.0 c.take-session.ensures.after (same_number g d)

pub put-requires-clause-apart : goal.put-requires-clause-apart
put-requires-clause-apart g c unique = nothing_shared c.take-session.new.self.sessions c.end.new.self (ap address_of c.end.ensures)

pub put-requires-clause-leased : goal.put-requires-clause-leased
put-requires-clause-leased g c = subst (λ (y : Session). KeepsLease y.service y.lease) (sym c.end.ensures) (ended_keeps c.take-session.result.service c.take-session.result.lease c.take-session.ensures.leased)

-- the session stands there again, ended
next : (g : Over) (c : After-end g) (s : State) → s ≡ with_session c.take-session.new.self c.end.new.self.number.0 c.end.new.self → s ≡ with_session c.args.served.now c.args.number.0 (ended c.take-session.result)
next g c s put =
    put_back c.args.served.now c.take-session.new.self c.args.number.0 c.end.new.self.number.0 c.take-session.ensures.after (same_number g c) s c.end.new.self put
    ∙ ap (λ (y : Session). with_session c.args.served.now c.args.number.0 y) c.end.ensures

pub returns-then-not-is_cut-clause-cut : goal.returns-then-not-is_cut-clause-cut
returns-then-not-is_cut-clause-cut g c =
    let s = whole c.args.served.now c.args.terms.now in
    uncut c.args.tunnel.0 s c.args.number.0 (value_at s.sessions c.args.number.0) (sym c.is_cut.ensures ∙ c.if-not-is_cut.true)

pub returns-then-not-is_cut-clause-sums : goal.returns-then-not-is_cut-clause-sums
returns-then-not-is_cut-clause-sums g c = keeps_same c.args.terms.now

pub returns-clause-sums : goal.returns-clause-sums
returns-clause-sums g c = closed_keeps c.args.terms.now c.close.new.self c.lease.result (Some 2) c.close.ensures

pub returns-clause-cut : goal.returns-clause-cut
returns-clause-cut g c =
    let d = (goal.at.returns-clause-cut g c).After-end in
    let s = whole c.args.served.now c.args.terms.now in
    let n = c.args.number.0 in
    let x = c.take-session.result in
    let is : is_cut c.args.tunnel.0 x ≡ true = ap (does_pass (is_cut c.args.tunnel.0)) c.take-session.ensures.value ∙ sym c.is_cut.ensures ∙ c.if-not-is_cut.false in
    whole_ended c.args.served.now c.put.new.self n x (ended x) c.lease.result c.args.terms.now c.close.new.self c.lease.ensures 2 (next g d c.put.new.self c.put.ensures) c.close.ensures
    ∙ sym (ap (λ (b : Bool). if b then with_ended s n x.lease 2 (ended x) else s) is)
    ∙ ap (cut_of c.args.tunnel.0 s n) c.take-session.ensures.value

pub returns-clause-shard : goal.returns-clause-shard
returns-clause-shard g c =
    let d = (goal.at.returns-clause-shard g c).After-end in
    ap (λ (t : State). t.sessions.shard) (next g d c.put.new.self c.put.ensures)

pub returns-clause-placed : goal.returns-clause-placed
returns-clause-placed g c r all =
    let d = (goal.at.returns-clause-placed g c).After-end in
    let x = c.take-session.result in
    subst (λ (t : State). ArePlaced r t.sessions) (sym (next g d c.put.new.self c.put.ensures))
    (placed_with r c.args.served.now c.args.number.0 (ended x) (all c.args.number.0 x (sym c.take-session.ensures.value)) all)
