use Rattle.bng_shard.specs.declared.body.Body.{Body}
use Rattle.bng_shard.specs.Fits.{Fits, shown_of}
use Rattle.std.proofs.Common.{◌≡◌, option_map, ap, sym, ◌∙◌, subst}
use Rattle.bng_base.specs.declared.item.Entry.{Entry}
use Rattle.bng_engine.specs.Views.{Row, ShardView}
use Rattle.bng_sessions.specs.Sessions.{value_at}
use Rattle.bng_steps.specs.declared.session.Lease.{Lease}
use Rattle.bng_steps.specs.declared.session.Session.{Session}
use Rattle.bng_steps.specs.Interims.{row_told}
use Rattle.bng_steps.specs.Protocol.{ShardState}
use Rattle.bng_steps.proofs.RowsByNumber.{row_of_lease}
use Rattle.bng_steps.proofs.Values.{none_some, same_some}
use Rattle.bng_shard.proofs.shard.Shard.told_of.Goals as goal

pub unreachable-requires-in_default-told_of : goal.unreachable-requires-in_default-told_of
unreachable-requires-in_default-told_of c =
    let a : Body = c.deref-body.result.now in
    let was : Fits c.deref-body.result.now = subst Fits (sym c.deref-body.ensures) c.self.invariant in
    let x : Session = c.in-Some.session.now in
    let l : Lease = c.in-Some-lease.lease in
    let row = row_of_lease x l a.terms.rows c.are_rising.ensures (was.tied c.args.number.0 x l (sym c.in-Some.ensures) (sym c.lease.ensures ∙ c.in-Some-lease.is)) in
    none_some row.0 (sym (ap (option_map row_told) c.in_default-told_of.is) ∙ c.told_of.ensures.row ∙ row.1)

pub returns-clause-session : goal.returns-clause-session
returns-clause-session c =
    let a : Body = c.deref-body.result.now in
    let was : Fits c.deref-body.result.now = subst Fits (sym c.deref-body.ensures) c.self.invariant in
    let seen = ap shown_of c.deref-body.ensures ∙ c.self.view_is in
    let x : Session = c.in-Some.session.now in
    let l : Lease = c.in-Some-lease.lease in
    let row = row_of_lease x l a.terms.rows c.are_rising.ensures (was.tied c.args.number.0 x l (sym c.in-Some.ensures) (sym c.lease.ensures ∙ c.in-Some-lease.is)) in
    let told = same_some (row_told c.in-Some-told_of.told) row.0 (sym (ap (option_map row_told) c.in-Some-told_of.is) ∙ c.told_of.ensures.row ∙ row.1) in
    let meant = c.requires in
    let same : x ≡ meant.0 = same_some x meant.0 (c.in-Some.ensures ∙ ap (λ (v : ShardView ShardState Entry). value_at v.state.slots.sessions c.args.number.0) seen ∙ meant.1) in
    ap (λ (r : Row). r.key.term.session) told ∙ row.2 ∙ ap (λ (y : Session). y.number) same ∙ meant.2
