use Rattle.std.proofs.Common.{◌≡◌, ℕ, [], ◌∷◌, ◌++◌, Option, Some, None, length, option_map, ap, subst, sym, ◌∙◌}
use Rattle.bng_base.specs.declared.address.SessionNo.{SessionNo}
use Rattle.bng_base.specs.declared.fate.Fate.TheVariants.{Forwarded}
use Rattle.bng_base.specs.declared.item.Charge.{Charge}
use Rattle.bng_base.specs.declared.outside.Role.TheVariants.{Core}
use Rattle.bng_forward.specs.Fates.{UpFate}
use Rattle.bng_steps.specs.declared.meters.Meters.{Meters}
use Rattle.bng_steps.specs.declared.session.Session.{Session}
use Rattle.bng_steps.specs.Deed.{out}
use Rattle.bng_steps.specs.Doing.{DoesWith}
use Rattle.bng_steps.specs.Frames.{HearsData, found_up}
use Rattle.bng_steps.specs.Metered.{meters_found, view_in}
use Rattle.bng_steps.specs.Passing.{with_passed}
use Rattle.bng_steps.specs.TermRows.{whole}
use Rattle.bng_sessions.specs.Sessions.{value_at}
use Rattle.bng_steps.specs.State.{State, session_at}
use Rattle.bng_steps.proofs.Carrying.{drops_up, goes_up}
use Rattle.bng_steps.proofs.Values.{none_some}
use Rattle.bng_steps.proofs.data.pass_up.Given.{Over}
use Rattle.bng_steps.proofs.data.pass_up.Goals as goal
use Rattle.bng_steps.proofs.data.pass_up.Goals.{After-up-fate}

-- what was found for the packet
found : (g : Over) (c : After-up-fate g) → c.found_for-found.result ≡ found_up (whole c.args.served.now c.args.terms.now) (session_at (whole c.args.served.now c.args.terms.now) c.args.number)
found g c = c.found_for-found.ensures ∙ ap (λ (o : Option Session). option_map (view_in c.args.served.now.meters) o) c.session_at-session.ensures

-- the session that was found stands
stands : (s : State) (o : Option SessionNo) (x : Session) → session_at s o ≡ Some x → (n : ℕ) × (value_at s.sessions n ≡ Some x)
stands s None x is = absurd (none_some x is)
stands s (Some n) x is = (n.0, is)

pub returns-in_default-clause-does : goal.returns-in_default-clause-does
returns-in_default-clause-does g c =
    let d = (goal.at.returns-in_default-clause-does g c).After-up-fate in
    let s = whole c.args.served.now c.args.terms.now in
    drops_up c.args.incoming.now.rules.now s c.args.incoming.now.at c.args.incoming.now.item.now c.args.outs.now.items c.requires.here c.args.incoming.now.moment (session_at s c.args.number) c.args.packet.now.payload c.found_for-found.result c.up-fate.result (found g d)
    c.up-fate.ensures.fate c.in_default.not-Forwarded

pub returns-clause-does : goal.returns-clause-does
returns-clause-does g c =
    let d = (goal.at.returns-clause-does g c).After-up-fate in
    let r = c.args.incoming.now.rules.now in
    let s = whole c.args.served.now c.args.terms.now in
    let info = c.args.packet.now.payload in
    let session = session_at s c.args.number in
    let x = c.in-Some.session.now in
    let l = c.in-Some-lease.lease in
    let on : c.up-fate.result ≡ Forwarded = c.in-Forwarded.is in
    let moment : ℕ = c.args.incoming.now.moment in
    let found_there = c.found_for-found.result in
    let (v, may, passed, spends) = c.up-fate.ensures.forwarded on in
    let up = subst (λ f. UpFate found_there moment info f) on c.up-fate.ensures.fate in
    let (n, at) = stands c.args.served.now c.args.number x (sym c.in-Some.ensures) in
    let next : c.note_passed.new.self ≡ with_passed c.args.served.now x.number moment (meters_found c.up-fate.new.found) =
    c.note_passed.ensures
    ∙ ap (λ (y : Charge). with_passed c.args.served.now y.term.session moment c.meters_found.result) c.charge_of-charge.ensures
    ∙ ap (λ (ms : Meters). with_passed c.args.served.now x.number moment ms) c.meters_found.ensures in
    subst (λ (t : State). DoesWith (λ e d. HearsData r s e session info d) 1 s (whole t c.args.terms.now) c.args.outs.now.items c.push_out.new.outs.items c.args.incoming.now.at c.args.incoming.now.moment c.args.incoming.now.item.now Forwarded) (sym next)
    (goes_up r s c.args.incoming.now.at c.args.incoming.now.item.now c.args.outs.now.items c.requires.here moment session info c.up-fate.new.packet.payload found_there c.up-fate.new.found x l (length c.payload.result.now) c.push_out.new.outs.items
    (found g d) (sym c.in-Some.ensures) (sym c.in-Some-lease.ensures) (c.requires.tied n x l at (sym c.in-Some-lease.ensures)) up
    (v, may, passed, spends) (ap length (sym c.payload.ensures.octets))
    (c.push_out.ensures.items ∙ ap (λ (y : Charge). c.args.outs.now.items ++ out c.args.incoming.now.at Core r.core_peer c.up-fate.new.packet.payload (Some y) ∷ []) c.charge_of-charge.ensures))
