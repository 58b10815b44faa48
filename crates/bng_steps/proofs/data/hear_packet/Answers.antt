use Rattle.std.proofs.Common.{◌≡◌, ℕ, List, [], ◌∷◌, ◌++◌, Option, Some, ap, subst, sym, ◌∙◌}
use Rattle.std.specs.List.{list_any}
use Rattle.bng_base.specs.Packet.{Packet}
use Rattle.bng_base.specs.declared.fate.Fate.{Fate}
use Rattle.bng_base.specs.declared.fate.Fate.TheVariants.{Forwarded}
use Rattle.bng_base.specs.declared.item.Charge.{Charge}
use Rattle.bng_forward.specs.Fates.{DownFate}
use Rattle.bng_forward.specs.Packets.{IsPassedOn}
use Rattle.bng_steps.specs.Deed.{out}
use Rattle.bng_steps.specs.Doing.{DoesWith}
use Rattle.bng_steps.specs.Frames.{HearsPacket, found_among, found_down}
use Rattle.bng_steps.specs.Metered.{meters_in}
use Rattle.bng_steps.specs.Passing.{with_passed}
use Rattle.bng_steps.specs.TermRows.{tenures_in, whole}
use Rattle.bng_steps.specs.State.{State, leases}
use Rattle.bng_steps.specs.Tenures.{has_kept}
use Rattle.bng_steps.specs.declared.meters.Meters.{Meters}
use Rattle.bng_steps.specs.declared.session.Session.{Session}
use Rattle.bng_steps.proofs.Carrying.{drops_down, goes_down}
use Rattle.bng_steps.proofs.Values.{found_at}
use Rattle.bng_steps.proofs.data.hear_packet.Given.{Over}
use Rattle.bng_steps.proofs.data.hear_packet.Goals as goal
use Rattle.bng_steps.proofs.data.hear_packet.Goals.{After-down-fate}

-- the view of the holder
found : (g : Over) (c : After-down-fate g) → c.holder_view-view.result ≡ found_down (whole c.args.served.now c.args.terms.now) c.args.header.dst
found g c = c.holder_view-view.ensures ∙ ap (λ (o : Option Session). found_among c.args.served.now.meters o (list_any (has_kept c.args.header.dst) (tenures_in c.args.terms.now.rows)) c.args.header.dst) c.holder_of-holder.ensures

fated : (g : Over) (c : After-down-fate g) → DownFate (found_down (whole c.args.served.now c.args.terms.now)) c.args.incoming.now.moment c.args.incoming.now.item.now.frame.payload c.down-fate.result
fated g c =
    subst (λ (octets : List ℕ). DownFate (found_down (whole c.args.served.now c.args.terms.now)) c.args.incoming.now.moment octets c.down-fate.result) (ap (λ (f : Packet). f.payload) c.copy_from.ensures) (c.down-fate.ensures.fate (found_down (whole c.args.served.now c.args.terms.now)) (sym (found g c)))

pub put_on_way-role-requires-clause-placed : goal.put_on_way-role-requires-clause-placed
put_on_way-role-requires-clause-placed g c =
    let x = c.in-Some.session.now in
    let (n, at, passes) = found_at (leases c.args.header.dst) (whole c.args.served.now c.args.terms.now).sessions x (sym c.in-Some.ensures) in
    c.requires.placed n x at

pub returns-in_default-clause-does : goal.returns-in_default-clause-does
returns-in_default-clause-does g c =
    drops_down c.args.incoming.now.rules.now (whole c.args.served.now c.args.terms.now) c.args.incoming.now.at c.args.incoming.now.item.now c.args.outs.now.items c.requires.here c.args.incoming.now.moment c.args.header c.down-fate.result (fated g (goal.at.returns-in_default-clause-does g c).After-down-fate) c.in_default.not-Forwarded

pub returns-clause-does : goal.returns-clause-does
returns-clause-does g c =
    let d = (goal.at.returns-clause-does g c).After-down-fate in
    let r = c.args.incoming.now.rules.now in
    let s = whole c.args.served.now c.args.terms.now in
    let v = c.args.header in
    let on : c.down-fate.result ≡ Forwarded = c.in-Forwarded.is in
    let x = c.in-Some.session.now in
    let (role, to) = c.put_on_way-role.result in
    let octets = c.put_on_way-role.new.packet.payload in
    let l = c.in-Some-lease.lease in
    let (n, at, passes) = found_at (leases c.args.header.dst) c.args.served.now.sessions x (sym c.in-Some.ensures) in
    let moment : ℕ = c.args.incoming.now.moment in
    let (may, passed, spends) = c.down-fate.ensures.forwarded on in
    let next : c.note_passed.new.self ≡ with_passed c.args.served.now x.number moment (meters_in c.down-fate.new.holder) =
    c.note_passed.ensures
    ∙ ap (λ (y : Charge). with_passed c.args.served.now y.term.session moment c.from_view.result) c.charge_of-charge.ensures
    ∙ ap (λ (ms : Meters). with_passed c.args.served.now x.number moment ms) c.from_view.ensures in
    subst (λ (t : State). DoesWith (λ e d. HearsPacket r s e v d) 1 s (whole t c.args.terms.now) c.args.outs.now.items c.push_out.new.outs.items c.args.incoming.now.at c.args.incoming.now.moment c.args.incoming.now.item.now Forwarded) (sym next)
    (goes_down r s c.args.incoming.now.at c.args.incoming.now.item.now c.args.outs.now.items c.requires.here moment v c.down-fate.new.packet.payload octets role to x l c.holder_view-view.result c.down-fate.new.holder
    c.push_out.new.outs.items (found g d) spends (sym c.in-Some.ensures) (sym c.in-Some-lease.ensures) (c.requires.tied n x l at (sym c.in-Some-lease.ensures)) c.put_on_way-role.ensures
    (subst (λ (f : Fate). DownFate (found_down s) moment c.args.incoming.now.item.now.frame.payload f) on (fated g d)) (subst (λ (octets : List ℕ). IsPassedOn v octets c.down-fate.new.packet.payload) (ap (λ (f : Packet). f.payload) c.copy_from.ensures) passed)
    (c.push_out.ensures.items ∙ ap (λ (y : Charge). c.args.outs.now.items ++ out c.args.incoming.now.at role to octets (Some y) ∷ []) c.charge_of-charge.ensures))
