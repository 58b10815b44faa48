-- An End leaves fewer sessions, or none.
use Rattle.std.proofs.Common.{◌≡◌, ◌⊎◌, inl, inr, ⊎_elim, ℕ, zero, suc, ◌+◌, ◌≤◌, Bool, true, not, List, length, refl, sym, ap, subst, ◌∙◌, arith}
use Rattle.std.specs.List.{count_by}
use Rattle.std.proofs.lemmas.List.Sums.{count_by-le-length, length-filter}
use Rattle.bng_base.specs.declared.item.Entry.{Entry}
use Rattle.bng_base.specs.declared.item.ItemKind.{ItemKind}
use Rattle.bng_base.specs.declared.item.ItemKind.TheVariants.{End}
use Rattle.bng_base.specs.declared.item.OutRecord.{OutRecord}
use Rattle.bng_engine.specs.Lists.{one_if}
use Rattle.bng_sessions.specs.Listed.{values}
use Rattle.bng_steps.specs.declared.rules.Rules.{Rules}
use Rattle.bng_steps.specs.declared.session.Service.{Service}
use Rattle.bng_steps.specs.declared.session.Service.TheVariants.{Provisioned, Linked}
use Rattle.bng_steps.specs.declared.session.Session.{Session}
use Rattle.bng_steps.specs.State.{State, count_in, with_ended, with_tunnels, leaves, leaves_in, settled}
use Rattle.bng_steps.specs.Deed.{Deed}
use Rattle.bng_steps.specs.Link.{ended, ended_service, nas_request}
use Rattle.bng_steps.specs.Protocol.{ShardState, Handled, pppoe, sessions_of}
use Rattle.bng_steps.specs.Step.{Hears}
use Rattle.bng_steps.specs.Timers.{Ends, HearsEnd, NoneStays, at_once, does_stay}
use Rattle.bng_steps.proofs.Values.{numbered, sum_nothing, sum_by-replaced, values-kept}

abbrev stays : Session → Bool
stays x = not (leaves x)

-- how many have not ended
abbrev staying_in : State → ℕ
staying_in s = count_by stays (values s.sessions)

none_staying : (s : State) → NoneStays s → staying_in s ≡ 0
none_staying s h =
    sum_nothing (λ (x : Session). one_if (stays x)) (values s.sessions) (λ x c. let at = numbered s.sessions x c in ap one_if (ap does_stay (sym at.1) ∙ h at.0))

-- Ends ------------------------------------------------------------------------------------------------------------------

over : (v : Service) → leaves_in (ended_service v) ≡ true
over (Provisioned p) = refl
over (Linked m) = refl

pub ends_fewer : (n : ℕ) (r : Rules) (e : Entry) (s : State) (outs : List OutRecord) (s' : State) → Ends n r e s outs s' → (staying_in s' ≡ 0) ⊎ (staying_in s' + n ≡ staying_in s)
ends_fewer zero r e s outs s' h = inr (omega (arith, ap staying_in h.1))
ends_fewer (suc n) r e s outs s' (inl h) = inl (ap staying_in h.2 ∙ none_staying s h.0)
ends_fewer (suc n) r e s outs s' (inr (k, lowest, x, at, padt, rest, with_padt, more, are)) =
    let gone = sum_by-replaced (λ (y : Session). one_if (stays y)) s.sessions k x (ended x) at in
    let before : one_if (stays x) ≡ 1 = ap one_if (ap does_stay (sym at) ∙ lowest.stays) in
    let after : one_if (stays (ended x)) ≡ 0 = ap (λ (b : Bool). one_if (not b)) (over x.service) in
    ⊎_elim
    (λ (none : staying_in s' ≡ 0). inl none)
    (λ (fewer : staying_in s' + n ≡ staying_in (with_ended s k x.lease nas_request (ended x))). inr (omega (arith, fewer, gone, before, after)))
    (ends_fewer n r e (with_ended s k x.lease nas_request (ended x)) rest s' more)

-- those that ended leave when the round is settled
pub settled_count : (s : State) → count_in (settled s) ≡ staying_in s
settled_count s = ap (λ (xs : List Session). length xs) (values-kept stays s.sessions) ∙ length-filter stays (values s.sessions)

-- an End, in a state of which the sessions that ended then leave
pub end_leaves_fewer : (s : ShardState) (h : Handled) → pppoe.is_step s h → h.deed.entry.item.kind ≡ End
    → (sessions_of (pppoe.settled (pppoe.next s h)) ≡ 0) ⊎ (sessions_of (pppoe.settled (pppoe.next s h)) + at_once ≤ sessions_of s)
end_leaves_fewer s h is kind =
    let r = s.rules in
    let d = h.deed in
    let hears : HearsEnd r s.slots d.entry d = subst (λ (k : ItemKind). Hears k r s.slots h.limited d.entry d) kind is.step.hears in
    let next : d.next ≡ with_tunnels hears.1 hears.4 = ap (λ (x : Deed). x.next) hears.6 in
    let left : sessions_of (pppoe.settled (pppoe.next s h)) ≡ staying_in hears.1 = settled_count d.next ∙ ap staying_in next in
    let few = count_by-le-length stays (values s.slots.sessions) in
    ⊎_elim
    (λ (none : staying_in hears.1 ≡ 0). inl (left ∙ none))
    (λ (fewer : staying_in hears.1 + at_once ≡ staying_in s.slots). inr (omega (arith, left, fewer, few)))
    (ends_fewer at_once r d.entry s.slots hears.0 hears.1 hears.2)
