-- The session that a frame names, its circuit, what discovery made of it, and the state that a deed leaves.
use Rattle.std.proofs.Common.{◌≡◌, ℕ, Bool, true, false, cond, Option, Some, None, refl, sym, ap, ◌∙◌}
use Rattle.bng_base.specs.declared.address.Mac.{Mac}
use Rattle.bng_base.specs.declared.address.Peer.{Peer}
use Rattle.bng_base.specs.declared.address.SessionNo.{SessionNo}
use Rattle.bng_l2tp_call.specs.CallState.{CallState}
use Rattle.bng_steps.specs.LinkService.{LinkService}
use Rattle.bng_steps.specs.declared.session.Service.{Service}
use Rattle.bng_steps.specs.declared.session.Service.TheVariants.{Provisioned, Linked}
use Rattle.bng_steps.specs.declared.session.Session.{Session}
use Rattle.bng_steps.specs.declared.way.TunnelCall.{TunnelCall}
use Rattle.bng_steps.specs.declared.way.Way.{Way}
use Rattle.bng_steps.specs.declared.way.Way.TheVariants.{Port, Call}
use Rattle.bng_steps.specs.State.{circuit_in, circuit_of, is_call_of, is_on, lives_in, where_on, where_over}
use Rattle.bng_steps.specs.Calls.{turned}
use Rattle.bng_steps.specs.Deed.{Deed}
use Rattle.bng_steps.specs.Link.{way_after}

-- a session that was found on a circuit stands under its number
pub at_number : (port : ℕ) (mac : Mac) (found : Option Session) (x : Session) → where_on port mac found ≡ Some x → found ≡ Some x
at_number port mac None x is = is
at_number port mac (Some y) x is =
    elim (is_on port mac y) as (λ b. cond b (Some y) None ≡ Some x → Some y ≡ Some x) [ true ↦ λ e. e | false ↦ λ e. absurd (cc) ] is

-- and so does one that was found as a call of a tunnel
pub call_number : (peer : Peer) (tunnel : ℕ) (found : Option Session) (x : Session) → where_over peer tunnel found ≡ Some x → found ≡ Some x
call_number peer tunnel None x is = is
call_number peer tunnel (Some y) x is =
    elim (is_call_of peer tunnel y) as (λ b. cond b (Some y) None ≡ Some x → Some y ≡ Some x) [ true ↦ λ e. e | false ↦ λ e. absurd (cc) ] is

-- a session that lives has a link
pub living : (v : Service) → lives_in v ≡ true → (m : LinkService) × (v ≡ Linked m)
living (Provisioned over) e = absurd (cc)
living (Linked m) e = (m, refl)

-- the circuit of a session stays, whether it has ended on its way or not
pub way_stays : (b : Bool) (way : Way) (n : SessionNo) → circuit_in (way_after b way) n ≡ circuit_in way n
way_stays false way n = refl
way_stays true (Port number mac) n = refl
way_stays true (Call c) n = refl

-- and that of a call
pub call_stays : (x : Session) (c : TunnelCall) (call : CallState) → x.way ≡ Call c → circuit_of (turned x c call) ≡ circuit_of x
call_stays x c call is = ap (λ (w : Way). circuit_in w x.number) (sym is)

made_or : LinkService → Service → LinkService
made_or m (Provisioned over) = m
made_or m (Linked n) = n

-- what discovery made of a session is one
pub same_made : (v : Service) (m n : LinkService) → v ≡ Linked m → v ≡ Linked n → m ≡ n
unfolding made_or
same_made v m n e f = ap (made_or m) (sym e ∙ f)

pub next_of : (d f : Deed) → d ≡ f → d.next ≡ f.next
next_of d f e = ap (λ (x : Deed). x.next) e
