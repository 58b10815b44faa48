-- A step of a whole link keeps its phases.
use Rattle.std.proofs.Common.{◌≡◌, inl, inr, ℕ, ◌+◌, Bool, true, false, ◌||◌, ◌&&◌, not, List, Option, Some, None, is_some, refl, sym, ap, subst, ◌∙◌}
use Rattle.bng_auth.specs.declared.step.AuthStep.{AuthStep}
use Rattle.bng_auth.specs.declared.step.AuthStep.TheVariants.{Ask, Again, Refuse, Ignore}
use Rattle.bng_auth.specs.Questions.{PapQuestion, ChapQuestion, Finding, PapTakes, ChapTakes, is_yes, kept}
use Rattle.bng_auth.specs.Replying.{Said as Reply}
use Rattle.bng_automaton.specs.declared.event.Event.{Event}
use Rattle.bng_automaton.specs.declared.event.Event.TheVariants.{Down, Close}
use Rattle.bng_automaton.specs.declared.state.State.{State}
use Rattle.bng_automaton.specs.declared.state.State.TheVariants.{Initial, Starting, Closed, Stopped, Closing, Stopping, ReqSent, AckRcvd, AckSent, Opened}
use Rattle.bng_base.specs.declared.address.Ip4.{Ip4}
use Rattle.bng_base.specs.declared.settings.AuthKind.{AuthKind}
use Rattle.bng_base.specs.declared.settings.AuthKind.TheVariants as kind
use Rattle.bng_base.specs.PppGrammar.{ControlPacket}
use Rattle.bng_ppp_wire.specs.declared.protocol.TheConstants as protocol
use Rattle.bng_ppp_wire.specs.View.{packet_of}
use Rattle.std.specs.Prelude.{◌==◌}
use Rattle.bng_ppp.specs.declared.authentication.Authentication.{Authentication}
use Rattle.bng_ppp.specs.declared.authentication.Authentication.TheVariants as auth
use Rattle.bng_ppp.specs.declared.rules.LcpInput.{LcpInput}
use Rattle.bng_ppp.specs.declared.rules.LcpInput.TheVariants as input
use Rattle.bng_ppp.specs.declared.rules.LinkRules.{LinkRules}
use Rattle.bng_ppp.specs.declared.link_frame.FrameOwner.{FrameOwner}
use Rattle.bng_ppp.specs.declared.link_frame.FrameOwner.TheVariants as way
use Rattle.bng_ppp.specs.declared.input.Input.{Input}
use Rattle.bng_ppp.specs.declared.input.Input.TheVariants as told
use Rattle.bng_ppp.specs.Authentication.{AuthTakes, AuthSettles, reply_sent}
use Rattle.bng_ppp.specs.IpcpAutomaton.{IpcpWhy}
use Rattle.bng_ppp.specs.LcpState.{is_down, is_opened, LcpState}
use Rattle.bng_ppp.specs.Phases.{is_begun, KeepsPhases}
use Rattle.bng_ppp.specs.Layers.{Turn, begun, leaves, ipcp_of, IpcpMoves, Above, authenticates, silenced, LcpStep, LcpSteps, LcpCloses, lcp_told, lcp_hears, with_auth, with_auth_until}
use Rattle.bng_ppp.specs.LinkFrame.{IsWay, HearsAuth, AuthDoes, HearsOctets, HearsWay}
use Rattle.bng_ppp.specs.Verdict.{Refuses, BeginsFor, Accepts, Settles}
use Rattle.bng_ppp.specs.LinkTimers.{AuthReminds, AboveReminds}
use Rattle.bng_ppp.specs.LinkRelation.{LinkGoes, LinkSaid, LinkSteps, after_turn}
use Rattle.bng_ppp.specs.LinkState.{LinkState, is_open, is_accepted, passes, is_for_ipcp}
use Rattle.bng_ppp.specs.Said.{Said, quiet}
use Rattle.bng_ppp.proofs.PhaseLaws.{comes, is_up, follows_open, ipcp_stays_down, ipcp_goes_down}
use Rattle.bng_ppp.proofs.LcpPhases.{TellsOpened, steps_open, hears_open}

-- Tests -----------------------------------------------------------------------------------------------------------------

pub not_both : {X : Type 0} (b : Bool) → b ≡ true → b ≡ false → X
not_both b e f = absurd cc

pub first_true : (a b : Bool) → (a && b) ≡ true → a ≡ true
first_true true b e = refl
first_true false b e = e

pub second_true : (a b : Bool) → (a && b) ≡ true → b ≡ true
second_true true b e = e
second_true false b e = absurd cc

first_false : (a b : Bool) → (a || b) ≡ false → a ≡ false
first_false false b e = refl
first_false true b e = e

not_true : (b : Bool) → not b ≡ true → b ≡ false
not_true false e = refl
not_true true e = sym e

came_is : (was is : Bool) → true ≡ comes was is → (is ≡ true) × (was ≡ false)
came_is false true e = (refl, refl)
came_is true true e = absurd cc
came_is false false e = absurd cc
came_is true false e = absurd cc

left_is : (was is : Bool) → true ≡ (was && not is) → (was ≡ true) × (is ≡ false)
left_is true false e = (refl, refl)
left_is true true e = absurd cc
left_is false true e = absurd cc
left_is false false e = absurd cc

same_is : (was is : Bool) → false ≡ comes was is → false ≡ (was && not is) → was ≡ is
same_is true true e f = refl
same_is false false e f = refl
same_is true false e f = absurd cc
same_is false true e f = absurd cc

either : {X : Type 0} (b : Bool) → (b ≡ true → X) → (b ≡ false → X) → X
either true here there = here refl
either false here there = there refl

-- Authentication --------------------------------------------------------------------------------------------------------

pub accepted_begun : (a : Authentication) → is_accepted a ≡ true → is_begun a ≡ true
accepted_begun auth.Idle e = e
accepted_begun (auth.Pap q) e = refl
accepted_begun (auth.Chap q sent) e = refl

pub open_unsettled : (a : Authentication) → is_open a ≡ true → is_accepted a ≡ false
open_unsettled auth.Idle e = refl
open_unsettled (auth.Pap q) e = by_verdict q.verdict (not_true _ (second_true _ _ e))
  where
    by_verdict : (v : Option Finding) → is_some v ≡ false → is_yes v ≡ false
    by_verdict None h = refl
    by_verdict (Some f) h = absurd cc
open_unsettled (auth.Chap q sent) e = by_verdict q.verdict (not_true _ (second_true _ _ e))
  where
    by_verdict : (v : Option Finding) → is_some v ≡ false → is_yes v ≡ false
    by_verdict None h = refl
    by_verdict (Some f) h = absurd cc

-- a packet neither accepts a peer nor begins or ends its authentication
pub takes_same : (a : Authentication) (p : ControlPacket) (s : AuthStep) (b : Authentication) → AuthTakes a p s b → (is_begun b ≡ is_begun a) × (is_accepted b ≡ is_accepted a)
takes_same auth.Idle p s b x = (ap is_begun x.1, ap is_accepted x.1)
takes_same (auth.Pap q) p s b (after, takes, e) = (ap is_begun e, ap is_accepted e ∙ ap is_yes (verdict_same s takes))
  where
    verdict_same : (t : AuthStep) → PapTakes q p t after → after.verdict ≡ q.verdict
    verdict_same (Ask c) (is, new, what) = ap (λ (n : PapQuestion). n.verdict) new ∙ sym (ap (λ (n : PapQuestion). n.verdict) is)
    verdict_same Refuse (is, new, what) = ap (λ (n : PapQuestion). n.verdict) new ∙ sym (ap (λ (n : PapQuestion). n.verdict) is)
    verdict_same (Again r) (new, req, what) = ap (λ (n : PapQuestion). n.verdict) new
    verdict_same Ignore (new, what) = ap (λ (n : PapQuestion). n.verdict) new
takes_same (auth.Chap q sent) p s b (after, takes, e) = (ap is_begun e, ap is_accepted e ∙ ap is_yes (verdict_same s takes))
  where
    verdict_same : (t : AuthStep) → ChapTakes q p t after → after.verdict ≡ q.verdict
    verdict_same (Ask c) (is, none, new, what) = ap (λ (n : ChapQuestion). n.verdict) new
    verdict_same Refuse (is, none, new, what) = ap (λ (n : ChapQuestion). n.verdict) new
    verdict_same (Again r) (new, req, what) = ap (λ (n : ChapQuestion). n.verdict) new
    verdict_same Ignore (new, what) = ap (λ (n : ChapQuestion). n.verdict) new

-- a peer that is refused by itself was not accepted
pub refuse_unsettled : (a : Authentication) (p : ControlPacket) (b : Authentication) → AuthTakes a p Refuse b → is_accepted a ≡ false
refuse_unsettled auth.Idle p b x = refl
refuse_unsettled (auth.Pap q) p b (after, (is, new, what), e) = ap (λ (n : PapQuestion). is_yes n.verdict) is
refuse_unsettled (auth.Chap q sent) p b (after, (is, none, new, what), e) = ap is_yes none

settles_begun : (a : Authentication) (found : Bool) (text : List ℕ) (reply : Option Reply) (b : Authentication) → AuthSettles a found text reply b → is_begun b ≡ is_begun a
settles_begun auth.Idle found text reply b x = ap is_begun x.1
settles_begun (auth.Pap q) found text reply b (s, after, settles, is, e) = ap is_begun e
settles_begun (auth.Chap q sent) found text reply b (s, after, settles, is, e) = ap is_begun e

settles_accepted : (a : Authentication) (text : List ℕ) (reply : Option Reply) (b : Authentication) → is_open a ≡ true → AuthSettles a true text reply b → is_accepted b ≡ true
settles_accepted auth.Idle text reply b e x = absurd cc
settles_accepted (auth.Pap q) text reply b e (s, after, settles, is, same) =
    ap is_accepted same ∙ ap (λ (n : PapQuestion). is_yes n.verdict) settles.0 ∙ by_verdict q.verdict (not_true _ (second_true _ _ e))
  where
    by_verdict : (v : Option Finding) → is_some v ≡ false → (kept v true text).yes ≡ true
    by_verdict None h = refl
    by_verdict (Some f) h = absurd cc
settles_accepted (auth.Chap q sent) text reply b e (s, after, settles, is, same) =
    ap is_accepted same ∙ ap (λ (n : ChapQuestion). is_yes n.verdict) settles.0 ∙ by_verdict q.verdict (not_true _ (second_true _ _ e))
  where
    by_verdict : (v : Option Finding) → is_some v ≡ false → (kept v true text).yes ≡ true
    by_verdict None h = refl
    by_verdict (Some f) h = absurd cc

-- Turns -----------------------------------------------------------------------------------------------------------------

-- the phases in the middle of a step, in which a term ends where LCP left Opened
record Keeps (t : Turn) : Type 0 where
  authenticates : is_begun t.link.auth ≡ is_opened t.link.lcp.lcp.state
  network : is_down t.link.ipcp.machine.state ≡ false → is_accepted t.link.auth ≡ true
  term : t.link.live ≡ true → t.left ≡ false → is_accepted t.link.auth ≡ true

equal_keeps : (t u : Turn) → t ≡ u → Keeps u → Keeps t
equal_keeps t u e h = subst (λ (v : Turn). Keeps v) (sym e) h

begun_keeps : (s : LinkState) → KeepsPhases s → Keeps (begun s)
begun_keeps s h = record { authenticates = h.authenticates; network = h.network; term = λ live stays. h.term live }

-- authentication goes on, and neither accepts the peer nor begins or ends
auth_keeps : (t : Turn) (a : Authentication) (due : Option ℕ) → is_begun a ≡ is_begun t.link.auth → is_accepted a ≡ is_accepted t.link.auth → Keeps t → Keeps (with_auth_until t a due)
auth_keeps t a due begins accepts h = record {
  authenticates = begins ∙ h.authenticates;
  network = λ up. accepts ∙ h.network up;
  term = λ live stays. accepts ∙ h.term live stays;
}

-- a peer that was not accepted is settled as one may like
settled_keeps : (t : Turn) (a : Authentication) (due : Option ℕ) → is_begun a ≡ is_begun t.link.auth → is_accepted t.link.auth ≡ false → Keeps t → Keeps (with_auth_until t a due)
settled_keeps t a due begins unsettled h = record {
  authenticates = begins ∙ h.authenticates;
  network = λ up. not_both (is_accepted t.link.auth) (h.network up) unsettled;
  term = λ live stays. not_both (is_accepted t.link.auth) (h.term live stays) unsettled;
}

outs_keeps : (t : Turn) (outs : List (List ℕ)) → Keeps t → Keeps (record t { outs = outs })
outs_keeps t outs h = record { authenticates = h.authenticates; network = h.network; term = h.term }

module _ (r : LinkRules) (now : ℕ) (random : List ℕ) where
  -- IPCP goes on, and comes up from no state in which its lower layer is down
  ipcp_keeps : (event : Event) (c : IpcpWhy) (t after : Turn) → is_up event ≡ false → Keeps t → IpcpMoves event c now t after → Keeps after
  ipcp_keeps event c t after other h m = equal_keeps after _ m.done (record {
    authenticates = h.authenticates;
    network = λ up. either (is_down t.link.ipcp.machine.state)
        (λ down. not_both (is_down m.doing.ipcp.machine.state) (ipcp_stays_down event c now (ipcp_of t) m.doing m.follows other down) up)
        (λ was_up. h.network was_up);
    term = h.term;
  })

  -- IPCP of a peer that was accepted goes on
  served_keeps : (event : Event) (c : IpcpWhy) (t after : Turn) → is_accepted t.link.auth ≡ true → Keeps t → IpcpMoves event c now t after → Keeps after × (is_accepted after.link.auth ≡ true)
  served_keeps event c t after accepted h m = (
    equal_keeps after _ m.done (record { authenticates = h.authenticates; network = λ up. accepted; term = λ live stays. accepted }),
    ap (λ (u : Turn). is_accepted u.link.auth) m.done ∙ accepted,
  )

  begins_keeps : (k : AuthKind) (t : Turn) → is_opened t.link.lcp.lcp.state ≡ true → is_down t.link.ipcp.machine.state ≡ true → (t.link.live ≡ true → t.left ≡ true) → Keeps (authenticates k r.name.items now random t)
  begins_keeps kind.Pap t up down ends = record {
    authenticates = sym up;
    network = λ ipcp. not_both (is_down t.link.ipcp.machine.state) down ipcp;
    term = λ live stays. not_both t.left (ends live) stays;
  }
  begins_keeps kind.Chap t up down ends = record {
    authenticates = sym up;
    network = λ ipcp. not_both (is_down t.link.ipcp.machine.state) down ipcp;
    term = λ live stays. not_both t.left (ends live) stays;
  }

  -- The layers above LCP, once it was Opened or not before, and is or is not now.
  above_keeps : (came left was : Bool) (t after : Turn) → came ≡ comes was (is_opened t.link.lcp.lcp.state) → left ≡ (was && not (is_opened t.link.lcp.lcp.state)) → (left ≡ true → t.left ≡ true)
      → is_begun t.link.auth ≡ was → (is_down t.link.ipcp.machine.state ≡ false → is_accepted t.link.auth ≡ true) → (t.link.live ≡ true → t.left ≡ false → is_accepted t.link.auth ≡ true)
      → Above came left r now random t after → Keeps after
  above_keeps true left was t after came gone marks begins network term e =
      let up = came_is was (is_opened t.link.lcp.lcp.state) came in
      let idle : is_begun t.link.auth ≡ false = begins ∙ up.1 in
      let nobody : is_accepted t.link.auth ≡ true → ⊥ = λ accepted. not_both (is_begun t.link.auth) (accepted_begun t.link.auth accepted) idle in
      equal_keeps after _ e (begins_keeps t.link.lcp.ask.wanted.auth t up.0
      (either (is_down t.link.ipcp.machine.state) (λ down. down) (λ ipcp. absurd (nobody (network ipcp))))
      (λ live. either t.left (λ ends. ends) (λ stays. absurd (nobody (term live stays)))))
  above_keeps false true was t after came gone marks begins network term m =
      let down = left_is was (is_opened t.link.lcp.lcp.state) gone in
      let ipcp = ipcp_goes_down Down _ now (ipcp_of (silenced t)) m.doing m.follows refl in
      equal_keeps after _ m.done (record {
        authenticates = sym down.1;
        network = λ up. not_both (is_down m.doing.ipcp.machine.state) ipcp up;
        term = λ live stays. not_both t.left (marks refl) stays;
      })
  above_keeps false false was t after came gone marks begins network term e =
      equal_keeps after t e (record { authenticates = begins ∙ same_is was (is_opened t.link.lcp.lcp.state) came gone; network = network; term = term })

  or_is : (a b : Bool) → b ≡ true → (a || b) ≡ true
  or_is true b e = refl
  or_is false b e = e

  lcp_keeps : (Step : LcpStep) (old : LinkState) (after : Turn) → ((says : Said) (new : LcpState) → Step old.lcp says new → TellsOpened old.lcp says new) → KeepsPhases old → LcpSteps r Step now random old after → Keeps after
  lcp_keeps Step old after tells h x =
      above_keeps x.says.opened (leaves old.lcp x.lcp) (is_opened old.lcp.lcp.state) _ after (tells x.says x.lcp x.steps) refl (λ e. e) h.authenticates h.network (λ live stays. h.term live) x.above

  closes_keeps : (t after : Turn) → Keeps t → LcpCloses r now random t after → Keeps after
  closes_keeps t after h x =
      above_keeps x.doing.said.opened (leaves t.link.lcp x.doing.link) (is_opened t.link.lcp.lcp.state) _ after
      (follows_open Close _ r.echo now (record { link = t.link.lcp; said = record quiet { outs = t.outs } }) x.doing x.follows)
      refl
      (λ e. or_is t.left (leaves t.link.lcp x.doing.link) e)
      h.authenticates h.network
      (λ live stays. h.term live (first_false t.left (leaves t.link.lcp x.doing.link) stays))
      x.above

  refuses_keeps : (text : List ℕ) (t after : Turn) → is_accepted t.link.auth ≡ false → Keeps t → Refuses r now random text t after → Keeps after
  refuses_keeps text t after unsettled h x =
      closes_keeps _ after (outs_keeps (with_auth_until t x.settled None) (reply_sent x.reply t.outs) (settled_keeps t x.settled None (settles_begun t.link.auth false text x.reply x.settled x.settles) unsettled h)) x.closes

  -- Packets of authentication
  does_keeps : (s : AuthStep) (a : Authentication) (t after : Turn) → (s ≡ Refuse → is_accepted t.link.auth ≡ false) → is_begun a ≡ is_begun t.link.auth → is_accepted a ≡ is_accepted t.link.auth → Keeps t → AuthDoes s r now random a t after → Keeps after
  does_keeps (Ask c) a t after refused begins accepts h e = let k = auth_keeps t a None begins accepts h in equal_keeps after _ e (record { authenticates = k.authenticates; network = k.network; term = k.term })
  does_keeps (Again reply) a t after refused begins accepts h e = let k = auth_keeps t a t.link.auth_due begins accepts h in equal_keeps after _ e (record { authenticates = k.authenticates; network = k.network; term = k.term })
  does_keeps Refuse a t after refused begins accepts h x = let k = auth_keeps t a t.link.auth_due begins accepts h in refuses_keeps _ (with_auth t a) after (accepts ∙ refused refl) (record { authenticates = k.authenticates; network = k.network; term = k.term }) x
  does_keeps Ignore a t after refused begins accepts h e = let k = auth_keeps t a t.link.auth_due begins accepts h in equal_keeps after _ e (record { authenticates = k.authenticates; network = k.network; term = k.term })

  hears_auth_keeps : (p : ControlPacket) (t after : Turn) → Keeps t → HearsAuth r p now random t after → Keeps after
  hears_auth_keeps p t after h x =
      let same = takes_same t.link.auth p x.step x.auth x.takes in
      does_keeps x.step x.auth t after (λ e. refuse_unsettled t.link.auth p x.auth (subst (λ (s : AuthStep). AuthTakes t.link.auth p s x.auth) e x.takes)) same.0 same.1 h x.does

  hears_keeps : (octets : List ℕ) (old : LinkState) (after : Turn) → KeepsPhases old → LcpSteps r (lcp_hears r octets now random) now random old after → Keeps after
  hears_keeps octets old after h x = lcp_keeps (lcp_hears r octets now random) old after (λ says new s. hears_open r.echo now old.lcp says new octets random s) h x

  for_ipcp : (s : LinkState) (n : ℕ) → is_for_ipcp s n ≡ true → is_accepted s.auth ≡ true
  for_ipcp s n e = second_true (is_opened s.lcp.lcp.state) (is_accepted s.auth) (first_true (is_opened s.lcp.lcp.state && is_accepted s.auth) (n == protocol.IPCP) e)

  way_keeps : (w : FrameOwner) (octets : List ℕ) (old : LinkState) (after : Turn) → KeepsPhases old → IsWay old octets w → HearsWay w r octets now random old after → Keeps after
  way_keeps (way.Auth p) octets old after h is x = hears_auth_keeps (packet_of p) (begun old) after (begun_keeps old h) x
  way_keeps (way.Ipcp p) octets old after h (short, (f, is, other, goes, packet)) x =
      let accepted = for_ipcp old f.protocol goes in
      equal_keeps after _ x.done (record { authenticates = h.authenticates; network = λ up. accepted; term = λ live stays. accepted })
  way_keeps way.NoPacket octets old after h is e = equal_keeps after _ e (begun_keeps old h)
  way_keeps way.Lcp octets old after h is (inl (rejects, (t, steps, m))) = ipcp_keeps _ _ t after refl (hears_keeps octets old t h steps) m
  way_keeps way.Lcp octets old after h is (inr (differs, steps)) = hears_keeps octets old after h steps

  auth_reminds_keeps : (a : Authentication) (t after : Turn) → t.link.auth ≡ a → Keeps t → AuthReminds a r now random t after → Keeps after
  auth_reminds_keeps auth.Idle t after e h x = absurd x
  auth_reminds_keeps (auth.Pap q) t after e h x = closes_keeps _ after (auth_keeps t (auth.Pap q) None (ap is_begun (sym e)) (ap is_accepted (sym e)) h) x
  auth_reminds_keeps (auth.Chap q sent) t after e h (inl (few, same)) =
      let k = auth_keeps t (auth.Chap q (sent + 1)) (Some (now + 3000)) (ap is_begun (sym e)) (ap is_accepted (sym e)) h in
      equal_keeps after _ same (record { authenticates = k.authenticates; network = k.network; term = k.term })
  auth_reminds_keeps (auth.Chap q sent) t after e h (inr (many, x)) = closes_keeps _ after (auth_keeps t (auth.Chap q sent) None (ap is_begun (sym e)) (ap is_accepted (sym e)) h) x

  above_reminds_keeps : (t after : Turn) → Keeps t → AboveReminds r now random t after → Keeps after
  above_reminds_keeps t after h (inl (due, x)) = auth_reminds_keeps t.link.auth t after refl h x
  above_reminds_keeps t after h (inr (inl (early, out, some, m))) = ipcp_keeps _ _ t after refl h m
  above_reminds_keeps t after h (inr (inr (inl (early, out, spent, m)))) = ipcp_keeps _ _ t after refl h m
  above_reminds_keeps t after h (inr (inr (inr (early, runs, e)))) = equal_keeps after t e h

  told_keeps : (what : LcpInput) (old : LinkState) (after : Turn) → KeepsPhases old → LcpSteps r (lcp_told r what now random) now random old after → Keeps after
  told_keeps what old after h x = lcp_keeps (lcp_told r what now random) old after (λ says new s. steps_open r what now random old.lcp says new s) h x

  begins_keeps_for : (lease : Option Ip4) (t after : Turn) → is_accepted t.link.auth ≡ true → Keeps t → BeginsFor lease r now t after → Keeps after
  begins_keeps_for None t after accepted h e = equal_keeps after t e h
  begins_keeps_for (Some lease) t after accepted h x =
      let first = served_keeps _ _ _ x.opened accepted (record { authenticates = h.authenticates; network = λ up. accepted; term = λ live stays. accepted }) x.on_open in
      (served_keeps _ _ x.opened after first.1 first.0 x.on_up).0

  accepts_keeps : (lease : Option Ip4) (text : List ℕ) (old : LinkState) (after : Turn) → is_open old.auth ≡ true → KeepsPhases old → Accepts r lease text now old after → Keeps after
  accepts_keeps lease text old after still h x =
      let accepted = settles_accepted old.auth text x.reply x.settled still x.settles in
      begins_keeps_for lease _ after accepted (record { authenticates = settles_begun old.auth true text x.reply x.settled x.settles ∙ h.authenticates; network = λ up. accepted; term = λ live stays. accepted }) x.begins

  settles_keeps : (still found : Bool) (lease : Option Ip4) (text : List ℕ) (old : LinkState) (after : Turn) → is_open old.auth ≡ still → KeepsPhases old → Settles still found r lease text now random old after → Keeps after
  settles_keeps true true lease text old after e h x = accepts_keeps lease text old after e h x
  settles_keeps true false lease text old after e h x = refuses_keeps text (begun old) after (open_unsettled old.auth e) (begun_keeps old h) x
  settles_keeps false found lease text old after e h x = equal_keeps after _ x (begun_keeps old h)

  goes_keeps : (what : Input) (old : LinkState) (t : Turn) (cause : Option ℕ) → KeepsPhases old → LinkGoes r what now random old t cause → Keeps t
  goes_keeps told.Start old t cause h x = told_keeps input.Start old t h x.0
  goes_keeps (told.Frame octets) old t cause h x = way_keeps x.0.way octets.now old t h x.0.is x.0.hears
  goes_keeps told.Timer old t cause h x = above_reminds_keeps x.0.lcp t (told_keeps input.Timer old x.0.lcp h x.0.steps) x.0.above
  goes_keeps (told.Verdict found lease text) old t cause h x = settles_keeps (is_open old.auth) found lease text.items old t refl h x.0
  goes_keeps told.Close old t cause h x = told_keeps input.Close old t h x.0
  goes_keeps told.Lost old t cause h x = told_keeps input.Lost old t h x.0

  after_keeps : (t : Turn) → Keeps t → KeepsPhases (after_turn t)
  after_keeps t h = record {
    authenticates = h.authenticates;
    network = h.network;
    term = λ live.
        let both = first_true (t.link.live && not t.left) (not t.ended) live in
        h.term (first_true t.link.live (not t.left) both) (not_true t.left (second_true t.link.live (not t.left) both));
  }

  -- a step of a whole link, whatever it is told
  pub phases_kept : (what : Input) (old : LinkState) (says : LinkSaid) (new : LinkState) → KeepsPhases old → LinkSteps r what now random old says new → KeepsPhases new
  phases_kept what old says new h x = subst (λ (s : LinkState). KeepsPhases s) (sym x.state) (after_keeps x.turn (goes_keeps what old x.turn x.cause h x.goes))

  -- by a frame of the peer
  pub heard_phases : (octets : List ℕ) (old : LinkState) (turn : Turn) → KeepsPhases old → HearsOctets r octets now random old turn → KeepsPhases (after_turn turn)
  heard_phases octets old turn h x = after_keeps turn (way_keeps x.way octets old turn h x.is x.hears)

  -- by a verdict on the question that is open
  pub settled_phases : (found : Bool) (lease : Option Ip4) (text : List ℕ) (old : LinkState) (turn : Turn) → KeepsPhases old → Settles (is_open old.auth) found r lease text now random old turn → KeepsPhases (after_turn turn)
  settled_phases found lease text old turn h x = after_keeps turn (settles_keeps (is_open old.auth) found lease text old turn refl h x)

-- data passes only for a peer that was accepted
pub data_for_accepted : (s : LinkState) → KeepsPhases s → passes s ≡ true → (is_accepted s.auth ≡ true) × (is_opened s.ipcp.machine.state ≡ true)
data_for_accepted s h e =
    let up = second_true (is_opened s.lcp.lcp.state) (is_opened s.ipcp.machine.state) e in
    (h.network (opened_up s.ipcp.machine.state up), up)
  where
    opened_up : (state : State) → is_opened state ≡ true → is_down state ≡ false
    opened_up Initial h = absurd cc
    opened_up Starting h = absurd cc
    opened_up Closed h = absurd cc
    opened_up Stopped h = absurd cc
    opened_up Closing h = absurd cc
    opened_up Stopping h = absurd cc
    opened_up ReqSent h = absurd cc
    opened_up AckRcvd h = absurd cc
    opened_up AckSent h = absurd cc
    opened_up Opened h = refl

-- a term is live only while LCP is Opened
pub term_while_opened : (s : LinkState) → KeepsPhases s → s.live ≡ true → is_opened s.lcp.lcp.state ≡ true
term_while_opened s h e = sym h.authenticates ∙ accepted_begun s.auth (h.term e)
