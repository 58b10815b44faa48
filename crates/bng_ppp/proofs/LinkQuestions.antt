-- What a step of a whole link does to the question whether the peer is accepted.
use Rattle.std.proofs.Common.{◌≡◌, ◌⊎◌, inl, inr, ℕ, Bool, true, false, List, Option, Some, None, refl, sym, ap, subst, ◌∙◌}
use Rattle.std.specs.Prelude.{IsSome}
use Rattle.bng_auth.specs.declared.step.AuthStep.{AuthStep}
use Rattle.bng_auth.specs.declared.step.AuthStep.TheVariants.{Ask, Again, Refuse, Ignore}
use Rattle.bng_automaton.specs.declared.event.Event.{Event}
use Rattle.bng_base.specs.declared.address.Ip4.{Ip4}
use Rattle.bng_base.specs.declared.settings.AuthKind.{AuthKind}
use Rattle.bng_base.specs.declared.settings.AuthKind.TheVariants as kind
use Rattle.bng_base.specs.PppGrammar.{ControlPacket}
use Rattle.bng_ppp_wire.specs.View.{packet_of}
use Rattle.bng_ppp.specs.declared.authentication.Authentication.{Authentication}
use Rattle.bng_ppp.specs.declared.authentication.Authentication.TheVariants as auth
use Rattle.bng_ppp.specs.declared.rules.LcpInput.{LcpInput}
use Rattle.bng_ppp.specs.declared.rules.LcpInput.TheVariants as input
use Rattle.bng_ppp.specs.declared.rules.LinkRules.{LinkRules}
use Rattle.bng_ppp.specs.declared.link_frame.FrameOwner.{FrameOwner}
use Rattle.bng_ppp.specs.declared.link_frame.FrameOwner.TheVariants as way
use Rattle.bng_ppp.specs.declared.input.Input.{Input}
use Rattle.bng_ppp.specs.declared.input.Input.TheVariants as told
use Rattle.bng_ppp.specs.Authentication.{AuthTakes, reply_sent}
use Rattle.bng_ppp.specs.Claims.{Claim, claim_of}
use Rattle.bng_ppp.specs.Granting.{is_yes_verdict, is_frame, MayAccept}
use Rattle.bng_ppp.specs.IpcpAutomaton.{IpcpWhy}
use Rattle.bng_ppp.specs.Layers.{Turn, begun, IpcpMoves, Above, authenticates, LcpStep, LcpSteps, LcpCloses, lcp_told, lcp_hears, with_auth, with_auth_until}
use Rattle.bng_ppp.specs.Phases.{is_begun}
use Rattle.bng_ppp.specs.LinkRelation.{LinkSaid, LinkGoes, LinkSteps}
use Rattle.bng_ppp.specs.LinkState.{LinkState, is_open, is_accepted}
use Rattle.bng_ppp.specs.Verdict.{Refuses, BeginsFor, Settles}
use Rattle.bng_ppp.specs.LinkFrame.{AuthDoes, HearsWay}
use Rattle.bng_ppp.specs.LinkTimers.{AuthReminds, AboveReminds}
use Rattle.bng_ppp.proofs.AuthLaws.{Opens, asks_opens, again_same, ignored_same, settles_accepts, settles_closes}
use Rattle.bng_ppp.proofs.LinkPhases.{not_both, open_unsettled, takes_same, refuse_unsettled}

-- authentication stands where it stood
abbrev Alike : Authentication → Authentication → Type 0
Alike a b = (is_begun b ≡ is_begun a) × (is_open b ≡ is_open a) × (is_accepted b ≡ is_accepted a)

-- no question is open, and the peer is not accepted
abbrev Unasked : Authentication → Type 0
Unasked a = (is_open a ≡ false) × (is_accepted a ≡ false)

-- nothing is asked, and authentication stands where it stood, or it has begun anew or ended
abbrev Goes : Turn → Turn → Type 0
Goes t u = (u.asked ≡ t.asked) × (Alike t.link.auth u.link.auth ⊎ Unasked u.link.auth)

-- nothing is asked, and no question is open then
record Ends (t u : Turn) : Type 0 where
  asked : u.asked ≡ t.asked
  unasked : Unasked u.link.auth

-- a frame by which a question is asked
record Asks (what : Input) (old : LinkState) (t : Turn) : Type 0 where
  frame : is_frame what ≡ true
  some : IsSome t.asked
  opens : Opens old.auth t.link.auth

-- the verdict yes on the question that is open
record Accepted (what : Input) (old : LinkState) (t : Turn) : Type 0 where
  yes : is_yes_verdict what ≡ true
  was_open : is_open old.auth ≡ true
  none : t.asked ≡ None
  closed : is_open t.link.auth ≡ false

abbrev Outcome : Input → LinkState → Turn → Type 0
Outcome what old t = Goes (begun old) t ⊎ (Asks what old t ⊎ Accepted what old t)

goes_same : (t : Turn) → Goes t t
goes_same t = (refl, inl (refl, refl, refl))

equal_goes : (t u v : Turn) → v ≡ u → Goes t u → Goes t v
equal_goes t u v e h = subst (λ (w : Turn). Goes t w) (sym e) h

goes_on : (t u v : Turn) → Goes t u → Goes u v → Goes t v
goes_on t u v (a, h) (b, inr k) = (b ∙ a, inr k)
goes_on t u v (a, inl h) (b, inl k) = (b ∙ a, inl (k.0 ∙ h.0, k.1 ∙ h.1, k.2 ∙ h.2))
goes_on t u v (a, inr h) (b, inl k) = (b ∙ a, inr (k.1 ∙ h.0, k.2 ∙ h.1))

ends_on : (t u v : Turn) → Ends t u → Goes u v → Ends t v
ends_on t u v h (b, inl k) = record { asked = b ∙ h.asked; unasked = (k.1 ∙ h.unasked.0, k.2 ∙ h.unasked.1) }
ends_on t u v h (b, inr k) = record { asked = b ∙ h.asked; unasked = k }

begun_open : (a : Authentication) → is_open a ≡ true → is_begun a ≡ true
begun_open auth.Idle e = e
begun_open (auth.Pap q) e = refl
begun_open (auth.Chap q sent) e = refl

module _ (r : LinkRules) (now : ℕ) (random : List ℕ) where
  ipcp_goes : (event : Event) (c : IpcpWhy) (t after : Turn) → IpcpMoves event c now t after → Goes t after
  ipcp_goes event c t after m = equal_goes t _ after m.done (refl, inl (refl, refl, refl))

  authenticates_goes : (k : AuthKind) (t : Turn) → Goes t (authenticates k r.name.items now random t)
  authenticates_goes kind.Pap t = (refl, inr (refl, refl))
  authenticates_goes kind.Chap t = (refl, inr (refl, refl))

  above_goes : (came left : Bool) (t after : Turn) → Above came left r now random t after → Goes t after
  above_goes true left t after e = equal_goes t _ after e (authenticates_goes t.link.lcp.ask.wanted.auth t)
  above_goes false true t after m = equal_goes t _ after m.done (refl, inr (refl, refl))
  above_goes false false t after e = equal_goes t t after e (goes_same t)

  lcp_goes : (Step : LcpStep) (old : LinkState) (after : Turn) → LcpSteps r Step now random old after → Goes (begun old) after
  lcp_goes Step old after x = above_goes x.says.opened _ _ after x.above

  closes_goes : (t after : Turn) → LcpCloses r now random t after → Goes t after
  closes_goes t after x = above_goes x.doing.said.opened _ _ after x.above

  -- a peer that was not accepted is refused
  refuses_ends : (text : List ℕ) (t after : Turn) → is_accepted t.link.auth ≡ false → Refuses r now random text t after → Ends t after
  refuses_ends text t after unsettled x =
      let settled : Turn = record (with_auth_until t x.settled None) { outs = reply_sent x.reply t.outs } in
      ends_on t settled after (record { asked = refl; unasked = (settles_closes t.link.auth false text x.reply x.settled x.settles, still) }) (closes_goes settled after x.closes)
    where
      by_test : (b : Bool) → (b ≡ true → ⊥) → b ≡ false
      by_test true not_so = absurd (not_so refl)
      by_test false not_so = refl

      still : is_accepted x.settled ≡ false
      still = by_test (is_accepted x.settled) (λ accepted. elim (settles_accepts t.link.auth false text x.reply x.settled x.settles accepted) [ inl before ↦ not_both (is_accepted t.link.auth) before unsettled | inr never ↦ absurd cc ])

  does_goes : (s : AuthStep) (a : Authentication) (p : ControlPacket) (what : Input) (old : LinkState) (after : Turn) → AuthTakes old.auth p s a → AuthDoes s r now random a (begun old) after → is_frame what ≡ true → Outcome what old after
  does_goes (Ask c) a p what old after takes e frame =
      let asking : Turn = record (with_auth_until (begun old) a None) { asked = Some (claim_of c) } in
      let asks : Asks what old asking = record { frame = frame; some = refl; opens = asks_opens old.auth p c a takes } in
      inr (inl (subst (λ (t : Turn). Asks what old t) (sym e) asks))
  does_goes (Again reply) a p what old after takes e frame =
      let same = again_same old.auth p reply a takes in
      inl (equal_goes (begun old) _ after e (refl, inl (ap is_begun same, ap is_open same, ap is_accepted same)))
  does_goes Refuse a p what old after takes x frame =
      let unsettled = (takes_same old.auth p Refuse a takes).1 ∙ refuse_unsettled old.auth p a takes in
      let ends = refuses_ends _ (with_auth (begun old) a) after unsettled x in
      inl (ends.asked, inr ends.unasked)
  does_goes Ignore a p what old after takes e frame =
      let same = ignored_same old.auth p a takes in
      inl (equal_goes (begun old) _ after e (refl, inl (ap is_begun same, ap is_open same, ap is_accepted same)))

  way_goes : (w : FrameOwner) (octets : List ℕ) (what : Input) (old : LinkState) (after : Turn) → is_frame what ≡ true → HearsWay w r octets now random old after → Outcome what old after
  way_goes (way.Auth p) octets what old after frame x = does_goes x.step x.auth (packet_of p) what old after x.takes x.does frame
  way_goes (way.Ipcp p) octets what old after frame x = inl (equal_goes (begun old) _ after x.done (refl, inl (refl, refl, refl)))
  way_goes way.NoPacket octets what old after frame e = inl (equal_goes (begun old) _ after e (goes_same (begun old)))
  way_goes way.Lcp octets what old after frame (inl (rejects, (t, steps, m))) = inl (goes_on (begun old) t after (lcp_goes (lcp_hears r octets now random) old t steps) (ipcp_goes _ _ t after m))
  way_goes way.Lcp octets what old after frame (inr (differs, steps)) = inl (lcp_goes (lcp_hears r octets now random) old after steps)

  auth_reminds_goes : (a : Authentication) (t after : Turn) → t.link.auth ≡ a → AuthReminds a r now random t after → Goes t after
  auth_reminds_goes auth.Idle t after e x = absurd x
  auth_reminds_goes (auth.Pap q) t after e x = goes_on t (with_auth_until t (auth.Pap q) None) after (refl, inl (ap is_begun (sym e), ap is_open (sym e), ap is_accepted (sym e))) (closes_goes (with_auth_until t (auth.Pap q) None) after x)
  auth_reminds_goes (auth.Chap q sent) t after e (inl (few, same)) = equal_goes t _ after same (refl, inl (ap is_begun (sym e), ap is_open (sym e), ap is_accepted (sym e)))
  auth_reminds_goes (auth.Chap q sent) t after e (inr (many, x)) = goes_on t (with_auth_until t (auth.Chap q sent) None) after (refl, inl (ap is_begun (sym e), ap is_open (sym e), ap is_accepted (sym e))) (closes_goes (with_auth_until t (auth.Chap q sent) None) after x)

  above_reminds_goes : (t after : Turn) → AboveReminds r now random t after → Goes t after
  above_reminds_goes t after (inl (due, x)) = auth_reminds_goes t.link.auth t after refl x
  above_reminds_goes t after (inr (inl (early, out, some, m))) = ipcp_goes _ _ t after m
  above_reminds_goes t after (inr (inr (inl (early, out, spent, m)))) = ipcp_goes _ _ t after m
  above_reminds_goes t after (inr (inr (inr (early, runs, e)))) = equal_goes t t after e (goes_same t)

  told_goes : (what : LcpInput) (old : LinkState) (after : Turn) → LcpSteps r (lcp_told r what now random) now random old after → Goes (begun old) after
  told_goes what old after x = lcp_goes (lcp_told r what now random) old after x

  -- the term of a peer begins or not: who it is stays
  begins_same : (lease : Option Ip4) (t after : Turn) → BeginsFor lease r now t after → (after.asked ≡ t.asked) × (after.link.auth ≡ t.link.auth)
  begins_same None t after e = (ap (λ (u : Turn). u.asked) e, ap (λ (u : Turn). u.link.auth) e)
  begins_same (Some lease) t after x = (
    ap (λ (u : Turn). u.asked) x.on_up.done ∙ ap (λ (u : Turn). u.asked) x.on_open.done,
    ap (λ (u : Turn). u.link.auth) x.on_up.done ∙ ap (λ (u : Turn). u.link.auth) x.on_open.done,
  )

  settles_goes : (still found : Bool) (lease : Option Ip4) (text : List ℕ) (what : Input) (old : LinkState) (after : Turn) → is_open old.auth ≡ still → is_yes_verdict what ≡ found → Settles still found r lease text now random old after → Outcome what old after
  settles_goes true true lease text what old after still found_is x =
      let same = begins_same lease _ after x.begins in
      inr (inr (record {
        yes = found_is;
        was_open = still;
        none = same.0;
        closed = ap is_open same.1 ∙ settles_closes old.auth true text x.reply x.settled x.settles;
      }))
  settles_goes true false lease text what old after still found_is x =
      let ends = refuses_ends text (begun old) after (open_unsettled old.auth still) x in
      inl (ends.asked, inr ends.unasked)
  settles_goes false found lease text what old after still found_is e = inl (equal_goes (begun old) _ after e (goes_same (begun old)))

  goes : (what : Input) (old : LinkState) (t : Turn) (cause : Option ℕ) → LinkGoes r what now random old t cause → Outcome what old t
  goes told.Start old t cause x = inl (told_goes input.Start old t x.0)
  goes (told.Frame octets) old t cause x = way_goes x.0.way octets.now (told.Frame octets) old t refl x.0.hears
  goes told.Timer old t cause x = inl (goes_on (begun old) x.0.lcp t (told_goes input.Timer old x.0.lcp x.0.steps) (above_reminds_goes x.0.lcp t x.0.above))
  goes (told.Verdict found lease text) old t cause x = settles_goes (is_open old.auth) found lease text.items (told.Verdict found lease text) old t refl refl x.0
  goes told.Close old t cause x = inl (told_goes input.Close old t x.0)
  goes told.Lost old t cause x = inl (told_goes input.Lost old t x.0)

-- What follows ------------------------------------------------------------------------------------------------------------

none_claims : (o : Option Claim) (claim : Claim) → o ≡ None → o ≡ Some claim → ⊥
none_claims o claim e f = cc

may_accept : (what : Input) (old : LinkState) (t : Turn) → Outcome what old t → is_accepted t.link.auth ≡ true → MayAccept what old.auth
may_accept what old t (inl (none, inl same)) e = inl (sym same.2 ∙ e)
may_accept what old t (inl (none, inr unasked)) e = absurd (not_both (is_accepted t.link.auth) e unasked.1)
may_accept what old t (inr (inl asks)) e = absurd (not_both (is_accepted t.link.auth) e asks.opens.still)
may_accept what old t (inr (inr accepts)) e = inr (accepts.yes, accepts.was_open)

opens_one : (what : Input) (old : LinkState) (t : Turn) (claim : Claim) → Outcome what old t → t.asked ≡ Some claim → Opens old.auth t.link.auth
opens_one what old t claim (inl (none, how)) e = absurd (none_claims t.asked claim none e)
opens_one what old t claim (inr (inl asks)) e = asks.opens
opens_one what old t claim (inr (inr accepts)) e = absurd (none_claims t.asked claim accepts.none e)

open_or_was : (what : Input) (old : LinkState) (t : Turn) → Outcome what old t → is_open t.link.auth ≡ true → IsSome t.asked ⊎ (is_open old.auth ≡ true)
open_or_was what old t (inl (none, inl same)) e = inr (sym same.1 ∙ e)
open_or_was what old t (inl (none, inr unasked)) e = absurd (not_both (is_open t.link.auth) e unasked.0)
open_or_was what old t (inr (inl asks)) e = inl asks.some
open_or_was what old t (inr (inr accepts)) e = absurd (not_both (is_open t.link.auth) e accepts.closed)

anew_unasked : (what : Input) (old : LinkState) (t : Turn) → Outcome what old t → is_begun t.link.auth ≡ true → is_begun old.auth ≡ false → Unasked t.link.auth
anew_unasked what old t (inl (none, inl same)) e f = absurd (not_both (is_begun t.link.auth) e (same.0 ∙ f))
anew_unasked what old t (inl (none, inr unasked)) e f = unasked
anew_unasked what old t (inr (inl asks)) e f = absurd (not_both (is_begun old.auth) asks.opens.begun f)
anew_unasked what old t (inr (inr accepts)) e f = absurd (not_both (is_begun old.auth) (begun_open old.auth accepts.was_open) f)

others_ask_nothing : (what : Input) (old : LinkState) (t : Turn) → Outcome what old t → is_frame what ≡ false → t.asked ≡ None
others_ask_nothing what old t (inl (none, how)) e = none
others_ask_nothing what old t (inr (inl asks)) e = absurd (not_both (is_frame what) asks.frame e)
others_ask_nothing what old t (inr (inr accepts)) e = accepts.none

module _ (r : LinkRules) (now : ℕ) (random : List ℕ) (what : Input) (old : LinkState) (says : LinkSaid) (new : LinkState) (x : LinkSteps r what now random old says new) where
  outcome : Outcome what old x.turn
  outcome = goes r now random what old x.turn x.cause x.goes

  said : says.asked ≡ x.turn.asked
  said = ap (λ (s : LinkSaid). s.asked) x.said

  stands : new.auth ≡ x.turn.link.auth
  stands = ap (λ (s : LinkState). s.auth) x.state

  -- a peer is accepted only by a verdict
  pub accepted_by_verdict : is_accepted new.auth ≡ true → MayAccept what old.auth
  accepted_by_verdict e = may_accept what old x.turn outcome (ap is_accepted (sym stands) ∙ e)

  -- a question that is asked is open
  pub asked_is_open : (claim : Claim) → says.asked ≡ Some claim → (is_open new.auth ≡ true) × (is_begun old.auth ≡ true) × (is_open old.auth ≡ false) × (is_accepted old.auth ≡ false)
  asked_is_open claim e =
      let opens = opens_one what old x.turn claim outcome (sym said ∙ e) in
      (ap is_open stands ∙ opens.open_now, opens.begun, opens.closed, opens.unsettled)

  -- a question is open only where it is asked or was open
  pub open_was_asked : is_open new.auth ≡ true → IsSome says.asked ⊎ (is_open old.auth ≡ true)
  open_was_asked e = elim (open_or_was what old x.turn outcome (ap is_open (sym stands) ∙ e)) [
    | inl some ↦ inl (subst (λ (o : Option Claim). IsSome o) (sym said) some)
    | inr before ↦ inr before
  ]

  -- authentication that begins has no question, and has accepted nobody
  pub begins_unasked : is_begun new.auth ≡ true → is_begun old.auth ≡ false → (is_open new.auth ≡ false) × (is_accepted new.auth ≡ false)
  begins_unasked e f =
      let unasked = anew_unasked what old x.turn outcome (ap is_begun (sym stands) ∙ e) f in
      (ap is_open stands ∙ unasked.0, ap is_accepted stands ∙ unasked.1)

  -- only a frame makes a link ask
  pub only_frames_ask : is_frame what ≡ false → says.asked ≡ None
  only_frames_ask e = said ∙ others_ask_nothing what old x.turn outcome e
