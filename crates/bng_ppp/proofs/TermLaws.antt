-- When a term begins, and how long it lasts.
use Rattle.std.proofs.Common.{◌≡◌, ◌⊎◌, inl, inr, ℕ, Bool, true, false, ◌&&◌, ◌||◌, not, List, [], ◌∷◌, Option, Some, None, is_some, refl, sym, ap, ◌∙◌}
use Rattle.std.specs.Prelude.{if◌then◌else◌}
use Rattle.std.specs.List.{list_all, list_any}
use Rattle.bng_auth.specs.declared.step.AuthStep.{AuthStep}
use Rattle.bng_auth.specs.declared.step.AuthStep.TheVariants.{Ask, Again, Refuse, Ignore}
use Rattle.bng_automaton.specs.declared.action.Action.{Action}
use Rattle.bng_automaton.specs.declared.action.Action.TheVariants.{Tlu, Tld, Tls, Tlf, Irc, Zrc, Scr, Sca, Scn, Str, Sta, Scj, Ser}
use Rattle.bng_automaton.specs.declared.event.Event.{Event}
use Rattle.bng_automaton.specs.declared.event.Event.TheVariants.{Up, Open}
use Rattle.bng_automaton.specs.Table.{Transition, row, table}
use Rattle.bng_automaton.specs.Machine.{Machine}
use Rattle.bng_automaton.specs.Steps.{Steps}
use Rattle.bng_automaton.proofs.TableLaws.{passes}
use Rattle.bng_base.specs.declared.address.Ip4.{Ip4}
use Rattle.bng_base.specs.declared.settings.AuthKind.{AuthKind}
use Rattle.bng_base.specs.declared.settings.AuthKind.TheVariants as kind
use Rattle.bng_ppp.specs.declared.authentication.Authentication.{Authentication}
use Rattle.bng_ppp.specs.declared.authentication.Authentication.TheVariants as auth
use Rattle.bng_ppp.specs.declared.rules.LcpInput.TheVariants as input
use Rattle.bng_ppp.specs.declared.rules.LinkRules.{LinkRules}
use Rattle.bng_ppp.specs.declared.link_frame.FrameOwner.{FrameOwner}
use Rattle.bng_ppp.specs.declared.link_frame.FrameOwner.TheVariants as way
use Rattle.bng_ppp.specs.declared.input.Input.{Input}
use Rattle.bng_ppp.specs.declared.input.Input.TheVariants as told
use Rattle.bng_ppp.specs.Granting.{gives_address, goes_by_itself}
use Rattle.bng_ppp.specs.IpcpAutomaton.{IpcpWhy, IpcpDoing, ipcp_acted, all_ipcp_acted}
use Rattle.bng_ppp.specs.LcpState.{is_opened}
use Rattle.bng_ppp.specs.Layers.{Turn, begun, leaves, ipcp_of, IpcpMoves, Above, authenticates, LcpStep, LcpSteps, LcpCloses, lcp_told, lcp_hears, with_auth, with_auth_until}
use Rattle.bng_ppp.specs.LinkRelation.{LinkGoes, LinkSaid, LinkSteps, after_turn, ended_by}
use Rattle.bng_ppp.specs.LinkState.{LinkState, is_open}
use Rattle.bng_ppp.specs.Verdict.{Refuses, Begins, Settles}
use Rattle.bng_ppp.specs.LinkFrame.{AuthDoes, HearsWay, HearsOctets}
use Rattle.bng_ppp.specs.LinkTimers.{AuthReminds, AboveReminds}
use Rattle.bng_ppp.proofs.LcpPhases.{starts_calm}
use Rattle.bng_ppp.proofs.PhaseLaws.{never, or_assoc, or_false, or_true, is_calm}
use Rattle.bng_ppp.proofs.LinkPhases.{not_both, second_true}

-- Open and Up finish nothing ----------------------------------------------------------------------------------------------

abbrev pub is_tlf : Action → Bool
is_tlf Tlu = false
is_tlf Tld = false
is_tlf Tls = false
is_tlf Tlf = true
is_tlf Irc = false
is_tlf Zrc = false
is_tlf Scr = false
is_tlf Sca = false
is_tlf Scn = false
is_tlf Str = false
is_tlf Sta = false
is_tlf Scj = false
is_tlf Ser = false

-- This-Layer-Finished stands in no row of Open or Up
stays_unfinished : Transition → Bool
stays_unfinished t = if is_calm t.event then not (list_any is_tlf t.actions) else true

all_unfinished : list_all stays_unfinished table ≡ true
unfolding stays_unfinished table
all_unfinished = refl

module _ (old : Machine) (event : Event) (moment : ℕ) (actions : List Action) (new : Machine) (s : Steps old event moment actions new) where
  none_finishes : is_calm event ≡ true → list_any is_tlf actions ≡ false
  unfolding stays_unfinished
  none_finishes calm = by_test (is_calm event) (list_any is_tlf actions) calm (passes stays_unfinished table (row old.state event actions new.state) all_unfinished s.transition)
    where
      by_test : (b c : Bool) → b ≡ true → (if b then not c else true) ≡ true → c ≡ false
      by_test true false e h = refl
      by_test true true e h = sym h
      by_test false c e h = absurd cc

module _ (c : IpcpWhy) where
  one_finished : (d : IpcpDoing) (a : Action) → (ipcp_acted c d a).said.finished ≡ (d.said.finished || is_tlf a)
  one_finished d Tlu = sym (or_false d.said.finished)
  one_finished d Tld = sym (or_false d.said.finished)
  one_finished d Tls = sym (or_false d.said.finished)
  one_finished d Tlf = sym (or_true d.said.finished)
  one_finished d Irc = sym (or_false d.said.finished)
  one_finished d Zrc = sym (or_false d.said.finished)
  one_finished d Scr = sym (or_false d.said.finished)
  one_finished d Sca = sym (or_false d.said.finished)
  one_finished d Scn = sym (or_false d.said.finished)
  one_finished d Str = sym (or_false d.said.finished)
  one_finished d Sta = sym (or_false d.said.finished)
  one_finished d Scj = sym (or_false d.said.finished)
  one_finished d Ser = sym (or_false d.said.finished)

  each_finished : (d : IpcpDoing) (actions : List Action) → (all_ipcp_acted c d actions).said.finished ≡ (d.said.finished || list_any is_tlf actions)
  each_finished d [] = sym (or_false d.said.finished)
  each_finished d (a ∷ actions) =
      each_finished (ipcp_acted c d a) actions ∙ ap (λ (b : Bool). b || list_any is_tlf actions) (one_finished d a) ∙ or_assoc d.said.finished (is_tlf a) (list_any is_tlf actions)

-- IPCP that does Open or Up has not finished, where it had not
calm_unfinished : (event : Event) (c : IpcpWhy) (now : ℕ) (t after : Turn) → is_calm event ≡ true → IpcpMoves event c now t after → after.ended ≡ t.ended
calm_unfinished event c now t after calm m =
    ap (λ (u : Turn). u.ended) m.done
    ∙ ap (λ (b : Bool). t.ended || b) (
    ap (λ (d : IpcpDoing). d.said.finished) m.follows.done
    ∙ each_finished c (record (ipcp_of t) { ipcp = record t.link.ipcp { machine = m.follows.machine } }) m.follows.actions
    ∙ none_finishes t.link.ipcp.machine event now m.follows.actions m.follows.machine m.follows.steps calm)
    ∙ or_false t.ended

-- Who keeps the term ------------------------------------------------------------------------------------------------------

-- no layer touches the term
abbrev Lives : Turn → Turn → Type 0
Lives t u = u.link.live ≡ t.link.live

-- a verdict by which a term begins
abbrev IsBeginning : Input → LinkState → Type 0
IsBeginning what old = (gives_address what && is_open old.auth) ≡ true

equal_lives : (t u v : Turn) → v ≡ u → Lives t u → Lives t v
equal_lives t u v e h = ap (λ (w : Turn). w.link.live) e ∙ h

module _ (r : LinkRules) (now : ℕ) (random : List ℕ) where
  authenticates_lives : (k : AuthKind) (t : Turn) → Lives t (authenticates k r.name.items now random t)
  authenticates_lives kind.Pap t = refl
  authenticates_lives kind.Chap t = refl

  above_lives : (came left : Bool) (t after : Turn) → Above came left r now random t after → Lives t after
  above_lives true left t after e = equal_lives t _ after e (authenticates_lives t.link.lcp.ask.wanted.auth t)
  above_lives false true t after m = equal_lives t _ after m.done refl
  above_lives false false t after e = equal_lives t t after e refl

  lcp_lives : (Step : LcpStep) (old : LinkState) (after : Turn) → LcpSteps r Step now random old after → Lives (begun old) after
  lcp_lives Step old after x = above_lives x.says.opened _ _ after x.above

  closes_lives : (t after : Turn) → LcpCloses r now random t after → Lives t after
  closes_lives t after x = above_lives x.doing.said.opened _ _ after x.above

  refuses_lives : (text : List ℕ) (t after : Turn) → Refuses r now random text t after → Lives t after
  refuses_lives text t after x = closes_lives _ after x.closes

  does_lives : (s : AuthStep) (a : Authentication) (t after : Turn) → AuthDoes s r now random a t after → Lives t after
  does_lives (Ask c) a t after e = equal_lives t _ after e refl
  does_lives (Again reply) a t after e = equal_lives t _ after e refl
  does_lives Refuse a t after x = refuses_lives _ (with_auth t a) after x
  does_lives Ignore a t after e = equal_lives t _ after e refl

  way_lives : (w : FrameOwner) (octets : List ℕ) (old : LinkState) (after : Turn) → HearsWay w r octets now random old after → Lives (begun old) after
  way_lives (way.Auth p) octets old after x = does_lives x.step x.auth (begun old) after x.does
  way_lives (way.Ipcp p) octets old after x = equal_lives (begun old) _ after x.done refl
  way_lives way.NoPacket octets old after e = equal_lives (begun old) (begun old) after e refl
  way_lives way.Lcp octets old after (inl (rejects, (t, steps, m))) = equal_lives (begun old) _ after m.done (lcp_lives (lcp_hears r octets now random) old t steps)
  way_lives way.Lcp octets old after (inr (differs, steps)) = lcp_lives (lcp_hears r octets now random) old after steps

  auth_reminds_lives : (a : Authentication) (t after : Turn) → AuthReminds a r now random t after → Lives t after
  auth_reminds_lives auth.Idle t after x = absurd x
  auth_reminds_lives (auth.Pap q) t after x = closes_lives (with_auth_until t (auth.Pap q) None) after x
  auth_reminds_lives (auth.Chap q sent) t after (inl (few, e)) = equal_lives t _ after e refl
  auth_reminds_lives (auth.Chap q sent) t after (inr (many, x)) = closes_lives (with_auth_until t (auth.Chap q sent) None) after x

  above_reminds_lives : (t after : Turn) → AboveReminds r now random t after → Lives t after
  above_reminds_lives t after (inl (due, x)) = auth_reminds_lives t.link.auth t after x
  above_reminds_lives t after (inr (inl (early, out, some, m))) = equal_lives t _ after m.done refl
  above_reminds_lives t after (inr (inr (inl (early, out, spent, m)))) = equal_lives t _ after m.done refl
  above_reminds_lives t after (inr (inr (inr (early, runs, e)))) = equal_lives t t after e refl

  settles_lives : (still found : Bool) (lease : Option Ip4) (text : List ℕ) (old : LinkState) (after : Turn) → Settles still found r lease text now random old after → Lives (begun old) after ⊎ (((found && is_some lease) && still) ≡ true)
  settles_lives true true None text old after x = inl (equal_lives (begun old) _ after x.begins refl)
  settles_lives true true (Some lease) text old after x = inr refl
  settles_lives true false lease text old after x = inl (refuses_lives text (begun old) after x)
  settles_lives false found lease text old after e = inl (equal_lives (begun old) (begun old) after e refl)

  -- a step keeps the term, or begins one
  goes_lives : (what : Input) (old : LinkState) (t : Turn) (cause : Option ℕ) → LinkGoes r what now random old t cause → Lives (begun old) t ⊎ IsBeginning what old
  goes_lives told.Start old t cause x = inl (lcp_lives (lcp_told r input.Start now random) old t x.0)
  goes_lives (told.Frame octets) old t cause x = inl (way_lives x.0.way octets.now old t x.0.hears)
  goes_lives told.Timer old t cause x = inl (above_reminds_lives x.0.lcp t x.0.above ∙ lcp_lives (lcp_told r input.Timer now random) old x.0.lcp x.0.steps)
  goes_lives (told.Verdict found lease text) old t cause x = settles_lives (is_open old.auth) found lease text.items old t x.0
  goes_lives told.Close old t cause x = inl (lcp_lives (lcp_told r input.Close now random) old t x.0)
  goes_lives told.Lost old t cause x = inl (lcp_lives (lcp_told r input.Lost now random) old t x.0)

-- How a term ends ---------------------------------------------------------------------------------------------------------

-- a live term of whose end nothing is said goes on
unended : (live left ended : Bool) (cause : ℕ) → live ≡ true → ended_by live left ended cause ≡ None → (live && not left && not ended) ≡ true
unended true false false cause e h = refl
unended true false true cause e h = absurd cc
unended true true ended cause e h = absurd cc
unended false left ended cause e h = e

-- nothing goes on that was not live
ended_stays : (live left ended : Bool) → live ≡ false → (live && not left && not ended) ≡ false
ended_stays false left ended e = refl
ended_stays true left ended e = absurd cc

both_stay : (live left ended : Bool) → live ≡ true → left ≡ false → ended ≡ false → (live && not left && not ended) ≡ true
both_stay true false false e f g = refl
both_stay true false true e f g = absurd cc
both_stay true true ended e f g = absurd cc
both_stay false left ended e f g = e

module _ (r : LinkRules) (now : ℕ) (random : List ℕ) where
  -- LCP that has neither come to Opened nor left it leaves all above as it was
  above_stays : (came left : Bool) (t after : Turn) → left ≡ false → Above came left r now random t after → (after.left ≡ t.left) × (after.ended ≡ t.ended)
  above_stays true left t after e x = (ap (λ (u : Turn). u.left) x ∙ left_same t.link.lcp.ask.wanted.auth, ap (λ (u : Turn). u.ended) x ∙ ended_same t.link.lcp.ask.wanted.auth)
    where
      left_same : (k : AuthKind) → (authenticates k r.name.items now random t).left ≡ t.left
      left_same kind.Pap = refl
      left_same kind.Chap = refl

      ended_same : (k : AuthKind) → (authenticates k r.name.items now random t).ended ≡ t.ended
      ended_same kind.Pap = refl
      ended_same kind.Chap = refl
  above_stays false true t after e x = absurd cc
  above_stays false false t after e x = (ap (λ (u : Turn). u.left) x, ap (λ (u : Turn). u.ended) x)

  start_stays : (old : LinkState) (after : Turn) → LcpSteps r (lcp_told r input.Start now random) now random old after → (after.left ≡ false) × (after.ended ≡ false)
  start_stays old after x =
      let calm = starts_calm r.echo now old.lcp x.says x.lcp r.auth.items random x.steps in
      let stays : leaves old.lcp x.lcp ≡ false = ap (λ (b : Bool). is_opened old.lcp.lcp.state && not b) calm ∙ never (is_opened old.lcp.lcp.state) in
      let same = above_stays x.says.opened (leaves old.lcp x.lcp) _ after stays x.above in
      (same.0 ∙ stays, same.1)

  -- what a link does by itself ends a live term with a cause alone
  goes_lasts : (what : Input) (old : LinkState) (t : Turn) (cause : Option ℕ) → LinkGoes r what now random old t cause → t.link.live ≡ true → goes_by_itself what ≡ true → cause ≡ None → (t.link.live && not t.left && not t.ended) ≡ true
  goes_lasts told.Start old t cause x live itself e = let stays = start_stays old t x.0 in both_stay t.link.live t.left t.ended live stays.0 stays.1
  goes_lasts (told.Frame octets) old t cause x live itself e = unended t.link.live t.left t.ended 1 live (sym x.1 ∙ e)
  goes_lasts told.Timer old t cause x live itself e = unended t.link.live t.left t.ended x.1.0 live (sym x.1.2 ∙ e)
  goes_lasts (told.Verdict found lease text) old t cause x live itself e = absurd cc
  goes_lasts told.Close old t cause x live itself e = absurd cc
  goes_lasts told.Lost old t cause x live itself e = absurd cc

  -- a term that begins is live
  begins_for_live : (a : Ip4) (t after : Turn) → Begins r a now t after → (after.link.live ≡ true) × (after.left ≡ t.left) × (after.ended ≡ t.ended)
  begins_for_live a t after x = (
    ap (λ (u : Turn). u.link.live) x.on_up.done ∙ ap (λ (u : Turn). u.link.live) x.on_open.done,
    ap (λ (u : Turn). u.left) x.on_up.done ∙ ap (λ (u : Turn). u.left) x.on_open.done,
    calm_unfinished Up _ now x.opened after refl x.on_up ∙ calm_unfinished Open _ now _ x.opened refl x.on_open,
  )

  settles_begins : (still found : Bool) (lease : Option Ip4) (text : List ℕ) (old : LinkState) (t : Turn) → Settles still found r lease text now random old t → ((found && is_some lease) && still) ≡ true → (t.link.live && not t.left && not t.ended) ≡ true
  settles_begins true true (Some lease) text old t x e =
      let live = begins_for_live lease _ t x.begins in
      both_stay t.link.live t.left t.ended live.0 live.1 live.2
  settles_begins true true None text old t x e = absurd cc
  settles_begins true false lease text old t x e = absurd cc
  settles_begins false found lease text old t x e = not_both false (second_true (found && is_some lease) false e) refl

  goes_begins : (what : Input) (old : LinkState) (t : Turn) (cause : Option ℕ) → LinkGoes r what now random old t cause → IsBeginning what old → (t.link.live && not t.left && not t.ended) ≡ true
  goes_begins told.Start old t cause x e = absurd cc
  goes_begins (told.Frame octets) old t cause x e = absurd cc
  goes_begins told.Timer old t cause x e = absurd cc
  goes_begins (told.Verdict found lease text) old t cause x e = settles_begins (is_open old.auth) found lease text.items old t x.0 e
  goes_begins told.Close old t cause x e = absurd cc
  goes_begins told.Lost old t cause x e = absurd cc

-- what goes by itself begins no term
itself_begins_none : (what : Input) (old : LinkState) → goes_by_itself what ≡ true → IsBeginning what old → ⊥
itself_begins_none told.Start old e b = cc
itself_begins_none (told.Frame octets) old e b = cc
itself_begins_none told.Timer old e b = cc
itself_begins_none (told.Verdict found lease text) old e b = cc
itself_begins_none told.Close old e b = cc
itself_begins_none told.Lost old e b = cc

-- What follows ------------------------------------------------------------------------------------------------------------

module _ (r : LinkRules) (now : ℕ) (random : List ℕ) (what : Input) (old : LinkState) (says : LinkSaid) (new : LinkState) (x : LinkSteps r what now random old says new) where
  live_after : new.live ≡ (x.turn.link.live && not x.turn.left && not x.turn.ended)
  live_after = ap (λ (s : LinkState). s.live) x.state

  pub lasts : goes_by_itself what ≡ true → old.live ≡ true → says.term_ended ≡ None → new.live ≡ true
  lasts itself live none = elim (goes_lives r now random what old x.turn x.cause x.goes) [
    | inl same ↦ live_after ∙ goes_lasts r now random what old x.turn x.cause x.goes (same ∙ live) itself (sym (ap (λ (s : LinkSaid). s.term_ended) x.said) ∙ none)
    | inr begins ↦ absurd (itself_begins_none what old itself begins)
  ]

  pub begins_live : (gives_address what && is_open old.auth) ≡ true → new.live ≡ true
  begins_live e = live_after ∙ goes_begins r now random what old x.turn x.cause x.goes e

  pub begins_none : (gives_address what && is_open old.auth) ≡ false → old.live ≡ false → new.live ≡ false
  begins_none e ended = elim (goes_lives r now random what old x.turn x.cause x.goes) [
    | inl same ↦ live_after ∙ ended_stays x.turn.link.live x.turn.left x.turn.ended (same ∙ ended)
    | inr begins ↦ not_both (gives_address what && is_open old.auth) begins e
  ]

pub heard_lasts : (r : LinkRules) (octets : List ℕ) (now : ℕ) (random : List ℕ) (old : LinkState) (turn : Turn) → HearsOctets r octets now random old turn → old.live ≡ true → ended_by turn.link.live turn.left turn.ended 1 ≡ None → (after_turn turn).live ≡ true
heard_lasts r octets now random old t x live e = unended t.link.live t.left t.ended 1 (way_lives r now random x.way octets old t x.hears ∙ live) e

pub settled_live : (r : LinkRules) (a : Ip4) (text : List ℕ) (now : ℕ) (random : List ℕ) (old : LinkState) (turn : Turn) → Settles true true r (Some a) text now random old turn → (after_turn turn).live ≡ true
settled_live r a text now random old t x = settles_begins r now random true true (Some a) text old t x refl
