-- LCP that finished in a step is not Opened after it.
use Rattle.std.proofs.Common.{◌≡◌, ◌⊎◌, ⊎_elim, inl, inr, ℕ, Bool, true, false, ◌||◌, not, List, [], ◌∷◌, Option, Some, None, refl, sym, ap, subst, ◌∙◌}
use Rattle.std.specs.Prelude.{if◌then◌else◌}
use Rattle.std.specs.List.{list_all, list_any}
use Rattle.bng_auth.specs.declared.step.AuthStep.{AuthStep}
use Rattle.bng_auth.specs.declared.step.AuthStep.TheVariants.{Ask, Again, Refuse, Ignore}
use Rattle.bng_automaton.specs.declared.action.Action.{Action}
use Rattle.bng_automaton.specs.declared.action.Action.TheVariants.{Tlu, Tld, Tls, Tlf, Irc, Zrc, Scr, Sca, Scn, Str, Sta, Scj, Ser}
use Rattle.bng_automaton.specs.declared.event.Event.{Event}
use Rattle.bng_automaton.specs.declared.event.Event.TheVariants.{Up, Down, Open, Close, ToPlus, ToMinus, RcrPlus, RcrMinus, Rca, Rcn, Rtr, Rta, Ruc, RxjPlus, RxjMinus, Rxr}
use Rattle.bng_automaton.specs.Table.{Transition, row, table}
use Rattle.bng_automaton.specs.Machine.{Machine}
use Rattle.bng_automaton.specs.Steps.{Steps}
use Rattle.bng_automaton.proofs.TableLaws.{passes}
use Rattle.bng_base.specs.declared.address.Ip4.{Ip4}
use Rattle.bng_base.specs.declared.settings.AuthKind.{AuthKind}
use Rattle.bng_base.specs.declared.settings.AuthKind.TheVariants as kind
use Rattle.bng_base.specs.PppGrammar.{ControlPacket}
use Rattle.bng_lcp.specs.declared.configure_reply.Taken.{Taken}
use Rattle.bng_lcp.specs.declared.configure_reply.Taken.TheVariants.{Accepted, Changed, Ignored, Unwilling}
use Rattle.bng_lcp.specs.Ask.{Ask as OwnSide}
use Rattle.bng_ppp_wire.specs.View.{packet_of}
use Rattle.bng_ppp.specs.declared.authentication.Authentication.{Authentication}
use Rattle.bng_ppp.specs.declared.authentication.Authentication.TheVariants as auth
use Rattle.bng_ppp.specs.declared.codes.Kind.{Kind}
use Rattle.bng_ppp.specs.declared.codes.Kind.TheVariants.{Request, Reply, Plain, Echo, Mute, EchoReply, Unknown}
use Rattle.bng_ppp.specs.declared.frame.FrameKind.{FrameKind}
use Rattle.bng_ppp.specs.declared.frame.FrameKind.TheVariants.{NoFrame, NoPacket, Long, Lcp, Other}
use Rattle.bng_ppp.specs.declared.rules.LcpInput.{LcpInput}
use Rattle.bng_ppp.specs.declared.rules.LcpInput.TheVariants as input
use Rattle.bng_ppp.specs.declared.rules.LinkRules.{LinkRules}
use Rattle.bng_ppp.specs.declared.link_frame.FrameOwner.{FrameOwner}
use Rattle.bng_ppp.specs.declared.link_frame.FrameOwner.TheVariants as way
use Rattle.bng_ppp.specs.declared.input.Input.{Input}
use Rattle.bng_ppp.specs.declared.input.Input.TheVariants as told
use Rattle.bng_ppp.specs.Automaton.{Doing, Why, Follows, Moves, Rests, acted, all_acted}
use Rattle.bng_ppp.specs.Codes.{kind_of}
use Rattle.bng_ppp.specs.ConfigureReply.{AfterReply}
use Rattle.bng_ppp.specs.ConfigureRequest.{Judges}
use Rattle.bng_ppp.specs.Layers.{Turn, begun, leaves, Above, authenticates, LcpStep, LcpSteps, LcpCloses, lcp_told, lcp_hears, with_auth_until}
use Rattle.bng_ppp.specs.LcpRelation.{HearsKind, Hears, HearsFrame, LcpLinkSteps}
use Rattle.bng_ppp.specs.LcpState.{is_opened, LcpState}
use Rattle.bng_ppp.specs.LowerLayer.{Starts, Loses}
use Rattle.bng_ppp.specs.LinkRelation.{LinkGoes, LinkSaid, LinkSteps, after_turn}
use Rattle.bng_ppp.specs.LinkState.{LinkState, is_open}
use Rattle.bng_ppp.specs.ProtocolReject.{hears_other, is_rejected}
use Rattle.bng_ppp.specs.Said.{Said, quiet}
use Rattle.bng_ppp.specs.Timers.{Reminds}
use Rattle.bng_ppp.specs.Verdict.{BeginsFor, Settles}
use Rattle.bng_ppp.specs.LinkFrame.{AuthDoes, HearsWay, HearsOctets}
use Rattle.bng_ppp.specs.LinkTimers.{AuthReminds, AboveReminds}
use Rattle.bng_ppp.proofs.PhaseLaws.{follows_calm, or_assoc, or_false, or_true}
use Rattle.bng_ppp.proofs.TermLaws.{is_tlf}

-- Tests -----------------------------------------------------------------------------------------------------------------

one_of : (a b : Bool) → (a || b) ≡ true → (a ≡ true) ⊎ (b ≡ true)
one_of true b e = inl refl
one_of false b e = inr e

not_so : {X : Type 0} (b : Bool) → b ≡ false → b ≡ true → X
not_so b e f = absurd cc

-- The table -------------------------------------------------------------------------------------------------------------

-- Down and Close
abbrev is_shutting : Event → Bool
is_shutting Up = false
is_shutting Down = true
is_shutting Open = false
is_shutting Close = true
is_shutting ToPlus = false
is_shutting ToMinus = false
is_shutting RcrPlus = false
is_shutting RcrMinus = false
is_shutting Rca = false
is_shutting Rcn = false
is_shutting Rtr = false
is_shutting Rta = false
is_shutting Ruc = false
is_shutting RxjPlus = false
is_shutting RxjMinus = false
is_shutting Rxr = false

-- no row of This-Layer-Finished leads to Opened, and none of Down or of Close
ends_shut : Transition → Bool
ends_shut t = if is_shutting t.event || list_any is_tlf t.actions then not (is_opened t.next) else true

all_end_shut : list_all ends_shut table ≡ true
unfolding ends_shut table
all_end_shut = refl

module _ (old : Machine) (event : Event) (moment : ℕ) (actions : List Action) (new : Machine) (s : Steps old event moment actions new) where
  row_shut : (is_shutting event || list_any is_tlf actions) ≡ true → is_opened new.state ≡ false
  unfolding ends_shut
  row_shut e = by_test (is_shutting event || list_any is_tlf actions) (is_opened new.state) e (passes ends_shut table (row old.state event actions new.state) all_end_shut s.transition)
    where
      by_test : (b c : Bool) → b ≡ true → (if b then not c else true) ≡ true → c ≡ false
      by_test true false e h = refl
      by_test true true e h = sym h
      by_test false c e h = absurd cc

-- LCP -------------------------------------------------------------------------------------------------------------------

module _ (c : Why) (echo now : ℕ) where
  one_lcp : (d : Doing) (a : Action) → (acted c echo now d a).link.lcp ≡ d.link.lcp
  one_lcp d Tlu = refl
  one_lcp d Tld = refl
  one_lcp d Tls = refl
  one_lcp d Tlf = refl
  one_lcp d Irc = refl
  one_lcp d Zrc = refl
  one_lcp d Scr = refl
  one_lcp d Sca = refl
  one_lcp d Scn = refl
  one_lcp d Str = refl
  one_lcp d Sta = refl
  one_lcp d Scj = refl
  one_lcp d Ser = refl

  each_lcp : (d : Doing) (actions : List Action) → (all_acted c echo now d actions).link.lcp ≡ d.link.lcp
  each_lcp d [] = refl
  each_lcp d (a ∷ actions) = each_lcp (acted c echo now d a) actions ∙ one_lcp d a

  one_finished : (d : Doing) (a : Action) → (acted c echo now d a).said.finished ≡ (d.said.finished || is_tlf a)
  one_finished d Tlu = sym (or_false d.said.finished)
  one_finished d Tld = sym (or_false d.said.finished)
  one_finished d Tls = sym (or_false d.said.finished)
  one_finished d Tlf = sym (or_true d.said.finished)
  one_finished d Irc = sym (or_false d.said.finished)
  one_finished d Zrc = sym (or_false d.said.finished)
  one_finished d Scr = sym (or_false d.said.finished)
  one_finished d Sca = sym (or_false d.said.finished)
  one_finished d Scn = sym (or_false d.said.finished)
  one_finished d Str = sym (or_false d.said.finished)
  one_finished d Sta = sym (or_false d.said.finished)
  one_finished d Scj = sym (or_false d.said.finished)
  one_finished d Ser = sym (or_false d.said.finished)

  each_finished : (d : Doing) (actions : List Action) → (all_acted c echo now d actions).said.finished ≡ (d.said.finished || list_any is_tlf actions)
  each_finished d [] = sym (or_false d.said.finished)
  each_finished d (a ∷ actions) =
      each_finished (acted c echo now d a) actions ∙ ap (λ (b : Bool). b || list_any is_tlf actions) (one_finished d a) ∙ or_assoc d.said.finished (is_tlf a) (list_any is_tlf actions)

module _ (event : Event) (c : Why) (echo now : ℕ) (before after : Doing) (f : Follows event c echo now before after) where
  state_after : is_opened f.machine.state ≡ false → is_opened after.link.lcp.state ≡ false
  state_after h = ap (λ (d : Doing). is_opened d.link.lcp.state) f.done ∙ ap (λ (m : Machine). is_opened m.state) (each_lcp c echo now (record before { link = record before.link { lcp = f.machine } }) f.actions) ∙ h

  -- LCP had finished before, or is not Opened
  follows_finished : after.said.finished ≡ true → (before.said.finished ≡ true) ⊎ (is_opened after.link.lcp.state ≡ false)
  follows_finished e =
      let told : (before.said.finished || list_any is_tlf f.actions) ≡ true = sym (ap (λ (d : Doing). d.said.finished) f.done ∙ each_finished c echo now (record before { link = record before.link { lcp = f.machine } }) f.actions) ∙ e in
      ⊎_elim
      (λ (was : before.said.finished ≡ true). inl was)
      (λ (now_ : list_any is_tlf f.actions ≡ true). inr (state_after (row_shut before.link.lcp event now f.actions f.machine f.steps (either_side (is_shutting event) (list_any is_tlf f.actions) now_))))
      (one_of before.said.finished (list_any is_tlf f.actions) told)
    where
      either_side : (a b : Bool) → b ≡ true → (a || b) ≡ true
      either_side true b e = refl
      either_side false b e = e

  -- after Down and after Close it is not Opened
  follows_shut : is_shutting event ≡ true → is_opened after.link.lcp.state ≡ false
  follows_shut e = state_after (row_shut before.link.lcp event now f.actions f.machine f.steps (ap (λ (b : Bool). b || list_any is_tlf f.actions) e))

-- what is told of its end, where it is told, is told of LCP that is not Opened
abbrev ToldShut : Said → LcpState → Type 0
ToldShut says new = says.finished ≡ true → is_opened new.lcp.state ≡ false

silent_shut : (says : Said) (new : LcpState) → says.finished ≡ false → ToldShut says new
silent_shut says new e f = not_so says.finished e f

module _ (echo now : ℕ) (old : LcpState) (says : Said) (new : LcpState) where
  moves_shut : (event : Event) (c : Why) (from : LcpState) → Moves event c echo now from says new → ToldShut says new
  moves_shut event c from m e = ⊎_elim
      (λ (was : false ≡ true). not_so false refl was)
      (λ (shut : is_opened new.lcp.state ≡ false). shut)
      (follows_finished event c echo now (record { link = from; said = quiet }) (record { link = new; said = says }) m e)

  rests_shut : Rests old says new → ToldShut says new
  rests_shut h = silent_shut says new (ap (λ (s : Said). s.finished) h.0)

  loses_shut : Loses echo now old says new → ToldShut says new
  loses_shut h e = ap (λ (d : Doing). is_opened d.link.lcp.state) h.done ∙ follows_shut Down _ echo now (record { link = old; said = quiet }) h.down h.follows refl

  judges_shut : (p : ControlPacket) (random : List ℕ) → Judges p echo now random old says new → ToldShut says new
  judges_shut p random (inl (options, j, are, few, is, m)) = moves_shut _ _ old m
  judges_shut p random (inr (long, h)) = rests_shut h

  reply_shut : (answer : Taken) (p : ControlPacket) (ask : OwnSide) → AfterReply answer p echo now old ask says new → ToldShut says new
  reply_shut Accepted p ask m = moves_shut _ _ _ m
  reply_shut Changed p ask m = moves_shut _ _ _ m
  reply_shut Unwilling p ask m = moves_shut _ _ _ m
  reply_shut Ignored p ask h = rests_shut h

  kind_shut : (k : Kind) (p : ControlPacket) (random : List ℕ) → HearsKind k p echo now random old says new → ToldShut says new
  kind_shut Request p random h = judges_shut p random h
  kind_shut Reply p random h = reply_shut h.answer p h.ask h.after
  kind_shut (Plain event) p random m = moves_shut _ _ old m
  kind_shut Echo p random m = moves_shut _ _ old m
  kind_shut Mute p random h = rests_shut h
  kind_shut EchoReply p random m = moves_shut _ _ _ m
  kind_shut Unknown p random m = moves_shut _ _ old m

  other_shut : (b : Bool) (octets : List ℕ) → says ≡ (hears_other b octets old).said → ToldShut says new
  other_shut false octets e = silent_shut says new (ap (λ (s : Said). s.finished) e)
  other_shut true octets e = silent_shut says new (ap (λ (s : Said). s.finished) e)

  heard_shut : (heard : FrameKind) (octets random : List ℕ) → Hears heard octets echo now random old says new → ToldShut says new
  heard_shut NoFrame octets random h = rests_shut h
  heard_shut NoPacket octets random h = rests_shut h
  heard_shut Long octets random h = rests_shut h
  heard_shut (Lcp p) octets random h = kind_shut (kind_of (packet_of p)) (packet_of p) random h
  heard_shut (Other n) octets random h = other_shut (is_rejected old n) octets h.0

  hears_shut : (octets random : List ℕ) → HearsFrame octets echo now random old says new → ToldShut says new
  hears_shut octets random h = heard_shut h.heard octets random h.hears

  reminds_shut : Reminds echo now old says new → ToldShut says new
  reminds_shut (inl (out, some, m)) = moves_shut _ _ old m
  reminds_shut (inr (inl (out, none, m))) = moves_shut _ _ old m
  reminds_shut (inr (inr (inl (runs, due, many, h)))) = loses_shut h
  reminds_shut (inr (inr (inr (inl (runs, due, few, said, link))))) = silent_shut says new (ap (λ (s : Said). s.finished) said)
  reminds_shut (inr (inr (inr (inr (runs, early, h))))) = rests_shut h

  starts_shut : (ways : List AuthKind) (random : List ℕ) → Starts ways random echo now old says new → ToldShut says new
  starts_shut ways random h e =
      let first : Doing = record { link = record old { ask = h.ask }; said = quiet } in
      let last : Doing = record { link = new; said = says } in
      ⊎_elim
      (λ (was : h.opened.said.finished ≡ true). follows_calm Up _ echo now h.opened last h.on_up refl
      ∙ ⊎_elim
      (λ (before : false ≡ true). not_so false refl before)
      (λ (shut : is_opened h.opened.link.lcp.state ≡ false). shut)
      (follows_finished Open _ echo now first h.opened h.on_open was))
      (λ (shut : is_opened new.lcp.state ≡ false). shut)
      (follows_finished Up _ echo now h.opened last h.on_up e)

steps_shut : (r : LinkRules) (what : LcpInput) (now : ℕ) (random : List ℕ) (old : LcpState) (says : Said) (new : LcpState) → LcpLinkSteps r what now random old says new → ToldShut says new
steps_shut r input.Start now random old says new h = starts_shut r.echo now old says new r.auth.items random h
steps_shut r (input.Frame octets) now random old says new h = hears_shut r.echo now old says new octets.now random h
steps_shut r input.Timer now random old says new h = reminds_shut r.echo now old says new h
steps_shut r input.Close now random old says new m = moves_shut r.echo now old says new _ _ old m
steps_shut r input.Lost now random old says new h = loses_shut r.echo now old says new h

-- Turns -----------------------------------------------------------------------------------------------------------------

-- where LCP finished so far, it is not Opened
abbrev Shut : Turn → Type 0
Shut t = t.finished ≡ true → is_opened t.link.lcp.lcp.state ≡ false

equal_shut : (t u : Turn) → t ≡ u → Shut u → Shut t
equal_shut t u e h = subst Shut (sym e) h

-- nothing has finished yet
begun_shut : (old : LinkState) → Shut (begun old)
begun_shut old e = not_so false refl e

module _ (r : LinkRules) (now : ℕ) (random : List ℕ) where
  authenticates_shut : (k : AuthKind) (t : Turn) → Shut t → Shut (authenticates k r.name.items now random t)
  authenticates_shut kind.Pap t h = h
  authenticates_shut kind.Chap t h = h

  above_shut : (came left : Bool) (t after : Turn) → Shut t → Above came left r now random t after → Shut after
  above_shut true left t after h e = equal_shut after _ e (authenticates_shut t.link.lcp.ask.wanted.auth t h)
  above_shut false true t after h m = equal_shut after _ m.done h
  above_shut false false t after h e = equal_shut after t e h

  lcp_shut : (Step : LcpStep) (old : LinkState) (after : Turn) → ((says : Said) (new : LcpState) → Step old.lcp says new → ToldShut says new) → LcpSteps r Step now random old after → Shut after
  lcp_shut Step old after tells x = above_shut x.says.opened (leaves old.lcp x.lcp) _ after (tells x.says x.lcp x.steps) x.above

  -- LCP that does Close is not Opened then, whether it finished before or not
  closes_shut : (t after : Turn) → LcpCloses r now random t after → Shut after
  closes_shut t after x =
      above_shut x.doing.said.opened (leaves t.link.lcp x.doing.link) _ after
      (λ e. follows_shut Close _ r.echo now (record { link = t.link.lcp; said = record quiet { outs = t.outs } }) x.doing x.follows refl) x.above

  does_shut : (s : AuthStep) (a : Authentication) (t after : Turn) → Shut t → AuthDoes s r now random a t after → Shut after
  does_shut (Ask c) a t after h e = equal_shut after _ e h
  does_shut (Again reply) a t after h e = equal_shut after _ e h
  does_shut Refuse a t after h x = closes_shut _ after x.closes
  does_shut Ignore a t after h e = equal_shut after _ e h

  told_shut : (what : LcpInput) (old : LinkState) (after : Turn) → LcpSteps r (lcp_told r what now random) now random old after → Shut after
  told_shut what old after x = lcp_shut (lcp_told r what now random) old after (λ says new s. steps_shut r what now random old.lcp says new s) x

  frame_shut : (octets : List ℕ) (old : LinkState) (after : Turn) → LcpSteps r (lcp_hears r octets now random) now random old after → Shut after
  frame_shut octets old after x = lcp_shut (lcp_hears r octets now random) old after (λ says new s. hears_shut r.echo now old.lcp says new octets random s) x

  way_shut : (w : FrameOwner) (octets : List ℕ) (old : LinkState) (after : Turn) → HearsWay w r octets now random old after → Shut after
  way_shut (way.Auth p) octets old after x = does_shut x.step x.auth (begun old) after (begun_shut old) x.does
  way_shut (way.Ipcp p) octets old after x = equal_shut after _ x.done (begun_shut old)
  way_shut way.NoPacket octets old after e = equal_shut after (begun old) e (begun_shut old)
  way_shut way.Lcp octets old after (inl (rejects, (t, steps, m))) = equal_shut after _ m.done (frame_shut octets old t steps)
  way_shut way.Lcp octets old after (inr (differs, steps)) = frame_shut octets old after steps

  auth_reminds_shut : (a : Authentication) (t after : Turn) → Shut t → AuthReminds a r now random t after → Shut after
  auth_reminds_shut auth.Idle t after h x = absurd x
  auth_reminds_shut (auth.Pap q) t after h x = closes_shut (with_auth_until t (auth.Pap q) None) after x
  auth_reminds_shut (auth.Chap q sent) t after h (inl (few, e)) = equal_shut after _ e h
  auth_reminds_shut (auth.Chap q sent) t after h (inr (many, x)) = closes_shut (with_auth_until t (auth.Chap q sent) None) after x

  above_reminds_shut : (t after : Turn) → Shut t → AboveReminds r now random t after → Shut after
  above_reminds_shut t after h (inl (due, x)) = auth_reminds_shut t.link.auth t after h x
  above_reminds_shut t after h (inr (inl (early, out, some, m))) = equal_shut after _ m.done h
  above_reminds_shut t after h (inr (inr (inl (early, out, spent, m)))) = equal_shut after _ m.done h
  above_reminds_shut t after h (inr (inr (inr (early, runs, e)))) = equal_shut after t e h

  begins_shut : (lease : Option Ip4) (t after : Turn) → Shut t → BeginsFor lease r now t after → Shut after
  begins_shut None t after h e = equal_shut after t e h
  begins_shut (Some lease) t after h x = equal_shut after _ x.on_up.done (equal_shut x.opened _ x.on_open.done h)

  settles_shut : (still found : Bool) (lease : Option Ip4) (text : List ℕ) (old : LinkState) (after : Turn) → Settles still found r lease text now random old after → Shut after
  settles_shut true true lease text old after x = begins_shut lease _ after (begun_shut old) x.begins
  settles_shut true false lease text old after x = closes_shut _ after x.closes
  settles_shut false found lease text old after e = equal_shut after (begun old) e (begun_shut old)

  goes_shut : (what : Input) (old : LinkState) (t : Turn) (cause : Option ℕ) → LinkGoes r what now random old t cause → Shut t
  goes_shut told.Start old t cause x = told_shut input.Start old t x.0
  goes_shut (told.Frame octets) old t cause x = way_shut x.0.way octets.now old t x.0.hears
  goes_shut told.Timer old t cause x = above_reminds_shut x.0.lcp t (told_shut input.Timer old x.0.lcp x.0.steps) x.0.above
  goes_shut (told.Verdict found lease text) old t cause x = settles_shut (is_open old.auth) found lease text.items old t x.0
  goes_shut told.Close old t cause x = told_shut input.Close old t x.0
  goes_shut told.Lost old t cause x = told_shut input.Lost old t x.0

-- What follows ----------------------------------------------------------------------------------------------------------

pub finished_down : (r : LinkRules) (now : ℕ) (random : List ℕ) (what : Input) (old : LinkState) (says : LinkSaid) (new : LinkState)
    → LinkSteps r what now random old says new → says.finished ≡ true → is_opened new.lcp.lcp.state ≡ false
finished_down r now random what old says new x e =
    ap (λ (s : LinkState). is_opened s.lcp.lcp.state) x.state ∙ goes_shut r now random what old x.turn x.cause x.goes (sym (ap (λ (s : LinkSaid). s.finished) x.said) ∙ e)

pub heard_down : (r : LinkRules) (octets : List ℕ) (now : ℕ) (random : List ℕ) (old : LinkState) (turn : Turn)
    → HearsOctets r octets now random old turn → turn.finished ≡ true → is_opened (after_turn turn).lcp.lcp.state ≡ false
heard_down r octets now random old turn x = way_shut r now random x.way octets old turn x.hears

pub settled_down : (r : LinkRules) (still found : Bool) (lease : Option Ip4) (text : List ℕ) (now : ℕ) (random : List ℕ) (old : LinkState) (turn : Turn)
    → Settles still found r lease text now random old turn → turn.finished ≡ true → is_opened (after_turn turn).lcp.lcp.state ≡ false
settled_down r still found lease text now random old turn x = settles_shut r now random still found lease text old turn x
