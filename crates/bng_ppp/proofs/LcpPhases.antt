-- A step of LCP says that it came to Opened exactly where it did.
use Rattle.std.proofs.Common.{◌≡◌, inl, inr, ℕ, Bool, true, false, ◌||◌, List, refl, sym, ap, ◌∙◌}
use Rattle.bng_automaton.specs.declared.event.Event.{Event}
use Rattle.bng_automaton.specs.declared.event.Event.TheVariants.{Up, Open}
use Rattle.bng_automaton.specs.Machine.{Machine}
use Rattle.bng_base.specs.declared.settings.AuthKind.{AuthKind}
use Rattle.bng_base.specs.PppGrammar.{ControlPacket}
use Rattle.bng_lcp.specs.declared.configure_reply.Taken.{Taken}
use Rattle.bng_lcp.specs.declared.configure_reply.Taken.TheVariants.{Accepted, Changed, Ignored, Unwilling}
use Rattle.bng_lcp.specs.Ask.{Ask}
use Rattle.bng_ppp_wire.specs.View.{packet_of}
use Rattle.bng_ppp.specs.declared.codes.Kind.{Kind}
use Rattle.bng_ppp.specs.declared.codes.Kind.TheVariants.{Request, Reply, Plain, Echo, Mute, EchoReply, Unknown}
use Rattle.bng_ppp.specs.declared.frame.FrameKind.{FrameKind}
use Rattle.bng_ppp.specs.declared.frame.FrameKind.TheVariants.{NoFrame, NoPacket, Long, Lcp, Other}
use Rattle.bng_ppp.specs.declared.rules.LcpInput.{LcpInput}
use Rattle.bng_ppp.specs.declared.rules.LcpInput.TheVariants as input
use Rattle.bng_ppp.specs.declared.rules.LinkRules.{LinkRules}
use Rattle.bng_ppp.specs.Automaton.{Doing, Why, Moves, Rests}
use Rattle.bng_ppp.specs.LcpState.{is_opened, LcpState}
use Rattle.bng_ppp.specs.ConfigureRequest.{Judges}
use Rattle.bng_ppp.specs.ConfigureReply.{AfterReply}
use Rattle.bng_ppp.specs.LcpRelation.{HearsKind, Hears, HearsFrame, LcpLinkSteps}
use Rattle.bng_ppp.specs.ProtocolReject.{hears_other, is_rejected}
use Rattle.bng_ppp.specs.LowerLayer.{Starts, Loses}
use Rattle.bng_ppp.specs.Timers.{Reminds}
use Rattle.bng_ppp.specs.Codes.{kind_of}
use Rattle.bng_ppp.specs.Said.{Said, quiet}
use Rattle.bng_ppp.proofs.PhaseLaws.{never, comes, follows_open, follows_calm}

-- what is told is that LCP came to Opened
abbrev pub TellsOpened : LcpState → Said → LcpState → Type 0
TellsOpened old says new = says.opened ≡ comes (is_opened old.lcp.state) (is_opened new.lcp.state)

at_rest : (old new : LcpState) (says : Said) → says.opened ≡ false → new.lcp ≡ old.lcp → TellsOpened old says new
at_rest old new says silent same =
    silent ∙ sym (never (is_opened old.lcp.state)) ∙ ap (λ (m : Machine). comes (is_opened old.lcp.state) (is_opened m.state)) (sym same)

calmly : (was is : Bool) → is ≡ was → comes was is ≡ false
calmly was is e = ap (λ (b : Bool). comes was b) e ∙ never was

neither : (a b c : Bool) → a ≡ (false || b) → b ≡ false → c ≡ false → (a || c) ≡ false
neither a b c e f g = ap (λ (x : Bool). x || c) (e ∙ f) ∙ g

module _ (echo now : ℕ) (old : LcpState) (says : Said) (new : LcpState) where
  moves_open : (event : Event) (c : Why) (from : LcpState) → from.lcp ≡ old.lcp → Moves event c echo now from says new → TellsOpened old says new
  moves_open event c from same m =
      follows_open event c echo now (record { link = from; said = quiet }) (record { link = new; said = says }) m
      ∙ ap (λ (m : Machine). comes (is_opened m.state) (is_opened new.lcp.state)) same

  rests_open : Rests old says new → TellsOpened old says new
  rests_open h = at_rest old new says (ap (λ (s : Said). s.opened) h.0) (ap (λ (l : LcpState). l.lcp) h.1)

  loses_open : Loses echo now old says new → TellsOpened old says new
  loses_open h =
      let down = follows_open _ _ echo now (record { link = old; said = quiet }) h.down h.follows in
      let told : says.opened ≡ h.down.said.opened = ap (λ (d : Doing). d.said.opened) h.done in
      let state : h.down.link.lcp ≡ new.lcp = sym (ap (λ (d : Doing). d.link.lcp) h.done) in
      told ∙ down ∙ ap (λ (m : Machine). comes (is_opened old.lcp.state) (is_opened m.state)) state

  judges_open : (p : ControlPacket) (random : List ℕ) → Judges p echo now random old says new → TellsOpened old says new
  judges_open p random (inl (options, j, are, few, is, m)) = moves_open _ _ old refl m
  judges_open p random (inr (long, h)) = rests_open h

  reply_open : (answer : Taken) (p : ControlPacket) (ask : Ask) → AfterReply answer p echo now old ask says new → TellsOpened old says new
  reply_open Accepted p ask m = moves_open _ _ _ refl m
  reply_open Changed p ask m = moves_open _ _ _ refl m
  reply_open Unwilling p ask m = moves_open _ _ _ refl m
  reply_open Ignored p ask h = rests_open h

  kind_open : (kind : Kind) (p : ControlPacket) (random : List ℕ) → HearsKind kind p echo now random old says new → TellsOpened old says new
  kind_open Request p random h = judges_open p random h
  kind_open Reply p random h = reply_open h.answer p h.ask h.after
  kind_open (Plain event) p random m = moves_open _ _ old refl m
  kind_open Echo p random m = moves_open _ _ old refl m
  kind_open Mute p random h = rests_open h
  kind_open EchoReply p random m = moves_open _ _ _ refl m
  kind_open Unknown p random m = moves_open _ _ old refl m

  other_open : (b : Bool) (octets : List ℕ) → says ≡ (hears_other b octets old).said → new ≡ (hears_other b octets old).link → TellsOpened old says new
  other_open false octets e f = at_rest old new says (ap (λ (s : Said). s.opened) e) (ap (λ (l : LcpState). l.lcp) f)
  other_open true octets e f = at_rest old new says (ap (λ (s : Said). s.opened) e) (ap (λ (l : LcpState). l.lcp) f)

  heard_open : (heard : FrameKind) (octets random : List ℕ) → Hears heard octets echo now random old says new → TellsOpened old says new
  heard_open NoFrame octets random h = rests_open h
  heard_open NoPacket octets random h = rests_open h
  heard_open Long octets random h = rests_open h
  heard_open (Lcp p) octets random h = kind_open (kind_of (packet_of p)) (packet_of p) random h
  heard_open (Other n) octets random h = other_open (is_rejected old n) octets h.0 h.1

  pub hears_open : (octets random : List ℕ) → HearsFrame octets echo now random old says new → TellsOpened old says new
  hears_open octets random h = heard_open h.heard octets random h.hears

  pub reminds_open : Reminds echo now old says new → TellsOpened old says new
  reminds_open (inl (out, some, m)) = moves_open _ _ old refl m
  reminds_open (inr (inl (out, none, m))) = moves_open _ _ old refl m
  reminds_open (inr (inr (inl (runs, due, many, h)))) = loses_open h
  reminds_open (inr (inr (inr (inl (runs, due, few, said, link))))) = at_rest old new says (ap (λ (s : Said). s.opened) said) (ap (λ (l : LcpState). l.lcp) link)
  reminds_open (inr (inr (inr (inr (runs, early, h))))) = rests_open h

  starts_open : (auth : List AuthKind) (random : List ℕ) → Starts auth random echo now old says new → TellsOpened old says new
  starts_open auth random h =
      let first : Doing = record { link = record old { ask = h.ask }; said = quiet } in
      let last : Doing = record { link = new; said = says } in
      let was = is_opened old.lcp.state in
      let mid = is_opened h.opened.link.lcp.state in
      let is = is_opened new.lcp.state in
      let on_open = follows_open Open _ echo now first h.opened h.on_open in
      let on_up = follows_open Up _ echo now h.opened last h.on_up in
      let same : mid ≡ was = follows_calm Open _ echo now first h.opened h.on_open refl in
      let still : is ≡ mid = follows_calm Up _ echo now h.opened last h.on_up refl in
      on_up ∙ neither h.opened.said.opened (comes was mid) (comes mid is) on_open (calmly was mid same) (calmly mid is still) ∙ sym (calmly was is (still ∙ same))

-- Open and Up neither bring LCP to Opened nor away from it
pub starts_calm : (echo now : ℕ) (old : LcpState) (says : Said) (new : LcpState) (auth : List AuthKind) (random : List ℕ) → Starts auth random echo now old says new → is_opened new.lcp.state ≡ is_opened old.lcp.state
starts_calm echo now old says new auth random h =
    follows_calm Up _ echo now h.opened (record { link = new; said = says }) h.on_up refl
    ∙ follows_calm Open _ echo now (record { link = record old { ask = h.ask }; said = quiet }) h.opened h.on_open refl

pub steps_open : (r : LinkRules) (told : LcpInput) (now : ℕ) (random : List ℕ) (old : LcpState) (says : Said) (new : LcpState) → LcpLinkSteps r told now random old says new → TellsOpened old says new
steps_open r input.Start now random old says new h = starts_open r.echo now old says new r.auth.items random h
steps_open r (input.Frame octets) now random old says new h = hears_open r.echo now old says new octets.now random h
steps_open r input.Timer now random old says new h = reminds_open r.echo now old says new h
steps_open r input.Close now random old says new m = moves_open r.echo now old says new _ _ old refl m
steps_open r input.Lost now random old says new h = loses_open r.echo now old says new h
