-- From one state and by one input LCP goes on in one way.
use Rattle.std.proofs.Common.{◌≡◌, inl, inr, ℕ, Bool, true, false, List, Option, Some, refl, sym, ap, subst, ◌∙◌, arith}
use Rattle.std.specs.List.{slice_get}
use Rattle.bng_automaton.specs.declared.action.Action.{Action}
use Rattle.bng_automaton.specs.declared.event.Event.{Event}
use Rattle.bng_automaton.specs.declared.event.Event.TheVariants.{Up, Open}
use Rattle.bng_automaton.specs.Machine.{Machine}
use Rattle.bng_automaton.proofs.StepLaws.{Steps-one}
use Rattle.bng_base.specs.declared.settings.AuthKind.{AuthKind}
use Rattle.bng_base.specs.PppGrammar.{PppFrame, PppOption, ControlPacket, OptionFits, option_text, IsPpp, IsControlPacket, AreOptions}
use Rattle.bng_base.proofs.PieceLaws.{one_list}
use Rattle.bng_ppp_wire.proofs.OptionLaws.{is_code}
use Rattle.bng_ppp_wire.specs.View.{packet_of, options_of}
use Rattle.bng_lcp.specs.declared.judgement.LcpRules.{LcpRules}
use Rattle.bng_ppp_wire.specs.declared.judgement.Judged.{Judged}
use Rattle.bng_ppp_wire.specs.declared.judgement.Judged.TheVariants as judged
use Rattle.bng_lcp.specs.declared.configure_request.SentLcpRequest.{SentLcpRequest}
use Rattle.bng_lcp.specs.declared.configure_reply.Taken.{Taken}
use Rattle.bng_lcp.specs.declared.configure_reply.Taken.TheVariants.{Accepted, Changed, Ignored, Unwilling}
use Rattle.bng_lcp.specs.Judgement.{IsJudgement}
use Rattle.bng_ppp_wire.specs.MadeOption.{all_made_of}
use Rattle.bng_lcp.specs.Ask.{Ask}
use Rattle.bng_lcp.specs.ConfigureReply.{Acks, Naks, Rejects, Takes}
use Rattle.bng_ppp.specs.declared.counters.Kept.{Kept}
use Rattle.bng_ppp.specs.declared.codes.Kind.{Kind}
use Rattle.bng_ppp.specs.declared.codes.Kind.TheVariants.{Request, Reply, Plain, Echo, Mute, EchoReply, Unknown}
use Rattle.bng_ppp.specs.declared.frame.FrameKind.{FrameKind}
use Rattle.bng_ppp.specs.declared.frame.FrameKind.TheVariants.{NoFrame, NoPacket, Long, Lcp, Other}
use Rattle.bng_ppp.specs.declared.rules.LcpInput.{LcpInput}
use Rattle.bng_ppp.specs.declared.rules.LcpInput.TheVariants as input
use Rattle.bng_ppp.specs.declared.rules.LinkRules.{LinkRules}
use Rattle.bng_ppp.specs.LcpState.{LcpState, IsFirstAsk, is_down}
use Rattle.bng_ppp.specs.Said.{Said, quiet}
use Rattle.bng_ppp.specs.Automaton.{Why, plain, Doing, all_acted, Follows, Moves, Rests}
use Rattle.bng_ppp.specs.LowerLayer.{Loses, finishes, Asks, Starts}
use Rattle.bng_ppp.specs.Frame.{IsHeard}
use Rattle.bng_ppp.specs.Codes.{kind_of}
use Rattle.bng_ppp.specs.ConfigureRequest.{rules_of, answer_of, Judges}
use Rattle.bng_ppp.specs.Judgement.{event_of}
use Rattle.bng_ppp.specs.ConfigureReply.{AfterReply, Replies}
use Rattle.bng_ppp.specs.LcpRelation.{HearsKind, Hears, HearsFrame, LcpLinkSteps}
use Rattle.bng_ppp.specs.Timers.{Reminds}

-- Events ----------------------------------------------------------------------------------------------------------------

pub follows_one : (event : Event) (c : Why) (echo now : ℕ) (before a b : Doing) → Follows event c echo now before a → Follows event c echo now before b → a ≡ b
follows_one event c echo now before a b f g =
    let same = Steps-one before.link.lcp event now f.actions g.actions f.machine g.machine f.steps g.steps in
    let go : Machine → List Action → Doing = λ m actions. all_acted c echo now (record before { link = record before.link { lcp = m } }) actions in
    f.done ∙ ap (go f.machine) same.0 ∙ ap (λ (m : Machine). go m g.actions) same.1 ∙ sym g.done

-- Octets ----------------------------------------------------------------------------------------------------------------

frame_made : ℕ → List ℕ → PppFrame
frame_made n octets = record { protocol = n; info = octets }

frames_equal : (n m : ℕ) (xs ys : List ℕ) → n ≡ m → xs ≡ ys → frame_made n xs ≡ frame_made m ys
frames_equal n m xs ys e f = cc

pub frame_one : (f g : PppFrame) (octets : List ℕ) → IsPpp f octets → IsPpp g octets → f ≡ g
unfolding frame_made
frame_one f g octets a b = frames_equal f.protocol g.protocol f.info g.info (a.protocol ∙ sym b.protocol) (a.info ∙ sym b.info)

packet_made : ℕ → ℕ → List ℕ → ControlPacket
packet_made code id body = record { code = code; id = id; body = body }

packets_equal : (c d i j : ℕ) (xs ys : List ℕ) → c ≡ d → i ≡ j → xs ≡ ys → packet_made c i xs ≡ packet_made d j ys
packets_equal c d i j xs ys e f g = cc

pub packet_one : (p q : ControlPacket) (octets : List ℕ) → IsControlPacket p octets → IsControlPacket q octets → p ≡ q
unfolding packet_made
packet_one p q octets a b = packets_equal p.code q.code p.id q.id p.body q.body (a.code ∙ sym b.code) (a.id ∙ sym b.id) (a.body ∙ sym b.body)

pub options_one : (os more : List PppOption) (body : List ℕ) → AreOptions os body → AreOptions more body → os ≡ more
options_one os more body a b = one_list OptionFits option_text 64 is_code os more body a b

-- Judgements ------------------------------------------------------------------------------------------------------------

-- two judgements of one request are answered alike
judged_one : (r : LcpRules) (k : Kept) (p : ControlPacket) (os : List PppOption) (i j : Judged) → IsJudgement r os i → IsJudgement r os j → (event_of i ≡ event_of j) × (answer_of k p os i ≡ answer_of k p os j)
judged_one r k p os judged.Ack judged.Ack a b = (refl, refl)
judged_one r k p os judged.Ack (judged.Nak made) a b = absurd (b.2 a.1)
judged_one r k p os judged.Ack (judged.Reject options) a b = absurd (b.1 a.0)
judged_one r k p os (judged.Nak made) judged.Ack a b = absurd (a.2 b.1)
judged_one r k p os (judged.Nak made) (judged.Nak other) a b =
    let same : all_made_of made.items ≡ all_made_of other.items = a.1 ∙ sym b.1 in
    (refl, cc)
judged_one r k p os (judged.Nak made) (judged.Reject options) a b = absurd (b.1 a.0)
judged_one r k p os (judged.Reject options) judged.Ack a b = absurd (a.1 b.0)
judged_one r k p os (judged.Reject options) (judged.Nak made) a b = absurd (a.1 b.0)
judged_one r k p os (judged.Reject options) (judged.Reject others) a b =
    let same : options_of options.items ≡ options_of others.items = a.0 ∙ sym b.0 in
    (refl, cc)

-- Replies ---------------------------------------------------------------------------------------------------------------

module _ (old : Ask) (reply : ControlPacket) (random : List ℕ) where
  ack_no_nak : Acks old reply → (os : List PppOption) → Naks old reply os → ⊥
  ack_no_nak a os b = omega (arith, a.reply_is.kind, b.reply_is.kind)

  ack_no_reject : Acks old reply → (os : List PppOption) → Rejects old reply os → ⊥
  ack_no_reject a os b = omega (arith, a.reply_is.kind, b.reply_is.kind)

  nak_no_reject : (os : List PppOption) → Naks old reply os → (more : List PppOption) → Rejects old reply more → ⊥
  nak_no_reject os a more b = omega (arith, a.reply_is.kind, b.reply_is.kind)

  naks_one : (os more : List PppOption) → Naks old reply os → Naks old reply more → os ≡ more
  naks_one os more a b = options_one os more reply.body a.reply_is.lists b.reply_is.lists

  rejects_one : (os more : List PppOption) → Rejects old reply os → Rejects old reply more → os ≡ more
  rejects_one os more a b = options_one os more reply.body a.reply_is.lists b.reply_is.lists

  -- what becomes of a reply, and of what is asked for
  pub takes_one : (t u : Taken) (a b : Ask) → Takes t old reply random a → Takes u old reply random b → (t ≡ u) × (a ≡ b)
  takes_one Accepted Accepted a b x y = (refl, x.1 ∙ sym y.1)
  takes_one Accepted Changed a b x (inl (os, nak, e)) = absurd (ack_no_nak x.0 os nak)
  takes_one Accepted Changed a b x (inr (os, rej, f, e)) = absurd (ack_no_reject x.0 os rej)
  takes_one Accepted Unwilling a b x ((os, rej, t), e) = absurd (ack_no_reject x.0 os rej)
  takes_one Accepted Ignored a b x y = absurd (y.0 x.0)
  takes_one Changed Accepted a b (inl (os, nak, e)) y = absurd (ack_no_nak y.0 os nak)
  takes_one Changed Accepted a b (inr (os, rej, f, e)) y = absurd (ack_no_reject y.0 os rej)
  takes_one Changed Changed a b (inl (os, nak, e)) (inl (more, nak', e')) =
      let same = naks_one os more nak nak' in
      (refl, cc)
  takes_one Changed Changed a b (inl (os, nak, e)) (inr (more, rej, f, e')) = absurd (nak_no_reject os nak more rej)
  takes_one Changed Changed a b (inr (os, rej, f, e)) (inl (more, nak, e')) = absurd (nak_no_reject more nak os rej)
  takes_one Changed Changed a b (inr (os, rej, f, e)) (inr (more, rej', f', e')) =
      let same = rejects_one os more rej rej' in
      (refl, cc)
  takes_one Changed Unwilling a b (inl (os, nak, e)) ((more, rej, t), e') = absurd (nak_no_reject os nak more rej)
  takes_one Changed Unwilling a b (inr (os, rej, f, e)) ((more, rej', t), e') =
      let same = rejects_one os more rej rej' in
      absurd cc
  takes_one Changed Ignored a b (inl (os, nak, e)) y = absurd (y.1 os nak)
  takes_one Changed Ignored a b (inr (os, rej, f, e)) y = absurd (y.2 os rej)
  takes_one Unwilling Accepted a b ((os, rej, t), e) y = absurd (ack_no_reject y.0 os rej)
  takes_one Unwilling Changed a b ((os, rej, t), e) (inl (more, nak, e')) = absurd (nak_no_reject more nak os rej)
  takes_one Unwilling Changed a b ((os, rej, t), e) (inr (more, rej', f, e')) =
      let same = rejects_one os more rej rej' in
      absurd cc
  takes_one Unwilling Unwilling a b x y = (refl, x.1 ∙ sym y.1)
  takes_one Unwilling Ignored a b ((os, rej, t), e) y = absurd (y.2 os rej)
  takes_one Ignored Accepted a b x y = absurd (x.0 y.0)
  takes_one Ignored Changed a b x (inl (os, nak, e)) = absurd (x.1 os nak)
  takes_one Ignored Changed a b x (inr (os, rej, f, e)) = absurd (x.2 os rej)
  takes_one Ignored Unwilling a b x ((os, rej, t), e) = absurd (x.2 os rej)
  takes_one Ignored Ignored a b x y = (refl, x.3 ∙ sym y.3)

-- Start -----------------------------------------------------------------------------------------------------------------

ask_made : ℕ → List AuthKind → Option ℕ → AuthKind → Option ℕ → Option SentLcpRequest → Ask
ask_made limit allowed mru auth magic sent = record { limit = limit; allowed = allowed; wanted = record { mru = mru; auth = auth; magic = magic }; sent = sent }

asks_equal : (l m : ℕ) (xs ys : List AuthKind) (u v : Option ℕ) (a b : AuthKind) (g h : Option ℕ) (s t : Option SentLcpRequest) → l ≡ m → xs ≡ ys → u ≡ v → a ≡ b → g ≡ h → s ≡ t → ask_made l xs u a g s ≡ ask_made m ys v b h t
asks_equal l m xs ys u v a b g h s t p q r w x y = cc

same_auth_of : (o : Option AuthKind) (a b : AuthKind) → o ≡ Some a → o ≡ Some b → a ≡ b
same_auth_of o a b e f = cc

first_ask_one : (limit : ℕ) (auth : List AuthKind) (random : List ℕ) (a b : Ask) → IsFirstAsk limit auth random a → IsFirstAsk limit auth random b → a ≡ b
unfolding ask_made
first_ask_one limit auth random a b x y =
    asks_equal a.limit b.limit a.allowed b.allowed a.wanted.mru b.wanted.mru a.wanted.auth b.wanted.auth a.wanted.magic b.wanted.magic a.sent b.sent
    (x.limited ∙ sym y.limited) (x.allowed ∙ sym y.allowed) (x.mru ∙ sym y.mru) (same_auth_of (slice_get auth 0) a.wanted.auth b.wanted.auth x.first y.first) (x.magic ∙ sym y.magic) (x.unsent ∙ sym y.unsent)

asks_one : (down : Bool) (auth : List AuthKind) (random : List ℕ) (old : LcpState) (a b : Ask) → Asks down auth random old a → Asks down auth random old b → a ≡ b
asks_one true auth random old a b x y = first_ask_one old.kept.limit auth random a b x y
asks_one false auth random old a b x y = x ∙ sym y

-- Steps -----------------------------------------------------------------------------------------------------------------

doing : LcpState → Said → Doing
doing link says = record { link = link; said = says }

parts : (a b : LcpState) (s t : Said) → doing a s ≡ doing b t → (s ≡ t) × (a ≡ b)
unfolding doing
parts a b s t e = (ap (λ (d : Doing). d.said) e, ap (λ (d : Doing). d.link) e)

module _ (echo now : ℕ) (old : LcpState) (says other : Said) (new next : LcpState) where
  abbrev Same : Type 0
  Same = (says ≡ other) × (new ≡ next)

  moves_one : (event : Event) (c : Why) (from : LcpState) → Moves event c echo now from says new → Moves event c echo now from other next → Same
  unfolding doing
  moves_one event c from f g = parts new next says other (follows_one event c echo now (record { link = from; said = quiet }) (record { link = new; said = says }) (record { link = next; said = other }) f g)

  rests_one : Rests old says new → Rests old other next → Same
  rests_one a b = (a.0 ∙ sym b.0, a.1 ∙ sym b.1)

  loses_one : Loses echo now old says new → Loses echo now old other next → Same
  unfolding doing
  loses_one a b =
      let same = follows_one _ _ echo now (record { link = old; said = quiet }) a.down b.down a.follows b.follows in
      parts new next says other (a.done ∙ ap finishes same ∙ sym b.done)

  judges_one : (p : ControlPacket) (random : List ℕ) → Judges p echo now random old says new → Judges p echo now random old other next → Same
  judges_one p random (inl (os, j, are, few, is, m)) (inl (more, i, are', few', is', m')) =
      let same = options_one more os p.body are' are in
      let is_os : IsJudgement (rules_of old random) os i = subst (λ (xs : List PppOption). IsJudgement (rules_of old random) xs i) same is' in
      let m_os : Moves (event_of i) (answer_of old.kept p os i) echo now old other next = subst (λ (xs : List PppOption). Moves (event_of i) (answer_of old.kept p xs i) echo now old other next) same m' in
      let alike = judged_one (rules_of old random) old.kept p os i j is_os is in
      let m_event : Moves (event_of j) (answer_of old.kept p os i) echo now old other next = subst (λ (e : Event). Moves e (answer_of old.kept p os i) echo now old other next) alike.0 m_os in
      let m_answer : Moves (event_of j) (answer_of old.kept p os j) echo now old other next = subst (λ (w : Why). Moves (event_of j) w echo now old other next) alike.1 m_event in
      moves_one (event_of j) (answer_of old.kept p os j) old m m_answer
  judges_one p random (inl (os, j, are, few, is, m)) (inr (long, h)) = absurd (omega (arith, few, long os are))
  judges_one p random (inr (long, h)) (inl (os, j, are, few, is, m)) = absurd (omega (arith, few, long os are))
  judges_one p random (inr (long, h)) (inr (long', h')) = rests_one h h'

  after_one : (t : Taken) (p : ControlPacket) (a : Ask) → AfterReply t p echo now old a says new → AfterReply t p echo now old a other next → Same
  after_one Accepted p a x y = moves_one _ _ _ x y
  after_one Changed p a x y = moves_one _ _ _ x y
  after_one Unwilling p a x y = moves_one _ _ _ x y
  after_one Ignored p a x y = rests_one x y

  replies_one : (p : ControlPacket) (random : List ℕ) → Replies p echo now random old says new → Replies p echo now random old other next → Same
  replies_one p random x y =
      let same = takes_one old.ask p random y.answer x.answer y.ask x.ask y.takes x.takes in
      let first : AfterReply x.answer p echo now old y.ask other next = subst (λ (t : Taken). AfterReply t p echo now old y.ask other next) same.0 y.after in
      let both : AfterReply x.answer p echo now old x.ask other next = subst (λ (a : Ask). AfterReply x.answer p echo now old a other next) same.1 first in
      after_one x.answer p x.ask x.after both

  kind_one : (kind : Kind) (p : ControlPacket) (random : List ℕ) → HearsKind kind p echo now random old says new → HearsKind kind p echo now random old other next → Same
  kind_one Request p random x y = judges_one p random x y
  kind_one Reply p random x y = replies_one p random x y
  kind_one (Plain event) p random x y = moves_one _ _ _ x y
  kind_one Echo p random x y = moves_one _ _ _ x y
  kind_one Mute p random x y = rests_one x y
  kind_one EchoReply p random x y = moves_one _ _ _ x y
  kind_one Unknown p random x y = moves_one _ _ _ x y

  heard_one : (octets random : List ℕ) (h k : FrameKind) → IsHeard octets h → IsHeard octets k → Hears h octets echo now random old says new → Hears k octets echo now random old other next → Same
  heard_one octets random Long Long a b x y = rests_one x y
  heard_one octets random Long NoFrame a b x y = absurd (omega (arith, a, b.0))
  heard_one octets random Long NoPacket a b x y = absurd (omega (arith, a, b.0))
  heard_one octets random Long (Lcp q) a b x y = absurd (omega (arith, a, b.0))
  heard_one octets random Long (Other m) a b x y = absurd (omega (arith, a, b.0))
  heard_one octets random NoFrame Long a b x y = absurd (omega (arith, b, a.0))
  heard_one octets random NoFrame NoFrame a b x y = rests_one x y
  heard_one octets random NoFrame NoPacket a (short, (f, is, to, none)) x y = absurd (a.1 f is)
  heard_one octets random NoFrame (Lcp q) a (short, (f, is, to, packet)) x y = absurd (a.1 f is)
  heard_one octets random NoFrame (Other m) a (short, (f, is, to, differs)) x y = absurd (a.1 f is)
  heard_one octets random NoPacket Long a b x y = absurd (omega (arith, b, a.0))
  heard_one octets random NoPacket NoFrame (short, (f, is, to, none)) b x y = absurd (b.1 f is)
  heard_one octets random NoPacket NoPacket a b x y = rests_one x y
  heard_one octets random NoPacket (Lcp q) (short, (f, is, to, none)) (short', (g, is', to', packet)) x y =
      let same = frame_one g f octets is' is in
      absurd (none (packet_of q) (subst (λ (e : PppFrame). IsControlPacket (packet_of q) e.info) same packet))
  heard_one octets random NoPacket (Other m) (short, (f, is, to, none)) (short', (g, is', to', differs)) x y =
      let same = frame_one g f octets is' is in
      absurd (differs (sym to' ∙ ap (λ (e : PppFrame). e.protocol) same ∙ to))
  heard_one octets random (Lcp p) Long a b x y = absurd (omega (arith, b, a.0))
  heard_one octets random (Lcp p) NoFrame (short, (f, is, to, packet)) b x y = absurd (b.1 f is)
  heard_one octets random (Lcp p) NoPacket (short, (f, is, to, packet)) (short', (g, is', to', none)) x y =
      let same = frame_one f g octets is is' in
      absurd (none (packet_of p) (subst (λ (e : PppFrame). IsControlPacket (packet_of p) e.info) same packet))
  heard_one octets random (Lcp p) (Lcp q) (short, (f, is, to, packet)) (short', (g, is', to', packet')) x y =
      let frames = frame_one g f octets is' is in
      let moved : IsControlPacket (packet_of q) f.info = subst (λ (e : PppFrame). IsControlPacket (packet_of q) e.info) frames packet' in
      let same = packet_one (packet_of q) (packet_of p) f.info moved packet in
      kind_one (kind_of (packet_of p)) (packet_of p) random x (subst (λ (r : ControlPacket). HearsKind (kind_of r) r echo now random old other next) same y)
  heard_one octets random (Lcp p) (Other m) (short, (f, is, to, packet)) (short', (g, is', to', differs)) x y =
      let same = frame_one g f octets is' is in
      absurd (differs (sym to' ∙ ap (λ (e : PppFrame). e.protocol) same ∙ to))
  heard_one octets random (Other n) Long a b x y = absurd (omega (arith, b, a.0))
  heard_one octets random (Other n) NoFrame (short, (f, is, to, differs)) b x y = absurd (b.1 f is)
  heard_one octets random (Other n) NoPacket (short, (f, is, to, differs)) (short', (g, is', to', none)) x y =
      let same = frame_one f g octets is is' in
      absurd (differs (sym to ∙ ap (λ (e : PppFrame). e.protocol) same ∙ to'))
  heard_one octets random (Other n) (Lcp q) (short, (f, is, to, differs)) (short', (g, is', to', packet)) x y =
      let same = frame_one f g octets is is' in
      absurd (differs (sym to ∙ ap (λ (e : PppFrame). e.protocol) same ∙ to'))
  heard_one octets random (Other n) (Other m) (short, (f, is, to, differs)) (short', (g, is', to', differs')) x y =
      let same : m ≡ n = sym to' ∙ ap (λ (e : PppFrame). e.protocol) (frame_one g f octets is' is) ∙ to in
      let moved : Hears (Other n) octets echo now random old other next = subst (λ (k : ℕ). Hears (Other k) octets echo now random old other next) same y in
      (x.0 ∙ sym moved.0, x.1 ∙ sym moved.1)

  pub hears_one : (octets random : List ℕ) → HearsFrame octets echo now random old says new → HearsFrame octets echo now random old other next → Same
  hears_one octets random x y = heard_one octets random x.heard y.heard x.is y.is x.hears y.hears

  pub reminds_one : Reminds echo now old says new → Reminds echo now old other next → Same
  reminds_one (inl (out, some, m)) (inl (out', some', m')) = moves_one _ _ _ m m'
  reminds_one (inl (out, some, m)) (inr (inl (out', spent', m'))) = absurd (omega arith)
  reminds_one (inl (out, some, m)) (inr (inr (inl (runs', due', many', h')))) = absurd (runs' out)
  reminds_one (inl (out, some, m)) (inr (inr (inr (inl (runs', due', few', said', link'))))) = absurd (runs' out)
  reminds_one (inl (out, some, m)) (inr (inr (inr (inr (runs', early', h'))))) = absurd (runs' out)
  reminds_one (inr (inl (out, spent, m))) (inl (out', some', m')) = absurd (omega arith)
  reminds_one (inr (inl (out, spent, m))) (inr (inl (out', spent', m'))) = moves_one _ _ _ m m'
  reminds_one (inr (inl (out, spent, m))) (inr (inr (inl (runs', due', many', h')))) = absurd (runs' out)
  reminds_one (inr (inl (out, spent, m))) (inr (inr (inr (inl (runs', due', few', said', link'))))) = absurd (runs' out)
  reminds_one (inr (inl (out, spent, m))) (inr (inr (inr (inr (runs', early', h'))))) = absurd (runs' out)
  reminds_one (inr (inr (inl (runs, due, many, h)))) (inl (out', some', m')) = absurd (runs out')
  reminds_one (inr (inr (inl (runs, due, many, h)))) (inr (inl (out', spent', m'))) = absurd (runs out')
  reminds_one (inr (inr (inl (runs, due, many, h)))) (inr (inr (inl (runs', due', many', h')))) = loses_one h h'
  reminds_one (inr (inr (inl (runs, due, many, h)))) (inr (inr (inr (inl (runs', due', few', said', link'))))) = absurd (omega arith)
  reminds_one (inr (inr (inl (runs, due, many, h)))) (inr (inr (inr (inr (runs', early', h'))))) = absurd (early' due)
  reminds_one (inr (inr (inr (inl (runs, due, few, said, link))))) (inl (out', some', m')) = absurd (runs out')
  reminds_one (inr (inr (inr (inl (runs, due, few, said, link))))) (inr (inl (out', spent', m'))) = absurd (runs out')
  reminds_one (inr (inr (inr (inl (runs, due, few, said, link))))) (inr (inr (inl (runs', due', many', h')))) = absurd (omega arith)
  reminds_one (inr (inr (inr (inl (runs, due, few, said, link))))) (inr (inr (inr (inl (runs', due', few', said', link'))))) = (said ∙ sym said', link ∙ sym link')
  reminds_one (inr (inr (inr (inl (runs, due, few, said, link))))) (inr (inr (inr (inr (runs', early', h'))))) = absurd (early' due)
  reminds_one (inr (inr (inr (inr (runs, early, h))))) (inl (out', some', m')) = absurd (runs out')
  reminds_one (inr (inr (inr (inr (runs, early, h))))) (inr (inl (out', spent', m'))) = absurd (runs out')
  reminds_one (inr (inr (inr (inr (runs, early, h))))) (inr (inr (inl (runs', due', many', h')))) = absurd (early due')
  reminds_one (inr (inr (inr (inr (runs, early, h))))) (inr (inr (inr (inl (runs', due', few', said', link'))))) = absurd (early due')
  reminds_one (inr (inr (inr (inr (runs, early, h))))) (inr (inr (inr (inr (runs', early', h'))))) = rests_one h h'

  starts_one : (auth : List AuthKind) (random : List ℕ) → Starts auth random echo now old says new → Starts auth random echo now old other next → Same
  unfolding doing
  starts_one auth random x y =
      let asks = asks_one (is_down old.lcp.state) auth random old y.ask x.ask y.asks x.asks in
      let begun : Follows Open (plain old.kept 0) echo now (record { link = record old { ask = x.ask }; said = quiet }) y.opened =
      subst (λ (a : Ask). Follows Open (plain old.kept 0) echo now (record { link = record old { ask = a }; said = quiet }) y.opened) asks y.on_open in
      let opened = follows_one Open (plain old.kept 0) echo now (record { link = record old { ask = x.ask }; said = quiet }) y.opened x.opened begun x.on_open in
      let up : Follows Up (plain x.opened.link.kept 0) echo now x.opened (record { link = next; said = other }) =
      subst (λ (d : Doing). Follows Up (plain d.link.kept 0) echo now d (record { link = next; said = other })) opened y.on_up in
      parts new next says other (follows_one Up (plain x.opened.link.kept 0) echo now x.opened (record { link = new; said = says }) (record { link = next; said = other }) x.on_up up)

-- a step of LCP, whatever it is told
pub steps_one : (r : LinkRules) (told : LcpInput) (now : ℕ) (random : List ℕ) (old : LcpState) (says other : Said) (new next : LcpState) → LcpLinkSteps r told now random old says new → LcpLinkSteps r told now random old other next → (says ≡ other) × (new ≡ next)
steps_one r input.Start now random old says other new next x y = starts_one r.echo now old says other new next r.auth.items random x y
steps_one r (input.Frame octets) now random old says other new next x y = hears_one r.echo now old says other new next octets.now random x y
steps_one r input.Timer now random old says other new next x y = reminds_one r.echo now old says other new next x y
steps_one r input.Close now random old says other new next x y = moves_one r.echo now old says other new next _ _ old x y
steps_one r input.Lost now random old says other new next x y = loses_one r.echo now old says other new next x y
