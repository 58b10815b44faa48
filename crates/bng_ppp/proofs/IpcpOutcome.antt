-- From one state and by one packet IPCP goes on in one way.
use Rattle.std.proofs.Common.{◌≡◌, ℕ, List, Option, inl, inr, refl, sym, ap, subst, ◌∙◌, arith}
use Rattle.bng_automaton.specs.declared.action.Action.{Action}
use Rattle.bng_automaton.specs.declared.event.Event.{Event}
use Rattle.bng_automaton.specs.Machine.{Machine}
use Rattle.bng_automaton.proofs.StepLaws.{Steps-one}
use Rattle.bng_base.specs.declared.address.Ip4.{Ip4}
use Rattle.bng_base.specs.PppGrammar.{PppOption, ControlPacket}
use Rattle.bng_ppp_wire.specs.View.{options_of}
use Rattle.bng_ipcp.specs.declared.judgement.IpcpRules.{IpcpRules}
use Rattle.bng_ppp_wire.specs.declared.judgement.Judged.{Judged}
use Rattle.bng_ppp_wire.specs.declared.judgement.Judged.TheVariants as judged
use Rattle.bng_ipcp.specs.declared.configure_reply.Taken.{Taken}
use Rattle.bng_ipcp.specs.declared.configure_reply.Taken.TheVariants.{Accepted, Changed, Ignored}
use Rattle.bng_ipcp.specs.Judgement.{IsJudgement}
use Rattle.bng_ppp_wire.specs.MadeOption.{all_made_of}
use Rattle.bng_ipcp.specs.Ask.{Ask}
use Rattle.bng_ipcp.specs.ConfigureReply.{Acks, Naks, Rejects, Takes}
use Rattle.bng_ppp.specs.declared.ipcp_counters.IpcpKept.{IpcpKept}
use Rattle.bng_ppp.specs.declared.ipcp_codes.IpcpKind.{IpcpKind}
use Rattle.bng_ppp.specs.declared.ipcp_codes.IpcpKind.TheVariants.{Request, Reply, Plain, Unknown}
use Rattle.bng_ppp.specs.IpcpAutomaton.{IpcpWhy, IpcpDoing, IpcpFollows, all_ipcp_acted}
use Rattle.bng_ppp.specs.IpcpConfigureRequest.{IpcpJudges, ipcp_rules_of, ipcp_answer_of}
use Rattle.bng_ppp.specs.Judgement.{event_of}
use Rattle.bng_ppp.specs.IpcpPacket.{IpcpReplies, IpcpAfterReply, IpcpHearsKind}
use Rattle.bng_ppp.proofs.OneOutcome.{options_one}

pub ipcp_follows_one : (event : Event) (c : IpcpWhy) (now : ℕ) (before a b : IpcpDoing) → IpcpFollows event c now before a → IpcpFollows event c now before b → a ≡ b
ipcp_follows_one event c now before a b f g =
    let same = Steps-one before.ipcp.machine event now f.actions g.actions f.machine g.machine f.steps g.steps in
    let go : Machine → List Action → IpcpDoing = λ m actions. all_ipcp_acted c (record before { ipcp = record before.ipcp { machine = m } }) actions in
    f.done ∙ ap (go f.machine) same.0 ∙ ap (λ (m : Machine). go m g.actions) same.1 ∙ sym g.done

-- two judgements of one request are answered alike
judged_one : (r : IpcpRules) (k : IpcpKept) (p : ControlPacket) (os : List PppOption) (i j : Judged) → IsJudgement r os i → IsJudgement r os j → (event_of i ≡ event_of j) × (ipcp_answer_of k p i ≡ ipcp_answer_of k p j)
judged_one r k p os judged.Ack judged.Ack a b = (refl, refl)
judged_one r k p os judged.Ack (judged.Nak made) a b = absurd (b.2 a.1)
judged_one r k p os judged.Ack (judged.Reject options) a b = absurd (b.1 a.0)
judged_one r k p os (judged.Nak made) judged.Ack a b = absurd (a.2 b.1)
judged_one r k p os (judged.Nak made) (judged.Nak other) a b =
    let same : all_made_of made.items ≡ all_made_of other.items = a.1 ∙ sym b.1 in
    (refl, cc)
judged_one r k p os (judged.Nak made) (judged.Reject options) a b = absurd (b.1 a.0)
judged_one r k p os (judged.Reject options) judged.Ack a b = absurd (a.1 b.0)
judged_one r k p os (judged.Reject options) (judged.Nak made) a b = absurd (a.1 b.0)
judged_one r k p os (judged.Reject options) (judged.Reject others) a b =
    let same : options_of options.items ≡ options_of others.items = a.0 ∙ sym b.0 in
    (refl, cc)

module _ (old : Ask) (reply : ControlPacket) where
  ack_no_nak : Acks old reply → (os : List PppOption) → Naks old reply os → ⊥
  ack_no_nak a os b = omega (arith, a.reply_is.kind, b.reply_is.kind)

  ack_no_reject : Acks old reply → (os : List PppOption) → Rejects old reply os → ⊥
  ack_no_reject a os b = omega (arith, a.reply_is.kind, b.reply_is.kind)

  nak_no_reject : (os : List PppOption) → Naks old reply os → (more : List PppOption) → Rejects old reply more → ⊥
  nak_no_reject os a more b = omega (arith, a.reply_is.kind, b.reply_is.kind)

  -- what becomes of a reply, and of what is asked for
  takes_one : (t u : Taken) (a b : Ask) → Takes t old reply a → Takes u old reply b → (t ≡ u) × (a ≡ b)
  takes_one Accepted Accepted a b x y = (refl, x.1 ∙ sym y.1)
  takes_one Accepted Changed a b x (inl (os, nak, e)) = absurd (ack_no_nak x.0 os nak)
  takes_one Accepted Changed a b x (inr (os, rej, e)) = absurd (ack_no_reject x.0 os rej)
  takes_one Accepted Ignored a b x y = absurd (y.0 x.0)
  takes_one Changed Accepted a b (inl (os, nak, e)) y = absurd (ack_no_nak y.0 os nak)
  takes_one Changed Accepted a b (inr (os, rej, e)) y = absurd (ack_no_reject y.0 os rej)
  takes_one Changed Changed a b (inl (os, nak, e)) (inl (more, nak', e')) = (refl, e ∙ sym e')
  takes_one Changed Changed a b (inl (os, nak, e)) (inr (more, rej, e')) = absurd (nak_no_reject os nak more rej)
  takes_one Changed Changed a b (inr (os, rej, e)) (inl (more, nak, e')) = absurd (nak_no_reject more nak os rej)
  takes_one Changed Changed a b (inr (os, rej, e)) (inr (more, rej', e')) =
      let same = options_one os more reply.body rej.reply_is.lists rej'.reply_is.lists in
      (refl, cc)
  takes_one Changed Ignored a b (inl (os, nak, e)) y = absurd (y.1 os nak)
  takes_one Changed Ignored a b (inr (os, rej, e)) y = absurd (y.2 os rej)
  takes_one Ignored Accepted a b x y = absurd (x.0 y.0)
  takes_one Ignored Changed a b x (inl (os, nak, e)) = absurd (x.1 os nak)
  takes_one Ignored Changed a b x (inr (os, rej, e)) = absurd (x.2 os rej)
  takes_one Ignored Ignored a b x y = (refl, x.3 ∙ sym y.3)

module _ (now : ℕ) (d a b : IpcpDoing) where
  judges_one : (p : ControlPacket) (dns : List (Option Ip4)) → IpcpJudges p dns now d a → IpcpJudges p dns now d b → a ≡ b
  judges_one p dns (inl (os, j, are, few, is, m)) (inl (more, i, are', few', is', m')) =
      let same = options_one more os p.body are' are in
      let is_os : IsJudgement (ipcp_rules_of dns d.ipcp.kept) os i = subst (λ (xs : List PppOption). IsJudgement (ipcp_rules_of dns d.ipcp.kept) xs i) same is' in
      let alike = judged_one (ipcp_rules_of dns d.ipcp.kept) d.ipcp.kept p os i j is_os is in
      let m_event : IpcpFollows (event_of j) (ipcp_answer_of d.ipcp.kept p i) now d b = subst (λ (e : Event). IpcpFollows e (ipcp_answer_of d.ipcp.kept p i) now d b) alike.0 m' in
      let m_answer : IpcpFollows (event_of j) (ipcp_answer_of d.ipcp.kept p j) now d b = subst (λ (w : IpcpWhy). IpcpFollows (event_of j) w now d b) alike.1 m_event in
      ipcp_follows_one _ _ now d a b m m_answer
  judges_one p dns (inl (os, j, are, few, is, m)) (inr (long, h)) = absurd (omega (arith, few, long os are))
  judges_one p dns (inr (long, h)) (inl (os, j, are, few, is, m)) = absurd (omega (arith, few, long os are))
  judges_one p dns (inr (long, h)) (inr (long', h')) = h ∙ sym h'

  after_one : (t : Taken) (p : ControlPacket) (ask : Ask) → IpcpAfterReply t p now d ask a → IpcpAfterReply t p now d ask b → a ≡ b
  after_one Accepted p ask x y = ipcp_follows_one _ _ now _ a b x y
  after_one Changed p ask x y = ipcp_follows_one _ _ now _ a b x y
  after_one Ignored p ask x y = x ∙ sym y

  replies_one : (p : ControlPacket) → IpcpReplies p now d a → IpcpReplies p now d b → a ≡ b
  replies_one p x y =
      let same = takes_one d.ipcp.ask p y.answer x.answer y.ask x.ask y.takes x.takes in
      let first : IpcpAfterReply x.answer p now d y.ask b = subst (λ (t : Taken). IpcpAfterReply t p now d y.ask b) same.0 y.done in
      let both : IpcpAfterReply x.answer p now d x.ask b = subst (λ (ask : Ask). IpcpAfterReply x.answer p now d ask b) same.1 first in
      after_one x.answer p x.ask x.done both

  pub ipcp_kind_one : (kind : IpcpKind) (p : ControlPacket) (dns : List (Option Ip4)) (mru : ℕ) → IpcpHearsKind kind p dns mru now d a → IpcpHearsKind kind p dns mru now d b → a ≡ b
  ipcp_kind_one Request p dns mru x y = judges_one p dns x y
  ipcp_kind_one Reply p dns mru x y = replies_one p x y
  ipcp_kind_one (Plain event) p dns mru x y = ipcp_follows_one _ _ now d a b x y
  ipcp_kind_one Unknown p dns mru x y = ipcp_follows_one _ _ now d a b x y
