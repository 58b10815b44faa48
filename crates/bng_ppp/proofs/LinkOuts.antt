-- Each frame that a step of a whole link sends is the text of a packet that the gateway writes, and tells a peer yes only where it
-- may.
use Rattle.std.proofs.Common.{◌≡◌, inl, inr, ℕ, Bool, true, false, List, [], ◌∷◌, ◌++◌, Option, Some, None, refl, sym, ap, subst, ◌∙◌, ◌||◌, arith, suc, zero}
use Rattle.std.specs.List.{All, AllByRecursion}
use Rattle.std.specs.Prelude.{slice_index}
use Rattle.bng_auth.specs.declared.step.AuthStep.{AuthStep}
use Rattle.bng_auth.specs.declared.step.AuthStep.TheVariants.{Ask, Again, Refuse, Ignore}
use Rattle.bng_auth.specs.Questions.{ChapQuestion}
use Rattle.bng_auth.specs.Replying.{Said as Reply, reply_of, reply_packet, code_of}
use Rattle.bng_automaton.specs.declared.action.Action.{Action}
use Rattle.bng_automaton.specs.declared.action.Action.TheVariants.{Tlu, Tld, Tls, Tlf, Irc, Zrc, Scr, Sca, Scn, Str, Sta, Scj, Ser}
use Rattle.bng_automaton.specs.declared.event.Event.{Event}
use Rattle.bng_automaton.specs.declared.event.Event.TheVariants.{Close}
use Rattle.bng_base.specs.declared.address.Ip4.{Ip4}
use Rattle.bng_base.specs.declared.settings.AuthKind.{AuthKind}
use Rattle.bng_base.specs.declared.settings.AuthKind.TheVariants as kind
use Rattle.bng_base.specs.PppGrammar.{PppFrame, ControlPacket, IsPpp, packet_text, options_text, ppp_text}
use Rattle.bng_ppp_wire.specs.declared.judgement.Judged.{Judged}
use Rattle.bng_ppp_wire.specs.declared.judgement.Judged.TheVariants as judged
use Rattle.bng_ipcp.specs.declared.configure_reply.Taken.{Taken}
use Rattle.bng_ipcp.specs.declared.configure_reply.Taken.TheVariants.{Accepted, Changed, Ignored}
use Rattle.bng_ipcp.specs.Ask.{Ask as IpcpAsk}
use Rattle.bng_ipcp.specs.ConfigureRequest.{asked}
use Rattle.bng_ppp_wire.specs.View.{packet_of}
use Rattle.bng_ppp_wire.specs.declared.code.TheConstants.{CHALLENGE, CONFIGURE_REQUEST, TERMINATE_REQUEST, TERMINATE_ACK}
use Rattle.bng_ppp_wire.specs.declared.protocol.TheConstants as protocol
use Rattle.bng_ppp.specs.declared.authentication.Authentication.{Authentication}
use Rattle.bng_ppp.specs.declared.authentication.Authentication.TheVariants as auth
use Rattle.bng_ppp.specs.declared.ipcp_counters.IpcpKept.{IpcpKept}
use Rattle.bng_ppp.specs.declared.ipcp_codes.IpcpKind.{IpcpKind}
use Rattle.bng_ppp.specs.declared.ipcp_codes.IpcpKind.TheVariants.{Request, Reply as Replied, Plain, Unknown}
use Rattle.bng_ppp.specs.declared.rules.LcpInput.{LcpInput}
use Rattle.bng_ppp.specs.declared.rules.LcpInput.TheVariants as input
use Rattle.bng_ppp.specs.declared.rules.LinkRules.{LinkRules}
use Rattle.bng_ppp.specs.declared.link_frame.FrameOwner.{FrameOwner}
use Rattle.bng_ppp.specs.declared.link_frame.FrameOwner.TheVariants as way
use Rattle.bng_ppp.specs.declared.input.Input.{Input}
use Rattle.bng_ppp.specs.declared.input.Input.TheVariants as told
use Rattle.bng_ppp.specs.Authentication.{reply_sent, challenge_of, challenge_sent}
use Rattle.bng_ppp.specs.Automaton.{plain}
use Rattle.bng_ppp.specs.IpcpAutomaton.{IpcpWhy, IpcpDoing, IpcpFollows, ipcp_acted, all_ipcp_acted}
use Rattle.bng_ppp.specs.Identifiers.{requested, ending}
use Rattle.bng_ppp.specs.IpcpPacket.{IpcpHearsKind, IpcpAfterReply}
use Rattle.bng_ppp.specs.IpcpConfigureRequest.{IpcpJudges, ipcp_answer_of}
use Rattle.bng_ppp.specs.IpcpCodes.{ipcp_kind_of}
use Rattle.bng_ppp.specs.ProtocolReject.{protocol_of}
use Rattle.bng_ppp.specs.LcpState.{LcpState}
use Rattle.bng_ppp.specs.Messages.{is_written, is_lcp_code, is_ipcp_code}
use Rattle.bng_ppp.specs.Layers.{Turn, begun, IpcpMoves, ipcp_of, authenticates, Above, LcpStep, LcpSteps, LcpCloses, lcp_told, lcp_hears, with_auth}
use Rattle.bng_ppp.specs.LinkRelation.{LinkSaid, LinkGoes, LinkSteps}
use Rattle.bng_ppp.specs.LinkFrame.{AuthDoes, HearsIpcp, HearsWay}
use Rattle.bng_ppp.specs.Verdict.{Refuses, BeginsFor, Settles}
use Rattle.bng_ppp.specs.LinkTimers.{AuthReminds, AboveReminds}
use Rattle.bng_ppp.specs.LinkState.{LinkState, is_open, is_accepted}
use Rattle.bng_ppp.specs.Granting.{IsYesCode, IsYes, MayAccept}
use Rattle.bng_ppp.specs.Said.{Said, quiet}
use Rattle.bng_ppp.specs.Encapsulation.{sent, sent_some}
use Rattle.bng_ppp.proofs.LcpOuts.{IsLcp, AreLcp, follows_says, hears_lcp, steps_lcp}
use Rattle.bng_ppp.proofs.AuthLaws.{says_yes, settles_yes, repeats_yes, takes_repeats}
use Rattle.bng_ppp.proofs.MessageLaws.{IsWritten, AreWritten, frame_back, small}
use Rattle.bng_ppp.proofs.OneOutcome.{frame_one}
use Rattle.bng_ppp.proofs.LinkPhases.{takes_same}

-- Sending ---------------------------------------------------------------------------------------------------------------

-- a frame that the gateway writes, which tells the peer that it is accepted only where this holds
record IsMessage (May : Type 0) (octets : List ℕ) : Type 0 where
  written : IsWritten octets
  granted : IsYesCode written.number written.packet.code → May

abbrev AreMessages : Type 0 → List (List ℕ) → Type 0
AreMessages May outs = AllByRecursion (IsMessage May) outs

all_append : (May : Type 0) (xs ys : List (List ℕ)) → AreMessages May xs → AreMessages May ys → AreMessages May (xs ++ ys)
all_append May [] ys h i = i
all_append May (x ∷ xs) ys h i = (h.0, all_append May xs ys h.1 i)

sent_message : (May : Type 0) (n : ℕ) (p : ControlPacket) (outs : List (List ℕ)) → is_written n p.code ≡ true → (IsYesCode n p.code → May) → AreMessages May outs → AreMessages May (sent n p outs)
sent_message May n p outs code granted h = all_append May outs _ h (record { written = record { number = n; packet = p; written = code; spelled = refl }; granted = granted }, tt)

lcp_code : (c : ℕ) → is_lcp_code c ≡ true → is_written protocol.LCP c ≡ true
lcp_code c e = or-first (is_lcp_code c) e
  where
    or-first : (b : Bool) → b ≡ true → (((b || false) || false) || false) ≡ true
    or-first true h = refl
    or-first false h = absurd cc

of_lcp : (octets : List ℕ) → IsLcp octets → IsWritten octets
of_lcp octets h = record {
  number = protocol.LCP;
  packet = h.packet;
  written = lcp_code h.packet.code h.code;
  spelled = h.spelled ∙ ap (λ (info : List ℕ). ppp_text (record { protocol = protocol.LCP; info = info })) h.info_is;
}

pub all_of_lcp : (outs : List (List ℕ)) → AreLcp outs → AreWritten outs
all_of_lcp [] h = tt
all_of_lcp (x ∷ xs) h = (of_lcp x h.0, all_of_lcp xs h.1)

-- LCP and IPCP tell nobody that it is accepted
lcp_no_yes : (c : ℕ) → IsYesCode protocol.LCP c → ⊥
lcp_no_yes c (inl (e, f)) = absurd (omega (arith, e))
lcp_no_yes c (inr (e, f)) = absurd (omega (arith, e))

ipcp_no_yes : (c : ℕ) → IsYesCode protocol.IPCP c → ⊥
ipcp_no_yes c (inl (e, f)) = absurd (omega (arith, e))
ipcp_no_yes c (inr (e, f)) = absurd (omega (arith, e))

challenge_no_yes : IsYesCode protocol.CHAP CHALLENGE → ⊥
challenge_no_yes (inl (e, f)) = absurd (omega (arith, f))
challenge_no_yes (inr (e, f)) = absurd (omega (arith, e))

lcp_message : (May : Type 0) (octets : List ℕ) → IsLcp octets → IsMessage May octets
unfolding of_lcp
lcp_message May octets h = record { written = of_lcp octets h; granted = λ code. absurd (lcp_no_yes h.packet.code code) }

lcp_messages : (May : Type 0) (outs : List (List ℕ)) → AreLcp outs → AreMessages May outs
lcp_messages May [] h = tt
lcp_messages May (x ∷ xs) h = (lcp_message May x h.0, lcp_messages May xs h.1)

challenge_message : (May : Type 0) (name : List ℕ) (q : ChapQuestion) (outs : List (List ℕ)) → AreMessages May outs → AreMessages May (challenge_sent name q outs)
challenge_message May name q outs h = sent_message May protocol.CHAP (challenge_of name q) outs refl (λ code. absurd (challenge_no_yes code)) h

reply_code : (k : AuthKind) (yes : Bool) → is_written (protocol_of k) (code_of k yes) ≡ true
reply_code kind.Pap true = refl
reply_code kind.Pap false = refl
reply_code kind.Chap true = refl
reply_code kind.Chap false = refl

reply_yes : (k : AuthKind) (yes : Bool) → IsYesCode (protocol_of k) (code_of k yes) → yes ≡ true
reply_yes k true h = refl
reply_yes kind.Pap false (inl (e, f)) = absurd (omega (arith, e))
reply_yes kind.Pap false (inr (e, f)) = absurd (omega (arith, f))
reply_yes kind.Chap false (inl (e, f)) = absurd (omega (arith, f))
reply_yes kind.Chap false (inr (e, f)) = absurd (omega (arith, e))

reply_message : (May : Type 0) (reply : Option Reply) (outs : List (List ℕ)) → (says_yes reply ≡ true → May) → AreMessages May outs → AreMessages May (reply_sent reply outs)
reply_message May None outs granted h = h
reply_message May (Some s) outs granted h = sent_message May (protocol_of s.kind) (reply_packet s) outs (reply_code s.kind s.yes) (λ code. granted (reply_yes s.kind s.yes code)) h

-- IPCP ------------------------------------------------------------------------------------------------------------------

-- an answer is a packet that IPCP writes
abbrev IsIpcpAnswer : Option ControlPacket → Type 0
IsIpcpAnswer None = Unit {0}
IsIpcpAnswer (Some p) = is_ipcp_code p.code ≡ true

ipcp_code : (c : ℕ) → is_ipcp_code c ≡ true → is_written protocol.IPCP c ≡ true
ipcp_code c e = or-second (is_ipcp_code c) e
  where
    or-second : (b : Bool) → b ≡ true → (((false || b) || false) || false) ≡ true
    or-second true h = refl
    or-second false h = absurd cc

module _ (May : Type 0) where
  ipcp_message : (p : ControlPacket) (outs : List (List ℕ)) → is_ipcp_code p.code ≡ true → AreMessages May outs → AreMessages May (sent protocol.IPCP p outs)
  ipcp_message p outs code h = sent_message May protocol.IPCP p outs (ipcp_code p.code code) (λ code. absurd (ipcp_no_yes p.code code)) h

  some_message : (p : Option ControlPacket) (outs : List (List ℕ)) → IsIpcpAnswer p → AreMessages May outs → AreMessages May (sent_some protocol.IPCP p outs)
  some_message None outs is h = h
  some_message (Some p) outs is h = ipcp_message p outs is h

  one_acted : (c : IpcpWhy) (d : IpcpDoing) (a : Action) → IsIpcpAnswer c.answer → AreMessages May d.said.outs → AreMessages May (ipcp_acted c d a).said.outs
  one_acted c d Tlu is h = h
  one_acted c d Tld is h = h
  one_acted c d Tls is h = h
  one_acted c d Tlf is h = h
  one_acted c d Irc is h = h
  one_acted c d Zrc is h = h
  one_acted c d Scr is h = ipcp_message (record { code = CONFIGURE_REQUEST; id = (requested c.timed d.ipcp.kept.ids).request; body = options_text (asked d.ipcp.ask.wanted) }) d.said.outs refl h
  one_acted c d Sca is h = some_message c.answer d.said.outs is h
  one_acted c d Scn is h = some_message c.answer d.said.outs is h
  one_acted c d Str is h = ipcp_message (record { code = TERMINATE_REQUEST; id = (ending c.timed d.ipcp.kept.ids).terminate; body = [] }) d.said.outs refl h
  one_acted c d Sta is h = ipcp_message (record { code = TERMINATE_ACK; id = c.id; body = [] }) d.said.outs refl h
  one_acted c d Scj is h = some_message c.answer d.said.outs is h
  one_acted c d Ser is h = some_message c.answer d.said.outs is h

  each_acted : (c : IpcpWhy) (d : IpcpDoing) (actions : List Action) → IsIpcpAnswer c.answer → AreMessages May d.said.outs → AreMessages May (all_ipcp_acted c d actions).said.outs
  each_acted c d [] is h = h
  each_acted c d (a ∷ actions) is h = each_acted c (ipcp_acted c d a) actions is (one_acted c d a is h)

  ipcp_follows : (event : Event) (c : IpcpWhy) (now : ℕ) (before after : IpcpDoing) → IsIpcpAnswer c.answer → AreMessages May before.said.outs → IpcpFollows event c now before after → AreMessages May after.said.outs
  ipcp_follows event c now before after is h f =
      subst (λ (d : IpcpDoing). AreMessages May d.said.outs) (sym f.done) (each_acted c (record before { ipcp = record before.ipcp { machine = f.machine } }) f.actions is h)

judged_answer : (k : IpcpKept) (p : ControlPacket) (j : Judged) → IsIpcpAnswer (ipcp_answer_of k p j).answer
judged_answer k p judged.Ack = refl
judged_answer k p (judged.Nak made) = refl
judged_answer k p (judged.Reject options) = refl

module _ (May : Type 0) (now : ℕ) (d after : IpcpDoing) where
  ipcp_judges : (p : ControlPacket) (dns : List (Option Ip4)) → AreMessages May d.said.outs → IpcpJudges p dns now d after → AreMessages May after.said.outs
  ipcp_judges p dns h (inl (options, j, are, few, is, m)) = ipcp_follows May _ _ now d after (judged_answer d.ipcp.kept p j) h m
  ipcp_judges p dns h (inr (long, e)) = subst (λ (x : IpcpDoing). AreMessages May x.said.outs) (sym e) h

  ipcp_replies : (t : Taken) (p : ControlPacket) (ask : IpcpAsk) → AreMessages May d.said.outs → IpcpAfterReply t p now d ask after → AreMessages May after.said.outs
  ipcp_replies Accepted p ask h m = ipcp_follows May _ _ now _ after tt h m
  ipcp_replies Changed p ask h m = ipcp_follows May _ _ now _ after tt h m
  ipcp_replies Ignored p ask h e = subst (λ (x : IpcpDoing). AreMessages May x.said.outs) (sym e) h

  ipcp_hears : (k : IpcpKind) (p : ControlPacket) (dns : List (Option Ip4)) (mru : ℕ) → AreMessages May d.said.outs → IpcpHearsKind k p dns mru now d after → AreMessages May after.said.outs
  ipcp_hears Request p dns mru h x = ipcp_judges p dns h x
  ipcp_hears Replied p dns mru h x = ipcp_replies x.answer p x.ask h x.done
  ipcp_hears (Plain event) p dns mru h m = ipcp_follows May _ _ now d after tt h m
  ipcp_hears Unknown p dns mru h m = ipcp_follows May _ _ now d after refl h m

-- Steps -----------------------------------------------------------------------------------------------------------------

module _ (May : Type 0) (r : LinkRules) (now : ℕ) (random : List ℕ) where
  abbrev Tells : Turn → Type 0
  Tells t = AreMessages May t.outs

  equal_tells : (t u : Turn) → t ≡ u → Tells u → Tells t
  equal_tells t u e h = subst (λ (v : Turn). Tells v) (sym e) h

  ipcp_moves : (event : Event) (c : IpcpWhy) (t after : Turn) → IsIpcpAnswer c.answer → Tells t → IpcpMoves event c now t after → Tells after
  ipcp_moves event c t after is h m = equal_tells after _ m.done (ipcp_follows May event c now (ipcp_of t) m.doing is h m.follows)

  authenticates_tells : (k : AuthKind) (t : Turn) → Tells t → Tells (authenticates k r.name.items now random t)
  authenticates_tells kind.Pap t h = h
  authenticates_tells kind.Chap t h = challenge_message May r.name.items (record { id = t.link.next_challenge; challenge = random; asked = false; verdict = None }) t.outs h

  above_tells : (came left : Bool) (t after : Turn) → Tells t → Above came left r now random t after → Tells after
  above_tells true left t after h e = equal_tells after _ e (authenticates_tells t.link.lcp.ask.wanted.auth t h)
  above_tells false true t after h m = ipcp_moves _ _ _ after tt h m
  above_tells false false t after h e = equal_tells after t e h

  lcp_tells : (Step : LcpStep) (old : LinkState) (after : Turn) → ((says : Said) (new : LcpState) → Step old.lcp says new → AreLcp says.outs) → LcpSteps r Step now random old after → Tells after
  lcp_tells Step old after said x = above_tells x.says.opened _ _ after (lcp_messages May x.says.outs (said x.says x.lcp x.steps)) x.above

  closes_tells : (t after : Turn) → Tells t → LcpCloses r now random t after → Tells after
  closes_tells t after h x =
      above_tells x.doing.said.opened _ _ after (follows_says (IsMessage May) (lcp_message May) Close (plain t.link.lcp.kept 0) r.echo now (record { link = t.link.lcp; said = record quiet { outs = t.outs } }) x.doing tt h x.follows) x.above

  refuses_tells : (text : List ℕ) (t after : Turn) → (is_accepted t.link.auth ≡ true → May) → Tells t → Refuses r now random text t after → Tells after
  refuses_tells text t after accepted h x = closes_tells _ after (reply_message May x.reply t.outs granted h) x.closes
    where
      granted : says_yes x.reply ≡ true → May
      granted says = elim (settles_yes t.link.auth false text x.reply x.settled x.settles says) [ inl before ↦ accepted before | inr now_yes ↦ absurd cc ]

  does_tells : (step : AuthStep) (a : Authentication) (t after : Turn) → (repeats_yes step ≡ true → May) → (is_accepted a ≡ true → May) → Tells t → AuthDoes step r now random a t after → Tells after
  does_tells (Ask c) a t after again accepted h e = equal_tells after _ e h
  does_tells (Again reply) a t after again accepted h e = equal_tells after _ e (reply_message May (Some (reply_of reply)) t.outs again h)
  does_tells Refuse a t after again accepted h x = refuses_tells _ (with_auth t a) after accepted h x
  does_tells Ignore a t after again accepted h e = equal_tells after _ e h

  ipcp_tells : (p : ControlPacket) (t after : Turn) → Tells t → HearsIpcp r p now t after → Tells after
  ipcp_tells p t after h x = equal_tells after _ x.done (ipcp_hears May now (ipcp_of t) x.doing (ipcp_kind_of p) p r.dns t.link.lcp.kept.mru h x.hears)

  hears_tells : (octets : List ℕ) (old : LinkState) (after : Turn) → LcpSteps r (lcp_hears r octets now random) now random old after → Tells after
  hears_tells octets old after x = lcp_tells (lcp_hears r octets now random) old after (λ says new s. hears_lcp r.echo now old.lcp says new octets random s) x

  way_tells : (w : FrameOwner) (octets : List ℕ) (old : LinkState) (after : Turn) → (is_accepted old.auth ≡ true → May) → HearsWay w r octets now random old after → Tells after
  way_tells (way.Auth p) octets old after accepted x =
      let same = (takes_same old.auth (packet_of p) x.step x.auth x.takes).1 in
      does_tells x.step x.auth (begun old) after (λ again. accepted (takes_repeats old.auth (packet_of p) x.step x.auth x.takes again)) (λ found. accepted (sym same ∙ found)) tt x.does
  way_tells (way.Ipcp p) octets old after accepted x = ipcp_tells (packet_of p) (begun old) after tt x
  way_tells way.NoPacket octets old after accepted e = equal_tells after _ e tt
  way_tells way.Lcp octets old after accepted (inl (rejects, (t, steps, m))) = ipcp_moves _ _ t after tt (hears_tells octets old t steps) m
  way_tells way.Lcp octets old after accepted (inr (differs, steps)) = hears_tells octets old after steps

  auth_reminds : (a : Authentication) (t after : Turn) → Tells t → AuthReminds a r now random t after → Tells after
  auth_reminds auth.Idle t after h x = absurd x
  auth_reminds (auth.Pap q) t after h x = closes_tells _ after h x
  auth_reminds (auth.Chap q sent) t after h (inl (few, e)) = equal_tells after _ e (challenge_message May r.name.items q t.outs h)
  auth_reminds (auth.Chap q sent) t after h (inr (many, x)) = closes_tells _ after h x

  above_reminds : (t after : Turn) → Tells t → AboveReminds r now random t after → Tells after
  above_reminds t after h (inl (due, x)) = auth_reminds t.link.auth t after h x
  above_reminds t after h (inr (inl (early, out, some, m))) = ipcp_moves _ _ t after tt h m
  above_reminds t after h (inr (inr (inl (early, out, spent, m)))) = ipcp_moves _ _ t after tt h m
  above_reminds t after h (inr (inr (inr (early, runs, e)))) = equal_tells after t e h

  told_tells : (what : LcpInput) (old : LinkState) (after : Turn) → LcpSteps r (lcp_told r what now random) now random old after → Tells after
  told_tells what old after x = lcp_tells (lcp_told r what now random) old after (λ says new s. steps_lcp r what now random old.lcp says new s) x

  begins_tells : (lease : Option Ip4) (t after : Turn) → Tells t → BeginsFor lease r now t after → Tells after
  begins_tells None t after h e = equal_tells after t e h
  begins_tells (Some lease) t after h x = ipcp_moves _ _ x.opened after tt (ipcp_moves _ _ _ x.opened tt h x.on_open) x.on_up

  settles_tells : (still found : Bool) (lease : Option Ip4) (text : List ℕ) (old : LinkState) (after : Turn) → (is_accepted old.auth ≡ true → May) → (found ≡ true → still ≡ true → May) → Settles still found r lease text now random old after → Tells after
  settles_tells true true lease text old after accepted granted x = begins_tells lease _ after (reply_message May x.reply [] (λ says. granted refl refl) tt) x.begins
  settles_tells true false lease text old after accepted granted x = refuses_tells text (begun old) after accepted tt x
  settles_tells false found lease text old after accepted granted e = equal_tells after _ e tt

  goes_tells : (what : Input) (old : LinkState) (t : Turn) (cause : Option ℕ) → (MayAccept what old.auth → May) → LinkGoes r what now random old t cause → Tells t
  goes_tells told.Start old t cause may x = told_tells input.Start old t x.0
  goes_tells (told.Frame octets) old t cause may x = way_tells x.0.way octets.now old t (λ accepted. may (inl accepted)) x.0.hears
  goes_tells told.Timer old t cause may x = above_reminds x.0.lcp t (told_tells input.Timer old x.0.lcp x.0.steps) x.0.above
  goes_tells (told.Verdict found lease text) old t cause may x = settles_tells (is_open old.auth) found lease text.items old t (λ accepted. may (inl accepted)) (λ found_is still. may (inr (found_is, still))) x.0
  goes_tells told.Close old t cause may x = told_tells input.Close old t x.0
  goes_tells told.Lost old t cause may x = told_tells input.Lost old t x.0

-- Each ------------------------------------------------------------------------------------------------------------------

all_written : (May : Type 0) (outs : List (List ℕ)) → AreMessages May outs → AreWritten outs
all_written May [] h = tt
all_written May (x ∷ xs) h = (h.0.written, all_written May xs h.1)

-- what is read of a frame is what was written
message_yes : (May : Type 0) (octets : List ℕ) → IsMessage May octets → IsYes octets → May
message_yes May octets m y =
    let w = m.written in
    let f : PppFrame = record { protocol = w.number; info = packet_text w.packet } in
    let is : IsPpp f octets = subst (λ (o : List ℕ). IsPpp f o) (sym w.spelled) (frame_back w.number (packet_text w.packet) (small w.number w.packet.code w.written)) in
    let same : y.frame ≡ f = frame_one y.frame f octets y.is is in
    let number : y.frame.protocol ≡ w.number = ap (λ (g : PppFrame). g.protocol) same in
    let code : y.packet.code ≡ w.packet.code = y.packet_is.code ∙ ap (λ (g : PppFrame). slice_index g.info 0) same in
    m.granted (elim y.yes [ inl h ↦ inl (sym number ∙ h.0, sym code ∙ h.1) | inr h ↦ inr (sym number ∙ h.0, sym code ∙ h.1) ])

all_yes : (May : Type 0) (outs : List (List ℕ)) → AreMessages May outs → All (λ (f : List ℕ). IsYes f → May) outs
all_yes May [] h = λ k d lt. absurd (omega (arith, lt))
all_yes May (x ∷ xs) h = at_place (message_yes May x h.0) (all_yes May xs h.1)
  where
    at_place : (IsYes x → May) → All (λ (f : List ℕ). IsYes f → May) xs → All (λ (f : List ℕ). IsYes f → May) (x ∷ xs)
    at_place here rest zero d lt = here
    at_place here rest (suc k) d lt = rest k d (omega (arith, lt))

module _ (r : LinkRules) (now : ℕ) (random : List ℕ) (what : Input) (old : LinkState) (says : LinkSaid) (new : LinkState) where
  step_tells : LinkSteps r what now random old says new → AreMessages (MayAccept what old.auth) says.outs
  step_tells x = subst (λ (s : LinkSaid). AreMessages (MayAccept what old.auth) s.outs) (sym x.said) (goes_tells (MayAccept what old.auth) r now random what old x.turn x.cause (λ may. may) x.goes)

  -- a step of a whole link, whatever it is told
  pub link_steps_written : LinkSteps r what now random old says new → AreWritten says.outs
  link_steps_written x = all_written (MayAccept what old.auth) says.outs (step_tells x)

  pub link_steps_grant : LinkSteps r what now random old says new → All (λ (f : List ℕ). IsYes f → MayAccept what old.auth) says.outs
  link_steps_grant x = all_yes (MayAccept what old.auth) says.outs (step_tells x)
