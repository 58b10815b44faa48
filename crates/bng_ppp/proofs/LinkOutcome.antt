-- From one state and by one input a whole link goes on in one way.
use Rattle.std.proofs.Common.{◌≡◌, ◌||◌, inl, inr, ℕ, Bool, true, false, List, [], Option, Some, None, refl, sym, ap, subst, ◌∙◌, arith}
use Rattle.bng_auth.specs.declared.step.AuthStep.{AuthStep}
use Rattle.bng_auth.specs.declared.step.AuthStep.TheVariants.{Ask, Again, Refuse, Ignore}
use Rattle.bng_auth.specs.Replying.{Said as Reply, reply_of}
use Rattle.bng_automaton.specs.declared.event.Event.{Event}
use Rattle.bng_automaton.specs.declared.event.Event.TheVariants.{Up, Open, Close, RxjMinus}
use Rattle.bng_base.specs.declared.address.Ip4.{Ip4}
use Rattle.bng_base.specs.PppGrammar.{PppFrame, ControlPacket, IsPpp, IsControlPacket}
use Rattle.bng_ppp_wire.specs.declared.view.Packet.{Packet}
use Rattle.bng_ppp_wire.specs.View.{packet_of}
use Rattle.bng_ppp.specs.declared.authentication.Authentication.{Authentication}
use Rattle.bng_ppp.specs.declared.authentication.Authentication.TheVariants as auth
use Rattle.bng_ppp.specs.declared.rules.LcpInput.{LcpInput}
use Rattle.bng_ppp.specs.declared.rules.LcpInput.TheVariants as input
use Rattle.bng_ppp.specs.declared.rules.LinkRules.{LinkRules}
use Rattle.bng_ppp.specs.declared.link_frame.FrameOwner.{FrameOwner}
use Rattle.bng_ppp.specs.declared.link_frame.FrameOwner.TheVariants as way
use Rattle.bng_ppp.specs.declared.input.Input.{Input}
use Rattle.bng_ppp.specs.declared.input.Input.TheVariants as told
use Rattle.bng_ppp.specs.Automaton.{Doing, plain}
use Rattle.bng_ppp.specs.Authentication.{reply_sent}
use Rattle.bng_ppp.specs.Claims.{Claim, claim_of}
use Rattle.bng_ppp.specs.IpcpAutomaton.{IpcpWhy, ipcp_plain}
use Rattle.bng_ppp.specs.IpcpCodes.{ipcp_kind_of}
use Rattle.bng_ppp.specs.LcpState.{LcpState}
use Rattle.bng_ppp.specs.Said.{Said}
use Rattle.bng_ppp.specs.LinkState.{LinkState, is_open, is_for_auth, is_for_ipcp}
use Rattle.bng_ppp.specs.Layers.{Turn, begun, leaves, with_lcp, with_ipcp, ipcp_of, IpcpMoves, Above, LcpStep, LcpSteps, LcpCloses, lcp_told, lcp_hears, with_auth, with_auth_until}
use Rattle.bng_ppp.specs.LinkRelation.{LinkSaid, LinkGoes, LinkSteps, said_of, after_turn, ended_by}
use Rattle.bng_ppp.specs.LinkFrame.{IsWay, HearsAuth, AuthDoes, HearsIpcp, HearsLcp, HearsWay, HearsOctets}
use Rattle.bng_ppp.specs.Verdict.{Refuses, Begins, BeginsFor, Accepts, Settles}
use Rattle.bng_ppp.specs.LinkTimers.{AuthReminds, AboveReminds, LinkReminds, IsLossCause}
use Rattle.bng_ppp.proofs.OneOutcome.{follows_one, frame_one, packet_one, hears_one, reminds_one, steps_one}
use Rattle.bng_ppp.proofs.IpcpOutcome.{ipcp_follows_one, ipcp_kind_one}
use Rattle.bng_ppp.proofs.AuthOutcome.{seen_of, auth_takes_one, auth_settles_one}

true_false : (b : Bool) → b ≡ true → b ≡ false → ⊥
true_false b e f = cc

or-first : (a b : Bool) → a ≡ true → (a || b) ≡ true
or-first true b e = refl
or-first false b e = absurd cc

or-second : (a b : Bool) → b ≡ true → (a || b) ≡ true
or-second true b e = refl
or-second false b e = e

moved_packet : (p : ControlPacket) (f g : PppFrame) (octets : List ℕ) → IsPpp f octets → IsPpp g octets → IsControlPacket p f.info → IsControlPacket p g.info
moved_packet p f g octets is also packet = subst (λ (e : PppFrame). IsControlPacket p e.info) (frame_one f g octets is also) packet

moved_not : (s : LinkState) (f g : PppFrame) (octets : List ℕ) → IsPpp f octets → IsPpp g octets → is_for_auth s f.protocol ≡ false → is_for_auth s g.protocol ≡ false
moved_not s f g octets is also other = subst (λ (e : PppFrame). is_for_auth s e.protocol ≡ false) (frame_one f g octets is also) other

packet_at : (p q : Packet) (f g : PppFrame) (octets : List ℕ) → IsPpp f octets → IsPpp g octets → IsControlPacket (packet_of p) f.info → IsControlPacket (packet_of q) g.info → packet_of q ≡ packet_of p
packet_at p q f g octets is also packet next = packet_one (packet_of q) (packet_of p) f.info (moved_packet (packet_of q) g f octets also is next) packet

module _ (r : LinkRules) (now : ℕ) (random : List ℕ) where
  ipcp_moves_one : (event : Event) (cause : IpcpWhy) (t a b : Turn) → IpcpMoves event cause now t a → IpcpMoves event cause now t b → a ≡ b
  ipcp_moves_one event cause t a b x y =
      x.done ∙ ap (with_ipcp t) (ipcp_follows_one event cause now (ipcp_of t) x.doing y.doing x.follows y.follows) ∙ sym y.done

  above_one : (came left : Bool) (t a b : Turn) → Above came left r now random t a → Above came left r now random t b → a ≡ b
  above_one true left t a b x y = x ∙ sym y
  above_one false true t a b x y = ipcp_moves_one _ _ _ a b x y
  above_one false false t a b x y = x ∙ sym y

  lcp_steps_one : (Step : LcpStep) (old : LinkState) (a b : Turn)
      → ((says other : Said) (new next : LcpState) → Step old.lcp says new → Step old.lcp other next → (says ≡ other) × (new ≡ next))
      → LcpSteps r Step now random old a → LcpSteps r Step now random old b → a ≡ b
  lcp_steps_one Step old a b one x y =
      let same = one y.says x.says y.lcp x.lcp y.steps x.steps in
      let A : Said → LcpState → Type 0 = λ s l. Above s.opened (leaves old.lcp l) r now random (with_lcp (begun old) (record { link = l; said = s })) b in
      let first : A x.says y.lcp = subst (λ (s : Said). A s y.lcp) same.0 y.above in
      let both : A x.says x.lcp = subst (λ (l : LcpState). A x.says l) same.1 first in
      above_one x.says.opened (leaves old.lcp x.lcp) _ a b x.above both

  lcp_closes_one : (t a b : Turn) → LcpCloses r now random t a → LcpCloses r now random t b → a ≡ b
  lcp_closes_one t a b x y =
      let same = follows_one Close (plain t.link.lcp.kept 0) r.echo now _ y.doing x.doing y.follows x.follows in
      let moved : Above x.doing.said.opened (leaves t.link.lcp x.doing.link) r now random (with_lcp t x.doing) b = subst (λ (d : Doing). Above d.said.opened (leaves t.link.lcp d.link) r now random (with_lcp t d) b) same y.above in
      above_one _ _ _ a b x.above moved

  refuses_one : (text : List ℕ) (t a b : Turn) → Refuses r now random text t a → Refuses r now random text t b → a ≡ b
  refuses_one text t a b x y =
      let same = auth_settles_one t.link.auth false text y.reply x.reply y.settled x.settled y.settles x.settles in
      let C : Option Reply → Authentication → Type 0 = λ s n. LcpCloses r now random (record (with_auth_until t n None) { outs = reply_sent s t.outs }) b in
      let first : C x.reply y.settled = subst (λ (s : Option Reply). C s y.settled) same.0 y.closes in
      let both : C x.reply x.settled = subst (λ (n : Authentication). C x.reply n) same.1 first in
      lcp_closes_one _ a b x.closes both

  does_one : (s u : AuthStep) (n : Authentication) (t a b : Turn) → seen_of s ≡ seen_of u → AuthDoes s r now random n t a → AuthDoes u r now random n t b → a ≡ b
  does_one (Ask c) (Ask d) n t a b e x y =
      let same : claim_of c ≡ claim_of d = cc in
      let go : Claim → Turn = λ k. record (with_auth_until t n None) { asked = Some k } in
      x ∙ ap go same ∙ sym y
  does_one (Ask c) (Again q) n t a b e x y = absurd cc
  does_one (Ask c) Refuse n t a b e x y = absurd cc
  does_one (Ask c) Ignore n t a b e x y = absurd cc
  does_one (Again q) (Ask d) n t a b e x y = absurd cc
  does_one (Again q) (Again w) n t a b e x y =
      let same : reply_of q ≡ reply_of w = cc in
      let go : Reply → Turn = λ k. record (with_auth t n) { outs = reply_sent (Some k) t.outs } in
      x ∙ ap go same ∙ sym y
  does_one (Again q) Refuse n t a b e x y = absurd cc
  does_one (Again q) Ignore n t a b e x y = absurd cc
  does_one Refuse (Ask d) n t a b e x y = absurd cc
  does_one Refuse (Again w) n t a b e x y = absurd cc
  does_one Refuse Refuse n t a b e x y = refuses_one _ _ a b x y
  does_one Refuse Ignore n t a b e x y = absurd cc
  does_one Ignore (Ask d) n t a b e x y = absurd cc
  does_one Ignore (Again w) n t a b e x y = absurd cc
  does_one Ignore Refuse n t a b e x y = absurd cc
  does_one Ignore Ignore n t a b e x y = x ∙ sym y

  hears_auth_one : (p : ControlPacket) (t a b : Turn) → HearsAuth r p now random t a → HearsAuth r p now random t b → a ≡ b
  hears_auth_one p t a b x y =
      let same = auth_takes_one t.link.auth p y.step x.step y.auth x.auth y.takes x.takes in
      let moved : AuthDoes y.step r now random x.auth t b = subst (λ (n : Authentication). AuthDoes y.step r now random n t b) same.1 y.does in
      does_one x.step y.step x.auth t a b (sym same.0) x.does moved

  hears_ipcp_one : (p : ControlPacket) (t a b : Turn) → HearsIpcp r p now t a → HearsIpcp r p now t b → a ≡ b
  hears_ipcp_one p t a b x y =
      x.done ∙ ap (with_ipcp t) (ipcp_kind_one now (ipcp_of t) x.doing y.doing (ipcp_kind_of p) p r.dns t.link.lcp.kept.mru x.hears y.hears) ∙ sym y.done

  reject_one : (octets : List ℕ) (old : LinkState) (a b : Turn) → LcpSteps r (lcp_hears r octets now random) now random old a → LcpSteps r (lcp_hears r octets now random) now random old b → a ≡ b
  reject_one octets old a b x y = lcp_steps_one (lcp_hears r octets now random) old a b (λ says other new next h k. hears_one r.echo now old.lcp says other new next octets random h k) x y

  hears_lcp_one : (octets : List ℕ) (old : LinkState) (a b : Turn) → HearsLcp r octets now random old a → HearsLcp r octets now random old b → a ≡ b
  hears_lcp_one octets old a b (inl (rejects, (t, steps, moves))) (inl (rejects', (u, steps', moves'))) =
      let same = reject_one octets old u t steps' steps in
      ipcp_moves_one _ _ t a b moves (subst (λ (v : Turn). IpcpMoves RxjMinus (ipcp_plain v.link.ipcp.kept 0) now v b) same moves')
  hears_lcp_one octets old a b (inl (rejects, more)) (inr (differs, steps)) = absurd (differs rejects)
  hears_lcp_one octets old a b (inr (differs, steps)) (inl (rejects, more)) = absurd (differs rejects)
  hears_lcp_one octets old a b (inr (differs, steps)) (inr (differs', steps')) = reject_one octets old a b steps steps'

  way_one : (octets : List ℕ) (old : LinkState) (w v : FrameOwner) (a b : Turn) → IsWay old octets w → IsWay old octets v → HearsWay w r octets now random old a → HearsWay v r octets now random old b → a ≡ b
  way_one octets old (way.Auth p) (way.Auth q) a b (short, (f, is, goes, packet)) (short', (g, is', goes', packet')) x y =
      let same = packet_at p q f g octets is is' packet packet' in
      hears_auth_one (packet_of p) (begun old) a b x (subst (λ (k : ControlPacket). HearsAuth r k now random (begun old) b) same y)
  way_one octets old (way.Auth p) (way.Ipcp q) a b (short, (f, is, goes, packet)) (short', (g, is', other', goes', packet')) x y = absurd (true_false _ goes (moved_not old g f octets is' is other'))
  way_one octets old (way.Auth p) way.NoPacket a b (short, (f, is, goes, packet)) (short', (g, is', goes', none')) x y = absurd (none' (packet_of p) (moved_packet (packet_of p) f g octets is is' packet))
  way_one octets old (way.Auth p) way.Lcp a b (short, (f, is, goes, packet)) lower' x y = absurd (true_false _ (or-first (is_for_auth old f.protocol) (is_for_ipcp old f.protocol) goes) (lower' f is short))
  way_one octets old (way.Ipcp p) (way.Auth q) a b (short, (f, is, other, goes, packet)) (short', (g, is', goes', packet')) x y = absurd (true_false _ goes' (moved_not old f g octets is is' other))
  way_one octets old (way.Ipcp p) (way.Ipcp q) a b (short, (f, is, other, goes, packet)) (short', (g, is', other', goes', packet')) x y =
      let same = packet_at p q f g octets is is' packet packet' in
      hears_ipcp_one (packet_of p) (begun old) a b x (subst (λ (k : ControlPacket). HearsIpcp r k now (begun old) b) same y)
  way_one octets old (way.Ipcp p) way.NoPacket a b (short, (f, is, other, goes, packet)) (short', (g, is', goes', none')) x y = absurd (none' (packet_of p) (moved_packet (packet_of p) f g octets is is' packet))
  way_one octets old (way.Ipcp p) way.Lcp a b (short, (f, is, other, goes, packet)) lower' x y = absurd (true_false _ (or-second (is_for_auth old f.protocol) (is_for_ipcp old f.protocol) goes) (lower' f is short))
  way_one octets old way.NoPacket (way.Auth q) a b (short, (f, is, goes, none)) (short', (g, is', goes', packet')) x y = absurd (none (packet_of q) (moved_packet (packet_of q) g f octets is' is packet'))
  way_one octets old way.NoPacket (way.Ipcp q) a b (short, (f, is, goes, none)) (short', (g, is', other', goes', packet')) x y = absurd (none (packet_of q) (moved_packet (packet_of q) g f octets is' is packet'))
  way_one octets old way.NoPacket way.NoPacket a b (short, (f, is, goes, none)) (short', (g, is', goes', none')) x y = x ∙ sym y
  way_one octets old way.NoPacket way.Lcp a b (short, (f, is, goes, none)) lower' x y = absurd (true_false _ (goes) (lower' f is short))
  way_one octets old way.Lcp (way.Auth q) a b lower (short', (g, is', goes', packet')) x y = absurd (true_false _ (or-first (is_for_auth old g.protocol) (is_for_ipcp old g.protocol) goes') (lower g is' short'))
  way_one octets old way.Lcp (way.Ipcp q) a b lower (short', (g, is', other', goes', packet')) x y = absurd (true_false _ (or-second (is_for_auth old g.protocol) (is_for_ipcp old g.protocol) goes') (lower g is' short'))
  way_one octets old way.Lcp way.NoPacket a b lower (short', (g, is', goes', none')) x y = absurd (true_false _ (goes') (lower g is' short'))
  way_one octets old way.Lcp way.Lcp a b lower lower' x y = hears_lcp_one octets old a b x y

  hears_octets_one : (octets : List ℕ) (old : LinkState) (a b : Turn) → HearsOctets r octets now random old a → HearsOctets r octets now random old b → a ≡ b
  hears_octets_one octets old a b x y = way_one octets old x.way y.way a b x.is y.is x.hears y.hears

  auth_reminds_one : (n : Authentication) (t a b : Turn) → AuthReminds n r now random t a → AuthReminds n r now random t b → a ≡ b
  auth_reminds_one auth.Idle t a b x y = absurd x
  auth_reminds_one (auth.Pap q) t a b x y = lcp_closes_one _ a b x y
  auth_reminds_one (auth.Chap q sent) t a b (inl (few, x)) (inl (few', y)) = x ∙ sym y
  auth_reminds_one (auth.Chap q sent) t a b (inl (few, x)) (inr (many, y)) = absurd (omega arith)
  auth_reminds_one (auth.Chap q sent) t a b (inr (many, x)) (inl (few, y)) = absurd (omega arith)
  auth_reminds_one (auth.Chap q sent) t a b (inr (many, x)) (inr (many', y)) = lcp_closes_one _ a b x y

  above_reminds_one : (t a b : Turn) → AboveReminds r now random t a → AboveReminds r now random t b → a ≡ b
  above_reminds_one t a b (inl (due, x)) (inl (due', y)) = auth_reminds_one t.link.auth t a b x y
  above_reminds_one t a b (inl (due, x)) (inr (inl (early', out', some', y))) = absurd (early' due)
  above_reminds_one t a b (inl (due, x)) (inr (inr (inl (early', out', spent', y)))) = absurd (early' due)
  above_reminds_one t a b (inl (due, x)) (inr (inr (inr (early', runs', y)))) = absurd (early' due)
  above_reminds_one t a b (inr (inl (early, out, some, x))) (inl (due', y)) = absurd (early due')
  above_reminds_one t a b (inr (inl (early, out, some, x))) (inr (inl (early', out', some', y))) = ipcp_moves_one _ _ t a b x y
  above_reminds_one t a b (inr (inl (early, out, some, x))) (inr (inr (inl (early', out', spent', y)))) = absurd (omega arith)
  above_reminds_one t a b (inr (inl (early, out, some, x))) (inr (inr (inr (early', runs', y)))) = absurd (runs' out)
  above_reminds_one t a b (inr (inr (inl (early, out, spent, x)))) (inl (due', y)) = absurd (early due')
  above_reminds_one t a b (inr (inr (inl (early, out, spent, x)))) (inr (inl (early', out', some', y))) = absurd (omega arith)
  above_reminds_one t a b (inr (inr (inl (early, out, spent, x)))) (inr (inr (inl (early', out', spent', y)))) = ipcp_moves_one _ _ t a b x y
  above_reminds_one t a b (inr (inr (inl (early, out, spent, x)))) (inr (inr (inr (early', runs', y)))) = absurd (runs' out)
  above_reminds_one t a b (inr (inr (inr (early, runs, x)))) (inl (due', y)) = absurd (early due')
  above_reminds_one t a b (inr (inr (inr (early, runs, x)))) (inr (inl (early', out', some', y))) = absurd (runs out')
  above_reminds_one t a b (inr (inr (inr (early, runs, x)))) (inr (inr (inl (early', out', spent', y)))) = absurd (runs out')
  above_reminds_one t a b (inr (inr (inr (early, runs, x)))) (inr (inr (inr (early', runs', y)))) = x ∙ sym y

  link_reminds_one : (old : LinkState) (a b : Turn) → LinkReminds r now random old a → LinkReminds r now random old b → a ≡ b
  link_reminds_one old a b x y =
      let same = lcp_steps_one (lcp_told r input.Timer now random) old y.lcp x.lcp (λ says other new next h k. reminds_one r.echo now old.lcp says other new next h k) y.steps x.steps in
      above_reminds_one x.lcp a b x.above (subst (λ (t : Turn). AboveReminds r now random t b) same y.above)

  told_one : (what : LcpInput) (old : LinkState) (a b : Turn) → LcpSteps r (lcp_told r what now random) now random old a → LcpSteps r (lcp_told r what now random) now random old b → a ≡ b
  told_one what old a b x y = lcp_steps_one (lcp_told r what now random) old a b (λ says other new next h k. steps_one r what now random old.lcp says other new next h k) x y

  begins_one : (lease : Ip4) (t a b : Turn) → Begins r lease now t a → Begins r lease now t b → a ≡ b
  begins_one lease t a b x y =
      let opened = ipcp_moves_one Open _ _ y.opened x.opened y.on_open x.on_open in
      ipcp_moves_one Up _ x.opened a b x.on_up (subst (λ (u : Turn). IpcpMoves Up (ipcp_plain u.link.ipcp.kept 0) now u b) opened y.on_up)

  begins_for_one : (lease : Option Ip4) (t a b : Turn) → BeginsFor lease r now t a → BeginsFor lease r now t b → a ≡ b
  begins_for_one None t a b x y = x ∙ sym y
  begins_for_one (Some lease) t a b x y = begins_one lease t a b x y

  accepts_one : (lease : Option Ip4) (text : List ℕ) (old : LinkState) (a b : Turn) → Accepts r lease text now old a → Accepts r lease text now old b → a ≡ b
  accepts_one lease text old a b x y =
      let same = auth_settles_one old.auth true text y.reply x.reply y.settled x.settled y.settles x.settles in
      let B : Option Reply → Authentication → Type 0 = λ s n. BeginsFor lease r now (record (with_auth_until (begun old) n None) { outs = reply_sent s [] }) b in
      let first : B x.reply y.settled = subst (λ (s : Option Reply). B s y.settled) same.0 y.begins in
      let both : B x.reply x.settled = subst (λ (n : Authentication). B x.reply n) same.1 first in
      begins_for_one lease _ a b x.begins both

  settles_one : (still found : Bool) (lease : Option Ip4) (text : List ℕ) (old : LinkState) (a b : Turn) → Settles still found r lease text now random old a → Settles still found r lease text now random old b → a ≡ b
  settles_one true true lease text old a b x y = accepts_one lease text old a b x y
  settles_one true false lease text old a b x y = refuses_one text (begun old) a b x y
  settles_one false found lease text old a b x y = x ∙ sym y

  loss_one : (old : LinkState) (n m : ℕ) → IsLossCause old now n → IsLossCause old now m → n ≡ m
  loss_one old n m (inl (h, e)) (inl (h', e')) = e ∙ sym e'
  loss_one old n m (inl (h, e)) (inr (other, e')) = absurd (other h)
  loss_one old n m (inr (other, e)) (inl (h, e')) = absurd (other h)
  loss_one old n m (inr (other, e)) (inr (other', e')) = e ∙ sym e'

  goes_one : (what : Input) (old : LinkState) (a b : Turn) (c d : Option ℕ) → LinkGoes r what now random old a c → LinkGoes r what now random old b d → (a ≡ b) × (c ≡ d)
  goes_one told.Start old a b c d x y = (told_one input.Start old a b x.0 y.0, x.1 ∙ sym y.1)
  goes_one (told.Frame octets) old a b c d x y =
      let same = hears_octets_one octets.now old a b x.0 y.0 in
      (same, x.1 ∙ ap (λ (t : Turn). ended_by t.link.live t.left t.ended 1) same ∙ sym y.1)
  goes_one told.Timer old a b c d (x, (n, loss, e)) (y, (m, loss', f)) =
      let same = link_reminds_one old a b x y in
      let causes = loss_one old n m loss loss' in
      (same, e ∙ ap (λ (t : Turn). ended_by t.link.live t.left t.ended n) same ∙ ap (λ (k : ℕ). ended_by b.link.live b.left b.ended k) causes ∙ sym f)
  goes_one (told.Verdict found lease text) old a b c d x y = (settles_one (is_open old.auth) found lease text.items old a b x.0 y.0, x.1 ∙ sym y.1)
  goes_one told.Close old a b c d x y = (told_one input.Close old a b x.0 y.0, x.1 ∙ sym y.1)
  goes_one told.Lost old a b c d x y = (told_one input.Lost old a b x.0 y.0, x.1 ∙ sym y.1)

  -- a step of a whole link, whatever it is told
  pub link_steps_one : (what : Input) (old : LinkState) (says other : LinkSaid) (new next : LinkState) → LinkSteps r what now random old says new → LinkSteps r what now random old other next → (says ≡ other) × (new ≡ next)
  link_steps_one what old says other new next x y =
      let same = goes_one what old x.turn y.turn x.cause y.cause x.goes y.goes in (
        x.said ∙ ap (λ (t : Turn). said_of t x.cause) same.0 ∙ ap (λ (c : Option ℕ). said_of y.turn c) same.1 ∙ sym y.said,
        x.state ∙ ap after_turn same.0 ∙ sym y.state,
      )
