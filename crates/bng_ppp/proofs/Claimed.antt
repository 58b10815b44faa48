-- A link asks only what the frame claims that it hears.
use Rattle.std.proofs.Common.{◌≡◌, inl, inr, ℕ, Bool, true, false, List, Option, Some, None, refl, sym, ap, subst, ◌∙◌}
use Rattle.std.proofs.lemmas.Bool.{and_parts, eqb-true, false≢true}
use Rattle.bng_auth.specs.declared.credentials.Credentials.{Credentials}
use Rattle.bng_auth.specs.declared.credentials.Proof.{Proof}
use Rattle.bng_auth.specs.declared.credentials.Proof.TheVariants as proof
use Rattle.bng_auth.specs.declared.step.AuthStep.{AuthStep}
use Rattle.bng_auth.specs.declared.step.AuthStep.TheVariants.{Ask, Again, Refuse, Ignore}
use Rattle.bng_auth.specs.Questions.{IsPassword, IsProof}
use Rattle.bng_auth.specs.Requests.{IsPapRequest, IsResponse}
use Rattle.bng_base.specs.declared.settings.AuthKind.{AuthKind}
use Rattle.bng_base.specs.declared.settings.AuthKind.TheVariants as kind
use Rattle.bng_base.specs.PppGrammar.{PppFrame, ControlPacket, IsPpp, IsControlPacket}
use Rattle.bng_ppp_wire.specs.View.{packet_of}
use Rattle.bng_ppp.specs.declared.authentication.Authentication.{Authentication}
use Rattle.bng_ppp.specs.declared.authentication.Authentication.TheVariants as auth
use Rattle.bng_ppp.specs.declared.rules.LinkRules.{LinkRules}
use Rattle.bng_ppp.specs.declared.link_frame.FrameOwner.{FrameOwner}
use Rattle.bng_ppp.specs.declared.link_frame.FrameOwner.TheVariants as way
use Rattle.bng_ppp.specs.Authentication.{AuthTakes}
use Rattle.bng_ppp.specs.Claims.{Claim, claim_of, password, response, shown_of}
use Rattle.bng_ppp.specs.Layers.{Turn, Above, LcpStep, LcpSteps, authenticates, begun, lcp_hears}
use Rattle.bng_ppp.specs.LcpState.{is_opened}
use Rattle.bng_ppp.specs.LinkState.{LinkState, takes_protocol}
use Rattle.bng_ppp.specs.LinkFrame.{AuthDoes, HearsOctets, HearsWay, IsWay}
use Rattle.bng_ppp.specs.Saying.{Says}

same_some : (a b : Claim) → Some a ≡ Some b → a ≡ b
same_some a b e = cc

-- Packets of authentication -----------------------------------------------------------------------------------------------

shown_password : (p : Proof) (octets : List ℕ) → IsPassword p octets → shown_of p ≡ password octets
shown_password (proof.Pap list) octets is = ap (λ (xs : List ℕ). password xs) is
shown_password (proof.Chap id challenge value) octets is = absurd is

shown_response : (p : Proof) (id : ℕ) (challenge value : List ℕ) → IsProof p id challenge value → shown_of p ≡ response id challenge value
shown_response (proof.Pap list) id challenge value is = absurd is
shown_response (proof.Chap i c v) id challenge value (a, b, d) = λ k. response (a k) (b k) (d k)

no_step : {X : Type 0} (c : Credentials) → Ask c ≡ Ignore → X
no_step c e = absurd cc

-- a packet that is asked about says what is asked
takes_says : (a : Authentication) (p : ControlPacket) (c : Credentials) (new : Authentication) (f : PppFrame) (octets : List ℕ)
    → AuthTakes a p (Ask c) new → takes_protocol a f.protocol ≡ true → IsPpp f octets → IsControlPacket p f.info → Says a octets (claim_of c)
takes_says auth.Idle p c new f octets takes protocol is packet = absurd (false≢true protocol)
takes_says (auth.Pap q) p c new f octets (after, (fresh, asks, (name, secret, request, named, short, name_is, shows)), to) protocol is packet = record {
  frame = f;
  is = is;
  number = eqb-true f.protocol 49187 protocol;
  packet = p;
  packet_is = packet;
  secret = secret;
  request = subst (λ (n : List ℕ). IsPapRequest p n secret) (sym name_is) request;
  shown = shown_password c.proof secret shows;
}
takes_says (auth.Chap q sent) p c new f octets (after, (unasked, unsettled, asks, (value, name, answers, named, name_is, shows)), to) protocol is packet = record {
  frame = f;
  is = is;
  number = eqb-true f.protocol 49699 protocol;
  packet = p;
  packet_is = packet;
  value = value;
  answers = subst (λ (n : List ℕ). IsResponse q.id p value n) (sym name_is) answers;
  shown = shown_response c.proof q.id q.challenge value shows;
}

-- Frames ------------------------------------------------------------------------------------------------------------------

-- nothing was asked, and then something
both_ways : {X : Type 0} (o : Option Claim) (claim : Claim) → o ≡ None → o ≡ Some claim → X
both_ways o claim e f = absurd (cc)

module _ (r : LinkRules) (now : ℕ) (random : List ℕ) where
  authenticates_silent : (k : AuthKind) (t : Turn) → (authenticates k r.name.items now random t).asked ≡ t.asked
  authenticates_silent kind.Pap t = refl
  authenticates_silent kind.Chap t = refl

  -- the layers above LCP ask nothing
  above_silent : (came left : Bool) (t after : Turn) → Above came left r now random t after → after.asked ≡ t.asked
  above_silent true left t after e = ap (λ (u : Turn). u.asked) e ∙ authenticates_silent t.link.lcp.ask.wanted.auth t
  above_silent false true t after m = ap (λ (u : Turn). u.asked) m.done
  above_silent false false t after e = ap (λ (u : Turn). u.asked) e

  lcp_silent : (Step : LcpStep) (old : LinkState) (after : Turn) → LcpSteps r Step now random old after → after.asked ≡ None
  lcp_silent Step old after x = above_silent x.says.opened _ _ after x.above

  does_says : (s : AuthStep) (a : Authentication) (p : ControlPacket) (f : PppFrame) (octets : List ℕ) (old : LinkState) (after : Turn) (claim : Claim)
      → AuthTakes old.auth p s a → AuthDoes s r now random a (begun old) after → takes_protocol old.auth f.protocol ≡ true → IsPpp f octets → IsControlPacket p f.info
      → after.asked ≡ Some claim → Says old.auth octets claim
  does_says (Ask c) a p f octets old after claim takes e protocol is packet asks =
      let same : claim_of c ≡ claim = same_some (claim_of c) claim (sym (ap (λ (t : Turn). t.asked) e) ∙ asks) in
      subst (λ (k : Claim). Says old.auth octets k) same (takes_says old.auth p c a f octets takes protocol is packet)
  does_says (Again reply) a p f octets old after claim takes e protocol is packet asks = both_ways after.asked claim (ap (λ (t : Turn). t.asked) e) asks
  does_says Refuse a p f octets old after claim takes x protocol is packet asks = both_ways after.asked claim (above_silent x.closes.doing.said.opened _ _ after x.closes.above) asks
  does_says Ignore a p f octets old after claim takes e protocol is packet asks = both_ways after.asked claim (ap (λ (t : Turn). t.asked) e) asks

  way_says : (w : FrameOwner) (octets : List ℕ) (old : LinkState) (after : Turn) (claim : Claim) → IsWay old octets w → HearsWay w r octets now random old after → after.asked ≡ Some claim → Says old.auth octets claim
  way_says (way.Auth p) octets old after claim (short, (f, is, for_auth, packet)) x asks =
      let protocol = (and_parts (is_opened old.lcp.lcp.state) (takes_protocol old.auth f.protocol) for_auth).1 in
      does_says x.step x.auth (packet_of p) f octets old after claim x.takes x.does protocol is packet asks
  way_says (way.Ipcp p) octets old after claim is x asks = both_ways after.asked claim (ap (λ (t : Turn). t.asked) x.done) asks
  way_says way.NoPacket octets old after claim is e asks = both_ways after.asked claim (ap (λ (t : Turn). t.asked) e) asks
  way_says way.Lcp octets old after claim is (inl (rejects, (t, steps, m))) asks =
      both_ways after.asked claim (ap (λ (u : Turn). u.asked) m.done ∙ lcp_silent (lcp_hears r octets now random) old t steps) asks
  way_says way.Lcp octets old after claim is (inr (differs, steps)) asks = both_ways after.asked claim (lcp_silent (lcp_hears r octets now random) old after steps) asks

  -- what is asked by a frame stands in it
  pub octets_say : (octets : List ℕ) (old : LinkState) (after : Turn) (claim : Claim) → HearsOctets r octets now random old after → after.asked ≡ Some claim → Says old.auth octets claim
  octets_say octets old after claim h asks = way_says h.way octets old after claim h.is h.hears asks
