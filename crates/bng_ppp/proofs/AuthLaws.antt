-- What a packet of a peer and a verdict do to the question whether the peer is accepted.
use Rattle.std.proofs.Common.{◌≡◌, ◌⊎◌, inl, inr, ℕ, Bool, true, false, ◌&&◌, not, List, Option, Some, None, is_some, refl, sym, ap, ◌∙◌}
use Rattle.bng_auth.specs.declared.credentials.Credentials.{Credentials}
use Rattle.bng_auth.specs.declared.reply.Reply.{Reply}
use Rattle.bng_auth.specs.declared.step.AuthStep.{AuthStep}
use Rattle.bng_auth.specs.declared.step.AuthStep.TheVariants.{Ask, Again, Refuse, Ignore}
use Rattle.bng_auth.specs.Questions.{PapQuestion, ChapQuestion, Finding, pap_is_open, chap_is_open, is_yes, kept}
use Rattle.bng_auth.specs.Replying.{Said, reply_of}
use Rattle.bng_base.specs.PppGrammar.{ControlPacket}
use Rattle.bng_ppp.specs.declared.authentication.Authentication.{Authentication}
use Rattle.bng_ppp.specs.declared.authentication.Authentication.TheVariants as auth
use Rattle.bng_ppp.specs.Authentication.{AuthTakes, AuthSettles}
use Rattle.bng_ppp.specs.Phases.{is_begun}
use Rattle.bng_ppp.specs.LinkState.{is_open, is_accepted}

-- Verdicts --------------------------------------------------------------------------------------------------------------

-- a reply goes out, and says yes
abbrev pub says_yes : Option Said → Bool
says_yes None = false
says_yes (Some s) = s.yes

kept_yes : (v : Option Finding) (found : Bool) (text : List ℕ) → (kept v found text).yes ≡ true → (is_yes v ≡ true) ⊎ (found ≡ true)
kept_yes None found text e = inr e
kept_yes (Some f) found text e = inl e

-- the reply to a verdict says yes only where the peer was accepted, or where the verdict is yes
pub settles_yes : (a : Authentication) (found : Bool) (text : List ℕ) (reply : Option Said) (b : Authentication) → AuthSettles a found text reply b → says_yes reply ≡ true → (is_accepted a ≡ true) ⊎ (found ≡ true)
settles_yes auth.Idle found text reply b x e = inl (sym (ap says_yes x.0) ∙ e)
settles_yes (auth.Pap q) found text reply b (s, after, settles, is, same) e = kept_yes q.verdict found text (sym (ap (λ (r : Said). r.yes) settles.1) ∙ sym (ap says_yes is) ∙ e)
settles_yes (auth.Chap q sent) found text reply b (s, after, settles, is, same) e = kept_yes q.verdict found text (sym (ap (λ (r : Said). r.yes) settles.1) ∙ sym (ap says_yes is) ∙ e)

-- so is the peer accepted
pub settles_accepts : (a : Authentication) (found : Bool) (text : List ℕ) (reply : Option Said) (b : Authentication) → AuthSettles a found text reply b → is_accepted b ≡ true → (is_accepted a ≡ true) ⊎ (found ≡ true)
settles_accepts auth.Idle found text reply b x e = inl (sym (ap is_accepted x.1) ∙ e)
settles_accepts (auth.Pap q) found text reply b (s, after, settles, is, same) e =
    kept_yes q.verdict found text (sym (ap (λ (n : PapQuestion). is_yes n.verdict) settles.0) ∙ sym (ap is_accepted same) ∙ e)
settles_accepts (auth.Chap q sent) found text reply b (s, after, settles, is, same) e =
    kept_yes q.verdict found text (sym (ap (λ (n : ChapQuestion). is_yes n.verdict) settles.0) ∙ sym (ap is_accepted same) ∙ e)

and_not : (b : Bool) → (b && false) ≡ false
and_not true = refl
and_not false = refl

-- no question is open once there is a verdict
pub settles_closes : (a : Authentication) (found : Bool) (text : List ℕ) (reply : Option Said) (b : Authentication) → AuthSettles a found text reply b → is_open b ≡ false
settles_closes auth.Idle found text reply b x = ap is_open x.1
settles_closes (auth.Pap q) found text reply b (s, after, settles, is, same) = ap is_open same ∙ ap pap_is_open settles.0 ∙ and_not (is_some q.asked)
settles_closes (auth.Chap q sent) found text reply b (s, after, settles, is, same) = ap is_open same ∙ ap chap_is_open settles.0 ∙ and_not q.asked

-- Packets ---------------------------------------------------------------------------------------------------------------

-- a packet that is answered by the reply yes again
abbrev pub repeats_yes : AuthStep → Bool
repeats_yes (Ask c) = false
repeats_yes (Again r) = (reply_of r).yes
repeats_yes Refuse = false
repeats_yes Ignore = false

-- only an accepted peer is told so again
pub takes_repeats : (a : Authentication) (p : ControlPacket) (s : AuthStep) (b : Authentication) → AuthTakes a p s b → repeats_yes s ≡ true → is_accepted a ≡ true
takes_repeats auth.Idle p s b x e = sym (ap repeats_yes x.0) ∙ e
takes_repeats (auth.Pap q) p (Ask c) b x e = absurd cc
takes_repeats (auth.Pap q) p (Again r) b (after, (new, req, (v, found, reply)), same) e = ap is_yes found ∙ sym (ap (λ (t : Said). t.yes) reply) ∙ e
takes_repeats (auth.Pap q) p Refuse b x e = absurd cc
takes_repeats (auth.Pap q) p Ignore b x e = absurd cc
takes_repeats (auth.Chap q sent) p (Ask c) b x e = absurd cc
takes_repeats (auth.Chap q sent) p (Again r) b (after, (new, req, (v, found, reply)), same) e = ap is_yes found ∙ sym (ap (λ (t : Said). t.yes) reply) ∙ e
takes_repeats (auth.Chap q sent) p Refuse b x e = absurd cc
takes_repeats (auth.Chap q sent) p Ignore b x e = absurd cc

-- a packet that is passed over, or answered again, changes nothing
pub again_same : (a : Authentication) (p : ControlPacket) (r : Reply) (b : Authentication) → AuthTakes a p (Again r) b → b ≡ a
again_same auth.Idle p r b x = x.1
again_same (auth.Pap q) p r b (after, takes, same) = same ∙ ap (λ (n : PapQuestion). auth.Pap n) takes.0
again_same (auth.Chap q sent) p r b (after, takes, same) = same ∙ ap (λ (n : ChapQuestion). auth.Chap n sent) takes.0

pub ignored_same : (a : Authentication) (p : ControlPacket) (b : Authentication) → AuthTakes a p Ignore b → b ≡ a
ignored_same auth.Idle p b x = x.1
ignored_same (auth.Pap q) p b (after, takes, same) = same ∙ ap (λ (n : PapQuestion). auth.Pap n) takes.0
ignored_same (auth.Chap q sent) p b (after, takes, same) = same ∙ ap (λ (n : ChapQuestion). auth.Chap n sent) takes.0

-- A question is asked of a peer whose authentication has begun, of whom none was asked and who was not accepted; it is open
-- then, and the peer is not accepted yet.
pub record Opens (old new : Authentication) : Type 0 where
  pub begun : is_begun old ≡ true
  pub closed : is_open old ≡ false
  pub unsettled : is_accepted old ≡ false
  pub open_now : is_open new ≡ true
  pub still : is_accepted new ≡ false

pub asks_opens : (a : Authentication) (p : ControlPacket) (c : Credentials) (b : Authentication) → AuthTakes a p (Ask c) b → Opens a b
asks_opens auth.Idle p c b (e, same) = absurd cc
asks_opens (auth.Pap q) p c b (after, (is, new, what), same) = record {
  begun = refl;
  closed = ap pap_is_open is;
  unsettled = ap (λ (n : PapQuestion). is_yes n.verdict) is;
  open_now = ap is_open same ∙ ap pap_is_open new;
  still = ap is_accepted same ∙ ap (λ (n : PapQuestion). is_yes n.verdict) new;
}
asks_opens (auth.Chap q sent) p c b (after, (fresh, none, new, what), same) = record {
  begun = refl;
  closed = ap (λ (asked : Bool). asked && not (is_some q.verdict)) fresh;
  unsettled = ap is_yes none;
  open_now = ap is_open same ∙ ap chap_is_open new ∙ ap (λ (v : Option Finding). not (is_some v)) none;
  still = ap is_accepted same ∙ ap (λ (n : ChapQuestion). is_yes n.verdict) new ∙ ap is_yes none;
}
