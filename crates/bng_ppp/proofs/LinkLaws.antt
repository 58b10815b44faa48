-- Steps of a whole link, put together.
use Rattle.std.proofs.Common.{◌≡◌, ℕ, Bool, true, false, Option, None, List, [], sym, ap, subst, refl, ◌∙◌, arith}
use Rattle.std.specs.Prelude.{◌||◌}
use Rattle.bng_auth.specs.Replying.{Said as Reply}
use Rattle.bng_automaton.specs.declared.event.Event.TheVariants.{Up, Open}
use Rattle.bng_base.specs.declared.address.Ip4.{Ip4}
use Rattle.bng_base.specs.PppGrammar.{PppFrame, IsControlPacket}
use Rattle.bng_ppp.specs.declared.authentication.Authentication.{Authentication}
use Rattle.bng_ppp.specs.declared.frame.FrameKind.{FrameKind}
use Rattle.bng_ppp.specs.declared.frame.FrameKind.TheVariants.{NoFrame, NoPacket, Long, Lcp, Other}
use Rattle.bng_ppp.specs.declared.rules.LinkRules.{LinkRules}
use Rattle.bng_ppp.specs.Authentication.{AuthSettles, reply_sent}
use Rattle.bng_ppp.specs.IpcpAutomaton.{ipcp_plain}
use Rattle.bng_ppp.specs.IpcpState.{IpcpState, first_ask}
use Rattle.bng_ppp.specs.Frame.{IsHeard}
use Rattle.bng_ppp.specs.Layers.{Turn, begun, with_auth_until, LcpCloses, IpcpMoves}
use Rattle.bng_ppp.specs.Verdict.{Refuses, Begins, BeginsFor, Accepts}
use Rattle.bng_ppp.specs.LinkFrame.{RejectsIpcp}
use Rattle.bng_ppp.specs.LinkState.{LinkState}
use Rattle.bng_ppp.proofs.OneOutcome.{frame_one}

pub or-left : (a b : Bool) → a ≡ true → (a || b) ≡ true
or-left true b e = refl
or-left false b e = absurd cc

pub or-right : (a b : Bool) → b ≡ true → (a || b) ≡ true
or-right true b e = refl
or-right false b e = e

module _ (r : LinkRules) (now : ℕ) where
  pub refuses : (random text : List ℕ) (t after : Turn) (reply : Option Reply) (settled : Authentication) (outs : List (List ℕ)) → AuthSettles t.link.auth false text reply settled → outs ≡ reply_sent reply t.outs
      → LcpCloses r now random (record (with_auth_until t settled None) { outs = outs }) after → Refuses r now random text t after
  refuses random text t after reply settled outs settles sent closes = record {
    reply = reply;
    settled = settled;
    settles = settles;
    closes = subst (λ (o : List (List ℕ)). LcpCloses r now random (record (with_auth_until t settled None) { outs = o }) after) sent closes;
  }

  pub accepts : (lease : Option Ip4) (text : List ℕ) (old : LinkState) (t after : Turn) (reply : Option Reply) (settled : Authentication) (outs : List (List ℕ))
      → AuthSettles old.auth true text reply settled → t ≡ begun old → outs ≡ reply_sent reply t.outs
      → BeginsFor lease r now (record (with_auth_until t settled None) { outs = outs }) after → Accepts r lease text now old after
  accepts lease text old t after reply settled outs settles fresh sent begins =
      let sent_from : outs ≡ reply_sent reply [] = sent ∙ ap (λ (u : Turn). reply_sent reply u.outs) fresh in
      let with_outs = subst (λ (o : List (List ℕ)). BeginsFor lease r now (record (with_auth_until t settled None) { outs = o }) after) sent_from begins in
      record {
        reply = reply;
        settled = settled;
        settles = settles;
        begins = subst (λ (u : Turn). BeginsFor lease r now (record (with_auth_until u settled None) { outs = reply_sent reply [] }) after) fresh with_outs;
      }

  pub begins : (lease : Ip4) (t opened after : Turn) (ipcp : IpcpState) → ipcp ≡ record t.link.ipcp { ask = first_ask r.address; kept = record t.link.ipcp.kept { lease = lease } }
      → IpcpMoves Open (ipcp_plain ipcp.kept 0) now (record t { link = record t.link { ipcp = ipcp; live = true } }) opened → IpcpMoves Up (ipcp_plain opened.link.ipcp.kept 0) now opened after → Begins r lease now t after
  begins lease t opened after ipcp is on up = record {
    opened = opened;
    on_open = subst (λ (i : IpcpState). IpcpMoves Open (ipcp_plain i.kept 0) now (record t { link = record t.link { ipcp = i; live = true } }) opened) is on;
    on_up = up;
  }

-- octets that are no packet of LCP are no Protocol-Reject
pub no_reject : (octets : List ℕ) (h : FrameKind) → IsHeard octets h → ((p : _) → h ≡ Lcp p → ⊥) → RejectsIpcp octets → ⊥
no_reject octets Long is none r = omega (arith, is, r.short)
no_reject octets NoFrame is none r = is.1 r.frame r.is
no_reject octets NoPacket (short, (f, is, to, no_packet)) none r =
    no_packet r.packet (subst (λ (g : PppFrame). IsControlPacket r.packet g.info) (frame_one r.frame f octets r.is is) r.packet_is)
no_reject octets (Lcp p) is none r = none p refl
no_reject octets (Other n) (short, (f, is, to, differs)) none r =
    differs (sym to ∙ ap (λ (g : PppFrame). g.protocol) (frame_one f r.frame octets is r.is) ∙ r.lcp)
