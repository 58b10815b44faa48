-- A packet that passes the meter does not exceed it, whoever reads the packet of its octets, and one that is no longer
-- than the MRU is not too big; and one that nothing keeps from its holder is forwarded.
use Rattle.std.proofs.Common.{◌≡◌, ℕ, ◌≤◌, ◌<◌, inr, true, false, List, Option, None, Some, refl, sym, ap, subst, ◌∙◌, arith}
use Rattle.bng_base.specs.declared.fate.Fate.TheVariants.{Forwarded}
use Rattle.bng_base.specs.declared.ipv4.Ipv4.{Ipv4}
use Rattle.bng_base.specs.Ipv4Grammar.{IsIpv4}
use Rattle.bng_forward.specs.declared.view.TermView.{TermView}
use Rattle.bng_forward.specs.Meters.{IsRed}
use Rattle.bng_forward.specs.Packets.{HasPacket}
use Rattle.bng_forward.specs.Fates.{ExceedsInput, ExceedsOutput, HasClosedHolder, IsTooBig, DownFate, Holders}
use Rattle.bng_forward.proofs.Readings.{one_header}

pub within_input : (view : TermView) (now : ℕ) (v : Ipv4) (octets : List ℕ) → IsIpv4 v octets → ¬ (IsRed view.input now v.total) → ¬ (ExceedsInput (Some (Some view)) now octets)
within_input view now v octets is passes (other, found, (w, reads, red)) =
    let same : other ≡ view = cc in
    let header : w ≡ v = one_header w v octets reads is in
    passes (subst (λ (x : Ipv4). IsRed view.input now x.total) header (subst (λ (t : TermView). IsRed t.input now w.total) same red))

pub within_output : (holder : Holders) (view : TermView) (now : ℕ) (v : Ipv4) (octets : List ℕ) → IsIpv4 v octets → holder v.dst ≡ Some view → ¬ (IsRed view.output now v.total) → ¬ (HasPacket (ExceedsOutput holder now) octets)
within_output holder view now v octets is held passes (w, reads, (other, found, red)) =
    let header : w ≡ v = one_header w v octets reads is in
    let there : Some other ≡ Some view = sym found ∙ ap (λ (x : Ipv4). holder x.dst) header ∙ held in
    let same : other ≡ view = cc in
    passes (subst (λ (x : Ipv4). IsRed view.output now x.total) header (subst (λ (t : TermView). IsRed t.output now w.total) same red))

pub within_mru : (holder : Holders) (view : TermView) (v : Ipv4) (octets : List ℕ) → IsIpv4 v octets → holder v.dst ≡ Some view → ¬ (view.mru < v.total) → ¬ (HasPacket (IsTooBig holder) octets)
within_mru holder view v octets is held fits (w, reads, (other, found, long)) =
    let header : w ≡ v = one_header w v octets reads is in
    let there : Some other ≡ Some view = sym found ∙ ap (λ (x : Ipv4). holder x.dst) header ∙ held in
    let same : other ≡ view = cc in
    fits (subst (λ (x : Ipv4). view.mru < x.total) header (subst (λ (t : TermView). t.mru < w.total) same long))

pub has_holder : (holder : Holders) (view : TermView) (v : Ipv4) (octets : List ℕ) → IsIpv4 v octets → holder v.dst ≡ Some view → ¬ (HasPacket (λ x. holder x.dst ≡ None) octets)
has_holder holder view v octets is held (w, reads, none) =
    let header : w ≡ v = one_header w v octets reads is in
    let there : holder v.dst ≡ None = subst (λ (x : Ipv4). holder x.dst ≡ None) header none in
    let bad : None ≡ Some view = sym there ∙ held in
    absurd (cc)

pub is_open : (holder : Holders) (view : TermView) (v : Ipv4) (octets : List ℕ) → IsIpv4 v octets → holder v.dst ≡ Some view → view.opened ≡ true → ¬ (HasPacket (HasClosedHolder holder) octets)
is_open holder view v octets is held opened (w, reads, (other, found, closed)) =
    let header : w ≡ v = one_header w v octets reads is in
    let there : Some other ≡ Some view = sym found ∙ ap (λ (x : Ipv4). holder x.dst) header ∙ held in
    let same : other ≡ view = cc in
    let bad : false ≡ true = sym closed ∙ ap (λ (t : TermView). t.opened) same ∙ opened in
    absurd (cc)

pub is_alive : (v : Ipv4) (octets : List ℕ) → IsIpv4 v octets → 2 ≤ v.ttl → ¬ (HasPacket (λ x. x.ttl ≤ 1) octets)
is_alive v octets is alive (w, reads, low) =
    let header : w ≡ v = one_header w v octets reads is in
    let lower : v.ttl ≤ 1 = subst (λ (x : Ipv4). x.ttl ≤ 1) header low in
    absurd (omega (arith, lower, alive))

pub forwarded_down : (holder : Holders) (view : TermView) (now : ℕ) (v : Ipv4) (octets : List ℕ) → IsIpv4 v octets → holder v.dst ≡ Some view → view.opened ≡ true → 2 ≤ v.ttl → ¬ (view.mru < v.total) → ¬ (IsRed view.output now v.total) → DownFate holder now octets Forwarded
forwarded_down holder view now v octets is held opened alive fits passes =
    inr (
      (λ no. no v is),
      inr (
        has_holder holder view v octets is held,
        inr (
          is_open holder view v octets is held opened,
          inr (
            is_alive v octets is alive,
            inr (
              within_mru holder view v octets is held fits,
              inr (
                within_output holder view now v octets is held passes,
                refl,
              ),
            ),
          ),
        ),
      ),
    )
