-- An IPv4 packet without the octets past its total length.
use Rattle.std.proofs.Common.{◌≡◌, ℕ, zero, suc, ◌+◌, ◌-◌, ◌≤◌, List, take, length, refl, sym, ap, subst, ◌∙◌, arith}
use Rattle.std.specs.Prelude.{slice_index}
use Rattle.std.proofs.lemmas.List.{get_or-take, length-take, take-take}
use Rattle.byteorder.specs.Endian.{big_from}
use Rattle.bng_base.specs.declared.ipv4.Ipv4.{Ipv4}
use Rattle.bng_base.specs.Checksum.{ones_sum}
use Rattle.bng_base.specs.Ipv4Grammar.{IsIpv4}
use Rattle.bng_base.specs.Lowering.{lowered}
use Rattle.bng_forward.specs.Packets.{IsPassedOn}

big_from-take : (n : ℕ) (bytes : List ℕ) (i k : ℕ) → i + k ≤ n → big_from i k (take n bytes) ≡ big_from i k bytes
big_from-take n bytes i zero le = refl
big_from-take n bytes i (suc k) le =
    let here : slice_index (take n bytes) i ≡ slice_index bytes i = get_or-take n bytes i 0 (omega arith) in
    let rest : big_from (suc i) k (take n bytes) ≡ big_from (suc i) k bytes = big_from-take n bytes (suc i) k (omega arith) in
    cc

IsIpv4-take : (v : Ipv4) (bytes : List ℕ) → IsIpv4 v bytes → IsIpv4 v (take v.total bytes)
IsIpv4-take v bytes p =
    let len : length (take v.total bytes) ≡ v.total = omega (arith, length-take v.total bytes, p.is_there) in
    let long : 20 ≤ v.total = omega (arith, p.whole_header, p.holds_header) in
    let first = get_or-take v.total bytes 0 0 (omega arith) in
    let eighth = get_or-take v.total bytes 8 0 (omega arith) in
    record {
      long = omega arith;
      version = rw first p.version;
      header = rw first p.header;
      whole_header = p.whole_header;
      total = p.total ∙ sym (big_from-take v.total bytes 2 2 (omega arith));
      holds_header = p.holds_header;
      is_there = omega arith;
      ttl = p.ttl ∙ sym eighth;
      src = p.src ∙ sym (big_from-take v.total bytes 12 4 (omega arith));
      dst = p.dst ∙ sym (big_from-take v.total bytes 16 4 (omega arith));
      sum = ap ones_sum (take-take v.header v.total bytes p.holds_header) ∙ p.sum;
    }

pub passed_on : (v : Ipv4) (before low after : List ℕ) → IsIpv4 v before → IsIpv4 (record v { ttl = v.ttl - 1 }) low → low ≡ lowered before → after ≡ take v.total low → IsPassedOn v before after
passed_on v before low after p is lows cut = record {
  was = p;
  octets = cut ∙ ap (take v.total) lows;
  is = subst (λ (octets : List ℕ). IsIpv4 (record v { ttl = v.ttl - 1 }) octets) (sym cut) (IsIpv4-take (record v { ttl = v.ttl - 1 }) low is);
  whole = omega (arith, ap length cut, length-take v.total low, is.is_there);
}
