use Rattle.std.proofs.Common.{rules, ◌≡◌, ◌-◌, ◌*◌, ◌%◌, ◌++◌, ◌∷◌, [], List, ℕ, length, ◌∙◌, take, drop, get_or, sym, ap, subst, arith}
use Rattle.std.specs.Prelude.{fold}
use Rattle.bng_base.specs.declared.ipv4.Ipv4.{Ipv4}
use Rattle.bng_base.specs.Checksum.{end_around, words}
use Rattle.bng_base.specs.Ipv4Grammar.{IsIpv4}
use Rattle.bng_ipv4.proofs.Lowered.{lowers, sum_around, four_of, lowered-IsIpv4, length-lowered, drop-lowered}
use Rattle.bng_ipv4.proofs.Sums.{IsBytes}
use Rattle.bng_ipv4.proofs.lowering.lower_ttl.Goals as goal

pub returns-clause-payload : goal.returns-clause-payload
returns-clause-payload c =
    let packet = c.args.frame.now.payload in
    let read : c.payload-bytes.result.now ≡ packet = c.payload-bytes.ensures.octets in
    let fits : IsBytes packet = subst IsBytes read (λ i. search rules) in
    let third : c.sum_from-sum.result ≡ sum_around packet = c.sum_from-sum.ensures
    ∙ ap (λ (h : ℕ). fold end_around c.sum_from-before.result (words (take (4 * h - 12) (drop 12 c.payload-bytes.result.now)))) c.from-header.ensures
    ∙ ap (λ (s : ℕ). fold end_around s (words (take (4 * (get_or c.payload-bytes.result.now 0 0 % 16) - 12) (drop 12 c.payload-bytes.result.now)))) (c.sum_from-before.ensures ∙ ap (λ (s : ℕ). fold end_around s (words ((get_or c.payload-bytes.result.now 8 0 - 1) ∷ get_or c.payload-bytes.result.now 9 0 ∷ []))) c.sum_from.ensures)
    ∙ ap sum_around read in
    let put : c.overwrite.new.self.payload ≡ take 8 packet ++ four_of packet (65535 - c.sum_from-sum.result) ++ drop 12 packet =
    c.overwrite.ensures.payload
    ∙ ap (λ (two : List ℕ). take 8 packet ++ ((get_or c.payload-bytes.result.now 8 0 - 1) ∷ get_or c.payload-bytes.result.now 9 0 ∷ get_or two 0 0 ∷ get_or two 1 0 ∷ []) ++ drop 12 packet) c.to_be_bytes.ensures
    ∙ ap (λ (p : List ℕ). take 8 packet ++ four_of p (65535 - c.sum_from-sum.result) ++ drop 12 packet) read in
    put ∙ ap (λ (s : ℕ). take 8 packet ++ four_of packet (65535 - s) ++ drop 12 packet) third
    ∙ lowers packet (omega (arith, c.requires.1.long)) fits (omega (arith, c.requires.1.header, c.requires.1.whole_header))

pub returns-clause-size : goal.returns-clause-size
returns-clause-size c = ap length (returns-clause-payload c) ∙ length-lowered c.args.frame.now.payload (omega (arith, c.requires.1.long))

pub returns-clause-rest : goal.returns-clause-rest
returns-clause-rest c = ap (drop 12) (returns-clause-payload c) ∙ drop-lowered c.args.frame.now.payload (omega (arith, c.requires.1.long))

pub returns-clause-again : goal.returns-clause-again
returns-clause-again c =
    λ v h.
    let read : c.payload-bytes.result.now ≡ c.args.frame.now.payload = c.payload-bytes.ensures.octets in
    let fits : IsBytes c.args.frame.now.payload = subst IsBytes read (λ i. search rules) in
    let next : Ipv4 = record v { ttl = v.ttl - 1 } in
    subst (λ (p : List ℕ). IsIpv4 next p) (sym (returns-clause-payload c)) (lowered-IsIpv4 c.args.frame.now.payload v fits h)
