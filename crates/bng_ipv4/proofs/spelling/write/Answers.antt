use Rattle.std.proofs.Common.{rules, ◌≡◌, ◌≤◌, List, ℕ, ◌-◌, ◌∙◌, ◌++◌, sym, ap, subst, arith}
use Rattle.std.specs.Prelude.{fold, replicate, take}
use Rattle.std.proofs.lemmas.List.{take-replicate}
use Rattle.bng_base.specs.Checksum.{end_around, words}
use Rattle.bng_base.specs.Packet.{Packet}
use Rattle.bng_base.specs.Ipv4Grammar.{IsIpv4}
use Rattle.bng_ipv4.specs.Spelling.{fields, spelling}
use Rattle.bng_ipv4.proofs.Spelled.{spelled, spelling-IsIpv4}
use Rattle.bng_ipv4.proofs.spelling.write.Goals as goal

pub returns-clause-done : goal.returns-clause-done
returns-clause-done c = λ _.
    let v = c.args.value.now in
    let zeros : (n : ℕ) → n ≤ 4096 → take {A = ℕ} n (replicate {A = ℕ} 4096 0) ≡ replicate {A = ℕ} n 0 = λ n h. take-replicate {X = ℕ} n 4096 0 h in
    let h : 20 ≤ v.header = c.requires.1.whole_header in
    let t : v.header ≤ v.total = c.requires.1.holds_header in
    let options : v.header - 20 ≤ 4096 = omega (arith, c.requires.1.header) in
    let rest : v.total - 20 ≤ 4096 = omega arith in
    let fields_sum : c.sum_from.result ≡ fold end_around 0 (words (fields v 0)) = c.sum_from.ensures ∙ ap (λ (f : List ℕ). fold end_around 0 (words f)) c.fields_of.ensures in
    let e : c.sum_from-sum.result ≡ fold end_around (fold end_around 0 (words (fields v 0))) (words (replicate {A = ℕ} (v.header - 20) 0)) =
    c.sum_from-sum.ensures
    ∙ ap (λ (n : ℕ). fold end_around c.sum_from.result (words (take (n - 20) (replicate {A = ℕ} 4096 0)))) c.from-header.ensures
    ∙ ap (λ (r : List ℕ). fold end_around c.sum_from.result (words r)) (zeros (v.header - 20) options)
    ∙ ap (λ (s : ℕ). fold end_around s (words (replicate {A = ℕ} (v.header - 20) 0))) fields_sum in
    let main = spelled v c.sum_from-sum.result h t e in
    let front : c.fields_of-2.result ≡ fields v (65535 - c.sum_from-sum.result) = c.fields_of-2.ensures in
    let back : take (c.from-total.result - 20) (replicate {A = ℕ} 4096 0) ≡ replicate {A = ℕ} (v.total - 20) 0 = ap (λ (n : ℕ). take (n - 20) (replicate {A = ℕ} 4096 0)) c.from-total.ensures ∙ zeros (v.total - 20) rest in
    let payload : c.put_back.new.self.payload ≡ spelling v = c.put_back.ensures.payload
    ∙ ap (λ (p : Packet). p.payload ++ take (c.from-total.result - 20) (replicate {A = ℕ} 4096 0)) c.set.ensures
    ∙ ap (λ (f : List ℕ). f ++ take (c.from-total.result - 20) (replicate {A = ℕ} 4096 0)) front
    ∙ ap (λ (b : List ℕ). fields v (65535 - c.sum_from-sum.result) ++ b) back ∙ main in
    let headroom : c.put_back.new.self.headroom ≡ 64 = c.put_back.ensures.headroom ∙ ap (λ (p : Packet). p.headroom) c.set.ensures in
    let made : ℕ → List ℕ → Packet = λ h p. record { payload = p; headroom = h } in
    ap (λ (h : ℕ). made h c.put_back.new.self.payload) headroom ∙ ap (made 64) payload

pub returns-clause-again : goal.returns-clause-again
returns-clause-again c = λ yes.
    let v = c.args.value.now in
    subst (λ (p : List ℕ). IsIpv4 v p) (sym (ap (λ (p : Packet). p.payload) (returns-clause-done c yes)))
    (spelling-IsIpv4 v c.requires.0 (search rules) (search rules) (search rules) (search rules) c.requires.1)
