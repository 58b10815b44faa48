use Rattle.std.proofs.Common.{◌≡◌, ◌+◌, ◌-◌, ℕ, min, sym, ap, ◌∙◌}
use Rattle.bng_meter.specs.Bucket.{Buckets, filled, arrived}
use Rattle.bng_meter.proofs.Filling.{summed}
use Rattle.bng_meter.proofs.meter.Meter.fill.Goals as goal

pub returns-clause-filled : goal.returns-clause-filled
returns-clause-filled c = let m = c.self.inside in let b : Buckets = record { rate = m.rate; start = m.start; last = m.last; committed = m.committed; excess = m.excess } in
    let n : ℕ = arrived m.rate (c.args.now - m.start) - arrived m.rate (m.last - m.start) in
    let tokens : c.arrived-by_now.result - c.arrived.result ≡ n = λ i. c.arrived-by_now.ensures i - c.arrived.ensures i in
    let committed : c.raised-self-inside.result ≡ min (m.committed + n) m.rate.cbs = c.raised-self-inside.ensures ∙ ap (λ z. min (m.committed + z) m.rate.cbs) tokens in
    let over : c.left_over-over.result ≡ n - (m.rate.cbs - m.committed) = c.left_over-over.ensures ∙ ap (λ z. z - (m.rate.cbs - m.committed)) tokens in
    let excess : c.raised-self-inside-2.result ≡ min (m.excess + (n - (m.rate.cbs - m.committed))) m.rate.ebs = c.raised-self-inside-2.ensures ∙ ap (λ z. min (m.excess + z) m.rate.ebs) over in
    (λ i. let r : Buckets = record b { last = c.args.now; committed = committed i; excess = excess i } in r)
    ∙ (ap (λ (z : Buckets). let r : Buckets = record z { last = c.args.now } in r) (sym (summed n b c.self.invariant.1 c.self.invariant.2)) ∙ ap (λ z. filled z c.args.now) c.self.view_is)
