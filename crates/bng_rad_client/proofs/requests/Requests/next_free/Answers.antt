use Rattle.std.proofs.Common.{rules, None, ◌≡◌, ◌<◌, length, ap, sym, ◌∙◌, arith}
use Rattle.bng_rad_client.specs.Table.{Table, request_of}
use Rattle.bng_rad_client.proofs.Counts.{round, one_free}
use Rattle.bng_rad_client.proofs.requests.Requests.next_free.Goals as goal

pub returns-clause-none : goal.returns-clause-none
returns-clause-none c =
    let size : length c.args.self.now.places ≡ 256 = ap (λ (t : Table). length t.places) (sym c.self.view_is) ∙ c.self.invariant.size in
    let small : c.args.self.now.last < 256 = omega (arith, ap (λ (t : Table). t.last) c.self.view_is) in
    round c.args.self.now.places c.args.self.now.last size small (λ k below. c.loop.invariant.before k (omega arith))

pub returns-then-is_none-clause-room : goal.returns-then-is_none-clause-room
returns-then-is_none-clause-room c =
    let size : length c.args.self.now.places ≡ 256 = ap (λ (t : Table). length t.places) (sym c.self.view_is) ∙ c.self.invariant.size in
    let free : request_of c.args.self.now.places c.from.result ≡ None = search rules in
    let fewer = one_free c.args.self.now.places c.from.result (omega arith) free in
    omega (arith, fewer, size)
