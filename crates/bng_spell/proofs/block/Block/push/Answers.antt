use Rattle.std.proofs.Common.{ℕ, List, ◌≡◌, ◌+◌, ◌-◌, ◌∙◌, ◌++◌, ap, length, arith}
use Rattle.std.specs.List.{between}
use borrow.Rule.Slice.PartMut.{put_mid}
use Rattle.bng_base.proofs.Ranges.{between-put_after}
use Rattle.bng_spell.specs.Spelling.{Pending}
use Rattle.bng_spell.proofs.block.Block.push.Goals as goal

pub returns-clause-octets : goal.returns-clause-octets
returns-clause-octets c =
    let e = c.self.inside.filled in
    let room = c.self.inside.room in
    let written = c.copy_from_slice.new.self in
    let len = length c.args.text.now in
    let old = between 0 e room in
    let size : e + len - e ≡ len = omega arith in
    ap (λ (k : ℕ). between 0 (e + len) (put_mid e k room written)) size
    ∙ between-put_after len 0 e room written (omega arith) (omega arith) (ap length c.copy_from_slice.ensures.after)
    ∙ ap (λ (back : List ℕ). old ++ back) c.copy_from_slice.ensures.after ∙ ap (λ (p : Pending). p.octets ++ c.args.text.now) c.self.view_is
