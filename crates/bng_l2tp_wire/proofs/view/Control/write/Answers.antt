use Rattle.std.proofs.Common.{rules, refl, ℕ, List, ◌≡◌, ◌+◌, ◌++◌, ◌∙◌, ap, subst, sym, arith, length}
use Rattle.bng_base.specs.Packet.{Packet}
use Rattle.bng_l2tp_wire.specs.declared.view.Avp.{Avp}
use Rattle.bng_l2tp_wire.specs.Avps.{avps_text}
use Rattle.bng_l2tp_wire.specs.Messages.{IsControl, control_text}
use Rattle.bng_l2tp_wire.specs.View.{avps_of, control_of}
use Rattle.bng_l2tp_wire.proofs.Spelled.{control_reads}
use Rattle.bng_l2tp_wire.proofs.view.Control.write.Goals as goal

pub overflow_add-size : goal.overflow_add-size
overflow_add-size c = omega (arith, c.size_of-size.ensures.small)

pub returns-then-size-gt-LONGEST-clause-full : goal.returns-then-size-gt-LONGEST-clause-full
returns-then-size-gt-LONGEST-clause-full c =
    let is_size : c.size_of-size.result ≡ length (avps_text (avps_of c.args.self.now.avps.items)) = rw c.as_slice.ensures.value at c.size_of-size.ensures.size in
    let size : length (control_text (control_of c.args.self.now)) ≡ 12 + c.size_of-size.result = omega (arith, is_size) in
    (λ _. omega arith, λ _. refl)

pub returns-clause-full : goal.returns-clause-full
returns-clause-full c =
    let is_size : c.size_of-size.result ≡ length (avps_text (avps_of c.args.self.now.avps.items)) = rw c.as_slice.ensures.value at c.size_of-size.ensures.size in
    let size : length (control_text (control_of c.args.self.now)) ≡ 12 + c.size_of-size.result = omega (arith, is_size) in
    (λ e. absurd cc, λ h. absurd (omega arith))

pub returns-clause-again : goal.returns-clause-again
returns-clause-again c =
    let m = control_of c.args.self.now in
    let is_size : c.size_of-size.result ≡ length (avps_text m.avps) = rw c.as_slice.ensures.value at c.size_of-size.ensures.size in
    let spelled : c.put_all.new.into.payload ≡ control_text m = c.put_all.ensures.payload
    ∙ ap (λ (items : List Avp). c.set.new.self.payload ++ avps_text (avps_of items)) c.as_slice-2.ensures.value
    ∙ ap (λ (q : Packet). q.payload ++ avps_text m.avps) c.set.ensures
    ∙ ap (λ (h : List ℕ). h ++ avps_text m.avps) c.header.ensures in
    λ _. subst (λ (xs : List ℕ). IsControl m xs) (sym spelled) (control_reads m (search rules) (search rules) (search rules) (search rules) c.requires (omega arith))
