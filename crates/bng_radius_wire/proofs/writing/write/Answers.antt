use Rattle.std.proofs.Common.{rules, refl, ℕ, List, [], ◌∷◌, ◌≡◌, ◌+◌, ◌++◌, ◌∙◌, ap, subst, sym, arith, length, get_or}
use Rattle.std.proofs.lemmas.List.{append-nil}
use Rattle.bng_radius_wire.specs.Attributes.{fields}
use Rattle.bng_radius_wire.specs.Grammar.{spelling, attributes_text, whole, IsRadius}
use Rattle.byteorder.specs.Endian.{big_bytes}
use Rattle.bng_base.specs.Packet.{Packet as Bytes}
use Rattle.bng_radius_wire.specs.declared.views.Attribute.{Attribute}
use Rattle.bng_radius_wire.proofs.Spelled.{spelling_reads, length-spelling}
use Rattle.bng_radius_wire.proofs.writing.write.Goals as goal

pub overflow_add-size : goal.overflow_add-size
overflow_add-size c = omega (arith, c.size_of-size.ensures.small)

pub returns-then-size-gt-LONGEST-clause-full : goal.returns-then-size-gt-LONGEST-clause-full
returns-then-size-gt-LONGEST-clause-full c =
    let is_size : c.size_of-size.result ≡ length (attributes_text (fields c.args.value.now.attributes.items)) = rw c.as_slice.ensures.value at c.size_of-size.ensures.size in
    let size : length (spelling (whole c.args.value.now)) ≡ 20 + c.size_of-size.result = omega (arith, is_size, length-spelling (whole c.args.value.now) (search rules)) in
    (λ _. omega arith, λ _. refl)

pub returns-clause-full : goal.returns-clause-full
returns-clause-full c =
    let is_size : c.size_of-size.result ≡ length (attributes_text (fields c.args.value.now.attributes.items)) = rw c.as_slice.ensures.value at c.size_of-size.ensures.size in
    let size : length (spelling (whole c.args.value.now)) ≡ 20 + c.size_of-size.result = omega (arith, is_size, length-spelling (whole c.args.value.now) (search rules)) in
    (λ e. absurd cc, λ h. absurd (omega arith))

pub returns-clause-done : goal.returns-clause-done
unfolding spelling
returns-clause-done c =
    let v = c.args.value.now in
    let listed = attributes_text (fields v.attributes.items) in
    let header : List ℕ → List ℕ = λ word. v.code ∷ v.id ∷ get_or word 0 0 ∷ get_or word 1 0 ∷ [] in
    let is_size : c.size_of-size.result ≡ length listed = rw c.as_slice.ensures.value at c.size_of-size.ensures.size in
    λ _.
    c.put_all.ensures.payload
    ∙ ap (λ (items : List Attribute). c.put_back.new.self.payload ++ attributes_text (fields items)) c.as_slice-2.ensures.value
    ∙ ap (λ (front : List ℕ). front ++ listed) (c.put_back.ensures.payload ∙ ap (λ (front : List ℕ). front ++ v.authenticator) (ap (λ (p : Bytes). p.payload) c.set.ensures ∙ ap header c.to_be_bytes.ensures))
    ∙ ap (λ (n : ℕ). v.code ∷ v.id ∷ (big_bytes 2 (20 + n) ++ (v.authenticator ++ listed))) is_size

pub returns-clause-reads_back : goal.returns-clause-reads_back
returns-clause-reads_back c =
    let v = c.args.value.now in
    let is_size : c.size_of-size.result ≡ length (attributes_text (fields v.attributes.items)) = rw c.as_slice.ensures.value at c.size_of-size.ensures.size in
    λ e. subst (IsRadius (whole v)) (append-nil (spelling (whole v)) ∙ sym (returns-clause-done c e)) (spelling_reads (whole v) [] (search rules) c.requires (omega arith))
