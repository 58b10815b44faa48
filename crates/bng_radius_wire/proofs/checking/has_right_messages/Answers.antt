use Rattle.std.proofs.Common.{◌≡◌, ◌≢◌, ◌+◌, ℕ, length, refl, sym, ap, ◌∙◌, arith}
use Rattle.bng_radius_wire.specs.Digests.{message_authenticator}
use Rattle.bng_radius_wire.proofs.Spelled.{length_of}
use Rattle.bng_radius_wire.proofs.Checks.{check_begins, check_on, check_ends, is_wrong, wrong_size, size_here, there_here, value_here, digest_here, all_before, same_texts, other_texts}
use Rattle.bng_radius_wire.proofs.checking.has_right_messages.Goals as goal

pub loop-at-init : goal.loop-at-init
loop-at-init c = record {
  within = omega (arith, length_of c.requires.grammar.0 c.args.packet.now c.requires.grammar.1);
  checked = λ p h. check_begins p c.args.request.now c.args.secret.now c.args.packet.now h;
}

pub overflow_add-at : goal.overflow_add-at
overflow_add-at c =
    let p = c.requires.grammar.0 in
    let checked = c.loop-at.invariant.checked p c.requires.grammar.1 in
    omega (arith, there_here p c.args.request.now c.args.secret.now c.loop-at.start c.in-Some.at c.args.packet.now checked (c.in-Some.ensures.found checked.rest checked.left) c.requires.grammar.1)

pub bounds-packet-at : goal.bounds-packet-at
bounds-packet-at c =
    let p = c.requires.grammar.0 in
    let checked = c.loop-at.invariant.checked p c.requires.grammar.1 in
    omega (arith, there_here p c.args.request.now c.args.secret.now c.loop-at.start c.in-Some.at c.args.packet.now checked (c.in-Some.ensures.found checked.rest checked.left) c.requires.grammar.1)

pub returns-then-packet-at-ne-LENGTH : goal.returns-then-packet-at-ne-LENGTH
returns-then-packet-at-ne-LENGTH c = λ p h.
    let checked = c.loop-at.invariant.checked p h in
    let first = c.in-Some.ensures.found checked.rest checked.left in
    let size = size_here p c.args.request.now c.args.secret.now c.loop-at.start c.in-Some.at c.args.packet.now checked first h in
    let wrong = wrong_size p c.args.request.now c.args.secret.now c.loop-at.start c.in-Some.at c.args.packet.now checked first (λ sixteen. c.if-packet-at-ne-LENGTH.true (size ∙ ap (λ (n : ℕ). 2 + n) sixteen)) in
    (λ e. absurd cc, λ right. absurd (is_wrong p c.args.request.now c.args.secret.now c.loop-at.start c.in-Some.at c.args.packet.now checked first wrong right))

pub message_digest-requires-clause-within : goal.message_digest-requires-clause-within
message_digest-requires-clause-within c =
    let p = c.requires.grammar.0 in
    let checked = c.loop-at.invariant.checked p c.requires.grammar.1 in
    let first = c.in-Some.ensures.found checked.rest checked.left in
    omega (arith, there_here p c.args.request.now c.args.secret.now c.loop-at.start c.in-Some.at c.args.packet.now checked first c.requires.grammar.1, size_here p c.args.request.now c.args.secret.now c.loop-at.start c.in-Some.at c.args.packet.now checked first c.requires.grammar.1)

pub sixteen_at-requires : goal.sixteen_at-requires
sixteen_at-requires c =
    let p = c.requires.grammar.0 in
    let checked = c.loop-at.invariant.checked p c.requires.grammar.1 in
    let first = c.in-Some.ensures.found checked.rest checked.left in
    omega (arith, there_here p c.args.request.now c.args.secret.now c.loop-at.start c.in-Some.at c.args.packet.now checked first c.requires.grammar.1, size_here p c.args.request.now c.args.secret.now c.loop-at.start c.in-Some.at c.args.packet.now checked first c.requires.grammar.1)

pub returns-then-ne : goal.returns-then-ne
returns-then-ne c = λ p h.
    let checked = c.loop-at.invariant.checked p h in
    let first = c.in-Some.ensures.found checked.rest checked.left in
    let size = size_here p c.args.request.now c.args.secret.now c.loop-at.start c.in-Some.at c.args.packet.now checked first h in
    let sixteen : length first.here.value ≡ 16 = omega (arith, size) in
    let value = value_here p c.args.request.now c.args.secret.now c.loop-at.start c.in-Some.at c.args.packet.now checked first h sixteen in
    let digest = digest_here p c.args.request.now c.args.secret.now c.loop-at.start c.in-Some.at c.args.packet.now checked first h sixteen in
    let wrong : first.here.value ≢ message_authenticator p (length (all_before p c.args.request.now c.args.secret.now c.loop-at.start c.in-Some.at c.args.packet.now checked first)) c.args.request.now c.args.secret.now =
    λ e. other_texts c.message_digest.result c.sixteen_at.result c.if-ne.ensures (c.message_digest.ensures ∙ digest ∙ sym e ∙ sym value ∙ sym c.sixteen_at.ensures) in
    (λ e. absurd cc, λ right. absurd (is_wrong p c.args.request.now c.args.secret.now c.loop-at.start c.in-Some.at c.args.packet.now checked first wrong right))

pub loop-at-preserved : goal.loop-at-preserved
loop-at-preserved c =
    let same = same_texts c.message_digest.result c.sixteen_at.result c.if-ne.ensures in
    let p = c.requires.grammar.0 in
    let checked = c.loop-at.invariant.checked p c.requires.grammar.1 in
    let first = c.in-Some.ensures.found checked.rest checked.left in
    record {
      within = omega (arith, there_here p c.args.request.now c.args.secret.now c.loop-at.start c.in-Some.at c.args.packet.now checked first c.requires.grammar.1, size_here p c.args.request.now c.args.secret.now c.loop-at.start c.in-Some.at c.args.packet.now checked first c.requires.grammar.1);
      checked = λ q h.
          let so_far = c.loop-at.invariant.checked q h in
          let here = c.in-Some.ensures.found so_far.rest so_far.left in
          let size = size_here q c.args.request.now c.args.secret.now c.loop-at.start c.in-Some.at c.args.packet.now so_far here h in
          let sixteen : length here.here.value ≡ 16 = omega (arith, size) in
          let value = value_here q c.args.request.now c.args.secret.now c.loop-at.start c.in-Some.at c.args.packet.now so_far here h sixteen in
          let digest = digest_here q c.args.request.now c.args.secret.now c.loop-at.start c.in-Some.at c.args.packet.now so_far here h sixteen in
          check_on q c.args.request.now c.args.secret.now c.loop-at.start c.in-Some.at c.args.packet.now so_far here h sixteen (sym value ∙ sym c.sixteen_at.ensures ∙ sym same ∙ c.message_digest.ensures ∙ digest);
    }

pub returns : goal.returns
returns c = λ p h.
    let checked = c.loop-at.invariant.checked p h in
    (λ _. check_ends p c.args.request.now c.args.secret.now c.loop-at.start c.args.packet.now checked (c.in_default.ensures.none checked.rest checked.left), λ _. refl)
