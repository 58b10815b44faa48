use Rattle.std.proofs.Common.{rules, ℕ, ◌≡◌, ◌+◌, ◌≤◌, ◌++◌, take, drop, refl, length, sym, ap, subst, ◌∙◌, arith}
use Rattle.bng_digest.specs.Authentication.{hmac_md5}
use Rattle.md5.proofs.StandardFacts.{length-md5}
use Rattle.bng_radius_wire.specs.Grammar.{Packet, AreOctets, IsRadius, IsSpelled, length_in}
use Rattle.bng_radius_wire.specs.Digests.{message_authenticator, with_message_authenticator}
use Rattle.bng_radius_wire.specs.Signing.{IsRewritten}
use Rattle.bng_radius_wire.proofs.Spelled.{are_attributes}
use Rattle.bng_radius_wire.proofs.Digested.{message_is}
use Rattle.bng_radius_wire.proofs.Signs.{stands_first, sized_first, there_first, same_packet, with_message, filled_first, filled_none}
use Rattle.bng_radius_wire.proofs.signing.fill.Goals as goal

pub message_authenticator_from-requires-clause-grammar :
    goal.message_authenticator_from-requires-clause-grammar
message_authenticator_from-requires-clause-grammar c =
    let p = c.requires.grammar.0 in
    let h : IsSpelled p c.packet_in-packet.result.now = c.packet_in-packet.ensures.spelled p (subst (IsRadius p) (sym c.payload.ensures.octets) c.requires.grammar.1) in
    (p.attributes, are_attributes p c.packet_in-packet.result.now h)

pub message_digest-digest-requires-clause-begins :
    goal.message_digest-digest-requires-clause-begins
message_digest-digest-requires-clause-begins c =
    let p = c.requires.grammar.0 in
    let h : IsSpelled p c.packet_in-packet.result.now = c.packet_in-packet.ensures.spelled p (subst (IsRadius p) (sym c.payload.ensures.octets) c.requires.grammar.1) in
    let first = c.in-Some.ensures.found p.attributes (are_attributes p c.packet_in-packet.result.now h) in
    omega (arith, first.place)

pub message_digest-digest-requires-clause-within :
    goal.message_digest-digest-requires-clause-within
message_digest-digest-requires-clause-within c =
    let p = c.requires.grammar.0 in
    let h : IsSpelled p c.packet_in-packet.result.now = c.packet_in-packet.ensures.spelled p (subst (IsRadius p) (sym c.payload.ensures.octets) c.requires.grammar.1) in
    let first = c.in-Some.ensures.found p.attributes (are_attributes p c.packet_in-packet.result.now h) in
    there_first p c.in-Some.at first c.packet_in-packet.result.now h c.requires.grammar.2

pub overwrite-requires : goal.overwrite-requires
overwrite-requires c =
    let p = c.requires.grammar.0 in
    let h : IsSpelled p c.packet_in-packet.result.now = c.packet_in-packet.ensures.spelled p (subst (IsRadius p) (sym c.payload.ensures.octets) c.requires.grammar.1) in
    let first = c.in-Some.ensures.found p.attributes (are_attributes p c.packet_in-packet.result.now h) in
    let there = there_first p c.in-Some.at first c.packet_in-packet.result.now h c.requires.grammar.2 in
    let long : length c.message_digest-digest.result ≡ 16 = search rules in
    let part : length c.packet_in-packet.result.now ≤ length c.args.frame.now.payload =
    subst (λ (n : ℕ). n ≤ length c.args.frame.now.payload) (sym (c.packet_in-packet.ensures.size ∙ ap length_in c.payload.ensures.octets)) c.requires.grammar.1.is_there in
    omega (arith, there, long, part)

pub overflow_add-at : goal.overflow_add-at
overflow_add-at c =
    let p = c.requires.grammar.0 in
    let h : IsSpelled p c.packet_in-packet.result.now = c.packet_in-packet.ensures.spelled p (subst (IsRadius p) (sym c.payload.ensures.octets) c.requires.grammar.1) in
    let first = c.in-Some.ensures.found p.attributes (are_attributes p c.packet_in-packet.result.now h) in
    let there = there_first p c.in-Some.at first c.packet_in-packet.result.now h c.requires.grammar.2 in
    let short : length c.packet_in-packet.result.now ≤ 4096 =
    subst (λ (n : ℕ). n ≤ 4096) (sym (c.packet_in-packet.ensures.size ∙ ap length_in c.payload.ensures.octets)) c.requires.grammar.1.at_most in
    omega (arith, there, short)

pub returns-in-Some-clause-filled : goal.returns-in-Some-clause-filled
unfolding hmac_md5
returns-in-Some-clause-filled c = λ p is.
    let old = c.args.frame.now.payload in
    let packet = c.packet_in-packet.result.now in
    let at = c.in-Some.at in
    let small : AreOctets old = subst AreOctets c.payload.ensures.octets c.packet_in-packet.ensures.octets in
    let h : IsSpelled p packet = c.packet_in-packet.ensures.spelled p (subst (IsRadius p) (sym c.payload.ensures.octets) is) in
    let first = c.in-Some.ensures.found p.attributes (are_attributes p packet h) in
    let can = same_packet p c.requires.grammar.0 old c.requires.grammar.1 c.requires.grammar.2 is in
    let sixteen = sized_first p at first can in
    let made = c.message_digest-digest.result in
    let digest : made ≡ message_authenticator p (length first.before) c.args.authenticator.now c.args.secret.now =
    c.message_digest-digest.ensures ∙ message_is p first.before first.after first.here at packet (stands_first p at first) h c.args.authenticator.now c.args.secret.now first.kind sixteen in
    let long : length made ≡ 16 = ap length digest ∙ length-md5 _ in
    let new : c.overwrite.new.self.payload ≡ take (at + 2) old ++ made ++ drop (at + 18) old =
    c.overwrite.ensures.payload ∙ ap (λ (n : ℕ). take (at + 2) old ++ made ++ drop n old) (let e : at + 2 + length made ≡ at + 18 = omega (arith, long) in e) in
    subst (λ (q : Packet). IsRewritten q old c.overwrite.new.self.payload)
    (ap (with_message_authenticator p (length first.before)) digest ∙ sym (filled_first p at first c.args.authenticator.now c.args.secret.now))
    (subst (IsRewritten (with_message_authenticator p (length first.before) made) old) (sym new) (with_message p old small is at first sixteen made long))

pub returns-in_default-clause-filled : goal.returns-in_default-clause-filled
returns-in_default-clause-filled c = λ p is.
    let old = c.args.frame.now.payload in
    let packet = c.packet_in-packet.result.now in
    let h : IsSpelled p packet = c.packet_in-packet.ensures.spelled p (subst (IsRadius p) (sym c.payload.ensures.octets) is) in
    let others = c.in_default.ensures.none p.attributes (are_attributes p packet h) in
    subst (λ (q : Packet). IsRewritten q old old) (sym (filled_none p c.args.authenticator.now c.args.secret.now others)) (record { reads = is; size = refl; padding = refl; same_length = refl })
