use Rattle.std.proofs.Common.{rules, ◌≡◌, ℕ, List, length, refl, ap, subst, ◌∙◌, arith}
use Rattle.bng_radius_wire.specs.Grammar.{AreOctets, Packet, whole, IsRadius}
use Rattle.bng_radius_wire.specs.Digests.{signed_reply, CanBeSigned}
use Rattle.bng_radius_wire.proofs.Exact.{one_packet}
use Rattle.bng_radius_wire.proofs.Spelled.{size_of, size_is, length-spelling}
use Rattle.bng_coa.specs.Requests.{IsAnswerable}
use Rattle.bng_coa.specs.Replies.{reply_to, reply_octets}
use Rattle.bng_coa.proofs.Drafts.{bare_fits}
use Rattle.bng_coa.proofs.Signing.{can_be_signed, signed_size, spelled_signed, by_verdict}
use Rattle.bng_coa.proofs.reply.write_reply.Goals as goal

same_answerable : (p q : Packet) (octets : List ℕ) → IsRadius q octets → IsAnswerable p octets → IsAnswerable q octets
same_answerable p q octets is can = subst (λ (r : Packet). IsAnswerable r octets) (one_packet p q octets can.packet is) can

pub draft_for-requires-clause-fit : goal.draft_for-requires-clause-fit
draft_for-requires-clause-fit c = c.in-Ok.ensures.found.attributes.fit

pub draft_for-requires-clause-fits : goal.draft_for-requires-clause-fits
draft_for-requires-clause-fits c = λ code.
    let p : Packet = whole c.in-Ok.packet in
    let small : AreOctets c.args.request.now = λ i. let byte = c.type_inv.request i in search rules in
    let can = same_answerable c.requires.answerable.0 p c.args.request.now c.in-Ok.ensures.found c.requires.answerable.1 in
    bare_fits p code can.few (omega (arith, size_is p c.args.request.now small c.in-Ok.ensures.found, c.in-Ok.ensures.found.at_most)) can.sized

pub sign_reply-requires-clause-grammar : goal.sign_reply-requires-clause-grammar
sign_reply-requires-clause-grammar c =
    let p : Packet = whole c.in-Ok.packet in
    (reply_to p c.args.verdict, c.draft_for.ensures.reads, by_verdict p CanBeSigned (can_be_signed p) c.args.verdict)

pub returns-clause-payload : goal.returns-clause-payload
returns-clause-payload c = λ q can.
    let p : Packet = whole c.in-Ok.packet in
    let same : p ≡ q = one_packet p q c.args.request.now c.in-Ok.ensures.found can.packet in
    let r = reply_to p c.args.verdict in
    let s = signed_reply r p.authenticator c.args.secret.now in
    let small : AreOctets c.sign_reply.new.frame.payload = subst AreOctets c.payload-written.ensures.octets (λ i. search rules) in
    let size : length c.sign_reply.new.frame.payload ≡ size_of r =
    c.sign_reply.ensures.size ∙ ap length c.draft_for.ensures.payload ∙ length-spelling r (by_verdict p (λ (x : Packet). length x.authenticator ≡ 16) (λ code o. refl) c.args.verdict) in
    let sizes : size_of s ≡ size_of r = by_verdict p (λ (x : Packet). size_of (signed_reply x p.authenticator c.args.secret.now) ≡ size_of x) (λ code o. signed_size p code o p.authenticator c.args.secret.now) c.args.verdict in
    subst (λ (x : Packet). c.sign_reply.new.frame.payload ≡ reply_octets x c.args.verdict c.args.secret.now) same
    (spelled_signed r s c.sign_reply.new.frame.payload small (c.sign_reply.ensures.signed r c.draft_for.ensures.reads) size sizes)
