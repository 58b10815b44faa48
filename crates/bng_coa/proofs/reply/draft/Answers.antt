use Rattle.std.proofs.Common.{◌≡◌, ◌+◌, ◌≤◌, Bool, true, false, List, length, refl, sym, ap, subst, ◌∙◌, arith}
use Rattle.std.specs.List.{AllByRecursion}
use mir.Val.{bool_byte}
use Rattle.bng_radius_wire.specs.declared.views.Attribute.{Attribute}
use Rattle.bng_radius_wire.specs.Attributes.{Field, Fits, fields}
use Rattle.bng_radius_wire.specs.Grammar.{Packet, whole, IsSpelled, attributes_text, spelling}
use Rattle.bng_radius_wire.specs.Digests.{zeros}
use Rattle.bng_radius_wire.proofs.Progress.{length-fields}
use Rattle.bng_coa.specs.Kinds.{has_some}
use Rattle.bng_coa.specs.Replies.{repeated, signature, with_more, bare_reply, reply_with, fits, more_of}
use Rattle.bng_coa.proofs.Drafts.{cause_counts, signature_counts, fits_is, too_long, small_enough, spelled_reads, repeated_fit}
use Rattle.bng_coa.proofs.reply.draft.Goals as goal

pub write-requires : goal.write-requires
write-requires c =
    subst (AllByRecursion Fits) (sym c.repeated-attributes.ensures) (repeated_fit (whole c.args.packet.now) c.requires.fit)

pub returns-in-Full-clause-full : goal.returns-in-Full-clause-full
returns-in-Full-clause-full c =
    let p : Packet = whole c.args.packet.now in
    let same : record { code = c.args.code; id = p.id; authenticator = zeros; attributes = fields c.repeated-attributes.result.items } ≡ bare_reply p c.args.code =
    ap (λ (fs : List Field). let q : Packet = record { code = c.args.code; id = p.id; authenticator = zeros; attributes = fs } in q) c.repeated-attributes.ensures in (
      λ _. too_long p c.args.code (more_of c.args.cause) (omega (arith, c.in-Full.ensures.full.0 refl, ap (λ (q : Packet). length (spelling q)) same)),
      λ _. refl,
    )

pub returns-then-not-has_room-clause-full : goal.returns-then-not-has_room-clause-full
returns-then-not-has_room-clause-full c =
    let p : Packet = whole c.args.packet.now in
    let same : record { code = c.args.code; id = p.id; authenticator = zeros; attributes = fields c.repeated-attributes.result.items } ≡ bare_reply p c.args.code =
    ap (λ (fs : List Field). let q : Packet = record { code = c.args.code; id = p.id; authenticator = zeros; attributes = fs } in q) c.repeated-attributes.ensures in
    let text : c.write.new.into.payload ≡ spelling (bare_reply p c.args.code) = c.in-Done.ensures.done refl ∙ ap (λ (q : Packet). spelling q) same in
    let marked : c.has-signed.result ≡ has_some 80 p.attributes = c.has-signed.ensures ∙ ap (λ (xs : List Attribute). has_some 80 (fields xs)) c.as_slice.ensures.value in
    let count : c.len.result + c.from.result + c.from-2.result ≡ length (repeated p) + length (more_of c.args.cause) + length (signature c.has-signed.result) =
    omega (
      arith,
      c.len.ensures.value,
      length-fields c.repeated-attributes.result.items,
      ap (λ (fs : List Field). length fs) c.repeated-attributes.ensures,
      c.from.ensures,
      ap bool_byte c.is_some.ensures,
      cause_counts c.args.cause,
      c.from-2.ensures,
      signature_counts c.has-signed.result,
    ) in
    let size : length c.payload.result.now + c.size_of_cause.result + c.size_of_signature.result ≡ length (spelling (bare_reply p c.args.code)) + length (attributes_text (more_of c.args.cause)) + length (attributes_text (signature c.has-signed.result)) =
    omega (arith, ap length c.payload.ensures.octets, ap length text, c.size_of_cause.ensures.octets, c.size_of_signature.ensures.octets) in
    let room : fits (reply_with p c.args.code (more_of c.args.cause)) ≡ c.has_room.result =
    fits_is p c.args.code (more_of c.args.cause) c.has-signed.result (c.len.result + c.from.result + c.from-2.result) (length c.payload.result.now + c.size_of_cause.result + c.size_of_signature.result) marked count size ∙ sym c.has_room.ensures in
    (λ _. room ∙ c.if-not-has_room.true, λ _. refl)

pub returns-clause-done : goal.returns-clause-done
returns-clause-done c = λ _.
    let p : Packet = whole c.args.packet.now in
    let same : record { code = c.args.code; id = p.id; authenticator = zeros; attributes = fields c.repeated-attributes.result.items } ≡ bare_reply p c.args.code =
    ap (λ (fs : List Field). let q : Packet = record { code = c.args.code; id = p.id; authenticator = zeros; attributes = fs } in q) c.repeated-attributes.ensures in
    let text : c.write.new.into.payload ≡ spelling (bare_reply p c.args.code) = c.in-Done.ensures.done refl ∙ ap (λ (q : Packet). spelling q) same in
    let marked : c.has-signed.result ≡ has_some 80 p.attributes = c.has-signed.ensures ∙ ap (λ (xs : List Attribute). has_some 80 (fields xs)) c.as_slice.ensures.value in
    let count : c.len.result + c.from.result + c.from-2.result ≡ length (repeated p) + length (more_of c.args.cause) + length (signature c.has-signed.result) =
    omega (
      arith,
      c.len.ensures.value,
      length-fields c.repeated-attributes.result.items,
      ap (λ (fs : List Field). length fs) c.repeated-attributes.ensures,
      c.from.ensures,
      ap bool_byte c.is_some.ensures,
      cause_counts c.args.cause,
      c.from-2.ensures,
      signature_counts c.has-signed.result,
    ) in
    let size : length c.payload.result.now + c.size_of_cause.result + c.size_of_signature.result ≡ length (spelling (bare_reply p c.args.code)) + length (attributes_text (more_of c.args.cause)) + length (attributes_text (signature c.has-signed.result)) =
    omega (arith, ap length c.payload.ensures.octets, ap length text, c.size_of_cause.ensures.octets, c.size_of_signature.ensures.octets) in
    let room : fits (reply_with p c.args.code (more_of c.args.cause)) ≡ c.has_room.result =
    fits_is p c.args.code (more_of c.args.cause) c.has-signed.result (c.len.result + c.from.result + c.from-2.result) (length c.payload.result.now + c.size_of_cause.result + c.size_of_signature.result) marked count size ∙ sym c.has_room.ensures in
    let bare : IsSpelled (bare_reply p c.args.code) c.write.new.into.payload = record { text = text; size = refl; fit = repeated_fit p c.requires.fit } in
    let caused = c.put_cause.ensures.spelled (bare_reply p c.args.code) bare in
    let all : IsSpelled (reply_with p c.args.code (more_of c.args.cause)) c.put_signature.new.into.payload =
    subst (λ (b : Bool). IsSpelled (with_more (with_more (bare_reply p c.args.code) (more_of c.args.cause)) (signature b)) c.put_signature.new.into.payload) marked
    (c.put_signature.ensures.spelled (with_more (bare_reply p c.args.code) (more_of c.args.cause)) caused) in
    let small : length c.payload.result.now + c.size_of_cause.result + c.size_of_signature.result ≤ 4096 =
    small_enough (c.len.result + c.from.result + c.from-2.result) (length c.payload.result.now + c.size_of_cause.result + c.size_of_signature.result) (sym c.has_room.ensures ∙ c.if-not-has_room.false) in
    record {
      payload = all.text;
      reads = spelled_reads (reply_with p c.args.code (more_of c.args.cause)) c.put_signature.new.into.payload all
          (omega (arith, small, c.put_signature.ensures.size, c.put_cause.ensures.size, ap length c.payload.ensures.octets, c.size_of_cause.ensures.octets, c.size_of_signature.ensures.octets));
      headroom = c.put_signature.ensures.headroom;
    }

pub returns-clause-full : goal.returns-clause-full
returns-clause-full c =
    let p : Packet = whole c.args.packet.now in
    let same : record { code = c.args.code; id = p.id; authenticator = zeros; attributes = fields c.repeated-attributes.result.items } ≡ bare_reply p c.args.code =
    ap (λ (fs : List Field). let q : Packet = record { code = c.args.code; id = p.id; authenticator = zeros; attributes = fs } in q) c.repeated-attributes.ensures in
    let text : c.write.new.into.payload ≡ spelling (bare_reply p c.args.code) = c.in-Done.ensures.done refl ∙ ap (λ (q : Packet). spelling q) same in
    let marked : c.has-signed.result ≡ has_some 80 p.attributes = c.has-signed.ensures ∙ ap (λ (xs : List Attribute). has_some 80 (fields xs)) c.as_slice.ensures.value in
    let count : c.len.result + c.from.result + c.from-2.result ≡ length (repeated p) + length (more_of c.args.cause) + length (signature c.has-signed.result) =
    omega (
      arith,
      c.len.ensures.value,
      length-fields c.repeated-attributes.result.items,
      ap (λ (fs : List Field). length fs) c.repeated-attributes.ensures,
      c.from.ensures,
      ap bool_byte c.is_some.ensures,
      cause_counts c.args.cause,
      c.from-2.ensures,
      signature_counts c.has-signed.result,
    ) in
    let size : length c.payload.result.now + c.size_of_cause.result + c.size_of_signature.result ≡ length (spelling (bare_reply p c.args.code)) + length (attributes_text (more_of c.args.cause)) + length (attributes_text (signature c.has-signed.result)) =
    omega (arith, ap length c.payload.ensures.octets, ap length text, c.size_of_cause.ensures.octets, c.size_of_signature.ensures.octets) in
    let room : fits (reply_with p c.args.code (more_of c.args.cause)) ≡ c.has_room.result =
    fits_is p c.args.code (more_of c.args.cause) c.has-signed.result (c.len.result + c.from.result + c.from-2.result) (length c.payload.result.now + c.size_of_cause.result + c.size_of_signature.result) marked count size ∙ sym c.has_room.ensures in
    let yes : fits (reply_with p c.args.code (more_of c.args.cause)) ≡ true = room ∙ c.if-not-has_room.false in
    (λ full. absurd cc, λ no. absurd (let e : true ≡ false = sym yes ∙ no in cc))
