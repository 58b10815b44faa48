use Rattle.std.proofs.Common.{rules, ◌≡◌, ◌∙◌}
use Rattle.byteorder.specs.Endian.{big_from}
use Rattle.hex.specs.Hex.{decode_sized}
use Rattle.bng_coa.proofs.Digits.{no_digits, read_digits}
use Rattle.bng_coa.proofs.lead.session_in.Goals as goal

pub returns-in-Ok : goal.returns-in-Ok
returns-in-Ok c =
    let octets = c.decode_to_slice.new.out in
    let number : c.from_be_bytes.result ≡ big_from 4 2 octets = search rules in
    number ∙ read_digits c.decode_to_slice.result octets (decode_sized c.args.text.now 12) c.decode_to_slice.ensures.value c.in-Ok.is

pub returns-in-Err : goal.returns-in-Err
returns-in-Err c = no_digits c.decode_to_slice.result c.decode_to_slice.new.out (decode_sized c.args.text.now 12) _ c.decode_to_slice.ensures.value c.in-Err.is
