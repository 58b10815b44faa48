-- The fields of a line as they are written.
use Rattle.std.specs.Prelude.{ℕ, List, ◌++◌, codes}
use Rattle.std.specs.Fmt.{decimal}
use Rattle.hex.specs.Hex.{encode_lower}
use Rattle.bng_spell.specs.declared.parts.Part.{Part}
use Rattle.bng_spell.specs.declared.parts.Part.TheVariants.{Word, Number, Flag, Kind, Role, Peer, Claim, Fate, Fixed, Octets, Numbers}
use Rattle.bng_spell.specs.Fields.{flag_text, kind_text, role_text, peer_text, claim_text, fate_text, octets_text, numbers_text}

abbrev pub part_text : Part → List ℕ
part_text (Word text) = text.now
part_text (Number n) = decimal n
part_text (Flag flag) = flag_text flag
part_text (Kind kind) = kind_text kind
part_text (Role role) = role_text role
part_text (Peer peer) = peer_text peer
part_text (Claim claim) = claim_text claim
part_text (Fate fate) = fate_text fate
part_text (Fixed octets) = encode_lower octets.now
part_text (Octets octets) = octets_text octets.now
part_text (Numbers numbers) = numbers_text numbers.now

-- a field and a space
abbrev pub parted_text : Part → List ℕ
parted_text part = part_text part ++ codes " "
