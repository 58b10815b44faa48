-- Octets of which a packet's digests are written over.
use Rattle.std.specs.Prelude.{◌≡◌, ℕ, List, length, drop}
use Rattle.bng_radius_wire.specs.Grammar.{Packet, IsRadius, length_in}

-- the octets hold another packet of that length, and the padding is as it was
pub record IsRewritten (q : Packet) (old new : List ℕ) : Type 0 where
  pub reads : IsRadius q new
  pub size : length new ≡ length old
  pub padding : drop (length_in old) new ≡ drop (length_in old) old
  pub same_length : length_in new ≡ length_in old
