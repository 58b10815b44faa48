-- The packets by which a peer says who it is. Octets of a body are counted from 0.
use Rattle.std.specs.Prelude.{◌≡◌, ℕ, ◌+◌, ◌≤◌, List, length, slice_index, slice_range}
use Rattle.bng_base.specs.PppGrammar.{ControlPacket}
use Rattle.bng_ppp_wire.specs.Codes.{authenticate_request, response}

-- An Authenticate-Request of PAP: Peer-ID Length, Peer-ID, Passwd-Length and Password, and nothing else (RFC 1334
-- section 2.2.1).
pub record IsPapRequest (p : ControlPacket) (name password : List ℕ) : Type 0 where
  pub code : p.code ≡ authenticate_request
  pub some : 1 ≤ length p.body
  pub there : slice_index p.body 0 + 2 ≤ length p.body
  pub whole : length p.body ≡ slice_index p.body 0 + 2 + slice_index p.body (slice_index p.body 0 + 1)
  pub peer : name ≡ slice_range p.body 1 (slice_index p.body 0 + 1)
  pub secret : password ≡ slice_range p.body (slice_index p.body 0 + 2) (length p.body)

-- A Response of CHAP with this Identifier: Value-Size 16, Value, and the Name, which is the rest (RFC 1994 section 4.1).
pub record IsResponse (id : ℕ) (p : ControlPacket) (value name : List ℕ) : Type 0 where
  pub code : p.code ≡ response
  pub same : p.id ≡ id
  pub there : 17 ≤ length p.body
  pub size : slice_index p.body 0 ≡ 16
  pub octets : value ≡ slice_range p.body 1 17
  pub peer : name ≡ slice_range p.body 17 (length p.body)
