-- HMAC-MD5 by RFC 2104 section 2: the digest H is MD5, and a block has 64 octets.
use Rattle.std.specs.Prelude.{ℕ, ◌-◌, List, ◌++◌, length, map, replicate, bit_xor}
use Rattle.md5.specs.Md5.{md5}

-- the key, with zeros appended to the length of a block, each octet xored with that of a pad
unfoldable pub keyed_block : (key : List ℕ) (pad : ℕ) → List ℕ
keyed_block key pad = map (λ octet. bit_xor octet pad) (key ++ replicate (64 - length key) 0)

-- H(K XOR opad, H(K XOR ipad, text))
unfoldable pub hmac_md5 : (key text : List ℕ) → List ℕ
hmac_md5 key text = md5 (keyed_block key 0x5c ++ md5 (keyed_block key 0x36 ++ text))
