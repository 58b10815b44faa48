-- Mixing in the plaintext, by RFC 2865 section 5.2 and RFC 2661 section 4.3. Both break the plain text into chunks
-- p1, p2, .. of 16 octets, and call the chunks of the hidden text c(1), c(2), ..:
--
--     b1 = a first digest       c(1) = p1 xor b1
--     b2 = MD5(S + c(1))        c(2) = p2 xor b2
--     bi = MD5(S + c(i-1))      c(i) = pi xor bi
--
-- Here chunks count from 0.
use Rattle.std.specs.Prelude.{◌≡◌, ℕ, zero, suc, ◌+◌, ◌*◌, ◌/◌, List, ◌++◌, length, map, take, drop, bit_xor}
use Rattle.std.specs.List.{zip, flat_map, range_with_len}
use Rattle.md5.specs.Md5.{md5}

-- two texts xored octet by octet, as far as both reach
unfoldable pub xored : List ℕ → List ℕ → List ℕ
xored xs ys = map (λ p. bit_xor p.0 p.1) (zip xs ys)

-- a chunk of a text; the last may be shorter
unfoldable pub chunk : List ℕ → ℕ → List ℕ
chunk text i = take 16 (drop (16 * i) text)

-- how many chunks a text has
abbrev pub chunk_count : List ℕ → ℕ
chunk_count text = (length text + 15) / 16

-- the digests that the chunks were xored with: b1, and then each of the secret and the hidden chunk before
abbrev pub mask : (secret first cipher : List ℕ) → ℕ → List ℕ
mask secret first cipher zero = first
mask secret first cipher (suc i) = md5 (secret ++ chunk cipher i)

-- the cipher hides the plain text
pub record IsHidden (secret first plain cipher : List ℕ) : Type 0 where
  pub size : length cipher ≡ length plain
  pub each : (i : ℕ) → chunk cipher i ≡ xored (chunk plain i) (mask secret first cipher i)

-- the hidden chunks of a plain text
abbrev pub cipher_chunk : (secret first plain : List ℕ) → ℕ → List ℕ
cipher_chunk secret first plain zero = xored (chunk plain zero) first
cipher_chunk secret first plain (suc i) = xored (chunk plain (suc i)) (md5 (secret ++ cipher_chunk secret first plain i))

-- c(1) + c(2) + .. + c(i)
unfoldable pub hidden : (secret first plain : List ℕ) → List ℕ
hidden secret first plain = flat_map (cipher_chunk secret first plain) (range_with_len 0 (chunk_count plain))

-- the plain chunks of a hidden text
abbrev pub plain_chunk : (secret first cipher : List ℕ) → ℕ → List ℕ
plain_chunk secret first cipher i = xored (chunk cipher i) (mask secret first cipher i)

-- p1 + p2 + .. + pi
unfoldable pub revealed : (secret first cipher : List ℕ) → List ℕ
revealed secret first cipher = flat_map (plain_chunk secret first cipher) (range_with_len 0 (chunk_count cipher))
