-- What is hidden with a shared secret: a password, and the value of an AVP.
use Rattle.std.specs.Prelude.{ℕ, List, ◌++◌}
use Rattle.byteorder.specs.Endian.{big_bytes}
use Rattle.md5.specs.Md5.{md5}
use Rattle.bng_digest.specs.Mixing.{hidden, revealed}

-- RFC 2865 section 5.2: b1 = MD5(S + RA), with the Request Authenticator RA
abbrev pub hidden_password : (secret authenticator password : List ℕ) → List ℕ
hidden_password secret authenticator password = hidden secret (md5 (secret ++ authenticator)) password

-- RFC 2661 section 4.3: b1 = MD5(AV + S + RV), with the Attribute Type AV and the Random Vector RV
abbrev pub revealed_avp : (kind : ℕ) (secret vector value : List ℕ) → List ℕ
revealed_avp kind secret vector value = revealed secret (md5 (big_bytes 2 kind ++ secret ++ vector)) value
