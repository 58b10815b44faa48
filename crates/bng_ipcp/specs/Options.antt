-- Types of IPCP's configuration options.
use Rattle.std.specs.Prelude.{ℕ}

-- RFC 1332 section 3.3
abbrev pub ip_address : ℕ
ip_address = 3

-- RFC 1877 section 1.1
abbrev pub primary_dns : ℕ
primary_dns = 129

-- RFC 1877 section 1.3
abbrev pub secondary_dns : ℕ
secondary_dns = 131
