-- The sequence numbers of control messages, by RFC 2661 section 5.8: each message has the number after the one before it, modulo 65,536.
use Rattle.std.specs.Prelude.{ℕ, ◌+◌, ◌-◌, ◌%◌}

-- the number that comes so many steps after n
abbrev pub steps_on : ℕ → ℕ → ℕ
steps_on n steps = (n + steps) % 65536

-- how many steps lead from the number m on to the number n, 0 to 65,535
abbrev pub steps_to : ℕ → ℕ → ℕ
steps_to m n = (n + (65536 - m)) % 65536

-- the number that comes so many steps before n
abbrev pub steps_back : ℕ → ℕ → ℕ
steps_back n steps = (n + (65536 - steps)) % 65536
