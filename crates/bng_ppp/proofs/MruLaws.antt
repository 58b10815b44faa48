-- The Maximum-Receive-Unit of a request that is acknowledged is within the limit.
use Rattle.std.proofs.Common.{◌≡◌, ◌≤◌, ℕ, suc, Bool, true, false, List, [], ◌∷◌, fold, refl, arith}
use Rattle.std.specs.Prelude.{if◌then◌else◌}
use Rattle.std.specs.List.{All}
use Rattle.byteorder.specs.Endian.{big_number}
use Rattle.bng_base.specs.PppGrammar.{PppOption}
use Rattle.bng_ppp_wire.specs.declared.judgement.Class.TheVariants.{Ack}
use Rattle.bng_ppp_wire.specs.declared.view.Opt.{Opt}
use Rattle.bng_ppp_wire.specs.View.{option_of, options_of}
use Rattle.bng_lcp.specs.declared.judgement.LcpRules.{LcpRules}
use Rattle.bng_lcp.specs.Judgement.{class_of, is_mru}
use Rattle.bng_lcp.proofs.TableLaws.{acked_mru}
use Rattle.bng_ppp.specs.MaximumReceiveUnit.{mru_with, mru_of}

one : (r : LcpRules) (o : PppOption) (mru limit : ℕ) → class_of r o ≡ Ack → r.limit ≤ limit → mru ≤ limit → mru_with mru o ≤ limit
one r o mru limit acked most low = by_test (is_mru o) refl
  where
    by_test : (b : Bool) → is_mru o ≡ b → (if b then big_number 2 o.value else mru) ≤ limit
    by_test true e = let n = acked_mru r o acked e in omega (arith, n, most)
    by_test false e = low

all : (r : LcpRules) (os : List Opt) (mru limit : ℕ) → All (λ o. class_of r (option_of o) ≡ Ack) os → r.limit ≤ limit → mru ≤ limit → fold mru_with mru (options_of os) ≤ limit
all r [] mru limit acked most low = low
all r (o ∷ os) mru limit acked most low =
    all r os (mru_with mru (option_of o)) limit (λ k d lt. acked (suc k) d (omega arith)) most (one r (option_of o) mru limit (acked 0 o (omega arith)) most low)

pub mru_low : (r : LcpRules) (os : List Opt) (most : ℕ) → All (λ o. class_of r (option_of o) ≡ Ack) os → r.limit ≤ most → mru_of r.limit (options_of os) ≤ most
mru_low r os most acked low = all r os r.limit most acked low low
