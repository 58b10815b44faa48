-- A frame that was written goes out.
use Rattle.std.proofs.Common.{◌≡◌, ℕ, ◌<◌, Bool, true, ◌&&◌, List, [], ◌∷◌, ◌++◌, None, length, nat_le, if◌then◌else◌, ap, ◌∙◌, arith}
use Rattle.std.specs.Prelude.{◌↔◌}
use Rattle.std.proofs.lemmas.Bool.Decides.{nat_tests}
use Rattle.bng_base.specs.declared.codec.Written.TheVariants.{Done, Full}
use Rattle.bng_base.specs.declared.frame.TheConstants.{LONGEST}
use Rattle.bng_base.specs.declared.item.OutRecord.{OutRecord}
use Rattle.bng_base.specs.declared.outside.Role.TheVariants.{Access}
use Rattle.bng_base.specs.declared.settings.AccessPort.{AccessPort}
use Rattle.bng_base.specs.PppoeGrammar.{PppoeFrame, pppoe_text}
use Rattle.bng_base.specs.declared.item.At.{At}
use Rattle.bng_steps.specs.Deed.{out, has_macs, frame_outs}

fits : (n : ℕ) → ¬ (LONGEST < n) → nat_le n LONGEST ≡ true
fits n short = grind (arith, nat_tests, short)

goes : (b c : Bool) (o : OutRecord) → b ≡ true → c ≡ true → o ∷ [] ≡ (if b && c then o ∷ [] else [])
goes b c o e f = rw (e, f)

-- one that a datagram holds
pub frame_goes : (a : At) (number : ℕ) (port : AccessPort) (p : PppoeFrame) (octets : List ℕ) (before after : List OutRecord)
    → has_macs p ≡ true → ¬ (LONGEST < length (pppoe_text p)) → octets ≡ pppoe_text p
    → after ≡ before ++ out a (Access number) port.peer octets None ∷ [] → after ≡ before ++ frame_outs a number port p
frame_goes a number port p octets before after macs short are pushed =
    pushed
    ∙ ap (λ (xs : List ℕ). before ++ out a (Access number) port.peer xs None ∷ []) are
    ∙ ap (λ (os : List OutRecord). before ++ os) (goes (has_macs p) (nat_le (length (pppoe_text p)) LONGEST) (out a (Access number) port.peer (pppoe_text p) None) macs (fits (length (pppoe_text p)) short))

-- what was written was not too long
pub was_done : (n : ℕ) → ((Done ≡ Full) ↔ (LONGEST < n)) → ¬ (LONGEST < n)
was_done n full = λ long. let e : Done ≡ Full = full.1 long in cc
