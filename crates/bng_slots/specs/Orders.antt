-- The orders in which the indexes keep their keys. In each, only equal keys tie.
use Rattle.std.specs.Prelude.{ℕ, List, [], ◌∷◌}
use Rattle.std.specs.declared.cmp.Ordering.{Ordering}
use Rattle.std.specs.Ordering.{nat_cmp, on, then_cmp}
use Rattle.std.specs.Cmp.Lexicographic.{slice_cmp}
use Rattle.bng_base.specs.declared.address.Ip4.{Ip4}
use Rattle.bng_base.specs.declared.circuit.Circuit.{Circuit}
use Rattle.bng_base.specs.declared.circuit.Circuit.TheVariants.{Pppoe, L2tp}
use Rattle.bng_base.specs.declared.circuit.TermId.{TermId}
use Rattle.bng_slots.specs.declared.key.Deadline.{Deadline}

-- a PPPoE circuit before an L2TP one, and each by its session number first
abbrev pub circuit_numbers : Circuit → List ℕ
circuit_numbers (Pppoe port mac session) = 0 ∷ session.0 ∷ port ∷ mac.0
circuit_numbers (L2tp peer tunnel session) = 1 ∷ session.0 ∷ tunnel.0 ∷ peer.ip.0 ∷ peer.port ∷ []

abbrev pub circuit_order : Circuit → Circuit → Ordering
circuit_order = on circuit_numbers (slice_cmp nat_cmp)

abbrev pub address_order : Ip4 → Ip4 → Ordering
address_order = on (λ a. a.0) nat_cmp

-- by the session number, then by the serial
abbrev pub term_order : TermId → TermId → Ordering
term_order = then_cmp (on (λ t. t.session.0) nat_cmp) (on (λ t. t.serial) nat_cmp)

-- the earlier deadline first, and of equal ones the lower session number
abbrev pub due_order : Deadline → Deadline → Ordering
due_order = then_cmp (on (λ d. d.deadline) nat_cmp) (on (λ d. d.session.0) nat_cmp)
