-- The orders of the keys are total, and only equal keys tie.
use Rattle.std.specs.Prelude.{◌≡◌, refl}
use Rattle.std.specs.declared.cmp.Ordering.{Ordering}
use Rattle.std.specs.declared.cmp.Ordering.TheVariants.{Less, Equal, Greater}
use Rattle.std.specs.Ordering.{ordering_then}
use Rattle.std.specs.Cmp.{IsTotalOrder, nat_cmp_total}
use Rattle.std.proofs.lemmas.Cmp.{on_total, then_total, nat_list_cmp_total}
use Rattle.std.specs.FinMap.{IsAntisymmetric, nat_cmp-IsAntisymmetric, slice_cmp-IsAntisymmetric}
use Rattle.bng_base.specs.declared.circuit.Circuit.{Circuit}
use Rattle.bng_base.specs.declared.circuit.Circuit.TheVariants.{Pppoe, L2tp}
use Rattle.bng_slots.specs.Orders.{circuit_numbers, circuit_order, address_order, term_order, due_order}

pub circuit_order-total : IsTotalOrder circuit_order
circuit_order-total = on_total circuit_numbers nat_list_cmp_total

pub address_order-total : IsTotalOrder address_order
address_order-total = on_total (λ a. a.0) nat_cmp_total

pub term_order-total : IsTotalOrder term_order
term_order-total = then_total (on_total (λ t. t.session.0) nat_cmp_total) (on_total (λ t. t.serial) nat_cmp_total)

pub due_order-total : IsTotalOrder due_order
due_order-total = then_total (on_total (λ d. d.deadline) nat_cmp_total) (on_total (λ d. d.session.0) nat_cmp_total)

both_equal : (r s : Ordering) → ordering_then r s ≡ Equal → (r ≡ Equal) × (s ≡ Equal)
both_equal Less s e = cc
both_equal Equal s e = (refl, e)
both_equal Greater s e = cc

same_circuit : (a b : Circuit) → circuit_numbers a ≡ circuit_numbers b → a ≡ b
same_circuit (Pppoe port mac session) (Pppoe port' mac' session') e =
    let s : session.0 ≡ session'.0 = cc in
    let p : port ≡ port' = cc in
    let m : mac.0 ≡ mac'.0 = cc in
    λ i. Pppoe (p i) (record { 0 = m i }) (record { 0 = s i })
same_circuit (Pppoe port mac session) (L2tp peer tunnel session') e = absurd (cc)
same_circuit (L2tp peer tunnel session) (Pppoe port mac session') e = absurd (cc)
same_circuit (L2tp peer tunnel session) (L2tp peer' tunnel' session') e =
    let s : session.0 ≡ session'.0 = cc in
    let t : tunnel.0 ≡ tunnel'.0 = cc in
    let a : peer.ip.0 ≡ peer'.ip.0 = cc in
    let p : peer.port ≡ peer'.port = cc in
    λ i. L2tp (record { ip = record { 0 = a i }; port = p i }) (record { 0 = t i }) (record { 0 = s i })

pub circuit_order-IsAntisymmetric : IsAntisymmetric circuit_order
circuit_order-IsAntisymmetric a b e = same_circuit a b (slice_cmp-IsAntisymmetric nat_cmp-IsAntisymmetric (circuit_numbers a) (circuit_numbers b) e)

pub address_order-IsAntisymmetric : IsAntisymmetric address_order
address_order-IsAntisymmetric a b e = let n = nat_cmp-IsAntisymmetric a.0 b.0 e in λ i. record { 0 = n i }

pub term_order-IsAntisymmetric : IsAntisymmetric term_order
term_order-IsAntisymmetric a b e =
    let two = both_equal _ _ e in
    let s = nat_cmp-IsAntisymmetric a.session.0 b.session.0 two.0 in
    let n = nat_cmp-IsAntisymmetric a.serial b.serial two.1 in
    λ i. record { session = record { 0 = s i }; serial = n i }

pub due_order-IsAntisymmetric : IsAntisymmetric due_order
due_order-IsAntisymmetric a b e =
    let two = both_equal _ _ e in
    let d = nat_cmp-IsAntisymmetric a.deadline b.deadline two.0 in
    let s = nat_cmp-IsAntisymmetric a.session.0 b.session.0 two.1 in
    λ i. record { deadline = d i; session = record { 0 = s i } }
