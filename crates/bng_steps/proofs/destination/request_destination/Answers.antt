use Rattle.std.proofs.Common.{ℕ, List, inl, inr, refl, subst}
use Rattle.bng_coa.specs.Admission.{IsRequestIn}
use Rattle.bng_coa.specs.declared.lead.Lead.{Lead}
use Rattle.bng_radius_wire.specs.Grammar.{Packet, whole as packet_of}
use Rattle.bng_steps.specs.Destinations.{IsForLead}
use Rattle.bng_steps.proofs.destination.request_destination.Goals as goal

pub returns-in-Some-clause-is : goal.returns-in-Some-clause-is
returns-in-Some-clause-is c =
    let p = packet_of c.in-Some.request in
    let reads = subst (λ (octets : List ℕ). IsRequestIn p octets) c.payload.ensures.octets c.in-Some.ensures.found in
    inr (p, reads, subst (λ (l : Lead). IsForLead c.args.rules.now l c.lead_destination.result) c.lead_of.ensures c.lead_destination.ensures.is)

pub returns-in-None-clause-is : goal.returns-in-None-clause-is
returns-in-None-clause-is c = inl (subst (λ (octets : List ℕ). (p : Packet) → ¬ (IsRequestIn p octets)) c.payload.ensures.octets c.in-None.ensures.none, refl)
