-- What a datagram leaves in hand and kept, seen of the whole desk.
use Rattle.std.proofs.Common.{ℕ, List, refl, ap}
use Rattle.bng_base.specs.declared.address.Peer.{Peer}
use Rattle.bng_radius_wire.specs.Grammar.{Packet}
use Rattle.bng_coa.specs.declared.request.ChangeRequest.{ChangeRequest}
use Rattle.bng_coa.specs.declared.rules.Admitted.{Admitted}
use Rattle.bng_coa.specs.declared.rules.Admitted.TheVariants.{New, Repeat, InHand, Ignored}
use Rattle.bng_coa.specs.Requests.{key_of}
use Rattle.bng_coa.specs.State.{State}
use Rattle.bng_coa.specs.Admission.{IsRequestIn, TakesIn, Keeps}

pub keeps_of : (old : State) (requests : List ChangeRequest) (from : Peer) (bytes : List ℕ) (now : ℕ) (answer : Admitted) (p : Packet) → IsRequestIn p bytes
    → TakesIn old.requests requests (key_of from p) bytes now answer → Keeps old (record old { requests = requests }) from bytes now answer
keeps_of old requests from bytes now (New number) p reads takes = record { packet = p; reads = reads; taken = takes; peers = refl; secret = refl }
keeps_of old requests from bytes now (Repeat frame) p reads takes = ap (λ (rs : List ChangeRequest). record old { requests = rs }) takes
keeps_of old requests from bytes now InHand p reads takes = ap (λ (rs : List ChangeRequest). record old { requests = rs }) takes
keeps_of old requests from bytes now (Ignored cause) p reads takes = ap (λ (rs : List ChangeRequest). record old { requests = rs }) takes
