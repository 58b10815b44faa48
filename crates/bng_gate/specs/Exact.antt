-- What the Stops say, beside the octets that were sent.
use Rattle.std.specs.Prelude.{◌≡◌, true, false, List}
use Rattle.bng_base.specs.declared.address.Ip4.{Ip4}
use Rattle.bng_base.specs.declared.circuit.Circuit.{Circuit}
use Rattle.bng_base.specs.declared.outside.Datagram.{Datagram}
use Rattle.bng_engine.specs.Quantities.{Quantity}
use Rattle.bng_engine.specs.Sums.{stopped_where, has_lease, has_circuit, is_at, is_any}
use Rattle.bng_engine.specs.Terms.{Stop}
use Rattle.bng_engine.specs.Wire.{is_input, is_from, is_output, is_to, is_on, is_on_to, told_of}
use Rattle.bng_steps.specs.Reader.{pppoe_reader, tells_pppoe}

-- Over the octets alone of what was sent. For each address: the Input octets of the Stops with it sum to the lengths of the packets to the
-- core with that source, and the Output octets to those of the packets on access ports and to peers of tunnels with that destination. For
-- each PPPoE circuit: the Output octets of the Stops with it sum to the lengths of the packets on it, and so for each circuit and address; of
-- the circuit of a call octets tell nothing. So it is of the numbers of packets.
pub record StopsAccount (stops : List Stop) (sent : List Datagram) : Type 0 where
  pub from : (q : Quantity) (address : Ip4) → stopped_where q (has_lease address) true stops ≡ told_of pppoe_reader q (is_from address) sent
  pub to : (q : Quantity) (address : Ip4) → stopped_where q (has_lease address) false stops ≡ told_of pppoe_reader q (is_to address) sent
  pub on : (q : Quantity) (circuit : Circuit) → tells_pppoe circuit ≡ true → stopped_where q (has_circuit circuit) false stops ≡ told_of pppoe_reader q (is_on circuit) sent
  pub on_to : (q : Quantity) (circuit : Circuit) (address : Ip4) → tells_pppoe circuit ≡ true → stopped_where q (is_at circuit address) false stops ≡ told_of pppoe_reader q (is_on_to circuit address) sent
  pub all_input : (q : Quantity) → stopped_where q is_any true stops ≡ told_of pppoe_reader q is_input sent
  pub all_output : (q : Quantity) → stopped_where q is_any false stops ≡ told_of pppoe_reader q is_output sent
