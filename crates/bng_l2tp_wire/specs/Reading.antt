-- What each error says of octets that were read.
use Rattle.std.specs.Prelude.{ℕ, ◌<◌, List, length}
use Rattle.bng_base.specs.declared.codec.ReadError.{ReadError}
use Rattle.bng_base.specs.declared.codec.ReadError.TheVariants.{Outside, TooMany}
use Rattle.bng_l2tp_wire.specs.Avps.{L2tpAvp, AreAvps}
use Rattle.bng_l2tp_wire.specs.Messages.{ControlMessage, IsControl}

-- as a list of AVPs
abbrev pub WhyNoAvps : ReadError → List ℕ → Type 0
WhyNoAvps Outside bytes = (avps : List L2tpAvp) → ¬ (AreAvps avps bytes)
WhyNoAvps TooMany bytes = (avps : List L2tpAvp) × AreAvps avps bytes × (64 < length avps)

-- as a control message
abbrev pub WhyNoControl : ReadError → List ℕ → Type 0
WhyNoControl Outside bytes = (m : ControlMessage) → ¬ (IsControl m bytes)
WhyNoControl TooMany bytes = (m : ControlMessage) × IsControl m bytes × (64 < length m.avps)
