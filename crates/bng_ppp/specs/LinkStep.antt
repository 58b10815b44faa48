-- What a step of a whole link gives, without where it lies in memory.
use Rattle.std.specs.Prelude.{option_map, ◌≡◌}
use Rattle.bng_ppp.specs.Claims.{claim_of}
use Rattle.bng_ppp.specs.Layers.{Turn, begun}
use Rattle.bng_ppp.specs.LinkRelation.{LinkSaid}
use Rattle.bng_ppp.specs.LinkState.{LinkState}
use Rattle.bng_ppp.specs.Said.{payloads, said, quiet}
use Rattle.bng_ppp.specs.declared.steps.Steps.{Steps}

abbrev pub turn_of : LinkState → Steps → Turn
turn_of s w = record {
  link = s;
  outs = payloads w.layer.outs.items;
  asked = option_map claim_of w.asked;
  opened = w.opened;
  ended = w.ended;
  left = w.left;
  finished = w.finished;
}

-- nothing was done yet
abbrev pub IsFresh : LinkState → Steps → Type 0
IsFresh s w = (turn_of s w ≡ begun s) × (said w.layer ≡ quiet)

abbrev pub link_said : Steps → LinkSaid
link_said s = record {
  outs = payloads s.layer.outs.items;
  asked = option_map claim_of s.asked;
  opened = s.opened;
  term_ended = s.term_ended;
  finished = s.finished;
}
