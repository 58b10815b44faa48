-- What a session's link said, as an entry tells it.
use Rattle.std.proofs.Common.{◌≡◌, ℕ, ◌+◌, ◌≤◌, List, Option, length, ap, subst, ◌∙◌, arith, length-append}
use Rattle.bng_base.specs.declared.item.Entry.{Entry}
use Rattle.bng_base.specs.declared.item.Item.{Item}
use Rattle.bng_base.specs.declared.item.OutRecord.{OutRecord}
use Rattle.bng_ppp.specs.declared.rules.LinkRules.{LinkRules}
use Rattle.bng_ppp.specs.Layers.{Turn}
use Rattle.bng_ppp.specs.LinkRelation.{LinkSaid, after_turn, ended_by, said_of}
use Rattle.bng_ppp.specs.LinkState.{LinkState}
use Rattle.bng_ppp.specs.LinkFrame.{HearsOctets}
use Rattle.bng_steps.specs.declared.rules.Rules.{Rules}
use Rattle.bng_base.specs.declared.item.At.{At}
use Rattle.bng_steps.specs.declared.session.Session.{Session}
use Rattle.bng_steps.specs.State.{Beside, State}
use Rattle.bng_steps.specs.Deed.{at_of}
use Rattle.bng_steps.specs.Driven.{Driven}
use Rattle.bng_steps.specs.Link.{Drives, LinkStep, HearsPppFrame}
use Rattle.bng_steps.specs.Protocol.{entry_of}
use Rattle.bng_steps.proofs.Carrying.{its_place}

-- a link that is told a frame hears it
pub heard : (r : LinkRules) (octets : List ℕ) (now : ℕ) (random : List ℕ) (old : LinkState) (says : LinkSaid) (new : LinkState) (t : Turn) (cause : Option ℕ)
    → HearsOctets r octets now random old t × (cause ≡ ended_by t.link.live t.left t.ended 1) → says ≡ said_of t cause → new ≡ after_turn t → HearsPppFrame r octets now random old says new
heard r octets now random old says new t cause (hears, is) said state = record {
  turn = t;
  heard = hears;
  said = said ∙ ap (said_of t) is;
  state = state;
}

-- a step of the link that follows from another one
pub drives_so : (r : Rules) (a : At) (beside : Beside) (x x' : Session) (Steps Wanted : LinkStep) (outs : List OutRecord) (cause : Option ℕ) (beside' : Beside) → ((old : LinkState) (says : LinkSaid) (new : LinkState) → Steps old says new → Wanted old says new)
    → Drives r a beside x Steps outs cause x' beside' → Drives r a beside x Wanted outs cause x' beside'
drives_so r a beside x x' Steps Wanted outs cause beside' follows d = record {
  made = d.made;
  is_made = d.is_made;
  says = d.says;
  link = d.link;
  steps = follows d.made.link d.says d.link d.steps;
  first = d.first;
  tells = d.tells;
  last = d.last;
  tunnels = d.tunnels;
  parts = d.parts;
  outs_are = d.outs_are;
  closes = d.closes;
  session = d.session;
  count = d.count;
}

module _ (r : Rules) (s : State) (a : At) (now : ℕ) (item : Item) (outs outs' : List OutRecord) (x x' : Session) (Steps : LinkStep) (beside : Beside) (cause : Option ℕ) (beside' : Beside) (here : a.shard ≡ s.sessions.shard) where
  abbrev entry : Entry
  entry = entry_of a.seat a.place now item

  pub drives : (d : Driven r a Steps beside x cause x' beside' outs outs') → Drives r (at_of s entry) beside x Steps d.more cause x' beside'
  drives d = subst (λ (b : At). Drives r b beside x Steps d.more cause x' beside') (its_place s a now item here) d.drives

  pub driven_few : (d : Driven r a Steps beside x cause x' beside' outs outs') (n : ℕ) → length outs' ≤ length outs + n → length d.more ≤ n
  driven_few d n few = omega (arith, ap length d.outs_are, length-append outs d.more, few)
