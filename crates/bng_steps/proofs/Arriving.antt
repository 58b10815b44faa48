-- What was done with a frame of an access port and with a packet of the core, of what is known of their parts.
use Rattle.std.proofs.Common.{ℕ, ◌≤◌, List, inl, inr, arith}
use Rattle.bng_base.specs.declared.fate.Fate.{Fate}
use Rattle.bng_base.specs.declared.item.Entry.{Entry}
use Rattle.bng_base.specs.declared.item.Item.{Item}
use Rattle.bng_base.specs.declared.item.OutRecord.{OutRecord}
use Rattle.bng_base.specs.declared.settings.AccessPort.{AccessPort}
use Rattle.bng_base.specs.FateOf.{arrival_of}
use Rattle.bng_base.specs.PppoeGrammar.{PppoeFrame}
use Rattle.bng_forward.specs.Fates.{NamesSession, Carries, IsFrame}
use Rattle.bng_forward.specs.Framing.{IsFrameWith}
use Rattle.bng_steps.specs.declared.rules.Rules.{Rules}
use Rattle.bng_base.specs.declared.item.At.{At}
use Rattle.bng_steps.specs.State.{State, session_of}
use Rattle.bng_steps.specs.Deed.{Deed}
use Rattle.bng_steps.specs.Discovery.{Discovers}
use Rattle.bng_steps.specs.Doing.{DoesWith}
use Rattle.bng_steps.specs.Frames.{HearsData, HearsFrame, HearsIn}
use Rattle.bng_steps.specs.Protocol.{entry_of}

-- a frame that came to a port carries this
pub frame_with : (ports : List AccessPort) (number : ℕ) (item : Item) (p : PppoeFrame) (info : List ℕ) → IsFrame ports number (arrival_of item) p → Carries p info → IsFrameWith info item.frame.payload
frame_with ports number item p info (port, is, came) carries = record { frame = p; read = came.frame; carries = carries }

module _ (s s' : State) (outs outs' : List OutRecord) (a : At) (now : ℕ) (item : Item) (fate : Fate) where
  -- by one relation, so by one that follows from it, and by at most as many outs, so by at most more
  pub does_more : (Says Wanted : Entry → Deed → Type 0) (n m : ℕ) → n ≤ m → ((d : Deed) → let e : Entry = entry_of a.seat a.place now item in Says e d → Wanted e d)
      → DoesWith Says n s s' outs outs' a now item fate → DoesWith Wanted m s s' outs outs' a now item fate
  does_more Says Wanted n m more follows h =
      record { deed = h.deed; entry = h.entry; fate_is = h.fate_is; next = h.next; says = follows h.deed h.says; outs_are = h.outs_are; few = omega (arith, h.few) }

  module _ (r : Rules) (number : ℕ) (p : PppoeFrame) where
    abbrev DoesFrame : Type 0
    DoesFrame = DoesWith (λ e d. HearsFrame r s e number p d) 10 s s' outs outs' a now item fate

    pub by_discovery : (¬ (NamesSession p)) → DoesWith (λ e d. Discovers r s e number p d) 6 s s' outs outs' a now item fate → DoesFrame
    by_discovery other = does_more (λ e d. Discovers r s e number p d) (λ e d. HearsFrame r s e number p d) 6 10 (omega arith) (λ d says. inr (inr (other, says)))

    pub by_data : (info : List ℕ) → Carries p info → DoesWith (λ e d. HearsData r s e (session_of s number p.src p.session) info d) 1 s s' outs outs' a now item fate → DoesFrame
    by_data info carries = does_more (λ e d. HearsData r s e (session_of s number p.src p.session) info d) (λ e d. HearsFrame r s e number p d) 1 10 (omega arith) (λ d says. inl (info, carries, says))

    pub by_control : NamesSession p → ((info : List ℕ) → ¬ (Carries p info)) → DoesWith (λ e d. HearsIn (session_of s number p.src p.session) r s e p d) 5 s s' outs outs' a now item fate → DoesFrame
    by_control names none = does_more (λ e d. HearsIn (session_of s number p.src p.session) r s e p d) (λ e d. HearsFrame r s e number p d) 5 10 (omega arith) (λ d says. inr (inl (names, none, says)))
