-- What a discovery frame is answered, by RFC 2516 section 5.
use Rattle.std.specs.Prelude.{◌≡◌, ◌==◌, nat_le, Bool, true, not, ◌&&◌, if◌then◌else◌, List, [], ◌∷◌, length, Option, Some, None, IsTrue, IsFalse}
use Rattle.bng_base.specs.declared.frame.TheConstants.{LONGEST}
use Rattle.bng_base.specs.PppoeGrammar.{PppoeTag, PppoeFrame, pppoe_text}
use Rattle.bng_pppoe_wire.specs.declared.code.TheConstants.{PADI, PADR, PADT}
use Rattle.bng_discovery.specs.declared.port.PortRules.{PortRules}
use Rattle.bng_discovery.specs.declared.answers.Answer.{Answer}
use Rattle.bng_discovery.specs.declared.answers.Answer.TheVariants.{Offer, Make, Again, Refuse, Ended, NoSession, Ignore}
use Rattle.bng_discovery.specs.declared.answers.ErrorTag.TheVariants.{ServiceNameError, AcSystemError}
use Rattle.bng_discovery.specs.Request.{asked_service, is_served, has_cookie}
use Rattle.bng_discovery.specs.Reply.{pado_of}

-- a frame that the gateway may write
abbrev pub fits : PppoeFrame → Bool
fits p = nat_le (length (pppoe_text p)) LONGEST

-- a case, and what it is answered
pub record Row : Type 0 where
  pub holds : Bool
  pub answer : Answer

abbrev pub row : Bool → Answer → Row
row holds answer = record { holds = holds; answer = answer }

-- The cases of a frame with these tags. `known` says of a PADR that what it asks for was made before and its LCP was
-- never Opened, and of a PADT that there is such a session; `room` says that there may be one session more.
abbrev pub table : PortRules → PppoeFrame → List PppoeTag → (known room : Bool) → List Row
table port p tags known room =
    row (p.code == PADI && not (is_served port (asked_service tags) && fits (pado_of port p.src tags))) Ignore
    ∷ row (p.code == PADI) Offer
    ∷ row (p.code == PADR && not (has_cookie port p.src tags)) Ignore
    ∷ row (p.code == PADR && known) Again
    ∷ row (p.code == PADR && not (is_served port (asked_service tags))) (Refuse ServiceNameError)
    ∷ row (p.code == PADR && not room) (Refuse AcSystemError)
    ∷ row (p.code == PADR) Make
    ∷ row (p.code == PADT && known) Ended
    ∷ row (p.code == PADT) NoSession
    ∷ row true Ignore
    ∷ []

-- the answer of the first case that holds
abbrev pub first_row : List Row → Option Answer
first_row [] = None
first_row (r ∷ rows) = if r.holds then Some r.answer else first_row rows

-- a PADR with the right cookie that asks for a session that was not made before
pub record AsksAnew (port : PortRules) (p : PppoeFrame) (tags : List PppoeTag) (known : Bool) : Type 0 where
  pub code : p.code ≡ PADR
  pub cookie : IsTrue (has_cookie port p.src tags)
  pub anew : IsFalse known
