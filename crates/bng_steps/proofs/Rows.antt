-- What the table of discovery answers where there may be one session more, and where not.
use Rattle.std.proofs.Common.{◌≡◌, ◌==◌, Bool, true, false, not, ◌&&◌, Option, Some, List, refl}
use Rattle.std.specs.Prelude.{if◌then◌else◌}
use Rattle.bng_base.specs.PppoeGrammar.{PppoeTag, PppoeFrame}
use Rattle.bng_discovery.specs.declared.answers.Answer.{Answer}
use Rattle.bng_discovery.specs.declared.answers.Answer.TheVariants.{Offer, Make, Again, Refuse, Ended, NoSession, Ignore}
use Rattle.bng_discovery.specs.declared.answers.ErrorTag.TheVariants.{ServiceNameError, AcSystemError}
use Rattle.bng_discovery.specs.declared.port.PortRules.{PortRules}
use Rattle.bng_discovery.specs.Reply.{pado_of}
use Rattle.bng_discovery.specs.Request.{asked_service, is_served, has_cookie}
use Rattle.bng_discovery.specs.Table.{table, first_row, fits}
use Rattle.bng_pppoe_wire.specs.declared.code.TheConstants.{PADI, PADR, PADT}

-- the table by its tests; of a PADR `none` says that its service is not offered
abbrev rows : (silent padi blank again none padr room ended padt : Bool) → Option Answer
rows silent padi blank again none padr room ended padt =
    if silent then Some Ignore else
    (if padi then Some Offer else
    (if blank then Some Ignore else
    (if again then Some Again else
    (if none then Some (Refuse ServiceNameError) else
    (if padr && not room then Some (Refuse AcSystemError) else
    (if padr then Some Make else
    (if ended then Some Ended else
    (if padt then Some NoSession else Some Ignore))))))))

any_room : (a : Answer) (silent padi blank again none padr room ended padt : Bool) → Some a ≡ rows silent padi blank again none padr true ended padt → (a ≡ Make → ⊥)
    → Some a ≡ rows silent padi blank again none padr room ended padt
any_room a true padi blank again none padr room ended padt e other = e
any_room a false true blank again none padr room ended padt e other = e
any_room a false false true again none padr room ended padt e other = e
any_room a false false false true none padr room ended padt e other = e
any_room a false false false false true padr room ended padt e other = e
any_room a false false false false false true room ended padt e other = absurd (other (let same : a ≡ Make = cc in same))
any_room a false false false false false false room ended padt e other = e

no_room : (silent padi blank again none padr ended padt : Bool) → Some Make ≡ rows silent padi blank again none padr true ended padt
    → Some (Refuse AcSystemError) ≡ rows silent padi blank again none padr false ended padt
no_room true padi blank again none padr ended padt e = absurd (let never : ⊥ = cc in never)
no_room false true blank again none padr ended padt e = absurd (let never : ⊥ = cc in never)
no_room false false true again none padr ended padt e = absurd (let never : ⊥ = cc in never)
no_room false false false true none padr ended padt e = absurd (let never : ⊥ = cc in never)
no_room false false false false true padr ended padt e = absurd (let never : ⊥ = cc in never)
no_room false false false false false true ended padt e = refl
no_room false false false false false false true padt e = absurd (let never : ⊥ = cc in never)
no_room false false false false false false false true e = absurd (let never : ⊥ = cc in never)
no_room false false false false false false false false e = absurd (let never : ⊥ = cc in never)

is_padr : (silent padi blank again none padr room ended padt : Bool) → Some Make ≡ rows silent padi blank again none padr room ended padt → padr ≡ true
is_padr true padi blank again none padr room ended padt e = absurd (let never : ⊥ = cc in never)
is_padr false true blank again none padr room ended padt e = absurd (let never : ⊥ = cc in never)
is_padr false false true again none padr room ended padt e = absurd (let never : ⊥ = cc in never)
is_padr false false false true none padr room ended padt e = absurd (let never : ⊥ = cc in never)
is_padr false false false false true padr room ended padt e = absurd (let never : ⊥ = cc in never)
is_padr false false false false false true room ended padt e = refl
is_padr false false false false false false room true padt e = absurd (let never : ⊥ = cc in never)
is_padr false false false false false false room false true e = absurd (let never : ⊥ = cc in never)
is_padr false false false false false false room false false e = absurd (let never : ⊥ = cc in never)

is_again : (silent padi blank again none padr room ended padt : Bool) → Some Again ≡ rows silent padi blank again none padr room ended padt → again ≡ true
is_again true padi blank again none padr room ended padt e = absurd (let never : ⊥ = cc in never)
is_again false true blank again none padr room ended padt e = absurd (let never : ⊥ = cc in never)
is_again false false true again none padr room ended padt e = absurd (let never : ⊥ = cc in never)
is_again false false false true none padr room ended padt e = refl
is_again false false false false true padr room ended padt e = absurd (let never : ⊥ = cc in never)
is_again false false false false false true true ended padt e = absurd (let never : ⊥ = cc in never)
is_again false false false false false true false ended padt e = absurd (let never : ⊥ = cc in never)
is_again false false false false false false room true padt e = absurd (let never : ⊥ = cc in never)
is_again false false false false false false room false true e = absurd (let never : ⊥ = cc in never)
is_again false false false false false false room false false e = absurd (let never : ⊥ = cc in never)

second : (a b : Bool) → (a && b) ≡ true → b ≡ true
second true b e = e
second false b e = absurd (let never : ⊥ = cc in never)

module _ (offers : PortRules) (p : PppoeFrame) (tags : List PppoeTag) where
  abbrev answered : (known room : Bool) → Option Answer
  answered known room = first_row (table offers p tags known room)

  abbrev silent : Bool
  silent = p.code == PADI && not (is_served offers (asked_service tags) && fits (pado_of offers p.src tags))

  abbrev blank : Bool
  blank = p.code == PADR && not (has_cookie offers p.src tags)

  abbrev unserved : Bool
  unserved = p.code == PADR && not (is_served offers (asked_service tags))

  -- but for a session that is to be made, it does not count whether there may be one more
  pub other_answer : (a : Answer) (known room : Bool) → Some a ≡ answered known true → (a ≡ Make → ⊥) → Some a ≡ answered known room
  other_answer a known room = any_room a silent (p.code == PADI) blank (p.code == PADR && known) unserved (p.code == PADR) room (p.code == PADT && known) (p.code == PADT)

  pub refused : (known : Bool) → Some Make ≡ answered known true → Some (Refuse AcSystemError) ≡ answered known false
  refused known = no_room silent (p.code == PADI) blank (p.code == PADR && known) unserved (p.code == PADR) (p.code == PADT && known) (p.code == PADT)

  -- a session is made for a PADR alone
  pub made_for_padr : (known room : Bool) → Some Make ≡ answered known room → (p.code == PADR) ≡ true
  made_for_padr known room = is_padr silent (p.code == PADI) blank (p.code == PADR && known) unserved (p.code == PADR) room (p.code == PADT && known) (p.code == PADT)

  pub again_if_known : (known room : Bool) → Some Again ≡ answered known room → known ≡ true
  again_if_known known room e = second (p.code == PADR) known (is_again silent (p.code == PADI) blank (p.code == PADR && known) unserved (p.code == PADR) room (p.code == PADT && known) (p.code == PADT) e)
