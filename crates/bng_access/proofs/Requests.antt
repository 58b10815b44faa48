-- The packet of a question.
use Rattle.std.proofs.Common.{◌≡◌, ℕ, ◌+◌, ◌≤◌, List, [], ◌∷◌, ◌++◌, length, take, drop, sym, ap, subst, ◌∙◌, arith, length-append, append_assoc, append-nil}
use Rattle.std.specs.List.{AllByRecursion}
use Rattle.std.proofs.lemmas.List.Concat.{flat_map-append}
use Rattle.byteorder.specs.Endian.{big_bytes}
use Rattle.bng_radius_wire.specs.Attributes.{Field, Fits, text}
use Rattle.bng_radius_wire.specs.Grammar.{Packet, IsRadius, attributes_text, spelling}
use Rattle.bng_radius_wire.specs.Digests.{zeros}
use Rattle.bng_radius_wire.proofs.Spelled.{spelling_reads}
use Rattle.bng_acct.specs.Attributes.{octets, IsPlain, GoesOn}
use Rattle.bng_acct.proofs.GoingOn.{all_both, both}
use Rattle.bng_acct.proofs.Requests.{fit, spells}
use Rattle.bng_acct.specs.Texts.{port_id}
use Rattle.bng_verdict.specs.declared.question.AuthAsk.{AuthAsk}
use Rattle.bng_access.specs.declared.rules.NasRules.{NasRules}
use Rattle.bng_access.specs.Request.{claim, place, front, request_of}

abbrev pub unsigned : Field
unsigned = octets 80 zeros

all_fit : (before after : List Field) → AllByRecursion IsPlain before → AllByRecursion IsPlain after → AllByRecursion Fits (before ++ unsigned ∷ after)
all_fit before after plain_before plain_after = all_both Fits before (unsigned ∷ after) (fit before plain_before) (omega arith, fit after plain_after)

-- what is written of a question: the attributes up to the Message-Authenticator, this, the NAS-Port-Id, and the Length
module _ (rules : NasRules) (secret : List ℕ) (ask : AuthAsk) (authenticator : List ℕ) (claimed placed marked whole : List ℕ)
    (claims : GoesOn (1 ∷ 0 ∷ 0 ∷ 0 ∷ authenticator) claimed (claim rules secret authenticator ask))
    (places : GoesOn claimed placed (place rules ask)) (marks : marked ≡ placed ++ text unsigned)
    (ends : GoesOn marked whole (octets 87 (port_id ask.circuit) ∷ [])) where
  abbrev packet : Packet
  packet = request_of rules secret ask authenticator

  abbrev before : List Field
  before = front rules secret authenticator ask

  abbrev after : List Field
  after = octets 87 (port_id ask.circuit) ∷ []

  fronted : GoesOn (1 ∷ 0 ∷ 0 ∷ 0 ∷ authenticator) placed before
  fronted = both claims places

  -- the octets before the Length is written
  whole_is : whole ≡ 1 ∷ 0 ∷ 0 ∷ 0 ∷ (authenticator ++ attributes_text (before ++ unsigned ∷ after))
  whole_is =
      ends.text
      ∙ ap (λ (r : List ℕ). r ++ attributes_text after) (marks ∙ ap (λ (r : List ℕ). r ++ text unsigned) fronted.text)
      ∙ append_assoc ((1 ∷ 0 ∷ 0 ∷ 0 ∷ authenticator) ++ attributes_text before) (text unsigned) (attributes_text after)
      ∙ append_assoc (1 ∷ 0 ∷ 0 ∷ 0 ∷ authenticator) (attributes_text before) (text unsigned ++ attributes_text after)
      ∙ ap (λ (r : List ℕ). (1 ∷ 0 ∷ 0 ∷ 0 ∷ authenticator) ++ r) (sym (flat_map-append text before (unsigned ∷ after)))

  module _ (payload : List ℕ) (long : length authenticator ≡ 16) (short : length whole ≤ 1024)
      (closed : payload ≡ take 2 whole ++ big_bytes 2 (length whole) ++ drop 4 whole) where
    size : length whole ≡ 20 + length (attributes_text (before ++ unsigned ∷ after))
    size = omega (arith, ap length whole_is, long, length-append authenticator (attributes_text (before ++ unsigned ∷ after)))

    spelled : payload ≡ spelling packet
    spelled = closed ∙ spells packet whole whole_is size

    pub reads : IsRadius packet payload
    reads =
        subst (IsRadius packet) (append-nil (spelling packet) ∙ sym spelled)
        (spelling_reads packet [] long (all_fit before after fronted.plain ends.plain) (omega (arith, size, short)))
