-- One question of a peer, one reply to it, repeated.
use Rattle.std.specs.Prelude.{◌≡◌, ℕ, ◌<◌, ◌≤◌, Bool, true, false, List, Option, Some, None, IsSome, is_some, ◌&&◌, not, length}
use Rattle.bng_base.specs.declared.settings.AuthKind.TheVariants.{Chap, Pap}
use Rattle.bng_base.specs.PppGrammar.{ControlPacket}
use Rattle.bng_auth.specs.declared.credentials.Proof.{Proof}
use Rattle.bng_auth.specs.declared.credentials.Proof.TheVariants as proof
use Rattle.bng_auth.specs.declared.reply.Verdict.{Verdict}
use Rattle.bng_auth.specs.declared.step.AuthStep.{AuthStep}
use Rattle.bng_auth.specs.declared.step.AuthStep.TheVariants.{Ask, Again, Refuse, Ignore}
use Rattle.bng_auth.specs.Requests.{IsPapRequest, IsResponse}
use Rattle.bng_auth.specs.Replying.{Said, reply_of}

-- what was found, and the text that says so
pub record Finding : Type 0 where
  pub yes : Bool
  pub text : List ℕ

abbrev pub verdict_of : Option Verdict → Option Finding
verdict_of None = None
verdict_of (Some v) = Some (record { yes = v.yes; text = v.text.items })

-- PAP: the Identifier of the request that was asked about, and the verdict
pub record PapQuestion : Type 0 where
  pub asked : Option ℕ
  pub verdict : Option Finding

-- CHAP: the Challenge, whether its Response was asked about, and the verdict
pub record ChapQuestion : Type 0 where
  pub id : ℕ
  pub challenge : List ℕ
  pub asked : Bool
  pub verdict : Option Finding

-- a question is open: it was asked, and the verdict is not there yet
abbrev pub pap_is_open : PapQuestion → Bool
pap_is_open q = is_some q.asked && not (is_some q.verdict)

abbrev pub chap_is_open : ChapQuestion → Bool
chap_is_open q = q.asked && not (is_some q.verdict)

-- the verdict is there, and is yes
abbrev pub is_yes : Option Finding → Bool
is_yes None = false
is_yes (Some v) = v.yes

-- a name that is asked about
abbrev pub IsNamed : List ℕ → Type 0
IsNamed name = (0 < length name) × (length name ≤ 128)

-- the proof is this password
abbrev pub IsPassword : Proof → List ℕ → Type 0
IsPassword (proof.Pap password) octets = password.items ≡ octets
IsPassword (proof.Chap id challenge value) octets = ⊥

-- the proof is this Response to this Challenge
abbrev pub IsProof : Proof → ℕ → List ℕ → List ℕ → Type 0
IsProof (proof.Pap password) id challenge value = ⊥
IsProof (proof.Chap i c v) id challenge value = (i ≡ id) × (c ≡ challenge) × (v ≡ value)

-- What a packet does to a peer of PAP, by RFC 1334 section 2.2.
abbrev pub PapTakes : PapQuestion → ControlPacket → AuthStep → PapQuestion → Type 0
PapTakes old p (Ask c) new =
    (old ≡ record { asked = None; verdict = None }) × (new ≡ record { asked = Some p.id; verdict = None })
    × ((name : List ℕ) × (password : List ℕ) × IsPapRequest p name password × IsNamed name × (length password ≤ 128) × (c.name.items ≡ name) × IsPassword c.proof password)
PapTakes old p Refuse new =
    (old ≡ record { asked = None; verdict = None }) × (new ≡ record { asked = Some p.id; verdict = None })
    × ((name : List ℕ) × (password : List ℕ) × IsPapRequest p name password × ¬ (IsNamed name × (length password ≤ 128)))
PapTakes old p (Again r) new =
    (new ≡ old) × ((name : List ℕ) × (password : List ℕ) × IsPapRequest p name password)
    × ((v : Finding) × (old.verdict ≡ Some v) × (reply_of r ≡ record { kind = Pap; yes = v.yes; id = p.id; text = v.text }))
PapTakes old p Ignore new =
    (new ≡ old) × ((name password : List ℕ) → IsPapRequest p name password → (old.verdict ≡ None) × IsSome old.asked)

-- What a packet does to a peer of CHAP, by RFC 1994 section 4.
abbrev pub ChapTakes : ChapQuestion → ControlPacket → AuthStep → ChapQuestion → Type 0
ChapTakes old p (Ask c) new =
    (old.asked ≡ false) × (old.verdict ≡ None) × (new ≡ record old { asked = true })
    × ((value : List ℕ) × (name : List ℕ) × IsResponse old.id p value name × IsNamed name × (c.name.items ≡ name) × IsProof c.proof old.id old.challenge value)
ChapTakes old p Refuse new =
    (old.asked ≡ false) × (old.verdict ≡ None) × (new ≡ record old { asked = true })
    × ((value : List ℕ) × (name : List ℕ) × IsResponse old.id p value name × ¬ IsNamed name)
ChapTakes old p (Again r) new =
    (new ≡ old) × ((value : List ℕ) × (name : List ℕ) × IsResponse old.id p value name)
    × ((v : Finding) × (old.verdict ≡ Some v) × (reply_of r ≡ record { kind = Chap; yes = v.yes; id = p.id; text = v.text }))
ChapTakes old p Ignore new =
    (new ≡ old) × ((value name : List ℕ) → IsResponse old.id p value name → (old.verdict ≡ None) × (old.asked ≡ true))

-- The first verdict stays: a later one gives its reply again.
abbrev pub kept : Option Finding → Bool → List ℕ → Finding
kept None found text = record { yes = found; text = text }
kept (Some v) found text = v

abbrev pub or_zero : Option ℕ → ℕ
or_zero None = 0
or_zero (Some id) = id

abbrev pub PapSettles : PapQuestion → Bool → List ℕ → Said → PapQuestion → Type 0
PapSettles old found text reply new =
    let v = kept old.verdict found text in
    (new ≡ record old { verdict = Some v }) × (reply ≡ record { kind = Pap; yes = v.yes; id = or_zero old.asked; text = v.text })

abbrev pub ChapSettles : ChapQuestion → Bool → List ℕ → Said → ChapQuestion → Type 0
ChapSettles old found text reply new =
    let v = kept old.verdict found text in
    (new ≡ record old { verdict = Some v }) × (reply ≡ record { kind = Chap; yes = v.yes; id = old.id; text = v.text })
