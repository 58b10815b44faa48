-- What a shard did, entry by entry, and what its meters were offered.
use Rattle.std.specs.Prelude.{◌≡◌, ◌≢◌, ◌⊎◌, ℕ, ◌≤◌, Bool, true, false, List, [], ◌∷◌, ◌++◌, Option, Some, None, length, map}
use Rattle.bng_base.specs.declared.book.Profile.{Profile}
use Rattle.bng_base.specs.declared.book.Rate.{Rate}
use Rattle.bng_base.specs.declared.fate.DropCause.TheVariants.{Exceeded}
use Rattle.bng_base.specs.declared.fate.Fate.{Fate}
use Rattle.bng_base.specs.declared.fate.Fate.TheVariants.{Forwarded, Dropped}
use Rattle.bng_base.specs.declared.ipv4.Ipv4.{Ipv4}
use Rattle.bng_base.specs.declared.item.Entry.{Entry}
use Rattle.bng_base.specs.declared.item.ItemKind.{ItemKind}
use Rattle.bng_base.specs.declared.item.ItemKind.TheVariants.{Access, Core, Tunnel, Verdict, Change, Tick, End}
use Rattle.bng_base.specs.Ipv4Grammar.{IsIpv4}
use Rattle.bng_base.specs.PppoeGrammar.{PppoeFrame}
use Rattle.bng_coa.specs.Admission.{IsRequestIn}
use Rattle.bng_coa.specs.Wants.{wanted}
use Rattle.bng_forward.specs.Fates.{IsFrame, IsCorePacket, Carries}
use Rattle.bng_l2tp_wire.specs.Messages.{DataMessage}
use Rattle.bng_lns.specs.Datagrams.{CarriesOver, IsDataIn}
use Rattle.bng_meter.specs.Bucket.{Offer, colours, is_red, started}
use Rattle.bng_radius_wire.specs.Grammar.{Packet}
use Rattle.bng_steps.specs.declared.rules.Rules.{Rules}
use Rattle.bng_steps.specs.declared.session.Session.{Session}
use Rattle.bng_steps.specs.Changes.{Found, found_by, place_of, refusal_of}
use Rattle.bng_steps.specs.Deed.{Deed, arrival_in}
use Rattle.bng_steps.specs.Granting.{IsSound}
use Rattle.bng_steps.specs.State.{State, call_of, holder_of, session_of, settled}
use Rattle.bng_steps.specs.Step.{Step}
use Rattle.bng_steps.specs.Tenures.{Tenure}

-- A journal ----------------------------------------------------------------------------------------------------------------

-- an entry was handled, and found the shard's allowance of new terms used up or not; or a round was settled
pub data Move : Type 0 where
  Handles : (limited : Bool) → (deed : Deed) → Move
  Settles : Move

abbrev pub after : State → Move → State
after s (Handles limited d) = d.next
after s Settles = settled s

abbrev pub IsMove : Rules → State → Move → Type 0
IsMove r s (Handles limited d) = Step r s limited d
IsMove r s Settles = Unit {0}

-- by these rules a shard did this from this state on
abbrev pub Course : Rules → State → List Move → Type 0
Course r s [] = Unit {0}
Course r s (m ∷ ms) = IsMove r s m × Course r (after s m) ms

-- the moments of its entries never fall, from this one on
abbrev pub Rises : ℕ → List Move → Type 0
Rises from [] = Unit {0}
Rises from (Handles limited d ∷ ms) = (from ≤ d.entry.moment) × Rises d.entry.moment ms
Rises from (Settles ∷ ms) = Rises from ms

-- Of each session number a shard has a moment and meters, and its sessions stand under their own numbers.
pub record Stands (s : State) : Type 0 where
  pub sound : IsSound s
  pub passed : length s.passed ≡ 1024
  pub meters : length s.meters ≡ 1024

-- Terms and profiles -------------------------------------------------------------------------------------------------------

-- the entry begins a term of the session with this number, under the profile at this place
pub record Begins (s : State) (d : Deed) (n place : ℕ) : Type 0 where
  pub term : Tenure
  pub news : d.next.news ≡ s.news ++ term ∷ []
  pub session : term.term.session.0 ≡ n
  pub profile : term.profile ≡ place

-- It is a CoA-Request (RFC 5176 section 2.2) that is applied to the live term of that session, which was under another profile than the one
-- at this place, which is wanted.
pub record Recasts (r : Rules) (s : State) (d : Deed) (n place : ℕ) : Type 0 where
  pub kind : d.entry.item.kind ≡ Change
  pub packet : Packet
  pub reads : IsRequestIn packet d.entry.item.frame.payload
  pub code : packet.code ≡ 43
  pub granted : refusal_of r packet ≡ None
  pub found : Found
  pub found_is : found_by r s packet.attributes ≡ Some found
  pub session : found.term.term.session.0 ≡ n
  pub wants : place_of found.term.profile (wanted r.profiles packet) ≡ place
  pub other : found.term.profile ≢ place

-- the entry begins a term of the session, or changes its profile
abbrev pub Renews : Rules → State → Deed → ℕ → ℕ → Type 0
Renews r s d n place = Begins s d n place ⊎ Recasts r s d n place

-- no entry does
abbrev pub NoneRenews : Rules → ℕ → State → List Move → Type 0
NoneRenews r n s [] = Unit {0}
NoneRenews r n s (Handles limited d ∷ ms) = ((place : ℕ) → ¬ (Renews r s d n place)) × NoneRenews r n d.next ms
NoneRenews r n s (Settles ∷ ms) = NoneRenews r n (settled s) ms

-- Meters -------------------------------------------------------------------------------------------------------------------

-- the entry's datagram has these octets where it carries an IPv4 packet of the session: a frame of its circuit, or a data message of its call
abbrev pub IsFrom : ItemKind → Rules → State → Entry → Session → List ℕ → Type 0
IsFrom (Access number) r s e x info = (p : PppoeFrame) × IsFrame r.access number (arrival_in e) p × Carries p info × (session_of s number p.src p.session ≡ Some x)
IsFrom Core r s e x info = ⊥
IsFrom Tunnel r s e x info = (p : DataMessage) × IsDataIn e.item.cut e.item.frame.payload p × CarriesOver p info × (call_of s e.item.from p.tunnel p.session ≡ Some x)
IsFrom Verdict r s e x info = ⊥
IsFrom Change r s e x info = ⊥
IsFrom Tick r s e x info = ⊥
IsFrom End r s e x info = ⊥

-- the entry's datagram is a packet of the core with this header, to the address of the session's live term
abbrev pub IsTo : ItemKind → Rules → State → Entry → Session → Ipv4 → Type 0
IsTo (Access number) r s e x v = ⊥
IsTo Core r s e x v = IsCorePacket r.core_peer (arrival_in e) v × (holder_of s v.dst ≡ Some x)
IsTo Tunnel r s e x v = ⊥
IsTo Verdict r s e x v = ⊥
IsTo Change r s e x v = ⊥
IsTo Tick r s e x v = ⊥
IsTo End r s e x v = ⊥

-- the entry has a packet with this header from the session's subscriber, or towards it
abbrev pub Crosses : Bool → Rules → State → Entry → Session → Ipv4 → Type 0
Crosses true r s e x v = (info : List ℕ) × IsFrom e.item.kind r s e x info × IsIpv4 v info
Crosses false r s e x v = IsTo e.item.kind r s e x v

-- the fate of a packet that the meter is asked about: the meter's row of the table of fates is the last
abbrev pub fate_by : Bool → Fate
fate_by true = Dropped Exceeded
fate_by false = Forwarded

-- The entry has a packet for which the meter of the session with this number is asked, of this moment and size. It is Red or not.
pub record Asks (input : Bool) (n : ℕ) (r : Rules) (s : State) (d : Deed) (offer : Offer) (red : Bool) : Type 0 where
  pub session : Session
  pub number : session.number.0 ≡ n
  pub header : Ipv4
  pub crosses : Crosses input r s d.entry session header
  pub offer_is : offer ≡ (d.entry.moment, header.total)
  pub fate : d.fate ≡ fate_by red

abbrev pub AsksIn : Bool → ℕ → Rules → State → Move → Offer → Bool → Type 0
AsksIn input n r s (Handles limited d) offer red = Asks input n r s d offer red
AsksIn input n r s Settles offer red = ⊥

-- the packets of a journal for which that meter is asked, in their order, and which of them are Red
abbrev pub Offers : Bool → ℕ → Rules → State → List Move → List Offer → List Bool → Type 0
Offers input n r s [] offers reds = (offers ≡ []) × (reds ≡ [])
Offers input n r s (m ∷ ms) offers reds =
    ((offer : Offer) × (red : Bool) × AsksIn input n r s m offer red
    × (more : List Offer) × (more_reds : List Bool) × Offers input n r (after s m) ms more more_reds × (offers ≡ offer ∷ more) × (reds ≡ red ∷ more_reds))
    ⊎ (((offer : Offer) (red : Bool) → ¬ (AsksIn input n r s m offer red)) × Offers input n r (after s m) ms offers reds)

-- the rate of a profile for packets from the subscriber, or for those towards it
abbrev pub rate_of : Bool → Option Profile → Option Rate
rate_of input None = None
rate_of true (Some p) = p.up
rate_of false (Some p) = p.down

-- which of these packets a meter of this rate that starts at this moment marks Red (RFC 2697); where there is no rate none is
abbrev pub marked : Option Rate → ℕ → List Offer → List Bool
marked None at offers = map (λ o. false) offers
marked (Some rate) at offers = map is_red (colours (started rate at) offers)
