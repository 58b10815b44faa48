-- What a datagram of an access port and of the core is, and the fate of the packet that it carries: of a table the first
-- case that holds, else Forwarded. LinkFailed comes with the packet's send.
use Rattle.std.specs.Prelude.{◌≡◌, ℕ, ◌-◌, ◌≤◌, ◌<◌, true, false, ◌⊎◌, List, [], ◌∷◌, Option, Some, None, slice_get, replicate}
use Rattle.bng_base.specs.declared.address.Ip4.{Ip4}
use Rattle.bng_base.specs.declared.address.Peer.{Peer}
use Rattle.bng_base.specs.declared.fate.DropCause.TheVariants.{Malformed, NoSession, NotOpen, Expired, Spoofed, Exceeded, TooBig}
use Rattle.bng_base.specs.declared.fate.Fate.{Fate}
use Rattle.bng_base.specs.declared.fate.Fate.TheVariants.{Forwarded}
use Rattle.bng_base.specs.declared.ipv4.Ipv4.{Ipv4}
use Rattle.bng_base.specs.declared.settings.AccessPort.{AccessPort}
use Rattle.bng_base.specs.FateOf.{Arrival}
use Rattle.bng_base.specs.Ipv4Grammar.{IsIpv4}
use Rattle.bng_base.specs.PppGrammar.{IsPpp}
use Rattle.bng_base.specs.PppoeGrammar.{PppoeFrame, IsPppoe, HasFewTags, padi}
use Rattle.bng_forward.specs.declared.view.TermView.{TermView}
use Rattle.bng_forward.specs.Cases.{Case, drops, FirstOf}
use Rattle.bng_forward.specs.Meters.{IsRed}
use Rattle.bng_forward.specs.Packets.{HasPacket, HasNoPacket}

-- the code of a frame that ends a session (RFC 2516 section 5.5)
abbrev pub padt : ℕ
padt = 167

abbrev pub broadcast : List ℕ
broadcast = replicate 6 255

-- the port with this number, counted from 1
abbrev pub IsPort : List AccessPort → ℕ → AccessPort → Type 0
IsPort ports number port = (1 ≤ number) × (slice_get ports (number - 1) ≡ Some port)

-- a host's call to all (RFC 2516 section 5.1)
pub record IsCallToAll (p : PppoeFrame) : Type 0 where
  pub discovery : p.discovery ≡ true
  pub code : p.code ≡ padi
  pub destination : p.dst.0 ≡ broadcast

-- the frame is for the port, or it is such a call
abbrev pub IsFor : AccessPort → PppoeFrame → Type 0
IsFor port p = (p.dst ≡ port.mac) ⊎ IsCallToAll p

-- The frame came to the port whole and from its other end, and is for it. One with more tags than are kept is none.
pub record CameTo (port : AccessPort) (a : Arrival) (p : PppoeFrame) : Type 0 where
  pub whole : a.cut ≡ false
  pub sender : a.from ≡ port.peer
  pub frame : IsPppoe p a.octets
  pub few : HasFewTags p
  pub destination : IsFor port p

abbrev pub IsFrame : List AccessPort → ℕ → Arrival → PppoeFrame → Type 0
IsFrame ports number a p = (port : AccessPort) × IsPort ports number port × CameTo port a p

-- a frame of the session stage, or one that ends a session
abbrev pub NamesSession : PppoeFrame → Type 0
NamesSession p = (p.discovery ≡ false) ⊎ (p.code ≡ padt)

-- what stands where a frame has its IPv4 packet: the information of a PPP frame of protocol 0021 (RFC 1332)
pub record Carries (p : PppoeFrame) (info : List ℕ) : Type 0 where
  pub session : p.discovery ≡ false
  pub ppp : IsPpp (record { protocol = 33; info = info }) p.payload

-- the datagram came whole from the core's end, and begins with an IPv4 packet that says v
pub record IsCorePacket (core : Peer) (a : Arrival) (v : Ipv4) : Type 0 where
  pub whole : a.cut ≡ false
  pub sender : a.from ≡ core
  pub packet : IsIpv4 v a.octets

-- What was found for the circuit of a packet: no session, a session without a live term, or one with this term.
abbrev pub Found : Type 0
Found = Option (Option TermView)

-- the session that was found has no live term, or one whose LCP or IPCP is not Opened
abbrev pub HasNoOpenTerm : Found → Type 0
HasNoOpenTerm found =
    (found ≡ Some None) ⊎ ((view : TermView) × (found ≡ Some (Some view)) × (view.opened ≡ false))

-- the octets begin with a packet of another source than the lease of the term that was found
abbrev pub HasOtherSource : Found → List ℕ → Type 0
HasOtherSource found octets =
    (view : TermView) × (found ≡ Some (Some view)) × HasPacket (λ v. ¬ (v.src ≡ view.lease)) octets

-- the octets begin with a packet whose source is the lease of the term that was found
abbrev pub HasOwnSource : Found → List ℕ → Type 0
HasOwnSource found octets =
    (view : TermView) × (found ≡ Some (Some view)) × HasPacket (λ v. v.src ≡ view.lease) octets

-- the octets begin with a packet that the input meter of the term that was found marks Red
abbrev pub ExceedsInput : Found → ℕ → List ℕ → Type 0
ExceedsInput found now octets =
    (view : TermView) × (found ≡ Some (Some view)) × HasPacket (λ v. IsRed view.input now v.total) octets

-- from the circuit to the core: the PPP information of a frame, what was found for its circuit, and the moment
abbrev pub up_cases : Found → ℕ → List ℕ → List Case
up_cases found now info =
    drops NoSession (found ≡ None)
    ∷ drops NotOpen (HasNoOpenTerm found)
    ∷ drops Malformed (HasNoPacket info)
    ∷ drops Expired (HasPacket (λ v. v.ttl ≤ 1) info)
    ∷ drops Spoofed (HasOtherSource found info)
    ∷ drops Exceeded (ExceedsInput found now info)
    ∷ []

abbrev pub UpFate : Found → ℕ → List ℕ → Fate → Type 0
UpFate found now info fate = FirstOf (up_cases found now info) Forwarded fate

-- the term that holds an address, where there is one
abbrev pub Holders : Type 0
Holders = Ip4 → Option TermView

-- the holder of the packet's destination is not open
abbrev pub HasClosedHolder : Holders → Ipv4 → Type 0
HasClosedHolder holder v = (view : TermView) × (holder v.dst ≡ Some view) × (view.opened ≡ false)

-- the packet is longer than the MRU of the holder of its destination
abbrev pub IsTooBig : Holders → Ipv4 → Type 0
IsTooBig holder v = (view : TermView) × (holder v.dst ≡ Some view) × (view.mru < v.total)

-- the output meter of the holder of the packet's destination marks it Red
abbrev pub ExceedsOutput : Holders → ℕ → Ipv4 → Type 0
ExceedsOutput holder now v = (view : TermView) × (holder v.dst ≡ Some view) × IsRed view.output now v.total

-- from the core to the circuit of the term that holds the destination, at a moment
abbrev pub down_cases : Holders → ℕ → List ℕ → List Case
down_cases holder now octets =
    drops Malformed (HasNoPacket octets)
    ∷ drops NoSession (HasPacket (λ v. holder v.dst ≡ None) octets)
    ∷ drops NotOpen (HasPacket (HasClosedHolder holder) octets)
    ∷ drops Expired (HasPacket (λ v. v.ttl ≤ 1) octets)
    ∷ drops TooBig (HasPacket (IsTooBig holder) octets)
    ∷ drops Exceeded (HasPacket (ExceedsOutput holder now) octets)
    ∷ []

abbrev pub DownFate : Holders → ℕ → List ℕ → Fate → Type 0
DownFate holder now octets fate = FirstOf (down_cases holder now octets) Forwarded fate
