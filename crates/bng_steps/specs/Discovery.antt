-- Frames of the discovery stage, by RFC 2516 section 5.
use Rattle.std.specs.Prelude.{◌≡◌, ℕ, ◌≤◌, Bool, true, false, not, ◌&&◌, List, [], ◌∷◌, ◌++◌, Option, Some, None, IsSome, length, find, is_some, option_map}
use Rattle.std.specs.Str.{bytes_eq}
use Rattle.bng_base.specs.declared.address.Mac.{Mac}
use Rattle.bng_base.specs.declared.item.Entry.{Entry}
use Rattle.bng_base.specs.declared.item.OutRecord.{OutRecord}
use Rattle.bng_base.specs.declared.settings.AccessPort.{AccessPort}
use Rattle.bng_base.specs.declared.settings.AuthKind.TheVariants.{Chap}
use Rattle.bng_base.specs.PppoeGrammar.{PppoeTag, PppoeFrame, AreTags}
use Rattle.bng_pppoe_wire.specs.declared.kind.TheConstants.{HOST_UNIQ}
use Rattle.bng_discovery.specs.declared.answers.Answer.{Answer}
use Rattle.bng_discovery.specs.declared.answers.Answer.TheVariants.{Offer, Make, Again, Refuse, Ended, NoSession, Ignore}
use Rattle.bng_discovery.specs.declared.port.PortRules.{PortRules}
use Rattle.bng_discovery.specs.Reply.{pado_of, pads_of, refusal_of}
use Rattle.bng_discovery.specs.Request.{first_tag}
use Rattle.bng_discovery.specs.Table.{table, first_row}
use Rattle.bng_ppp.specs.declared.authentication.Authentication.TheVariants.{Idle}
use Rattle.bng_ppp.specs.declared.input.Input.TheVariants.{Start}
use Rattle.bng_ppp.specs.IpcpState.{ipcp_unused}
use Rattle.bng_ppp.specs.LcpState.{IsFirstAsk, unused, kept_first}
use Rattle.bng_ppp.specs.LinkState.{LinkState}
use Rattle.bng_sessions.specs.Sessions.{IsLowestVacant, IsNumberOf, value_at}
use Rattle.bng_sessions.specs.Listed.{values}
use Rattle.bng_steps.specs.declared.rules.Rules.{Rules}
use Rattle.bng_steps.specs.declared.session.Service.{Service}
use Rattle.bng_steps.specs.declared.session.Service.TheVariants.{Provisioned, Linked}
use Rattle.bng_steps.specs.declared.session.Session.{Session}
use Rattle.bng_steps.specs.declared.way.Way.TheVariants.{Port}
use Rattle.bng_steps.specs.State.{Beside, State, is_on, port_at, offers_at, with_driven}
use Rattle.bng_steps.specs.Deed.{Deed, at_of, beside_of, frame_outs, ignored, handled}
use Rattle.bng_steps.specs.Link.{Drives, told}

abbrev pub same_option : Option (List ℕ) → Option (List ℕ) → Bool
same_option None None = true
same_option None (Some b) = false
same_option (Some a) None = false
same_option (Some a) (Some b) = bytes_eq a b

-- the Host-Uniq of a request
abbrev pub host_uniq_of : List PppoeTag → Option (List ℕ)
host_uniq_of tags = option_map (λ t. t.value) (first_tag HOST_UNIQ tags)

-- The session was made by a PADR of the same host with the same Host-Uniq on the same port, so with the same AC-Cookie; it has
-- not ended, and its LCP was never Opened.
abbrev pub is_repeated_in : Option (List ℕ) → Service → Bool
is_repeated_in host_uniq (Provisioned l) = false
is_repeated_in host_uniq (Linked m) = same_option m.host_uniq host_uniq && (not m.ended && not m.link.lcp.kept.was_opened)

abbrev pub is_repeated : ℕ → Mac → Option (List ℕ) → Session → Bool
is_repeated port mac host_uniq x = is_on port mac x && is_repeated_in host_uniq x.service

-- the session that was made for the same request before: of several, the one with the lowest number
abbrev pub repeated : State → ℕ → Mac → Option (List ℕ) → Option Session
repeated s port mac host_uniq = find (is_repeated port mac host_uniq) (values s.sessions)

-- a link that was told nothing; its MRU is 1,492 octets over PPPoE (RFC 2516 section 7), and 1,500 over a call (RFC 1661 section 6.1)
pub record IsNewLink (limit : ℕ) (random : List ℕ) (l : LinkState) : Type 0 where
  pub lcp : l.lcp.lcp ≡ unused
  pub ask : IsFirstAsk limit (Chap ∷ []) random l.lcp.ask
  pub kept : l.lcp.kept ≡ kept_first limit
  pub auth : l.auth ≡ Idle
  pub timer : l.auth_due ≡ None
  pub ipcp : l.ipcp ≡ ipcp_unused (record { 0 = 0 })
  pub challenge : l.next_challenge ≡ 1
  pub term : l.live ≡ false

abbrev pub new_session : ℕ → ℕ → Mac → Option (List ℕ) → LinkState → Session
new_session number port mac host_uniq link = record {
  number = record { 0 = number };
  way = Port port mac;
  service = Linked (record { host_uniq = host_uniq; link = link; question = None; ended = false });
  lease = None;
}

-- which number a new session gets: the lowest that is not used, if there is one
abbrev pub IsVacancy : State → Option ℕ → Type 0
IsVacancy s None = (n : ℕ) → IsNumberOf s.sessions.shard n → IsSome (value_at s.sessions n)
IsVacancy s (Some n) = IsLowestVacant s.sessions n

-- a session is made, and its LCP is told Open and Up
pub record Makes (r : Rules) (s : State) (e : Entry) (number : ℕ) (port : AccessPort) (offers : PortRules) (p : PppoeFrame) (tags : List PppoeTag) (d : Deed) : Type 0 where
  pub session : ℕ
  pub vacant : IsLowestVacant s.sessions session
  pub link : LinkState
  pub new : IsNewLink 1492 e.item.random link
  pub outs : List OutRecord
  pub x : Session
  pub cause : Option ℕ
  pub beside : Beside
  pub starts : Drives r (at_of s e) (beside_of s e) (new_session session number p.src (host_uniq_of tags) link) (told r e Start) outs cause x beside
  pub done : d ≡ handled s e (frame_outs (at_of s e) number port (pads_of offers p.src session tags) ++ outs) (with_driven s session None cause x beside)

-- the PADS of the session that was made for the same request before
pub record Repeats (s : State) (e : Entry) (number : ℕ) (port : AccessPort) (offers : PortRules) (p : PppoeFrame) (tags : List PppoeTag) (d : Deed) : Type 0 where
  pub x : Session
  pub found : repeated s number p.src (host_uniq_of tags) ≡ Some x
  pub done : d ≡ handled s e (frame_outs (at_of s e) number port (pads_of offers p.src x.number.0 tags)) s

-- what an answer does
abbrev pub Answers : Answer → Rules → State → Entry → ℕ → AccessPort → PortRules → PppoeFrame → List PppoeTag → Deed → Type 0
Answers Offer r s e number port offers p tags d = d ≡ handled s e (frame_outs (at_of s e) number port (pado_of offers p.src tags)) s
Answers Make r s e number port offers p tags d = Makes r s e number port offers p tags d
Answers Again r s e number port offers p tags d = Repeats s e number port offers p tags d
Answers (Refuse error) r s e number port offers p tags d = d ≡ handled s e (frame_outs (at_of s e) number port (refusal_of offers p.src error tags)) s
Answers Ended r s e number port offers p tags d = d ≡ ignored s e
Answers NoSession r s e number port offers p tags d = d ≡ ignored s e
Answers Ignore r s e number port offers p tags d = d ≡ ignored s e

-- A frame of the discovery stage that is no PADT came to the port with this number. A request is known where a session was made
-- for it before.
pub record Discovers (r : Rules) (s : State) (e : Entry) (number : ℕ) (p : PppoeFrame) (d : Deed) : Type 0 where
  pub port : AccessPort
  pub its_port : port_at r.access number ≡ Some port
  pub offers : PortRules
  pub its_offers : offers_at r.offers number ≡ Some offers
  pub tags : List PppoeTag
  pub listed : AreTags tags p.payload
  pub few : length tags ≤ 64
  pub vacancy : Option ℕ
  pub is_vacancy : IsVacancy s vacancy
  pub answer : Answer
  pub is_answer : Some answer ≡ first_row (table offers p tags (is_some (repeated s number p.src (host_uniq_of tags))) (is_some vacancy))
  pub does : Answers answer r s e number port offers p tags d
