-- What is called, one call after another, and whose requests these calls take in, answer and give back.
use Rattle.std.specs.Prelude.{◌≡◌, ◌+◌, ℕ, Bool, true, false, List, Option, Some, None, IfNone, sum_by}
use Rattle.std.specs.Option.{option_map}
use Rattle.bng_base.specs.Packet.{Packet as Bytes}
use Rattle.bng_base.specs.declared.address.Peer.{Peer}
use Rattle.bng_rad_client.specs.declared.replies.Replied.{Replied}
use Rattle.bng_rad_client.specs.declared.rules.Lane.{Lane}
use Rattle.bng_rad_client.specs.declared.rules.Lane.TheVariants.{Auth, Acct}
use Rattle.bng_rad_client.specs.declared.rules.Owner.{Owner}
use Rattle.bng_failover.specs.declared.rules.DueSend.{DueSend}
use Rattle.bng_failover.specs.declared.rules.DueSend.TheVariants.{Send as Again, TimedOut}
use Rattle.bng_failover.specs.declared.rules.FailAsked.{FailAsked}
use Rattle.bng_failover.specs.declared.rules.FailAsked.TheVariants.{Send, Waiting}
use Rattle.bng_failover.specs.Servers.{Gains, Keeps, Leaves, one_of, held, request_at}
use Rattle.bng_failover.specs.Asking.{IsAskedAt, WhenSend, WhenWaiting}
use Rattle.bng_failover.specs.Due.{Whose, IsSentFrom, NoneDue}
use Rattle.bng_failover.specs.Replies.{Hears, answered}
use Rattle.bng_failover.specs.State.{State, servers_of, ChangesLane, IsDue, timed_out}
use Rattle.bng_failover.specs.Withdrawing.{Withdraws}

-- a request was asked, and was taken in or is to wait; a datagram was heard; what is due was asked for, and where it is a send it is
-- of this request; an identifier was freed
pub data Call : Type 0 where
  Asked : Lane → Owner → (request : List ℕ) → (now : ℕ) → Bytes → FailAsked → Call
  Heard : Lane → (from : Peer) → (octets : List ℕ) → Replied → Call
  Due : (now : ℕ) → (timeouts : Bool) → Bytes → Option DueSend → (whose : Option Whose) → Call
  Withdrawn : Lane → (server id : ℕ) → Option Owner → Call

-- what `ask` promises
pub record DoesAsk (old new : State) (lane : Lane) (owner : Owner) (request : List ℕ) (now : ℕ) (frame : Bytes) (result : FailAsked) : Type 0 where
  pub sent : WhenSend result (λ peer. IsAskedAt (servers_of old lane) (servers_of new lane) 0 owner request old.secret now peer frame)
  pub owners : WhenSend result (λ peer. Gains (servers_of old lane) (servers_of new lane) owner)
  pub kept : WhenWaiting result (new ≡ old)
  pub others : ChangesLane old new lane

-- what `reply` promises
pub record DoesReply (old new : State) (lane : Lane) (from : Peer) (octets : List ℕ) (result : Replied) : Type 0 where
  pub answer : Hears lane (servers_of old lane) (servers_of new lane) from old.secret octets result
  pub owners : Leaves (answered result) (servers_of old lane) (servers_of new lane)
  pub others : ChangesLane old new lane

-- what is due, and where it is a send the request that it is of
abbrev pub IsDueOf : (old new : State) → (now : ℕ) → (timeouts : Bool) → Bytes → Option DueSend → (whose : Option Whose) → Type 0
IsDueOf old new now timeouts frame None whose = IsDue old new now timeouts frame None × (whose ≡ None)
IsDueOf old new now timeouts frame (Some (TimedOut owner)) whose = IsDue old new now timeouts frame (Some (TimedOut owner)) × (whose ≡ None)
IsDueOf old new now timeouts frame (Some (Again lane peer)) None = ⊥
IsDueOf old new now true frame (Some (Again lane peer)) (Some whose) = ⊥
IsDueOf old new now false frame (Some (Again Auth peer)) (Some whose) = IsSentFrom Auth old.auth new.auth old.secret old.tries now whose peer frame × ChangesLane old new Auth
IsDueOf old new now false frame (Some (Again Acct peer)) (Some whose) =
    NoneDue Auth old.auth old.tries now × IsSentFrom Acct old.acct new.acct old.secret old.tries now whose peer frame × ChangesLane old new Acct

-- what `due` promises
pub record DoesDue (old new : State) (now : ℕ) (timeouts : Bool) (frame : Bytes) (result : Option DueSend) (whose : Option Whose) : Type 0 where
  pub due : IsDueOf old new now timeouts frame result whose
  pub kept : IfNone result (new ≡ old)
  pub auth : Leaves (timed_out result) old.auth new.auth
  pub acct : Keeps old.acct new.acct

-- what `withdraw` promises
pub record DoesWithdraw (old new : State) (lane : Lane) (server id : ℕ) (result : Option Owner) : Type 0 where
  pub owner : result ≡ option_map (λ r. r.owner) (request_at (servers_of old lane) server id)
  pub servers : Withdraws (servers_of old lane) (servers_of new lane) server id
  pub owners : Leaves result (servers_of old lane) (servers_of new lane)
  pub others : ChangesLane old new lane

-- what a call promises
abbrev pub Does : State → Call → State → Type 0
Does old (Asked lane owner request now frame result) new = DoesAsk old new lane owner request now frame result
Does old (Heard lane from octets result) new = DoesReply old new lane from octets result
Does old (Due now timeouts frame result whose) new = DoesDue old new now timeouts frame result whose
Does old (Withdrawn lane server id result) new = DoesWithdraw old new lane server id result

-- one, where there is an owner that passes a test
abbrev pub some_of : (Owner → Bool) → Option Owner → ℕ
some_of test None = 0
some_of test (Some owner) = one_of test owner

-- what counts in a lane, for a call of a lane
abbrev pub in_lane : Lane → Lane → ℕ → ℕ
in_lane Auth Auth n = n
in_lane Auth Acct n = 0
in_lane Acct Auth n = 0
in_lane Acct Acct n = n

abbrev pub sent_of : FailAsked → Owner → Option Owner
sent_of (Send peer) owner = Some owner
sent_of Waiting owner = None

-- how many requests of a lane, whose owner passes a test, a call took in
abbrev pub taken_in : Lane → (Owner → Bool) → Call → ℕ
taken_in lane test (Asked of owner request now frame result) = in_lane lane of (some_of test (sent_of result owner))
taken_in lane test (Heard of from octets result) = 0
taken_in lane test (Due now timeouts frame result whose) = 0
taken_in lane test (Withdrawn of server id result) = 0

-- how many of them it answered, by a reply that matched or a timeout
abbrev pub answers : Lane → (Owner → Bool) → Call → ℕ
answers lane test (Asked of owner request now frame result) = 0
answers lane test (Heard of from octets result) = in_lane lane of (some_of test (answered result))
answers lane test (Due now timeouts frame result whose) = in_lane lane Auth (some_of test (timed_out result))
answers lane test (Withdrawn of server id result) = 0

-- how many of them it gave back
abbrev pub gives_back : Lane → (Owner → Bool) → Call → ℕ
gives_back lane test (Asked of owner request now frame result) = 0
gives_back lane test (Heard of from octets result) = 0
gives_back lane test (Due now timeouts frame result whose) = 0
gives_back lane test (Withdrawn of server id result) = in_lane lane of (some_of test result)

-- Of the requests of a lane whose owner passes a test, each that was taken in was answered once, or given back, or is in hand.
abbrev pub EachOnce : Lane → (Owner → Bool) → List Call → State → Type 0
EachOnce lane test calls last =
    sum_by (taken_in lane test) calls ≡ sum_by (answers lane test) calls + sum_by (gives_back lane test) calls + held test (servers_of last lane)
