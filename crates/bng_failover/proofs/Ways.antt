-- What a call does in a lane, and what was sent for each request in hand over lists of calls.
use Rattle.std.proofs.Common.{◌≡◌, ◌⊎◌, inl, inr, ℕ, Bool, true, false, List, [], ◌∷◌, length, map, set, Option, Some, None, unwrap_or, refl, sym, ap, subst, ◌∙◌}
use Rattle.std.specs.Prelude.{slice_get}
use Rattle.std.specs.List.{fold}
use Rattle.bng_base.specs.Chain.{Chain}
use Rattle.bng_base.specs.Packet.{Packet as Bytes}
use Rattle.bng_base.specs.declared.address.Peer.{Peer}
use Rattle.bng_rad_client.specs.declared.pending.Pending.{Pending}
use Rattle.bng_rad_client.specs.declared.replies.IgnoredReply.TheVariants.{Stranger, Malformed, NotPending, WrongDigest}
use Rattle.bng_rad_client.specs.declared.replies.Replied.{Replied}
use Rattle.bng_rad_client.specs.declared.replies.Replied.TheVariants.{Matched, Ignored}
use Rattle.bng_rad_client.specs.declared.rules.Lane.{Lane}
use Rattle.bng_rad_client.specs.declared.rules.Lane.TheVariants.{Auth, Acct}
use Rattle.bng_rad_client.specs.declared.rules.Owner.{Owner}
use Rattle.bng_rad_client.specs.Table.{Table}
use Rattle.bng_failover.specs.declared.rules.DueSend.{DueSend}
use Rattle.bng_failover.specs.declared.rules.DueSend.TheVariants.{Send as Again, TimedOut}
use Rattle.bng_failover.specs.declared.rules.FailAsked.TheVariants.{Send, Waiting}
use Rattle.bng_failover.specs.declared.rules.FailoverRules.{FailoverRules}
use Rattle.bng_failover.specs.declared.server.Server.{Server}
use Rattle.bng_failover.specs.Asking.{IsAskedAt}
use Rattle.bng_failover.specs.Calls.{Call, Asked, Heard, Due, Withdrawn, Does, IsDueOf}
use Rattle.bng_failover.specs.Due.{Whose, IsSentFrom, Goes, IsSent, goes_to}
use Rattle.bng_failover.specs.Replies.{Hears}
use Rattle.bng_failover.specs.Sends.{Trail, Trails, sending, begun, longer, with_trail, identifier_of, no_trail, after, trails_of}
use Rattle.bng_failover.specs.Servers.{new_server, held, request_at, without}
use Rattle.bng_failover.specs.State.{State, servers_of, IsOpened, IsDue}
use Rattle.bng_failover.specs.Withdrawing.{WithdrawsFrom}
use Rattle.bng_failover.proofs.Held.{Within, at_holder, freed_within, none_held}
use Rattle.bng_failover.proofs.Opening.{opened_held}
use Rattle.bng_failover.proofs.Trails.{Tracks, Moved, comes, goes}
use Rattle.bng_failover.proofs.Turns.{peers_of, same_peers}

-- the servers of a lane are these, in their order, and no request is in hand that was not before
pub record Frees (old new : List Server) : Type 0 where
  pub peers : peers_of new ≡ peers_of old
  pub within : Within new old

same_frees : (old new : List Server) → new ≡ old → Frees old new
same_frees old new e = record { peers = ap peers_of e; within = λ a j r there. ap (λ (l : List Server). request_at l a j) (sym e) ∙ there }

freed_peers : (old : List Server) (at : ℕ) (s : Server) (id : ℕ) → slice_get old at ≡ Some s → peers_of (without old at s id) ≡ peers_of old
freed_peers old at s id is = let table : Table = record s.requests { places = set s.requests.places id None } in same_peers old at s table is

freed_frees : (old new : List Server) (at : ℕ) (s : Server) (id : ℕ) → slice_get old at ≡ Some s → new ≡ without old at s id → Frees old new
freed_frees old new at s id is e = record {
  peers = ap peers_of e ∙ freed_peers old at s id is;
  within = λ a j r there. freed_within old at s is id a j r (ap (λ (l : List Server). request_at l a j) (sym e) ∙ there);
}

heard_frees : (lane : Lane) (old new : List Server) (from : Peer) (secret octets : List ℕ) (result : Replied) → Hears lane old new from secret octets result → Frees old new
heard_frees lane old new from secret octets (Ignored Stranger) h = same_frees old new h.1
heard_frees lane old new from secret octets (Ignored Malformed) h = same_frees old new h.1
heard_frees lane old new from secret octets (Ignored NotPending) h = same_frees old new h.1
heard_frees lane old new from secret octets (Ignored WrongDigest) h = same_frees old new h.1
heard_frees lane old new from secret octets (Matched owner) h = freed_frees old new h.at h.server h.packet.id h.is h.servers

withdrawn_frees : (old new : List Server) (at id : ℕ) (o : Option Server) → slice_get old at ≡ o → WithdrawsFrom o old new at id → Frees old new
withdrawn_frees old new at id None is h = same_frees old new h
withdrawn_frees old new at id (Some s) is h = freed_frees old new at s id is h

goes_peers : (next : Option ℕ) (old new : List Server) (at : ℕ) (s : Server) (id : ℕ) (r : Pending) (secret : List ℕ) (now : ℕ) (peer : Peer) (frame : Bytes) → slice_get old at ≡ Some s
    → Goes next old new at s id r secret now peer frame → peers_of new ≡ peers_of old
goes_peers None old new at s id r secret now peer frame is g = ap peers_of g.servers ∙ same_peers old at g.server g.table g.is
goes_peers (Some next) old new at s id r secret now peer frame is g = ap peers_of g.servers ∙ same_peers (without old at s id) next g.server g.table g.is ∙ freed_peers old at s id is

-- what is due is a send of a request, or none
sent_from : (lane : Lane) (old new : List Server) (secret : List ℕ) (tries now : ℕ) (owner : Owner) (peer : Peer) (frame : Bytes) → IsSent lane old new secret tries now owner peer frame
    → (whose : Whose) × IsSentFrom lane old new secret tries now whose peer frame
sent_from lane old new secret tries now owner peer frame h =
    let whose : Whose = record { owner = owner; server = h.at; id = h.due.id; to = unwrap_or (goes_to lane (length old) tries h.at h.first.oldest.request) h.at } in
    (whose, record { sent = h; server = refl; id = refl; to = refl })

pub due_of : (old new : State) (now : ℕ) (timeouts : Bool) (frame : Bytes) (result : Option DueSend) → IsDue old new now timeouts frame result → (whose : Option Whose) × IsDueOf old new now timeouts frame result whose
due_of old new now timeouts frame None h = (None, (h, refl))
due_of old new now timeouts frame (Some (TimedOut owner)) h = (None, (h, refl))
due_of old new now true frame (Some (Again lane peer)) h = absurd h
due_of old new now false frame (Some (Again Auth peer)) h =
    let w = sent_from Auth old.auth new.auth old.secret old.tries now h.0 peer frame h.1.0 in (Some w.0, (w.1, h.1.1))
due_of old new now false frame (Some (Again Acct peer)) h =
    let w = sent_from Acct old.acct new.acct old.secret old.tries now h.0 peer frame h.1.1 in (Some w.0, (h.1.0, w.1, h.1.2))

-- A call sends nothing in a lane; or takes a request in; or sends one that is due.
pub record IsQuiet (lane : Lane) (old new : State) (c : Call) : Type 0 where
  pub frees : Frees (servers_of old lane) (servers_of new lane)
  pub tries : new.tries ≡ old.tries
  pub still : (trails : Trails) → after lane trails c ≡ trails

pub record IsAsk (lane : Lane) (old new : State) (c : Call) : Type 0 where
  pub owner : Owner
  pub request : List ℕ
  pub moment : ℕ
  pub peer : Peer
  pub frame : Bytes
  pub asked : IsAskedAt (servers_of old lane) (servers_of new lane) 0 owner request old.secret moment peer frame
  pub tries : new.tries ≡ old.tries
  pub begins : (trails : Trails) → after lane trails c ≡ with_trail trails 0 (identifier_of frame.payload) (begun request (sending owner peer moment frame))

pub record IsResend (lane : Lane) (old new : State) (c : Call) : Type 0 where
  pub whose : Whose
  pub moment : ℕ
  pub peer : Peer
  pub frame : Bytes
  pub from : IsSentFrom lane (servers_of old lane) (servers_of new lane) old.secret old.tries moment whose peer frame
  pub tries : new.tries ≡ old.tries
  pub goes_on : (trails : Trails) → after lane trails c ≡ with_trail trails whose.to (identifier_of frame.payload) (longer (trails whose.server whose.id) (sending whose.owner peer moment frame))

abbrev pub Way : Lane → State → State → Call → Type 0
Way lane old new c = IsQuiet lane old new c ⊎ (IsAsk lane old new c ⊎ IsResend lane old new c)

way : (lane : Lane) (old new : State) (c : Call) → Does old c new → Way lane old new c
way Auth old new (Asked Auth owner request now frame (Send peer)) h =
    inr (inl (record { owner = owner; request = request; moment = now; peer = peer; frame = frame; asked = h.sent; tries = h.others.tries; begins = λ trails. refl }))
way Acct old new (Asked Acct owner request now frame (Send peer)) h =
    inr (inl (record { owner = owner; request = request; moment = now; peer = peer; frame = frame; asked = h.sent; tries = h.others.tries; begins = λ trails. refl }))
way Auth old new (Asked Acct owner request now frame (Send peer)) h = inl (record { frees = same_frees old.auth new.auth h.others.servers; tries = h.others.tries; still = λ trails. refl })
way Acct old new (Asked Auth owner request now frame (Send peer)) h = inl (record { frees = same_frees old.acct new.acct h.others.servers; tries = h.others.tries; still = λ trails. refl })
way lane old new (Asked of owner request now frame Waiting) h = inl (record {
  frees = same_frees (servers_of old lane) (servers_of new lane) (ap (λ (s : State). servers_of s lane) h.kept);
  tries = h.others.tries;
  still = λ trails. refl;
})
way Auth old new (Heard Auth from octets result) h = inl (record { frees = heard_frees Auth old.auth new.auth from old.secret octets result h.answer; tries = h.others.tries; still = λ trails. refl })
way Acct old new (Heard Acct from octets result) h = inl (record { frees = heard_frees Acct old.acct new.acct from old.secret octets result h.answer; tries = h.others.tries; still = λ trails. refl })
way Auth old new (Heard Acct from octets result) h = inl (record { frees = same_frees old.auth new.auth h.others.servers; tries = h.others.tries; still = λ trails. refl })
way Acct old new (Heard Auth from octets result) h = inl (record { frees = same_frees old.acct new.acct h.others.servers; tries = h.others.tries; still = λ trails. refl })
way lane old new (Due now timeouts frame None whose) h = inl (record {
  frees = same_frees (servers_of old lane) (servers_of new lane) (ap (λ (s : State). servers_of s lane) h.kept);
  tries = ap (λ (s : State). s.tries) h.kept;
  still = λ trails. refl;
})
way Auth old new (Due now true frame (Some (TimedOut owner)) whose) h = inl (record {
  frees = freed_frees old.auth new.auth h.due.0.0.at h.due.0.0.first.server h.due.0.0.due.id h.due.0.0.first.is h.due.0.0.servers;
  tries = h.due.0.1.tries;
  still = λ trails. refl;
})
way Acct old new (Due now true frame (Some (TimedOut owner)) whose) h = inl (record { frees = same_frees old.acct new.acct h.due.0.1.servers; tries = h.due.0.1.tries; still = λ trails. refl })
way lane old new (Due now false frame (Some (TimedOut owner)) whose) h = absurd h.due.0
way lane old new (Due now timeouts frame (Some (Again of peer)) None) h = absurd h.due
way lane old new (Due now true frame (Some (Again of peer)) (Some whose)) h = absurd h.due
way Auth old new (Due now false frame (Some (Again Auth peer)) (Some whose)) h =
    inr (inr (record { whose = whose; moment = now; peer = peer; frame = frame; from = h.due.0; tries = h.due.1.tries; goes_on = λ trails. refl }))
way Acct old new (Due now false frame (Some (Again Acct peer)) (Some whose)) h =
    inr (inr (record { whose = whose; moment = now; peer = peer; frame = frame; from = h.due.1; tries = h.due.2.tries; goes_on = λ trails. refl }))
way Auth old new (Due now false frame (Some (Again Acct peer)) (Some whose)) h = inl (record { frees = same_frees old.auth new.auth h.due.2.servers; tries = h.due.2.tries; still = λ trails. refl })
way Acct old new (Due now false frame (Some (Again Auth peer)) (Some whose)) h = inl (record { frees = same_frees old.acct new.acct h.due.1.servers; tries = h.due.1.tries; still = λ trails. refl })
way Auth old new (Withdrawn Auth server id result) h = inl (record { frees = withdrawn_frees old.auth new.auth server id (slice_get old.auth server) refl h.servers; tries = h.others.tries; still = λ trails. refl })
way Acct old new (Withdrawn Acct server id result) h = inl (record { frees = withdrawn_frees old.acct new.acct server id (slice_get old.acct server) refl h.servers; tries = h.others.tries; still = λ trails. refl })
way Auth old new (Withdrawn Acct server id result) h = inl (record { frees = same_frees old.auth new.auth h.others.servers; tries = h.others.tries; still = λ trails. refl })
way Acct old new (Withdrawn Auth server id result) h = inl (record { frees = same_frees old.acct new.acct h.others.servers; tries = h.others.tries; still = λ trails. refl })

-- the servers of a lane, and how often each is sent a request, are those of the rules
pub record HasRules (lane : Lane) (peers : List Peer) (tries : ℕ) (s : State) : Type 0 where
  pub servers : peers_of (servers_of s lane) ≡ peers
  pub count : s.tries ≡ tries

abbrev pub peers_in : FailoverRules → Lane → List Peer
peers_in rules Auth = rules.auth
peers_in rules Acct = rules.acct

new_peers : (peers : List Peer) → peers_of (map new_server peers) ≡ peers
new_peers [] = refl
new_peers (p ∷ peers) = ap (λ (l : List Peer). p ∷ l) (new_peers peers)

new_servers : (rules : FailoverRules) (s : State) (lane : Lane) → IsOpened rules s → servers_of s lane ≡ map new_server (peers_in rules lane)
new_servers rules s Auth h = h.auth
new_servers rules s Acct h = h.acct

opened_rules : (rules : FailoverRules) (s : State) (lane : Lane) → IsOpened rules s → HasRules lane (peers_in rules lane) rules.tries s
opened_rules rules s lane h = record { servers = ap peers_of (new_servers rules s lane h) ∙ new_peers (peers_in rules lane); count = h.tries }

module _ (lane : Lane) (peers : List Peer) (tries : ℕ) where
  keeps : (old new : State) (c : Call) → Way lane old new c → HasRules lane peers tries old → HasRules lane peers tries new
  keeps old new c (inl w) rules = record { servers = w.frees.peers ∙ rules.servers; count = w.tries ∙ rules.count }
  keeps old new c (inr (inl w)) rules = record {
    servers = ap peers_of w.asked.servers ∙ same_peers (servers_of old lane) 0 w.asked.server w.asked.table w.asked.is ∙ rules.servers;
    count = w.tries ∙ rules.count;
  }
  keeps old new c (inr (inr w)) rules =
      let h = w.from.sent in
      record {
        servers = goes_peers (goes_to lane (length (servers_of old lane)) old.tries h.at h.first.oldest.request) (servers_of old lane) (servers_of new lane) h.at h.first.server h.due.id h.first.oldest.request old.secret w.moment w.peer w.frame h.first.is h.goes
            ∙ rules.servers;
        count = w.tries ∙ rules.count;
      }

  keeps_from : (s last : State) (calls : List Call) → Chain Does s calls last → HasRules lane peers tries s → HasRules lane peers tries last
  keeps_from s last [] e rules = subst (HasRules lane peers tries) (sym e) rules
  keeps_from s last (c ∷ calls) (mid, does, rest) rules = keeps_from mid last calls rest (keeps s mid c (way lane s mid c does) rules)

  -- what is said of each request in hand is said of one that is taken in, and of one that is sent again
  module _ (Q : (at : ℕ) → Trail → Pending → Type 0) where
    abbrev pub BeginsSo : Type 0
    BeginsSo = (old new : State) (c : Call) → HasRules lane peers tries old → (w : IsAsk lane old new c) → Q 0 (begun w.request (sending w.owner w.peer w.moment w.frame)) w.asked.asks.asked.made

    abbrev pub GoesOnSo : Type 0
    GoesOnSo = (old new : State) (c : Call) → HasRules lane peers tries old → (w : IsResend lane old new c) → (t : Trail) → Q w.from.sent.at t w.from.sent.first.oldest.request
        → Moved Q lane (servers_of old lane) (servers_of new lane) old.secret old.tries w.moment w.whose.owner w.peer w.frame w.from.sent (longer t (sending w.whose.owner w.peer w.moment w.frame))
        (goes_to lane (length (servers_of old lane)) old.tries w.from.sent.at w.from.sent.first.oldest.request) w.from.sent.goes

    module _ (begins : BeginsSo) (goes_on : GoesOnSo) where
      step : (old new : State) (c : Call) (trails : Trails) → Way lane old new c → HasRules lane peers tries old → Tracks Q (servers_of old lane) trails → Tracks Q (servers_of new lane) (after lane trails c)
      step old new c trails (inl w) rules tracks = subst (Tracks Q (servers_of new lane)) (sym (w.still trails)) (λ a j r there. tracks a j r (w.frees.within a j r there))
      step old new c trails (inr (inl w)) rules tracks =
          subst (Tracks Q (servers_of new lane)) (sym (w.begins trails))
          (comes Q (servers_of old lane) (servers_of new lane) 0 w.owner w.request old.secret w.moment w.peer w.frame w.asked trails tracks (begun w.request (sending w.owner w.peer w.moment w.frame)) (begins old new c rules w))
      step old new c trails (inr (inr w)) rules tracks =
          let h = w.from.sent in
          let n : ℕ = identifier_of w.frame.payload in
          let more : Trail → Trail = λ t. longer t (sending w.whose.owner w.peer w.moment w.frame) in
          let there : after lane trails c ≡ with_trail trails (unwrap_or (goes_to lane (length (servers_of old lane)) old.tries h.at h.first.oldest.request) h.at) n (more (trails h.at h.due.id)) =
          w.goes_on trails
          ∙ ap (λ (k : ℕ). with_trail trails k n (more (trails w.whose.server w.whose.id))) w.from.to
          ∙ ap (λ (k : ℕ). with_trail trails (unwrap_or (goes_to lane (length (servers_of old lane)) old.tries h.at h.first.oldest.request) h.at) n (more (trails k w.whose.id))) w.from.server
          ∙ ap (λ (k : ℕ). with_trail trails (unwrap_or (goes_to lane (length (servers_of old lane)) old.tries h.at h.first.oldest.request) h.at) n (more (trails h.at k))) w.from.id
          in
          subst (Tracks Q (servers_of new lane)) (sym there)
          (goes Q lane (servers_of old lane) (servers_of new lane) old.secret old.tries w.moment w.whose.owner w.peer w.frame h (more (trails h.at h.due.id)) trails tracks
          (goes_on old new c rules w (trails h.at h.due.id) (tracks h.at h.due.id h.first.oldest.request (at_holder (servers_of old lane) h.at h.due.id h.first.server h.first.oldest.request h.first.is h.first.oldest.is)).1))

      tracked : (s last : State) (calls : List Call) (trails : Trails) → Chain Does s calls last → HasRules lane peers tries s → Tracks Q (servers_of s lane) trails → Tracks Q (servers_of last lane) (fold (after lane) trails calls)
      tracked s last [] trails e rules tracks = subst (λ (x : State). Tracks Q (servers_of x lane) trails) (sym e) tracks
      tracked s last (c ∷ calls) trails (mid, does, rest) rules tracks =
          let w = way lane s mid c does in
          tracked mid last calls (after lane trails c) rest (keeps s mid c w rules) (step s mid c trails w rules tracks)

module _ (rules : FailoverRules) (opening last : State) (calls : List Call) (lane : Lane) (opened : IsOpened rules opening) (chain : Chain Does opening calls last) where
  pub last_rules : HasRules lane (peers_in rules lane) rules.tries last
  last_rules = keeps_from lane (peers_in rules lane) rules.tries opening last calls chain (opened_rules rules opening lane opened)

  pub followed : (Q : (at : ℕ) → Trail → Pending → Type 0) → BeginsSo lane (peers_in rules lane) rules.tries Q → GoesOnSo lane (peers_in rules lane) rules.tries Q → Tracks Q (servers_of last lane) (trails_of lane calls)
  followed Q begins goes_on =
      tracked lane (peers_in rules lane) rules.tries Q begins goes_on opening last calls (λ s i. no_trail) chain (opened_rules rules opening lane opened)
      (λ a j r there.
      let none = ap (held (λ o. true)) (new_servers rules opening lane opened) ∙ opened_held (λ o. true) (peers_in rules lane) in
      absurd (none_held (λ o. true) (servers_of opening lane) none a j r there refl))
