-- An Access-Request goes from server to server: how often it was sent to each.
use Rattle.std.proofs.Common.{◌≡◌, ℕ, zero, suc, ◌+◌, ◌≤◌, ◌<◌, ◌++◌, Bool, true, false, cond, List, [], ◌∷◌, length, map, take, replicate, set, Option, Some, None, refl, sym, ap, ◌∙◌, arith, append_assoc}
use Rattle.std.specs.Prelude.{slice_get, ◌&&◌, nat_lt, nat_le}
use Rattle.std.specs.List.{last_or}
use Rattle.std.specs.Option.{option_map}
use Rattle.std.proofs.Math.Seq.{map-set_same}
use Rattle.std.proofs.lemmas.Bool.{ltb-true, ltb-false}
use Rattle.std.proofs.lemmas.List.{append-nil, map-append, replicate-append-replicate}
use Rattle.std.proofs.lemmas.Option.{slice_get-map, get_or_from_slice_get}
use Rattle.bng_base.specs.Packet.{Packet as Bytes}
use Rattle.bng_base.specs.declared.address.Peer.{Peer}
use Rattle.bng_rad_client.specs.declared.pending.Pending.{Pending}
use Rattle.bng_rad_client.specs.declared.due.Sought.TheVariants.{Resend, Endless}
use Rattle.bng_rad_client.specs.declared.rules.Lane.TheVariants.{Auth}
use Rattle.bng_rad_client.specs.declared.rules.Owner.{Owner}
use Rattle.bng_rad_client.specs.Due.{is_sought}
use Rattle.bng_rad_client.specs.Table.{Table, request_of}
use Rattle.bng_failover.specs.declared.server.Server.{Server}
use Rattle.bng_failover.specs.Asking.{IsAskedAt}
use Rattle.bng_failover.specs.Due.{IsSent, IsRepeatedAt, Goes}
use Rattle.bng_failover.specs.Sends.{Sending, Trail, longer, servers_sent, each_times, WentInTurn}
use Rattle.bng_failover.specs.Servers.{with_table}
use Rattle.bng_failover.proofs.Trails.{Moved}

-- lists
replicate_more : (n : ℕ) (p : Peer) → replicate (n + 1) p ≡ replicate n p ++ (p ∷ [])
replicate_more n p = sym (replicate-append-replicate n 1 p)

each_suc : (tries : ℕ) (xs : List Peer) (at : ℕ) (p : Peer) → slice_get xs at ≡ Some p → each_times tries (take (suc at) xs) ≡ each_times tries (take at xs) ++ replicate tries p
each_suc tries [] at p e = absurd (let both : None ≡ Some p = e in cc)
each_suc tries (x ∷ xs) zero p e =
    let both : Some x ≡ Some p = e in
    let one : x ≡ p = cc in
    append-nil (replicate tries x) ∙ ap (λ (q : Peer). replicate tries q) one
each_suc tries (x ∷ xs) (suc at) p e =
    ap (λ (l : List Peer). replicate tries x ++ l) (each_suc tries xs at p e) ∙ sym (append_assoc (replicate tries x) (each_times tries (take at xs)) (replicate tries p))

pub each_more : (tries : ℕ) (xs : List Peer) (at : ℕ) (p : Peer) → slice_get xs at ≡ Some p → each_times tries (take (at + 1) xs) ≡ each_times tries (take at xs) ++ replicate tries p
each_more tries xs at p e =
    let next : at + 1 ≡ suc at = omega arith in
    ap (λ (n : ℕ). each_times tries (take n xs)) next ∙ each_suc tries xs at p e

last_pushed : (o : Option Sending) (xs : List Sending) (x : Sending) → last_or o (xs ++ (x ∷ [])) ≡ Some x
last_pushed o [] x = refl
last_pushed o (y ∷ xs) x = last_pushed (Some y) xs x

pushed : (sends : List Sending) (x : Sending) → servers_sent (sends ++ (x ∷ [])) ≡ servers_sent sends ++ (x.peer ∷ [])
pushed sends x = map-append (λ (s : Sending). s.peer) sends (x ∷ [])

and_false : (x : Bool) → (x && false) ≡ true → ⊥
and_false true e = let both : false ≡ true = e in cc
and_false false e = let both : false ≡ true = e in cc

-- a list that is longer by this one
abbrev pub plus : List Sending → Sending → List Sending
plus sends x = sends ++ (x ∷ [])

module _ (peers : List Peer) (tries : ℕ) where
  -- the first send goes to the first server
  first : (p : Peer) → slice_get peers 0 ≡ Some p → 0 < tries → (x : Sending) → x.peer ≡ p → (r : Pending) → r.sends ≡ 1 → r.sent_at ≡ x.moment → WentInTurn peers tries (x ∷ []) 0 r
  first p is some x to r once moment =
      let single : replicate r.sends p ≡ p ∷ [] = ap (λ (n : ℕ). replicate n p) once in
      record {
        server = p;
        is = is;
        some = omega (arith, once);
        most = omega (arith, once, some);
        to = ap (λ (q : Peer). q ∷ []) to ∙ sym single;
        last = x;
        is_last = refl;
        moment = sym moment;
      }

  module _ (sends : List Sending) (at : ℕ) (r next : Pending) (x : Sending) (h : WentInTurn peers tries sends at r) (moment : next.sent_at ≡ x.moment) where
    abbrev before : List Peer
    before = each_times tries (take at peers)

    -- one more goes to the same server
    again : next.sends ≡ r.sends + 1 → r.sends < tries → x.peer ≡ h.server → WentInTurn peers tries (plus sends x) at next
    again more room to =
        let ones : replicate r.sends h.server ++ (x.peer ∷ []) ≡ replicate next.sends h.server =
        ap (λ (q : Peer). replicate r.sends h.server ++ (q ∷ [])) to ∙ sym (replicate_more r.sends h.server) ∙ ap (λ (n : ℕ). replicate n h.server) (sym more)
        in
        record {
          server = h.server;
          is = h.is;
          some = omega (arith, more);
          most = omega (arith, more, room);
          to = pushed sends x
              ∙ ap (λ (l : List Peer). l ++ (x.peer ∷ [])) h.to
              ∙ append_assoc before (replicate r.sends h.server) (x.peer ∷ [])
              ∙ ap (λ (l : List Peer). before ++ l) ones;
          last = x;
          is_last = last_pushed None sends x;
          moment = sym moment;
        }

    -- one more goes to the next server
    on : (p : Peer) → slice_get peers (at + 1) ≡ Some p → tries ≤ r.sends → 0 < tries → next.sends ≡ 1 → x.peer ≡ p → WentInTurn peers tries (plus sends x) (at + 1) next
    on p is full some once to =
        let all : r.sends ≡ tries = omega (arith, full, h.most) in
        let done : servers_sent sends ≡ each_times tries (take (at + 1) peers) =
        h.to ∙ ap (λ (n : ℕ). before ++ replicate n h.server) all ∙ sym (each_more tries peers at h.server h.is)
        in
        let single : x.peer ∷ [] ≡ replicate next.sends p = ap (λ (q : Peer). q ∷ []) to ∙ ap (λ (n : ℕ). replicate n p) (sym once) in
        record {
          server = p;
          is = is;
          some = omega (arith, once);
          most = omega (arith, once, some);
          to = pushed sends x
              ∙ ap (λ (l : List Peer). l ++ (x.peer ∷ [])) done
              ∙ ap (λ (l : List Peer). each_times tries (take (at + 1) peers) ++ l) single;
          last = x;
          is_last = last_pushed None sends x;
          moment = sym moment;
        }

-- the servers of a lane
abbrev pub peers_of : List Server → List Peer
peers_of list = map (λ (s : Server). s.peer) list

pub same_peers : (old : List Server) (at : ℕ) (s : Server) (table : Table) → slice_get old at ≡ Some s → peers_of (with_table old at s table) ≡ peers_of old
same_peers old at s table is =
    map-set_same (λ (x : Server). x.peer) old at (record s { requests = table }) s (sym (ap (λ (x : Server). x.peer) (get_or_from_slice_get old at s s is)))

pub peer_at : (list : List Server) (peers : List Peer) → peers_of list ≡ peers → (at : ℕ) (s : Server) → slice_get list at ≡ Some s → slice_get peers at ≡ Some s.peer
peer_at list peers are at s is =
    sym (ap (λ (l : List Peer). slice_get l at) are) ∙ slice_get-map (λ (x : Server). x.peer) list at ∙ ap (option_map (λ (x : Server). x.peer)) is

module _ (peers : List Peer) (tries : ℕ) where
  -- a request at the server at a place was sent so
  abbrev pub InTurn : (at : ℕ) → Trail → Pending → Type 0
  InTurn at t r = WentInTurn peers tries t.sends at r

  -- one that is taken in
  pub asked_in_turn : (old new : List Server) (owner : Owner) (request secret : List ℕ) (now : ℕ) (peer : Peer) (frame : Bytes) (h : IsAskedAt old new 0 owner request secret now peer frame) (x : Sending) → x.peer ≡ peer → now ≡ x.moment
      → peers_of old ≡ peers → 0 < tries → WentInTurn peers tries (x ∷ []) 0 h.asks.asked.made
  asked_in_turn old new owner request secret now peer frame h x to moment are some =
      first peers tries h.server.peer (peer_at old peers are 0 h.server h.is) some x (to ∙ h.peer_is) h.asks.asked.made h.asks.asked.once (h.asks.asked.moment ∙ moment)

  -- one that is sent again
  module _ (old new : List Server) (secret : List ℕ) (count now : ℕ) (owner : Owner) (peer : Peer) (frame : Bytes) (h : IsSent Auth old new secret count now owner peer frame)
      (are : peers_of old ≡ peers) (counts : count ≡ tries) (some : 0 < tries) (byte : tries < 256) (t : Trail) (was : WentInTurn peers tries t.sends h.at h.first.oldest.request) (x : Sending) (to : x.peer ≡ peer) (moment : now ≡ x.moment) where
    abbrev due_one : Pending
    due_one = h.first.oldest.request

    abbrev Further : (next : Option ℕ) → Goes next old new h.at h.first.server h.due.id due_one secret now peer frame → Type 0
    Further next g = Moved InTurn Auth old new secret count now owner peer frame h (longer t x) next g

    repeat : (g : IsRepeatedAt old new h.at h.due.id now peer frame) → due_one.sends < count → WentInTurn peers tries (plus t.sends x) h.at g.sent.after
    repeat g room =
        let both : Some g.server ≡ Some h.first.server = sym g.is ∙ h.first.is in
        let server : g.server ≡ h.first.server = cc in
        let requests : Some g.sent.before ≡ Some due_one = sym g.sent.was ∙ ap (λ (s : Server). request_of s.requests.places h.due.id) server ∙ h.first.oldest.is in
        let same : g.sent.before ≡ due_one = cc in
        let sent : g.sent.before.sends ≡ due_one.sends = ap (λ (p : Pending). p.sends) same in
        let more : g.sent.after.sends ≡ due_one.sends + 1 = omega (arith, g.sent.sends, sent, room, byte, counts) in
        let places : Some g.server.peer ≡ Some was.server = sym (peer_at old peers are h.at g.server g.is) ∙ was.is in
        let here : g.server.peer ≡ was.server = cc in
        again peers tries t.sends h.at due_one g.sent.after x was (g.sent.moment ∙ moment) more (omega (arith, room, counts)) (to ∙ g.peer_is ∙ here)

    hand : (mid : List Server) → peers_of mid ≡ peers → (g : IsAskedAt mid new (h.at + 1) due_one.owner due_one.octets secret now peer frame) → count ≤ due_one.sends → WentInTurn peers tries (plus t.sends x) (h.at + 1) g.asks.asked.made
    hand mid still g full =
        on peers tries t.sends h.at due_one g.asks.asked.made x was (g.asks.asked.moment ∙ moment) g.server.peer (peer_at mid peers still (h.at + 1) g.server g.is) (omega (arith, full, counts)) some g.asks.asked.once (to ∙ g.peer_is)

    by_way : (b : Bool) → nat_lt due_one.sends count ≡ b → (c : Bool) → nat_lt (h.at + 1) (length old) ≡ c
        → (g : Goes (cond b None (cond c (Some (h.at + 1)) None)) old new h.at h.first.server h.due.id due_one secret now peer frame) → Further (cond b None (cond c (Some (h.at + 1)) None)) g
    by_way true e c f g = repeat g (ltb-true due_one.sends count e)
    by_way false e true f g =
        let table : Table = record h.first.server.requests { places = set h.first.server.requests.places h.due.id None } in
        hand (with_table old h.at h.first.server table) (same_peers old h.at h.first.server table h.first.is ∙ are) g (ltb-false due_one.sends count e)
    by_way false e false f g =
        let wants : is_sought (Resend count) now due_one ≡ true = ap (λ (c : Bool). is_sought (cond c Endless (Resend count)) now due_one) (sym f) ∙ h.first.oldest.wants in
        absurd (and_false (nat_le (due_one.sent_at + 3000) now) (ap (λ (b : Bool). nat_le (due_one.sent_at + 3000) now && b) (sym e) ∙ wants))

    pub sent_in_turn : Further (cond (nat_lt due_one.sends count) None (cond (nat_lt (h.at + 1) (length old)) (Some (h.at + 1)) None)) h.goes
    sent_in_turn = by_way (nat_lt due_one.sends count) refl (nat_lt (h.at + 1) (length old)) refl h.goes
