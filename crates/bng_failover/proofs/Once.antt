-- Each request is answered once: what a call takes in, answers and gives back, over lists of calls.
use Rattle.std.proofs.Common.{◌≡◌, ℕ, ◌+◌, ◌≤◌, Bool, List, [], ◌∷◌, Option, Some, None, ap, ◌∙◌, arith}
use Rattle.std.specs.Prelude.{sum_by}
use Rattle.std.proofs.lemmas.List.Sums.{sum_by-cons}
use Rattle.bng_base.specs.Chain.{Chain}
use Rattle.bng_base.specs.Packet.{Packet as Bytes}
use Rattle.bng_rad_client.specs.declared.rules.Lane.{Lane}
use Rattle.bng_rad_client.specs.declared.rules.Lane.TheVariants.{Auth, Acct}
use Rattle.bng_rad_client.specs.declared.rules.Owner.{Owner}
use Rattle.bng_failover.specs.declared.rules.FailAsked.{FailAsked}
use Rattle.bng_failover.specs.declared.rules.FailAsked.TheVariants.{Send, Waiting}
use Rattle.bng_failover.specs.declared.rules.FailoverRules.{FailoverRules}
use Rattle.bng_failover.specs.declared.server.Server.{Server}
use Rattle.bng_failover.specs.Servers.{held, Leaves}
use Rattle.bng_failover.specs.State.{State, servers_of, ChangesLane, IsOpened, timed_out}
use Rattle.bng_failover.specs.Calls.{Call, Asked, Heard, Due, Withdrawn, Does, DoesAsk, some_of, in_lane, sent_of, taken_in, answers, gives_back, EachOnce}
use Rattle.bng_failover.specs.Replies.{answered}
use Rattle.bng_failover.proofs.Opening.{opened_held}

module _ (test : Owner → Bool) where
  abbrev held_in : State → Lane → ℕ
  held_in s lane = held test (servers_of s lane)

  -- more are in hand in a lane
  more : (lane of : Lane) (old new : State) (n : ℕ) → held_in new of ≡ held_in old of + n → ChangesLane old new of → in_lane lane of n + held_in old lane ≡ held_in new lane
  more Auth Auth old new n h kept = omega (arith, h)
  more Auth Acct old new n h kept = omega (arith, ap (held test) kept.servers)
  more Acct Auth old new n h kept = omega (arith, ap (held test) kept.servers)
  more Acct Acct old new n h kept = omega (arith, h)

  -- fewer are in hand in a lane
  fewer : (lane of : Lane) (old new : State) (n : ℕ) → held_in old of ≡ held_in new of + n → ChangesLane old new of → held_in old lane ≡ in_lane lane of n + held_in new lane
  fewer Auth Auth old new n h kept = omega (arith, h)
  fewer Auth Acct old new n h kept = omega (arith, ap (held test) kept.servers)
  fewer Acct Auth old new n h kept = omega (arith, ap (held test) kept.servers)
  fewer Acct Acct old new n h kept = omega (arith, h)

  left : (o : Option Owner) (xs ys : List Server) → Leaves o xs ys → held test xs ≡ held test ys + some_of test o
  left None xs ys h = omega (arith, h test)
  left (Some owner) xs ys h = h test

  asks : (lane of : Lane) (old new : State) (owner : Owner) (request : List ℕ) (now : ℕ) (frame : Bytes) (result : FailAsked) → DoesAsk old new of owner request now frame result
      → in_lane lane of (some_of test (sent_of result owner)) + held_in old lane ≡ held_in new lane
  asks lane of old new owner request now frame (Send peer) h = more lane of old new (some_of test (Some owner)) (h.owners test) h.others
  asks lane of old new owner request now frame Waiting h = more lane of old new 0 (ap (λ (s : State). held_in s of) h.kept ∙ omega arith) h.others

  dues : (lane : Lane) (old new : State) (o : Option Owner) → Leaves o old.auth new.auth → (held test new.acct ≡ held test old.acct) → held_in old lane ≡ in_lane lane Auth (some_of test o) + held_in new lane
  dues Auth old new o h kept = omega (arith, left o old.auth new.auth h)
  dues Acct old new o h kept = omega (arith, kept)

  pub call : (lane : Lane) (old new : State) (c : Call) → Does old c new → taken_in lane test c + held_in old lane ≡ answers lane test c + gives_back lane test c + held_in new lane
  call lane old new (Asked of owner request now frame result) h = omega (arith, asks lane of old new owner request now frame result h)
  call lane old new (Heard of from octets result) h = omega (arith, fewer lane of old new (some_of test (answered result)) (left (answered result) (servers_of old of) (servers_of new of) h.owners) h.others)
  call lane old new (Due now timeouts frame result whose) h = omega (arith, dues lane old new (timed_out result) h.auth (h.acct test))
  call lane old new (Withdrawn of server id result) h = omega (arith, fewer lane of old new (some_of test result) (left result (servers_of old of) (servers_of new of) h.owners) h.others)

  calls_from : (lane : Lane) (s last : State) (calls : List Call) → Chain Does s calls last
      → sum_by (taken_in lane test) calls + held_in s lane ≡ sum_by (answers lane test) calls + sum_by (gives_back lane test) calls + held_in last lane
  calls_from lane s last [] e = omega (arith, ap (λ (x : State). held_in x lane) e)
  calls_from lane s last (c ∷ calls) (mid, does, rest) =
      omega (
        arith,
        call lane s mid c does,
        calls_from lane mid last calls rest,
        sum_by-cons (taken_in lane test) c calls,
        sum_by-cons (answers lane test) c calls,
        sum_by-cons (gives_back lane test) c calls,
      )

  none_at_first : (rules : FailoverRules) (s : State) (lane : Lane) → IsOpened rules s → held_in s lane ≡ 0
  none_at_first rules s Auth h = ap (held test) h.auth ∙ opened_held test rules.auth
  none_at_first rules s Acct h = ap (held test) h.acct ∙ opened_held test rules.acct

  pub each_once : (rules : FailoverRules) (opening last : State) (calls : List Call) (lane : Lane) → IsOpened rules opening → Chain Does opening calls last → EachOnce lane test calls last
  each_once rules opening last calls lane opened chain = omega (arith, calls_from lane opening last calls chain, none_at_first rules opening lane opened)

  pub at_most_once : (rules : FailoverRules) (opening last : State) (calls : List Call) (lane : Lane) → IsOpened rules opening → Chain Does opening calls last
      → sum_by (answers lane test) calls ≤ sum_by (taken_in lane test) calls
  at_most_once rules opening last calls lane opened chain = omega (arith, each_once rules opening last calls lane opened chain)
