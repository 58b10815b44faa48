-- The lane of questions and accounting in a turn.
use Rattle.std.proofs.Common.{◌≡◌, ◌⊎◌, ℕ, ◌≤◌, List, [], ◌∷◌, ◌++◌, Option, None, Some, map, length, take, refl, sym, ap, subst, ◌∙◌}
use Rattle.bng_base.specs.declared.address.Peer.{Peer}
use Rattle.bng_base.specs.declared.item.Entry.{Entry}
use Rattle.bng_base.proofs.ChainLaws.{chain_keeps}
use Rattle.bng_engine.specs.Views.{ShardView}
use Rattle.bng_billing.specs.Records.{IsFormedBy}
use Rattle.bng_billing.specs.State.{BillingState}
use Rattle.bng_lane.specs.Due.{GivesUp}
use Rattle.bng_lane.specs.Replies.{Takes}
use Rattle.bng_lane.specs.State.{LaneState}
use Rattle.bng_rad_client.specs.Table.{taken}
use Rattle.bng_steps.specs.Protocol.{ShardState}
use Rattle.bng_steps.specs.Questions.{Asking, waiting}
use Rattle.bng_verdict.specs.declared.question.QuestionNo.{QuestionNo}
use Rattle.bng_desk.specs.Accounting.{FormedRecord, Forms}
use Rattle.bng_desk.specs.Kept.{rested}
use Rattle.bng_desk.specs.Logins.{Answered, Requests, Hears, TimesOut, SettlesLane, waiting_in}

abbrev server_of : LaneState → Peer
server_of l = l.client.auth_server

takes_server : (from : Peer) (octets : List ℕ) (found : Option QuestionNo) (l l' : LaneState) → Takes l from octets found l' → server_of l' ≡ server_of l
takes_server from octets None l l' (none, same) = ap server_of same
takes_server from octets (Some q) l l' (counts, same) = ap server_of same

-- the server stays
pub hears_server : (answers : List Answered) (l l' : LaneState) → Hears l answers l' → server_of l' ≡ server_of l
hears_server answers l l' hears =
    chain_keeps (λ m (a : Answered) n. Takes m a.arrival.from a.arrival.octets a.found n) (λ (m : LaneState). server_of m ≡ server_of l) (λ m n a takes same. takes_server a.arrival.from a.arrival.octets a.found m n takes ∙ same) l l' answers hears refl

pub times_out_server : (now most : ℕ) (timed : List QuestionNo) (l l' : LaneState) → TimesOut now most l timed l' → server_of l' ≡ server_of l
times_out_server now most timed l l' t =
    chain_keeps (λ m (q : QuestionNo) n. GivesUp m now (Some q) n) (λ (m : LaneState). server_of m ≡ server_of l) (λ m n q gives same. ap server_of gives.1 ∙ same) l l' timed t.given_up refl

pub forms_server : (formed : List FormedRecord) (b b' : BillingState) → Forms b formed b' → b'.client.acct_server ≡ b.client.acct_server
forms_server formed b b' forms =
    chain_keeps (λ m (f : FormedRecord) n. IsFormedBy m f.status f.facts f.moment f.number n) (λ (m : BillingState). m.client.acct_server ≡ b.client.acct_server) (λ m n f one same. ap (λ (x : BillingState). x.client.acct_server) one.others ∙ same) b b' formed forms refl

-- a shard's questions do not see a round
pub waiting_rested : (vs : List (ShardView ShardState Entry)) (handed : List (List ℕ)) → waiting_in (map rested vs) handed ≡ waiting_in vs handed
waiting_rested [] handed = refl
waiting_rested (v ∷ vs) [] = refl
waiting_rested (v ∷ vs) (h ∷ handed) = ap (λ (asks : List Asking). waiting v.state.slots h ++ asks) (waiting_rested vs handed)

pub settles_rested : (now : ℕ) (l l' : LaneState) (vs : List (ShardView ShardState Entry)) (handed handed' : List (List ℕ)) (seed : List ℕ) (drawn : ℕ) (q : Requests) → SettlesLane now l vs handed seed drawn q l' handed' → SettlesLane now l (map rested vs) handed seed drawn q l' handed'
settles_rested now l l' vs handed handed' seed drawn q s =
    let same : waiting_in vs handed ≡ waiting_in (map rested vs) handed = sym (waiting_rested vs handed) in
    record {
      mid = s.mid;
      resends = s.resends;
      asks = s.asks;
      questions = s.questions ∙ ap (λ (asks : List Asking). take (length q.asked) asks) same;
      all = subst (λ (asks : List Asking). (length q.asked ≡ length asks) ⊎ (256 ≤ taken l'.client.auth.places)) same s.all;
      authenticators = s.authenticators;
      handed_is = s.handed_is;
    }
