-- Datagrams of Acct that accounting hears, and requests of records that are sent, one after the other.
use Rattle.std.proofs.Common.{◌≡◌, ℕ, ◌<◌, ◌≤◌, Bool, true, false, List, [], ◌∷◌, ◌++◌, Option, None, length, map, refl, sym, ap, subst, ◌∙◌, arith}
use Rattle.std.specs.Prelude.{IfNone}
use Rattle.std.proofs.lemmas.List.{map-append}
use Rattle.bng_base.specs.declared.address.Peer.{Peer}
use Rattle.bng_base.specs.declared.outside.Received.TheVariants.{Got}
use Rattle.bng_base.specs.declared.outside.Role.TheVariants.{Acct}
use Rattle.bng_base.specs.Chain.{Chain}
use Rattle.bng_base.specs.FateOf.{Arrival}
use Rattle.bng_base.specs.Stretch.{ExtendsPlant}
use Rattle.bng_base.specs.Told.{PlantTold}
use Rattle.bng_base.proofs.ChainLaws.{chain_more}
use Rattle.bng_base.proofs.StretchLaws.{plant_more}
use Rattle.bng_billing.specs.Due.{IsResentBy, NoneToResend}
use Rattle.bng_billing.specs.Replies.{Takes}
use Rattle.bng_billing.specs.Sending.{IsSentBy, NoneToSend}
use Rattle.bng_billing.specs.State.{BillingState, noted}
use Rattle.bng_lane.specs.Sends.{LaneSend}
use Rattle.bng_desk.specs.declared.reading.ReadEnd.{ReadEnd}
use Rattle.bng_desk.specs.Accounting.{Acknowledged, Gives, HearsRecords, RecordSend, Resends, acknowledged_most, record_stretch}
use Rattle.bng_desk.specs.Intake.{GivesRecords, ResendsRecords, SendsRecords, TakesAcknowledgements}
use Rattle.bng_desk.specs.Reading.{EndsRight, is_empty, receiving, ending_stretch, sending}
use Rattle.bng_desk.proofs.Billed.{all_given_keep, all_resent_keep}
use Rattle.bng_desk.proofs.Going.{never_empty}
use Rattle.bng_desk.proofs.RadiusSends.{sent_join, sent_more}
use Rattle.bng_desk.proofs.TakeLaws.{one_taken, taking}

-- What is heard -----------------------------------------------------------------------------------------------------------

abbrev arrivals_of : List Acknowledged → List Arrival
arrivals_of acks = map (λ (a : Acknowledged). a.arrival) acks

-- what was heard of Acct so far
pub record HeardRecords (old new : PlantTold) (b b' : BillingState) (quiet : Bool) (acks : List Acknowledged) : Type 0 where
  pub told : ExtendsPlant old new (taking Acct (arrivals_of acks))
  pub hears : HearsRecords b acks b'
  pub quiet_is : quiet ≡ is_empty acks

pub heard_none : (p : PlantTold) (b : BillingState) → ExtendsPlant p p (taking Acct []) → HeardRecords p p b b true []
heard_none p b stays = record { told = stays; hears = refl; quiet_is = refl }

-- one datagram more
pub heard_more : (p₀ p₁ p₂ : PlantTold) (b₀ b₁ b₂ : BillingState) (quiet : Bool) (acks : List Acknowledged) (a : Acknowledged) → HeardRecords p₀ p₁ b₀ b₁ quiet acks
    → ExtendsPlant p₁ p₂ (receiving Acct (Got a.arrival.from a.arrival.cut) a.arrival.octets) → Takes b₁ a.arrival.from a.arrival.octets a.found b₂ → HeardRecords p₀ p₂ b₀ b₂ false (acks ++ a ∷ [])
heard_more p₀ p₁ p₂ b₀ b₁ b₂ quiet acks a so_far told takes = record {
  told = subst (λ (xs : List Arrival). ExtendsPlant p₀ p₂ (taking Acct xs)) (sym (map-append (λ (x : Acknowledged). x.arrival) acks (a ∷ []))) (one_taken Acct p₀ p₁ p₂ (arrivals_of acks) a.arrival so_far.told told);
  hears = chain_more (λ b (x : Acknowledged) b'. Takes b x.arrival.from x.arrival.octets x.found b') b₀ b₁ b₂ acks a so_far.hears takes;
  quiet_is = never_empty acks a;
}

-- and Acct was read
pub acct_read : (old was new : PlantTold) (b b' : BillingState) (quiet : Bool) (acks : List Acknowledged) (ended : ReadEnd) → EndsRight acknowledged_most (length acks) ended → HeardRecords old was b b' quiet acks
    → ExtendsPlant was new (ending_stretch Acct ended) → TakesAcknowledgements old new b b' quiet
acct_read old was new b b' quiet acks ended ends x last = record {
  acknowledged = acks;
  ended = ended;
  ends = ends;
  told = plant_more old was new (taking Acct (arrivals_of acks)) (ending_stretch Acct ended) x.told last;
  hears = x.hears;
  quiet_is = x.quiet_is;
}

-- Sent again --------------------------------------------------------------------------------------------------------------

abbrev server_of : BillingState → Peer
server_of b = b.client.acct_server

-- the octets of a request that is out
pub resent_size : (b m : BillingState) (now id : ℕ) (octets : List ℕ) → IsResentBy b now id octets m → length octets ≤ 4096
resent_size b m now id octets by =
    let r = by.resent.sent.before in
    omega (arith, ap (λ (os : List ℕ). length os) by.payload, ap (λ (os : List ℕ). length os) by.resent.sent.payload, r.most)

-- what was sent again so far
pub record ResentSome (now : ℕ) (old new : PlantTold) (b b' : BillingState) : Type 0 where
  pub again : List LaneSend
  pub resends : Chain (Resends now) b again b'
  pub told : ExtendsPlant old new (record_stretch (server_of b) again)

pub resent_none : (now : ℕ) (p : PlantTold) (b : BillingState) → ExtendsPlant p p (record_stretch (server_of b) []) → ResentSome now p p b b
resent_none now p b stays = record { again = []; resends = refl; told = stays }

pub resent_more : (now id : ℕ) (octets : List ℕ) (sent : Bool) (p₀ p₁ p₂ : PlantTold) (b₀ b₁ m b₂ : BillingState) → ResentSome now p₀ p₁ b₀ b₁ → IsResentBy b₁ now id octets m → b₂ ≡ noted id sent m
    → ExtendsPlant p₁ p₂ (sending Acct (server_of m) octets sent) → ResentSome now p₀ p₂ b₀ b₂
resent_more now id octets sent p₀ p₁ p₂ b₀ b₁ m b₂ so_far by same told =
    let s : LaneSend = record { id = id; octets = octets; sent = sent } in
    let at : server_of m ≡ server_of b₀ = ap server_of by.others ∙ (all_resent_keep now b₀ b₁ so_far.again so_far.resends).server in
    record {
      again = so_far.again ++ s ∷ [];
      resends = chain_more (Resends now) b₀ b₁ b₂ so_far.again s so_far.resends (m, by, same);
      told = sent_more Acct (server_of b₀) (server_of m) p₀ p₁ p₂ so_far.again s at so_far.told told;
    }

-- none is left
pub all_resent : {X : Type 0} (now : ℕ) (p p' : PlantTold) (b m b' : BillingState) (result : Option X) → ResentSome now p p' b m → IfNone result (NoneToResend m now) → IfNone result (b' ≡ m) → result ≡ None → ResendsRecords now p p' b b'
all_resent {X} now p p' b m b' result so_far none kept is =
    let same : b' ≡ m = subst (λ (r : Option X). IfNone r (b' ≡ m)) is kept in
    let done : NoneToResend m now = subst (λ (r : Option X). IfNone r (NoneToResend m now)) is none in
    record {
      again = so_far.again;
      resends = subst (λ (x : BillingState). Chain (Resends now) b so_far.again x) (sym same) so_far.resends;
      none_due = subst (λ (x : BillingState). NoneToResend x now) (sym same) done;
      told = so_far.told;
    }

-- Given out ---------------------------------------------------------------------------------------------------------------

abbrev sends_in : List RecordSend → List LaneSend
sends_in given = map (λ (r : RecordSend). r.send) given

-- what was given out so far
pub record GivenSome (now : ℕ) (old new : PlantTold) (b b' : BillingState) : Type 0 where
  pub given : List RecordSend
  pub gives : Chain (Gives now) b given b'
  pub told : ExtendsPlant old new (record_stretch (server_of b) (sends_in given))

pub given_none : (now : ℕ) (p : PlantTold) (b : BillingState) → ExtendsPlant p p (record_stretch (server_of b) []) → GivenSome now p p b b
given_none now p b stays = record { given = []; gives = refl; told = stays }

pub given_more : (now n id : ℕ) (octets : List ℕ) (sent : Bool) (p₀ p₁ p₂ : PlantTold) (b₀ b₁ m b₂ : BillingState) → GivenSome now p₀ p₁ b₀ b₁ → IsSentBy b₁ now n id octets m → b₂ ≡ noted id sent m
    → ExtendsPlant p₁ p₂ (sending Acct (server_of m) octets sent) → GivenSome now p₀ p₂ b₀ b₂
given_more now n id octets sent p₀ p₁ p₂ b₀ b₁ m b₂ so_far by same told =
    let r : RecordSend = record { number = n; send = record { id = id; octets = octets; sent = sent } } in
    let at : server_of m ≡ server_of b₀ = ap server_of by.others ∙ (all_given_keep now b₀ b₁ so_far.given so_far.gives).server in
    record {
      given = so_far.given ++ r ∷ [];
      gives = chain_more (Gives now) b₀ b₁ b₂ so_far.given r so_far.gives (m, by, same);
      told = subst (λ (ss : List LaneSend). ExtendsPlant p₀ p₂ (record_stretch (server_of b₀) ss)) (sym (map-append (λ (x : RecordSend). x.send) so_far.given (r ∷ [])))
          (sent_more Acct (server_of b₀) (server_of m) p₀ p₁ p₂ (sends_in so_far.given) r.send at so_far.told told);
    }

-- fewer wait then
pub fewer_wait : (now n id : ℕ) (octets : List ℕ) (sent : Bool) (b m b' : BillingState) → IsSentBy b now n id octets m → b' ≡ noted id sent m → length b'.spool.waiting < length b.spool.waiting
fewer_wait now n id octets sent b m b' by same = omega (arith, ap (λ (x : BillingState). length x.spool.waiting) same, ap (λ (ns : List ℕ). length ns) by.handed.first)

-- none is left, or there is no identifier
pub all_given : (now : ℕ) (p p' : PlantTold) (b m b' : BillingState) → GivenSome now p p' b m → NoneToSend m → b' ≡ m → GivesRecords now p p' b b'
all_given now p p' b m b' so_far none same = record {
  given = so_far.given;
  gives = subst (λ (x : BillingState). Chain (Gives now) b so_far.given x) (sym same) so_far.gives;
  all = subst (λ (x : BillingState). NoneToSend x) (sym same) none;
  told = so_far.told;
}

-- Both ----------------------------------------------------------------------------------------------------------------------

pub records_sent : (now : ℕ) (p₀ p₁ p₂ : PlantTold) (b₀ b₁ b₂ : BillingState) → ResendsRecords now p₀ p₁ b₀ b₁ → GivesRecords now p₁ p₂ b₁ b₂ → SendsRecords now p₀ p₂ b₀ b₂
records_sent now p₀ p₁ p₂ b₀ b₁ b₂ x y = record {
  requests = record { again = x.again; given = y.given };
  settles = record { mid = b₁; resends = x.resends; none_due = x.none_due; gives = y.gives; all = y.all };
  told = sent_join Acct (server_of b₀) (server_of b₁) p₀ p₁ p₂ x.again (sends_in y.given) (all_resent_keep now b₀ b₁ x.again x.resends).server x.told y.told;
}
