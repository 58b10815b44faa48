-- Each call keeps what holds of requests and records.
use Rattle.std.proofs.Common.{◌≡◌, ◌≢◌, inl, inr, ◌⊎◌, ⊎_elim, ℕ, ◌<◌, true, List, [], ◌∷◌, ◌++◌, length, set, Option, Some, None, refl, sym, ap, subst, ◌∙◌, arith}
use Rattle.std.specs.Prelude.{is_some}
use Rattle.std.proofs.lemmas.Bool.{cases_eq}
use Rattle.std.proofs.lemmas.List.{length-set, get_or-set_same, get_or-set_other}
use Rattle.bng_base.specs.Packet.{Packet as Bytes}
use Rattle.bng_radius_wire.specs.Grammar.{length_in}
use Rattle.bng_rad_client.specs.declared.pending.Pending.{Pending}
use Rattle.bng_rad_client.specs.Asking.{IsAsked}
use Rattle.bng_rad_client.specs.Sends.{IsSentAgain}
use Rattle.bng_rad_client.specs.State.{State as Client, IsOpened as IsNewClient}
use Rattle.bng_rad_client.specs.Table.{Table, request_of}
use Rattle.bng_base.specs.declared.address.Peer.{Peer}
use Rattle.bng_acct.specs.declared.facts.StatusType.{StatusType}
use Rattle.bng_acct.specs.declared.facts.TermFacts.{TermFacts}
use Rattle.bng_acct.specs.declared.facts.Moment.{Moment}
use Rattle.bng_acct.specs.declared.rules.AcctRules.{AcctRules}
use Rattle.bng_acct.specs.declared.sheet.Sheet.{Sheet}
use Rattle.bng_acct.specs.Queue.{sheet_at, AreWaiting, IsIn, is_waiting}
use Rattle.bng_acct.specs.Spool.{State as Spool, IsOpened as IsNewSpool, Forms, HandsOver, only_stop}
use Rattle.bng_acct.proofs.Queues.{waits_more, waits_less, waits_without}
use Rattle.bng_billing.specs.State.{BillingState, places_of, owner_of}
use Rattle.bng_billing.specs.Invariant.{SaysRecord, IsOfRecord, IsOut, IsBilling}
use Rattle.bng_billing.specs.Replies.{IsAcknowledged}
use Rattle.bng_billing.specs.Stopping.{StopsOnly, is_known, unless_lost}
use Rattle.bng_billing.proofs.Places.{written, within, no_request}
use Rattle.bng_billing.proofs.Numbers.{one_number, some_is, none_some, unhanded_is, in_push, in_last, in_without, in_filter, only_stop_is, still_some, not_lost, known_stays, knows_record, waits_stops}
use Rattle.bng_billing.proofs.Signing.{says_record}

-- a request that stays is of its record as long as that stays
pub carried : (c c' : Client) (s s' : Spool) (id : ℕ) (q r : Pending) → (h : IsOfRecord c s id q) → r.owner ≡ q.owner → r.octets ≡ q.octets
    → sheet_at s'.sheets h.number ≡ sheet_at s.sheets h.number → s'.rules ≡ s.rules → c'.secret ≡ c.secret → IsOfRecord c' s' id r
carried c c' s s' id q r h owner octets same rules secret = record {
  number = h.number;
  owner_is = owner ∙ h.owner_is;
  sheet = h.sheet;
  is_open = same ∙ h.is_open;
  handed = h.handed;
  says = subst (λ (x : AcctRules). SaysRecord x c'.secret h.sheet.record id r.octets) (sym rules)
      (subst (λ (x : List ℕ). SaysRecord s.rules x h.sheet.record id r.octets) (sym secret) (subst (SaysRecord s.rules c.secret h.sheet.record id) (sym octets) h.says));
}

pub new_billing : (c : Client) (s : Spool) (auth acct : Peer) (secret : List ℕ) (tries : ℕ) (rules : AcctRules) → IsNewClient c auth acct secret tries → IsNewSpool rules s → IsBilling c s
new_billing c s auth acct secret tries rules client spool = record {
  size = ap (λ (t : Table). length t.places) client.acct_is;
  requests = λ id r is. absurd (none id r is);
  apart = λ i j q r is js same. absurd (none i q is);
  wait = subst (AreWaiting s.sheets) (sym spool.none_waits) (record { each = tt; apart = tt });
  records = λ n x is. absurd (none_some x (sym (ap (λ (sheets : List (Option Sheet)). sheet_at sheets n) spool.no_sheet) ∙ is));
  auth = client.auth_is;
}
  where
    none : (id : ℕ) (r : Pending) → request_of c.acct.places id ≡ Some r → ⊥
    none id r is = none_some r (sym (no_request 256 id) ∙ ap (λ (t : Table). request_of t.places id) (sym client.acct_is) ∙ is)

-- A record is formed --------------------------------------------------------------------------------------------------------

pub forms_keeps : (c : Client) (s s' : Spool) (status : StatusType) (facts : TermFacts) (moment : Moment) (n : ℕ) → Forms s s' status facts moment n → IsBilling c s → IsBilling c s'
forms_keeps c s s' status facts moment n f b = record {
  size = b.size;
  requests = λ id r is. let h = b.requests id r is in carried c c s s' id r r h refl refl (f.sets.others h.number (old h.number h.sheet h.is_open)) f.rules refl;
  apart = b.apart;
  wait = subst (AreWaiting s'.sheets) (sym f.waits) (waits_more s.sheets s'.sheets s.waiting n f.sheet b.wait f.fresh f.sets f.unhanded);
  records = λ m x is. ⊎_elim
      (λ (e : m ≡ n). inl (subst (IsIn m) (sym f.waits) (subst (λ (k : ℕ). IsIn k (s.waiting ++ n ∷ [])) (sym e) (in_last s.waiting n))))
      (λ (other : m ≢ n). ⊎_elim (λ w. inl (subst (IsIn m) (sym f.waits) (in_push s.waiting n m w))) (λ o. inr o) (b.records m x (sym (f.sets.others m other) ∙ is)))
      (cases_eq m n);
  auth = b.auth;
}
  where
    old : (m : ℕ) (x : Sheet) → sheet_at s.sheets m ≡ Some x → m ≢ n
    old m x is e = none_some x (sym f.fresh ∙ ap (sheet_at s.sheets) (sym e) ∙ is)

-- A record is handed out ----------------------------------------------------------------------------------------------------

module _ (c c' : Client) (s s' : Spool) (n now id : ℕ) (request frame : Bytes) (h : HandsOver s s' n request) (a : IsAsked c.acct c'.acct (owner_of n) h.holds.packet c.secret now id frame)
    (unpadded : length_in frame.payload ≡ length frame.payload) (secret : c'.secret ≡ c.secret) (auth : c'.auth ≡ c.auth) (b : IsBilling c s) where
  pub sends_says : SaysRecord s.rules c.secret h.sheet.record id frame.payload
  sends_says = says_record s.rules c.secret h.sheet.record id request frame.payload h.holds a.reads unpadded

  waited : AreWaiting s.sheets (n ∷ s'.waiting)
  waited = subst (AreWaiting s.sheets) h.first b.wait

  fresh : (m : ℕ) (x : Sheet) → sheet_at s.sheets m ≡ Some x → x.handed ≡ true → m ≢ n
  fresh m x is handed e = unhanded_is x (sym (ap is_waiting (ap (sheet_at s.sheets) (sym e) ∙ is)) ∙ waited.each.0) handed

  place : id < length c.acct.places
  place = omega (arith, b.size, a.next.place)

  pub sends_pending : request_of c'.acct.places id ≡ Some a.made
  sends_pending = ap (λ (ps : List (Option Pending)). request_of ps id) a.places ∙ get_or-set_same c.acct.places id (Some a.made) None place

  made_is : IsOfRecord c' s' id a.made
  made_is = record {
    number = n;
    owner_is = a.owner_is;
    sheet = record h.sheet { handed = true };
    is_open = h.sets.changed;
    handed = refl;
    says = subst (λ (x : AcctRules). SaysRecord x c'.secret h.sheet.record id a.made.octets) (sym h.rules)
        (subst (λ (x : List ℕ). SaysRecord s.rules x h.sheet.record id a.made.octets) (sym secret) (subst (SaysRecord s.rules c.secret h.sheet.record id) (sym a.octets) sends_says));
  }

  -- what is out after it is the new request, or was out
  was : (i : ℕ) (r : Pending) → request_of c'.acct.places i ≡ Some r → ((i ≡ id) × (a.made ≡ r)) ⊎ (request_of c.acct.places i ≡ Some r)
  was i r is =
      let there : request_of (set c.acct.places id (Some a.made)) i ≡ Some r = ap (λ (ps : List (Option Pending)). request_of ps i) (sym a.places) ∙ is in
      ⊎_elim (λ put. inl (put.0, some_is a.made r (sym put.1 ∙ there))) (λ same. inr (sym same ∙ there)) (written c.acct.places id i (Some a.made) None)

  other_record : (i : ℕ) (r : Pending) → request_of c.acct.places i ≡ Some r → r.owner ≡ owner_of n → ⊥
  other_record i r is e = let o = b.requests i r is in fresh o.number o.sheet o.is_open o.handed (one_number o.number n (sym o.owner_is ∙ e))

  pub sends_keeps : IsBilling c' s'
  sends_keeps = record {
    size = ap length a.places ∙ length-set c.acct.places id (Some a.made) ∙ b.size;
    requests = λ i r is. ⊎_elim
        (λ put. subst (λ (j : ℕ). IsOfRecord c' s' j r) (sym put.0) (subst (IsOfRecord c' s' id) put.1 made_is))
        (λ old. let o = b.requests i r old in carried c c' s s' i r r o refl refl (h.sets.others o.number (fresh o.number o.sheet o.is_open o.handed)) h.rules secret)
        (was i r is);
    apart = λ i j q r is js same. ⊎_elim
        (λ put. ⊎_elim
        (λ also. put.0 ∙ sym also.0)
        (λ old. absurd (other_record j r old (sym same ∙ sym (ap (λ (x : Pending). x.owner) put.1) ∙ a.owner_is)))
        (was j r js))
        (λ old. ⊎_elim
        (λ put. absurd (other_record i q old (same ∙ sym (ap (λ (x : Pending). x.owner) put.1) ∙ a.owner_is)))
        (λ also. b.apart i j q r old also same)
        (was j r js))
        (was i q is);
    wait = waits_less s.sheets s'.sheets s'.waiting n waited h.sets.others;
    records = λ m x is. ⊎_elim
        (λ (e : m ≡ n). inr (record { id = id; request = a.made; pending = sends_pending; owner_is = a.owner_is ∙ ap owner_of (sym e) }))
        (λ (other : m ≢ n). ⊎_elim
        (λ w. ⊎_elim (λ (e : n ≡ m). absurd (other (sym e))) (λ later. inl later) (subst (IsIn m) h.first w))
        (λ out. inr (record {
          id = out.id;
          request = out.request;
          pending = ap (λ (ps : List (Option Pending)). request_of ps out.id) a.places
              ∙ get_or-set_other c.acct.places id out.id (Some a.made) None (λ (e : out.id ≡ id). none_some out.request (sym a.next.free ∙ ap (request_of c.acct.places) (sym e) ∙ out.pending))
              ∙ out.pending;
          owner_is = out.owner_is;
        }))
        (b.records m x (sym (h.sets.others m other) ∙ is)))
        (cases_eq m n);
    auth = auth ∙ b.auth;
  }

-- A record is acknowledged --------------------------------------------------------------------------------------------------

pub acks_keeps : (c c' : Client) (s s' : Spool) (n id : ℕ) (request : Pending) → request_of c.acct.places id ≡ Some request → request.owner ≡ owner_of n → c'.acct.places ≡ set c.acct.places id None
    → c'.secret ≡ c.secret → c'.auth ≡ c.auth → IsAcknowledged s s' n → IsBilling c s → IsBilling c' s'
acks_keeps c c' s s' n id request pending owner places secret auth k b = record {
  size = ap length places ∙ length-set c.acct.places id None ∙ b.size;
  requests = λ i r is. let o = b.requests i r (was i r is) in carried c c' s s' i r r o refl refl (k.sets.others o.number (apart_of i r is (was i r is) o.number o.owner_is)) k.rules secret;
  apart = λ i j q r is js same. b.apart i j q r (was i q is) (was j r js) same;
  wait = subst (AreWaiting s'.sheets) (sym k.waiting) (waits_without s.sheets s'.sheets s.waiting n b.wait k.sets.others);
  records = λ m x is. ⊎_elim
      (λ (e : m ≡ n). absurd (none_some x (sym k.sets.changed ∙ ap (sheet_at s'.sheets) (sym e) ∙ is)))
      (λ (other : m ≢ n). ⊎_elim
      (λ w. inl (subst (IsIn m) (sym k.waiting) (in_without s.waiting n m other w)))
      (λ out. inr (record {
        id = out.id;
        request = out.request;
        pending = ap (λ (ps : List (Option Pending)). request_of ps out.id) places ∙ get_or-set_other c.acct.places id out.id None None (λ (e : out.id ≡ id). other (same_number m out e)) ∙ out.pending;
        owner_is = out.owner_is;
      }))
      (b.records m x (sym (k.sets.others m other) ∙ is)))
      (cases_eq m n);
  auth = auth ∙ b.auth;
}
  where
    there : (i : ℕ) (r : Pending) → request_of c'.acct.places i ≡ Some r → request_of (set c.acct.places id None) i ≡ Some r
    there i r is = ap (λ (ps : List (Option Pending)). request_of ps i) (sym places) ∙ is

    was : (i : ℕ) (r : Pending) → request_of c'.acct.places i ≡ Some r → request_of c.acct.places i ≡ Some r
    was i r is = ⊎_elim (λ gone. absurd (none_some r (sym gone.1 ∙ there i r is))) (λ same. sym same ∙ there i r is) (written c.acct.places id i None None)

    apart_of : (i : ℕ) (r : Pending) → request_of c'.acct.places i ≡ Some r → request_of c.acct.places i ≡ Some r → (m : ℕ) → r.owner ≡ owner_of m → m ≢ n
    apart_of i r is old m o e =
        let at : i ≡ id = b.apart i id r request old pending (o ∙ ap owner_of e ∙ sym owner) in
        none_some r (sym (get_or-set_same c.acct.places id None None (within c.acct.places id request pending)) ∙ ap (request_of (set c.acct.places id None)) (sym at) ∙ there i r is)

    same_number : (m : ℕ) (out : IsOut c.acct.places m) → out.id ≡ id → m ≡ n
    same_number m out e =
        let same : out.request ≡ request = some_is out.request request (sym out.pending ∙ ap (request_of c.acct.places) e ∙ pending) in
        one_number m n (sym out.owner_is ∙ ap (λ (x : Pending). x.owner) same ∙ owner)

-- A request is sent again ---------------------------------------------------------------------------------------------------

module _ (c c' : Client) (s : Spool) (id now : ℕ) (frame : Bytes) (a : IsSentAgain c.acct c'.acct id now frame) (secret : c'.secret ≡ c.secret) (auth : c'.auth ≡ c.auth) (b : IsBilling c s) where
  -- what is out after it was so before, with the same octets and owner
  pub again_was : (i : ℕ) (r : Pending) → request_of c'.acct.places i ≡ Some r → (q : Pending) × (request_of c.acct.places i ≡ Some q) × (r.owner ≡ q.owner) × (r.octets ≡ q.octets)
  again_was i r is =
      let there : request_of (set c.acct.places id (Some a.after)) i ≡ Some r = ap (λ (ps : List (Option Pending)). request_of ps i) (sym a.places) ∙ is in
      ⊎_elim
      (λ put.
      let e : a.after ≡ r = some_is a.after r (sym put.1 ∙ there) in
      (a.before, ap (request_of c.acct.places) put.0 ∙ a.was, sym (ap (λ (x : Pending). x.owner) e) ∙ a.owner, sym (ap (λ (x : Pending). x.octets) e) ∙ a.octets))
      (λ same. (r, sym same ∙ there, refl, refl))
      (written c.acct.places id i (Some a.after) None)

  -- and what was out is so
  pub again_is : (i : ℕ) (q : Pending) → request_of c.acct.places i ≡ Some q → (r : Pending) × (request_of c'.acct.places i ≡ Some r) × (r.owner ≡ q.owner) × (r.octets ≡ q.octets)
  again_is i q is = ⊎_elim
      (λ (e : i ≡ id).
      let same : a.before ≡ q = some_is a.before q (sym a.was ∙ ap (request_of c.acct.places) (sym e) ∙ is) in (
        a.after,
        ap (λ (ps : List (Option Pending)). request_of ps i) a.places ∙ ap (request_of (set c.acct.places id (Some a.after))) e
            ∙ get_or-set_same c.acct.places id (Some a.after) None (within c.acct.places id a.before a.was),
        a.owner ∙ ap (λ (x : Pending). x.owner) same,
        a.octets ∙ ap (λ (x : Pending). x.octets) same,
      ))
      (λ (other : i ≢ id). (q, ap (λ (ps : List (Option Pending)). request_of ps i) a.places ∙ get_or-set_other c.acct.places id i (Some a.after) None other ∙ is, refl, refl))
      (cases_eq i id)

  pub again_keeps : IsBilling c' s
  again_keeps = record {
    size = ap length a.places ∙ length-set c.acct.places id (Some a.after) ∙ b.size;
    requests = λ i r is. let w = again_was i r is in carried c c' s s i w.0 r (b.requests i w.0 w.1) w.2 w.3 refl refl secret;
    apart = λ i j q r is js same. let w = again_was i q is in let v = again_was j r js in b.apart i j w.0 v.0 w.1 v.1 (sym w.2 ∙ same ∙ v.2);
    wait = b.wait;
    records = λ m x is. ⊎_elim
        (λ w. inl w)
        (λ out. let o = again_is out.id out.request out.pending in inr (record { id = out.id; request = o.0; pending = o.1; owner_is = o.2 ∙ out.owner_is }))
        (b.records m x is);
    auth = auth ∙ b.auth;
  }

-- The stop ------------------------------------------------------------------------------------------------------------------

module _ (old new : BillingState) (k : StopsOnly old new) (b : IsBilling old.client old.spool) where
  pub stop_was : (i : ℕ) (r : Pending) → request_of (places_of new) i ≡ Some r → (request_of (places_of old) i ≡ Some r) × (is_known new.spool.sheets r.owner ≡ true)
  stop_was i r is = not_lost new.spool.sheets (request_of (places_of old) i) r (sym (k.places i) ∙ is)

  pub stop_is : (i n : ℕ) (r : Pending) (x : Sheet) → request_of (places_of old) i ≡ Some r → r.owner ≡ owner_of n → sheet_at new.spool.sheets n ≡ Some x → request_of (places_of new) i ≡ Some r
  stop_is i n r x is owner there =
      k.places i ∙ ap (unless_lost new.spool.sheets) is ∙ known_stays new.spool.sheets r (knows_record new.spool.sheets r.owner n owner ∙ ap is_some there)

  of_record : (i : ℕ) (r : Pending) → request_of (places_of new) i ≡ Some r → IsOfRecord new.client new.spool i r
  of_record i r is =
      let w = stop_was i r is in
      let o = b.requests i r w.0 in
      let known : is_some (only_stop (sheet_at old.spool.sheets o.number)) ≡ true =
      ap is_some (sym (k.sheets o.number)) ∙ sym (knows_record new.spool.sheets r.owner o.number o.owner_is) ∙ w.1 in
      carried old.client new.client old.spool new.spool i r r o refl refl (k.sheets o.number ∙ still_some (sheet_at old.spool.sheets o.number) o.sheet o.is_open known ∙ sym o.is_open) k.rules
      (ap (λ (x : BillingState). x.client.secret) k.others)

  pub stops_keeps : IsBilling new.client new.spool
  stops_keeps = record {
    size = k.size ∙ b.size;
    requests = of_record;
    apart = λ i j q r is js same. b.apart i j q r (stop_was i q is).0 (stop_was j r js).0 same;
    wait = subst (AreWaiting new.spool.sheets) (sym k.waiting) (waits_stops old.spool.sheets new.spool.sheets old.spool.waiting b.wait k.sheets);
    records = λ m x is.
        let was = only_stop_is (sheet_at old.spool.sheets m) x (sym (k.sheets m) ∙ is) in
        ⊎_elim
        (λ w. inl (subst (IsIn m) (sym k.waiting) (in_filter _ old.spool.waiting m was.1 w)))
        (λ out. inr (record { id = out.id; request = out.request; pending = stop_is out.id m out.request x out.pending out.owner_is is; owner_is = out.owner_is }))
        (b.records m x was.0);
    auth = ap (λ (x : BillingState). x.client.auth) k.others ∙ b.auth;
  }
