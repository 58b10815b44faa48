-- Over any calls what is sent is the Accounting-Request of a record that was formed, and of each Stop it is sent.
use Rattle.std.proofs.Common.{◌≡◌, inl, inr, ◌⊎◌, ⊎_elim, ℕ, zero, suc, ◌+◌, ◌<◌, Bool, true, List, [], ◌∷◌, Option, Some, None, refl, sym, ap, subst, ◌∙◌, arith}
use Rattle.std.specs.Prelude.{slice_get}
use Rattle.std.proofs.lemmas.Bool.{cases_eq}
use Rattle.bng_base.specs.Chain.{Chain}
use Rattle.bng_base.specs.declared.address.Peer.{Peer}
use Rattle.bng_acct.specs.declared.facts.Record.{Record}
use Rattle.bng_acct.specs.declared.facts.RecordNo.{RecordNo}
use Rattle.bng_acct.specs.declared.facts.StatusType.{StatusType}
use Rattle.bng_acct.specs.declared.facts.StatusType.TheVariants.{Stop, Start, Interim}
use Rattle.bng_acct.specs.declared.facts.TermFacts.{TermFacts}
use Rattle.bng_acct.specs.declared.facts.Moment.{Moment}
use Rattle.bng_acct.specs.declared.sheet.Sheet.{Sheet}
use Rattle.bng_acct.specs.Queue.{sheet_at}
use Rattle.bng_acct.specs.Spool.{is_stop, is_stop_sheet}
use Rattle.bng_billing.specs.declared.rules.BillingRules.{BillingRules}
use Rattle.bng_billing.specs.Answered.{AreAnswered, FormedAt, GivenAt, IsAnswered}
use Rattle.bng_billing.specs.Calls.{BillingCall, Formed, Given, Again, Told, Heard, Stopped, Does, AreAcknowledging, IsAcknowledging, IsFollowed, StopsAreAcknowledged}
use Rattle.bng_billing.specs.Invariant.{SaysRecord}
use Rattle.bng_billing.specs.Sent.{ArePaired, AreRequests, GoesOut, IsRequestOf, IsToldSent, StopsAreSent, WasSent}
use Rattle.bng_billing.specs.State.{BillingState, IsNewBilling}
use Rattle.bng_billing.proofs.Following.{FormsNumber, Knows, answers_of, knows_later, knows_new, says_alike}
use Rattle.bng_billing.proofs.Numbers.{none_some, some_is, stop_stays}
use Rattle.bng_billing.proofs.Saying.{says_again, says_first}

either_way : (a b : ℕ) → (a ≡ b → ⊥) → (a < b) ⊎ (b < a)
either_way zero zero not = absurd (not refl)
either_way zero (suc b) not = inl (omega arith)
either_way (suc a) zero not = inr (omega arith)
either_way (suc a) (suc b) not = ⊎_elim (λ lt. inl (omega (arith, lt))) (λ gt. inr (omega (arith, gt))) (either_way a b (λ e. not (ap suc e)))

-- The state at each call ------------------------------------------------------------------------------------------------------

module _ (rules : BillingRules) (calls : List BillingCall) where
  -- what the call at this place did, and what was known before it
  record At (i : ℕ) (c : BillingCall) : Type 0 where
    old : BillingState
    new : BillingState
    by : Does old c new
    known : Knows rules calls i old

  all_at : (left : List BillingCall) (k : ℕ) → ((i : ℕ) (c : BillingCall) → slice_get left i ≡ Some c → slice_get calls (i + k) ≡ Some c) → (s last : BillingState) → Chain Does s left last → Knows rules calls k s
      → (i : ℕ) (c : BillingCall) → slice_get left i ≡ Some c → At (i + k) c
  all_at [] k part s last run known i c at = absurd (none_some c at)
  all_at (d ∷ left) k part s last (mid, does, run) known zero c at =
      let same : d ≡ c = some_is d c at in
      let here : k ≡ 0 + k = omega arith in
      subst (λ (x : ℕ). At x c) here (record { old = s; new = mid; by = subst (λ (x : BillingCall). Does s x mid) same does; known = known })
  all_at (d ∷ left) k part s last (mid, does, run) known (suc i) c at =
      let shifted : (j : ℕ) → suc j + k ≡ j + suc k = λ j. omega arith in
      let here : 0 + k ≡ k = omega arith in
      subst (λ (x : ℕ). At x c) (sym (shifted i))
      (all_at left (suc k) (λ j x e. subst (λ (y : ℕ). slice_get calls y ≡ Some x) (shifted j) (part (suc j) x e)) mid last run
      (knows_later rules calls k d s mid (subst (λ (y : ℕ). slice_get calls y ≡ Some d) here (part 0 d refl)) does known) i c at)

  at_call : (opening last : BillingState) → IsNewBilling rules opening → Chain Does opening calls last → (i : ℕ) (c : BillingCall) → slice_get calls i ≡ Some c → At i c
  at_call opening last new run i c at =
      let same : (j : ℕ) → j + 0 ≡ j = λ j. omega arith in
      subst (λ (x : ℕ). At x c) (same i) (all_at calls 0 (λ j d e. subst (λ (y : ℕ). slice_get calls y ≡ Some d) (sym (same j)) e) opening last run (knows_new rules calls opening new) i c at)

-- What is sent was formed ---------------------------------------------------------------------------------------------------------

-- the call gave these octets out
abbrev GivesOut : BillingCall → List ℕ → Type 0
GivesOut (Formed status facts moment n) octets = ⊥
GivesOut (Given now n id request) octets = request ≡ octets
GivesOut (Again now id request) octets = request ≡ octets
GivesOut (Told id sent) octets = ⊥
GivesOut (Heard from request found) octets = ⊥
GivesOut Stopped octets = ⊥

goes_gives : (c : BillingCall) (cs : List BillingCall) (octets : List ℕ) → GoesOut c cs octets → GivesOut c octets
goes_gives (Formed status facts moment n) cs octets g = g
goes_gives (Given now n id request) cs octets g = g.0
goes_gives (Again now id request) cs octets g = g.0
goes_gives (Told id sent) cs octets g = g
goes_gives (Heard from request found) cs octets g = g
goes_gives Stopped cs octets g = g

-- where it did
record OutAt (cs : List BillingCall) (octets : List ℕ) : Type 0 where
  place : ℕ
  call : BillingCall
  at : slice_get cs place ≡ Some call
  gives : GivesOut call octets

out_at : (cs : List BillingCall) (octets : List ℕ) → WasSent cs octets → OutAt cs octets
out_at [] octets sent = absurd sent
out_at (c ∷ cs) octets sent = ⊎_elim
    (λ here. record { place = 0; call = c; at = refl; gives = goes_gives c cs octets here })
    (λ later. let o = out_at cs octets later in record { place = suc o.place; call = o.call; at = o.at; gives = o.gives })
    sent

module _ (rules : BillingRules) (calls : List BillingCall) where
  request_of_call : (i : ℕ) (c : BillingCall) (s t : BillingState) → Does s c t → Knows rules calls i s → (octets : List ℕ) → GivesOut c octets → (j : ℕ) × IsRequestOf rules calls j octets
  request_of_call i (Formed status facts moment n) s t by known octets gives = absurd gives
  request_of_call i (Given now n id request) s t by known octets gives =
      let first = says_first s t now n id request by in
      let formed = known.records n first.sheet first.is_open in
      let says : SaysRecord rules.acct rules.secret.items first.sheet.record id request =
      says_alike rules.acct s.spool.rules s.client.secret rules.secret.items first.sheet.record id request known.gateway known.secret first.says in
      (formed.formed, record { number = n; report = first.sheet.record; formed = formed.is; id = id; says = subst (λ (o : List ℕ). SaysRecord rules.acct rules.secret.items first.sheet.record id o) gives says })
  request_of_call i (Again now id request) s t by known octets gives =
      let again = says_again s t now id request known.holds by in
      let formed = known.records again.number again.sheet again.is_open in
      let says : SaysRecord rules.acct rules.secret.items again.sheet.record id request =
      says_alike rules.acct s.spool.rules s.client.secret rules.secret.items again.sheet.record id request known.gateway known.secret again.says in
      (formed.formed, record { number = again.number; report = again.sheet.record; formed = formed.is; id = id; says = subst (λ (o : List ℕ). SaysRecord rules.acct rules.secret.items again.sheet.record id o) gives says })
  request_of_call i (Told id sent) s t by known octets gives = absurd gives
  request_of_call i (Heard from request found) s t by known octets gives = absurd gives
  request_of_call i Stopped s t by known octets gives = absurd gives

pub are_requests : (rules : BillingRules) (opening last : BillingState) (calls : List BillingCall) → IsNewBilling rules opening → Chain Does opening calls last → AreRequests rules calls
are_requests rules opening last calls new run octets sent =
    let o = out_at calls octets sent in
    let a = at_call rules calls opening last new run o.place o.call o.at in
    request_of_call rules calls o.place o.call a.old a.new a.by a.known octets o.gives

-- A Stop stays open until it is acknowledged ----------------------------------------------------------------------------------------

-- the call at this place acknowledges the record with this number
record AckAt (cs : List BillingCall) (i n : ℕ) : Type 0 where
  from : Peer
  octets : List ℕ
  found : RecordNo
  at : slice_get cs i ≡ Some (Heard from octets (Some found))
  number : found.0 ≡ n

ack_here : (c : BillingCall) (cs : List BillingCall) (n : ℕ) → IsAcknowledging c n → AckAt (c ∷ cs) 0 n
ack_here (Formed status facts moment m) cs n ack = absurd ack
ack_here (Given now m id octets) cs n ack = absurd ack
ack_here (Again now id octets) cs n ack = absurd ack
ack_here (Told id sent) cs n ack = absurd ack
ack_here (Heard from octets None) cs n ack = absurd ack
ack_here (Heard from octets (Some m)) cs n ack = record { from = from; octets = octets; found = m; at = refl; number = ack }
ack_here Stopped cs n ack = absurd ack

-- after the call the record is open still
record IsKept (t : BillingState) (n : ℕ) (x : Sheet) : Type 0 where
  sheet : Sheet
  is_open : sheet_at t.spool.sheets n ≡ Some sheet
  same : sheet.record ≡ x.record

as_before : (s t : BillingState) (n : ℕ) (x : Sheet) → sheet_at t.spool.sheets n ≡ sheet_at s.spool.sheets n → sheet_at s.spool.sheets n ≡ Some x → IsKept t n x
as_before s t n x same is = record { sheet = x; is_open = same ∙ is; same = refl }

stays : (c : BillingCall) (s t : BillingState) → Does s c t → (n : ℕ) (x : Sheet) → sheet_at s.spool.sheets n ≡ Some x → is_stop x.record.status ≡ true → IsKept t n x ⊎ IsAcknowledging c n
stays (Formed status facts moment m) s t by n x is stop = ⊎_elim
    (λ (e : n ≡ m). absurd (none_some x (sym by.formed.fresh ∙ ap (sheet_at s.spool.sheets) (sym e) ∙ is)))
    (λ (other : n ≡ m → ⊥). inl (as_before s t n x (by.formed.sets.others n other) is))
    (cases_eq n m)
stays (Given now m id octets) s t by n x is stop =
    let h = by.handed in
    ⊎_elim
    (λ (e : n ≡ m).
    let it : h.sheet ≡ x = some_is h.sheet x (sym h.was ∙ ap (sheet_at s.spool.sheets) (sym e) ∙ is) in
    inl (record { sheet = record h.sheet { handed = true }; is_open = ap (sheet_at t.spool.sheets) e ∙ h.sets.changed; same = ap (λ (y : Sheet). y.record) it }))
    (λ (other : n ≡ m → ⊥). inl (as_before s t n x (h.sets.others n other) is))
    (cases_eq n m)
stays (Again now id octets) s t by n x is stop = inl (as_before s t n x (ap (λ (y : BillingState). sheet_at y.spool.sheets n) by.others) is)
stays (Told id sent) s t by n x is stop = inl (as_before s t n x (ap (λ (y : BillingState). sheet_at y.spool.sheets n) by) is)
stays (Heard from octets None) s t by n x is stop = inl (as_before s t n x (ap (λ (y : BillingState). sheet_at y.spool.sheets n) by.1) is)
stays (Heard from octets (Some m)) s t by n x is stop = ⊎_elim
    (λ (e : n ≡ m.0). inr (sym e))
    (λ (other : n ≡ m.0 → ⊥). inl (as_before s t n x (by.acknowledged.sets.others n other) is))
    (cases_eq n m.0)
stays Stopped s t by n x is stop =
    inl (as_before s t n x (by.sheets n ∙ stop_stays (sheet_at s.spool.sheets n) (ap is_stop_sheet is ∙ stop)) is)

-- no record gets the number of one that is open
taken : (c : BillingCall) (s t : BillingState) → Does s c t → (n : ℕ) (x : Sheet) → sheet_at s.spool.sheets n ≡ Some x → FormsNumber c n → ⊥
taken (Formed status facts moment m) s t by n x is e = none_some x (sym by.formed.fresh ∙ ap (sheet_at s.spool.sheets) e ∙ is)
taken (Given now m id octets) s t by n x is e = e
taken (Again now id octets) s t by n x is e = e
taken (Told id sent) s t by n x is e = e
taken (Heard from octets found) s t by n x is e = e
taken Stopped s t by n x is e = e

-- The first call that acknowledges the record, before which none gives its number to another.
record FirstAck (cs : List BillingCall) (n : ℕ) : Type 0 where
  place : ℕ
  ack : AckAt cs place n
  none : (h : ℕ) (c : BillingCall) → h < place → slice_get cs h ≡ Some c → FormsNumber c n → ⊥

first_ack : (left : List BillingCall) (s last : BillingState) → Chain Does s left last → (n : ℕ) (x : Sheet) → sheet_at s.spool.sheets n ≡ Some x → is_stop x.record.status ≡ true → AreAcknowledging left n → FirstAck left n
first_ack [] s last run n x is stop ack = absurd ack
first_ack (c ∷ left) s last (mid, does, run) n x is stop ack = ⊎_elim
    (λ kept. ⊎_elim
    (λ now. first now)
    (λ later.
    let rest = first_ack left mid last run n kept.sheet kept.is_open (ap (λ (r : Record). is_stop r.status) kept.same ∙ stop) later in
    record {
      place = suc rest.place;
      ack = record { from = rest.ack.from; octets = rest.ack.octets; found = rest.ack.found; at = rest.ack.at; number = rest.ack.number };
      none = before rest.place rest.none;
    })
    ack)
    (λ now. first now)
    (stays c s mid does n x is stop)
  where
    first : IsAcknowledging c n → FirstAck (c ∷ left) n
    first now = record { place = 0; ack = ack_here c left n now; none = λ h d lt at f. absurd (omega (arith, lt)) }

    before : (place : ℕ) → ((h : ℕ) (d : BillingCall) → h < place → slice_get left h ≡ Some d → FormsNumber d n → ⊥) → (h : ℕ) (d : BillingCall) → h < suc place → slice_get (c ∷ left) h ≡ Some d → FormsNumber d n → ⊥
    before place none zero d lt at f = taken c s mid does n x is (subst (λ (y : BillingCall). FormsNumber y n) (sym (some_is c d at)) f)
    before place none (suc h) d lt at f = none h d (omega (arith, lt)) at f

-- of a Stop that was formed at this place
record IsAcked (cs : List BillingCall) (j n : ℕ) : Type 0 where
  place : ℕ
  after : j < place
  ack : AckAt cs place n
  none : (h : ℕ) (c : BillingCall) → j < h → h < place → slice_get cs h ≡ Some c → FormsNumber c n → ⊥

stop_acked : (left : List BillingCall) (s last : BillingState) → Chain Does s left last → StopsAreAcknowledged left → (j n : ℕ) (facts : TermFacts) (moment : Moment) → slice_get left j ≡ Some (Formed Stop facts moment n) → IsAcked left j n
stop_acked [] s last run acks j n facts moment at = absurd (none_some (Formed Stop facts moment n) at)
stop_acked (c ∷ left) s last (mid, does, run) acks zero n facts moment at =
    let same : c ≡ Formed Stop facts moment n = some_is c (Formed Stop facts moment n) at in
    let by : Does s (Formed Stop facts moment n) mid = subst (λ (x : BillingCall). Does s x mid) same does in
    let followed : AreAcknowledging left n = subst (λ (x : BillingCall). IsFollowed x left) same acks.0 in
    let f = by.formed in
    let rest = first_ack left mid last run n f.sheet f.sets.changed (ap is_stop f.status_is) followed in
    record {
      place = suc rest.place;
      after = omega arith;
      ack = record { from = rest.ack.from; octets = rest.ack.octets; found = rest.ack.found; at = rest.ack.at; number = rest.ack.number };
      none = none rest.place rest.none;
    }
  where
    none : (place : ℕ) → ((h : ℕ) (d : BillingCall) → h < place → slice_get left h ≡ Some d → FormsNumber d n → ⊥) → (h : ℕ) (d : BillingCall) → 0 < h → h < suc place → slice_get (c ∷ left) h ≡ Some d → FormsNumber d n → ⊥
    none place before zero d low lt at f = absurd (omega (arith, low))
    none place before (suc h) d low lt at f = before h d (omega (arith, lt)) at f
stop_acked (c ∷ left) s last (mid, does, run) acks (suc j) n facts moment at =
    let rest = stop_acked left mid last run acks.1 j n facts moment at in
    record {
      place = suc rest.place;
      after = omega (arith, rest.after);
      ack = record { from = rest.ack.from; octets = rest.ack.octets; found = rest.ack.found; at = rest.ack.at; number = rest.ack.number };
      none = none rest.place rest.none;
    }
  where
    none : (place : ℕ) → ((h : ℕ) (d : BillingCall) → j < h → h < place → slice_get left h ≡ Some d → FormsNumber d n → ⊥) → (h : ℕ) (d : BillingCall) → suc j < h → h < suc place → slice_get (c ∷ left) h ≡ Some d → FormsNumber d n → ⊥
    none place before zero d low lt at f = absurd (omega (arith, low))
    none place before (suc h) d low lt at f = before h d (omega (arith, low)) (omega (arith, lt)) at f

-- What is told was given out just before --------------------------------------------------------------------------------------------

-- the call gives out what has this identifier
abbrev GivesUnder : BillingCall → ℕ → List ℕ → Type 0
GivesUnder (Formed status facts moment n) id octets = ⊥
GivesUnder (Given now n i request) id octets = (i ≡ id) × (request ≡ octets)
GivesUnder (Again now i request) id octets = (i ≡ id) × (request ≡ octets)
GivesUnder (Told i sent) id octets = ⊥
GivesUnder (Heard from request found) id octets = ⊥
GivesUnder Stopped id octets = ⊥

record GivenBefore (cs : List BillingCall) (i id : ℕ) : Type 0 where
  place : ℕ
  next : i ≡ suc place
  call : BillingCall
  at : slice_get cs place ≡ Some call
  octets : List ℕ
  gives : GivesUnder call id octets

-- it is the one before these, or one of these
abbrev Before : Option ℕ → List BillingCall → ℕ → ℕ → Type 0
Before o cs i id = ((i ≡ 0) × (o ≡ Some id)) ⊎ GivenBefore cs i id

shift : (c : BillingCall) (cs : List BillingCall) (i id : ℕ) → GivenBefore cs i id → GivenBefore (c ∷ cs) (suc i) id
shift c cs i id b = record { place = suc b.place; next = ap suc b.next; call = b.call; at = b.at; octets = b.octets; gives = b.gives }

then : (c : BillingCall) (cs : List BillingCall) (o : Option ℕ) (i id : ℕ) → ((i ≡ 0) → (o ≡ Some id) → GivenBefore (c ∷ cs) (suc i) id) → Before o cs i id → GivenBefore (c ∷ cs) (suc i) id
then c cs o i id here b = ⊎_elim (λ first. here first.0 first.1) (λ later. shift c cs i id later) b

told_before : (o : Option ℕ) (cs : List BillingCall) → ArePaired o cs → (i id : ℕ) (sent : Bool) → slice_get cs i ≡ Some (Told id sent) → Before o cs i id
told_before None [] paired i id sent at = absurd (none_some (Told id sent) at)
told_before (Some j) [] paired i id sent at = absurd paired
told_before None (Formed status facts moment n ∷ cs) paired zero id sent at = absurd (clash (some_is (Formed status facts moment n) (Told id sent) at))
  where
    clash : Formed status facts moment n ≡ Told id sent → ⊥
    clash e = cc
told_before None (Formed status facts moment n ∷ cs) paired (suc i) id sent at =
    inr (then (Formed status facts moment n) cs None i id (λ e none. absurd (none_some id none)) (told_before None cs paired i id sent at))
told_before (Some j) (Formed status facts moment n ∷ cs) paired i id sent at = absurd paired
told_before None (Given now n j octets ∷ cs) paired zero id sent at = absurd (clash (some_is (Given now n j octets) (Told id sent) at))
  where
    clash : Given now n j octets ≡ Told id sent → ⊥
    clash e = cc
told_before None (Given now n j octets ∷ cs) paired (suc i) id sent at =
    inr (then (Given now n j octets) cs (Some j) i id
    (λ e some. record { place = 0; next = ap suc e; call = Given now n j octets; at = refl; octets = octets; gives = (some_is j id some, refl) })
    (told_before (Some j) cs paired i id sent at))
told_before (Some k) (Given now n j octets ∷ cs) paired i id sent at = absurd paired
told_before None (Again now j octets ∷ cs) paired zero id sent at = absurd (clash (some_is (Again now j octets) (Told id sent) at))
  where
    clash : Again now j octets ≡ Told id sent → ⊥
    clash e = cc
told_before None (Again now j octets ∷ cs) paired (suc i) id sent at =
    inr (then (Again now j octets) cs (Some j) i id
    (λ e some. record { place = 0; next = ap suc e; call = Again now j octets; at = refl; octets = octets; gives = (some_is j id some, refl) })
    (told_before (Some j) cs paired i id sent at))
told_before (Some k) (Again now j octets ∷ cs) paired i id sent at = absurd paired
told_before None (Told j b ∷ cs) paired i id sent at = absurd paired
told_before (Some k) (Told j b ∷ cs) paired zero id sent at =
    let same : j ≡ id = told_id (some_is (Told j b) (Told id sent) at) in
    inl (refl, ap (λ (x : ℕ). Some x) (sym paired.0 ∙ same))
  where
    told_id : Told j b ≡ Told id sent → j ≡ id
    told_id e = cc
told_before (Some k) (Told j b ∷ cs) paired (suc i) id sent at =
    inr (then (Told j b) cs None i id (λ e none. absurd (none_some id none)) (told_before None cs paired.1 i id sent at))
told_before None (Heard from octets found ∷ cs) paired zero id sent at = absurd (clash (some_is (Heard from octets found) (Told id sent) at))
  where
    clash : Heard from octets found ≡ Told id sent → ⊥
    clash e = cc
told_before None (Heard from octets found ∷ cs) paired (suc i) id sent at =
    inr (then (Heard from octets found) cs None i id (λ e none. absurd (none_some id none)) (told_before None cs paired i id sent at))
told_before (Some k) (Heard from octets found ∷ cs) paired i id sent at = absurd paired
told_before None (Stopped ∷ cs) paired zero id sent at = absurd (clash (some_is Stopped (Told id sent) at))
  where
    clash : Stopped ≡ Told id sent → ⊥
    clash e = cc
told_before None (Stopped ∷ cs) paired (suc i) id sent at =
    inr (then Stopped cs None i id (λ e none. absurd (none_some id none)) (told_before None cs paired i id sent at))
told_before (Some k) (Stopped ∷ cs) paired i id sent at = absurd paired

-- what is given out at a place, and told to be sent at the next
told_next : (cs : List BillingCall) (id : ℕ) → slice_get cs 0 ≡ Some (Told id true) → IsToldSent id cs
told_next [] id at = absurd (none_some (Told id true) at)
told_next (c ∷ cs) id at = subst (λ (x : BillingCall). IsToldSent id (x ∷ cs)) (sym (some_is c (Told id true) at)) (refl, refl)

goes_out : (c : BillingCall) (cs : List BillingCall) (id : ℕ) (octets : List ℕ) → GivesUnder c id octets → slice_get cs 0 ≡ Some (Told id true) → GoesOut c cs octets
goes_out (Formed status facts moment n) cs id octets gives at = absurd gives
goes_out (Given now n i request) cs id octets gives at = (gives.1, subst (λ (x : ℕ). IsToldSent x cs) (sym gives.0) (told_next cs id at))
goes_out (Again now i request) cs id octets gives at = (gives.1, subst (λ (x : ℕ). IsToldSent x cs) (sym gives.0) (told_next cs id at))
goes_out (Told i sent) cs id octets gives at = absurd gives
goes_out (Heard from request found) cs id octets gives at = absurd gives
goes_out Stopped cs id octets gives at = absurd gives

sent_at : (cs : List BillingCall) (i id : ℕ) (c : BillingCall) (octets : List ℕ) → slice_get cs i ≡ Some c → GivesUnder c id octets → slice_get cs (suc i) ≡ Some (Told id true) → WasSent cs octets
sent_at [] i id c octets at gives told = absurd (none_some c at)
sent_at (d ∷ cs) zero id c octets at gives told = inl (goes_out d cs id octets (subst (λ (x : BillingCall). GivesUnder x id octets) (sym (some_is d c at)) gives) told)
sent_at (d ∷ cs) (suc i) id c octets at gives told = inr (sent_at cs i id c octets at gives told)

-- Each Stop is sent ---------------------------------------------------------------------------------------------------------------------

module _ (rules : BillingRules) (calls : List BillingCall) (opening last : BillingState) (new : IsNewBilling rules opening) (run : Chain Does opening calls last) (paired : ArePaired None calls) where
  -- two requests that were given out at one place are one
  one_request : (i m n id id' : ℕ) (o p : List ℕ) → GivenAt calls i m id o → GivenAt calls i n id' p → o ≡ p
  one_request i m n id id' o p a b = octets_same (some_is (Given a.now m id o) (Given b.now n id' p) (sym a.at ∙ b.at))
    where
      octets_same : Given a.now m id o ≡ Given b.now n id' p → o ≡ p
      octets_same e = cc

  -- what was given out just before it was told to be sent is the request of the answer
  same_request : (k : ℕ) (from : Peer) (octets : List ℕ) (n : ℕ) (a : IsAnswered rules calls k from octets n) (place : ℕ) → a.sent ≡ suc place → (c : BillingCall) → slice_get calls place ≡ Some c → (o : List ℕ) → GivesUnder c a.id o → o ≡ a.request
  same_request k from octets n a place next (Formed status facts moment m) at o gives = absurd gives
  same_request k from octets n a place next (Given now m i request) at o gives =
      let here : GivenAt calls place m a.id o = record { now = now; at = at ∙ ap (λ (x : ℕ). Some (Given now m x request)) gives.0 ∙ ap (λ (x : List ℕ). Some (Given now m a.id x)) gives.1 } in
      ⊎_elim
      (λ (e : a.given ≡ place). one_request place m n a.id a.id o a.request here (subst (λ (x : ℕ). GivenAt calls x n a.id a.request) e a.is_given))
      (λ (other : a.given ≡ place → ⊥). absurd (a.alone place m o (lower other) (omega (arith, next, a.sent_before)) here))
      (cases_eq a.given place)
    where
      lower : (a.given ≡ place → ⊥) → a.given < place
      lower other = ⊎_elim (λ lt. lt) (λ gt. absurd (omega (arith, gt, next, a.sent_after))) (either_way a.given place other)
  same_request k from octets n a place next (Again now i request) at o gives =
      let w = at_call rules calls opening last new run place (Again now i request) at in
      let s = says_again w.old w.new now i request w.known.holds w.by in
      let g = w.known.requests i s.number s.request s.sheet s.was s.owner_is s.is_open in
      let their : GivenAt calls g.given s.number a.id s.request.octets = subst (λ (x : ℕ). GivenAt calls g.given s.number x s.request.octets) gives.0 g.is in
      let octets_are : o ≡ s.request.octets = sym gives.1 ∙ s.octets_are in
      let early : a.given < place = lower in
      ⊎_elim
      (λ (e : a.given ≡ g.given). octets_are ∙ one_request g.given s.number n a.id a.id s.request.octets a.request their (subst (λ (x : ℕ). GivenAt calls x n a.id a.request) e a.is_given))
      (λ (other : a.given ≡ g.given → ⊥). ⊎_elim
      (λ lt. absurd (a.alone g.given s.number s.request.octets lt (omega (arith, g.before, next, a.sent_before)) their))
      (λ gt. absurd (g.alone a.given n a.request gt early (subst (λ (x : ℕ). GivenAt calls a.given n x a.request) (sym gives.0) a.is_given)))
      (either_way a.given g.given other))
      (cases_eq a.given g.given)
    where
      clash : Given a.is_given.now n a.id a.request ≡ Again now i request → ⊥
      clash e = cc

      not_here : a.given ≡ place → ⊥
      not_here e = clash (some_is (Given a.is_given.now n a.id a.request) (Again now i request) (sym a.is_given.at ∙ ap (slice_get calls) e ∙ at))

      lower : a.given < place
      lower = ⊎_elim (λ lt. lt) (λ gt. absurd (omega (arith, gt, next, a.sent_after))) (either_way a.given place not_here)
  same_request k from octets n a place next (Told i sent) at o gives = absurd gives
  same_request k from octets n a place next (Heard whom request found) at o gives = absurd gives
  same_request k from octets n a place next Stopped at o gives = absurd gives

  -- so the request was sent
  answer_sent : (k : ℕ) (from : Peer) (octets : List ℕ) (n : ℕ) (a : IsAnswered rules calls k from octets n) → WasSent calls a.request
  answer_sent k from octets n a = ⊎_elim
      (λ first. absurd (none_some a.id first.1))
      (λ b.
      let same = same_request k from octets n a b.place b.next b.call b.at b.octets b.gives in
      subst (WasSent calls) same (sent_at calls b.place a.id b.call b.octets b.at b.gives (ap (slice_get calls) (sym b.next) ∙ a.is_sent)))
      (told_before None calls paired a.sent a.id true a.is_sent)

  -- the record that was acknowledged is the one that was formed here
  formed_here : (j k n : ℕ) (r q : Record) (formed : ℕ) → FormedAt calls j n r → FormedAt calls formed n q → j < k → formed < k
      → ((h : ℕ) (c : BillingCall) → j < h → h < k → slice_get calls h ≡ Some c → FormsNumber c n → ⊥) → ((h : ℕ) (p : Record) → formed < h → h < k → FormedAt calls h n p → ⊥) → formed ≡ j
  formed_here j k n r q formed here there low lower none only = ⊎_elim
      (λ e. e)
      (λ other. ⊎_elim
      (λ lt. absurd (only j r lt low here))
      (λ gt. absurd (none formed (Formed there.status there.facts there.moment n) gt lower there.at refl))
      (either_way formed j other))
      (cases_eq formed j)

  stop_sent : StopsAreAcknowledged calls → StopsAreSent rules calls
  stop_sent acks j n facts moment at =
      let acked = stop_acked calls opening last run acks j n facts moment at in
      let ack = acked.ack in
      let k = acked.place in
      let a = answers_of rules opening last calls new run k ack.from ack.octets ack.found ack.at in
      let w = at_call rules calls opening last new run j (Formed Stop facts moment n) at in
      let f = w.by.formed in
      let here : FormedAt calls j n f.sheet.record = record { status = Stop; facts = facts; moment = moment; at = at; status_is = f.status_is; facts_are = f.facts_are; moment_is = f.moment_is } in
      let there : FormedAt calls a.formed n a.report = subst (λ (x : ℕ). FormedAt calls a.formed x a.report) ack.number a.is_formed in
      let same : a.formed ≡ j =
      formed_here j k n f.sheet.record a.report a.formed here there acked.after (omega (arith, a.formed_first, a.sent_after, a.sent_before)) acked.none
      (λ h p after before g. a.only h p after before (subst (λ (x : ℕ). FormedAt calls h x p) (sym ack.number) g)) in (
        a.request,
        answer_sent k ack.from ack.octets ack.found.0 a,
        record { number = n; report = a.report; formed = subst (λ (x : ℕ). FormedAt calls x n a.report) same there; id = a.id; says = a.says },
      )

pub stops_sent : (rules : BillingRules) (opening last : BillingState) (calls : List BillingCall) → IsNewBilling rules opening → Chain Does opening calls last → ArePaired None calls → StopsAreAcknowledged calls → StopsAreSent rules calls
stops_sent rules opening last calls new run paired acks = stop_sent rules calls opening last new run paired acks
