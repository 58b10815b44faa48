-- Over any calls each acknowledgement follows the request that it answers.
use Rattle.std.proofs.Common.{◌≡◌, ◌≢◌, inl, inr, ◌⊎◌, ⊎_elim, ℕ, zero, suc, ◌+◌, ◌<◌, Bool, true, false, cond, List, [], ◌∷◌, ◌++◌, get_or, set, Option, Some, None, refl, sym, ap, subst, ◌∙◌, arith}
use Rattle.std.specs.Prelude.{slice_get}
use Rattle.std.proofs.lemmas.Bool.{cases_eq, cases_Bool, false≢true}
use Rattle.std.proofs.lemmas.List.{get_or-set_other}
use Rattle.bng_base.specs.Chain.{Chain}
use Rattle.bng_base.specs.declared.address.Ip4.{Ip4}
use Rattle.bng_base.specs.declared.address.Peer.{Peer}
use Rattle.bng_radius_wire.specs.Attributes.{Field}
use Rattle.bng_radius_wire.specs.Digests.{IsSigned, zeros, response_authenticator}
use Rattle.bng_radius_wire.proofs.Exact.{one_packet}
use Rattle.bng_rad_client.specs.declared.pending.Pending.{Pending}
use Rattle.bng_rad_client.specs.Replies.{authenticator_of}
use Rattle.bng_rad_client.specs.Table.{request_of}
use Rattle.bng_acct.specs.declared.facts.Record.{Record}
use Rattle.bng_acct.specs.declared.facts.RecordNo.{RecordNo}
use Rattle.bng_acct.specs.declared.rules.AcctRules.{AcctRules}
use Rattle.bng_acct.specs.declared.sheet.Sheet.{Sheet}
use Rattle.bng_acct.specs.Attributes.{attributes, identity, station, sender, front, rest, octets as octets_of, number as number_of, status_code, unless_start, in_stop, low_octets, usage, cause, gigawords, port}
use Rattle.bng_acct.specs.Texts.{session_id}
use Rattle.bng_acct.specs.Queue.{sheet_at}
use Rattle.bng_billing.specs.declared.rules.BillingRules.{BillingRules}
use Rattle.bng_billing.specs.State.{BillingState, IsNewBilling, places_of, flag_of, owner_of}
use Rattle.bng_billing.specs.Invariant.{SaysRecord, IsBilling}
use Rattle.bng_billing.specs.Stopping.{is_lost}
use Rattle.bng_billing.specs.Calls.{BillingCall, Formed, Given, Again, Told, Heard, Stopped, Does}
use Rattle.bng_billing.specs.Answered.{FormedAt, GivenAt, IsAnswered, AreAnswered}
use Rattle.bng_billing.proofs.Places.{written, no_request}
use Rattle.bng_billing.proofs.Numbers.{one_number, some_is, none_some, only_stop_is}
use Rattle.bng_billing.proofs.Stopping.{unflagged}
use Rattle.bng_billing.proofs.Keeping.{again_was, stop_was}
use Rattle.bng_billing.proofs.Acting.{new_holds, does_keep}
use Rattle.bng_billing.proofs.Saying.{response_is}

-- The rules that a record says ----------------------------------------------------------------------------------------------

-- what a record's attributes say of the gateway is the same
pub record SameGateway (old new : AcctRules) : Type 0 where
  pub wall : new.wall ≡ old.wall
  pub name : new.name.items ≡ old.name.items
  pub nas_ip : new.nas_ip ≡ old.nas_ip

same_attributes : (old new : AcctRules) (r : Record) (classes : List Field) → SameGateway old new → attributes new r classes ≡ attributes old r classes
same_attributes old new r classes h =
    let s = r.status in
    let facts = r.facts in
    let book = facts.carried in
    ap (λ (ip : Ip4). ((octets_of 1 facts.user.items ∷ number_of 4 ip.0 ∷ number_of 5 facts.term.session.0 ∷ number_of 6 2 ∷ number_of 7 1 ∷ number_of 8 facts.address.0 ∷ []) ++ classes ++ station facts.circuit ++ sender new s) ++ rest new r) h.nas_ip
    ∙ ap (λ (name : List ℕ). (identity old facts ++ classes ++ station facts.circuit ++ (octets_of 32 name ∷ number_of 40 (status_code s) ∷ [])) ++ rest new r) h.name
    ∙ ap (λ (wall : ℕ). front old r classes
    ++ (unless_start s (low_octets book) ++ octets_of 44 (session_id wall facts.term) ∷ [] ++ unless_start s (usage facts r.moment) ++ in_stop s (cause r.moment) ++ unless_start s (gigawords book) ++ port facts r.moment)) h.wall

pub says_alike : (old new : AcctRules) (was secret : List ℕ) (r : Record) (id : ℕ) (octets : List ℕ) → SameGateway old new → was ≡ secret → SaysRecord new was r id octets → SaysRecord old secret r id octets
says_alike old new was secret r id octets same e h = record {
  packet = h.packet;
  reads = h.reads;
  unpadded = h.unpadded;
  code = h.code;
  id_is = h.id_is;
  classes = h.classes;
  are = h.are;
  attributes_are = h.attributes_are ∙ same_attributes old new r h.classes same;
  authenticator = h.authenticator ∙ ap (response_authenticator h.packet zeros) e;
}

-- What a call does to what is open and out ----------------------------------------------------------------------------------

-- the call gives this number to a record
abbrev pub FormsNumber : BillingCall → ℕ → Type 0
FormsNumber (Formed status facts moment m) n = m ≡ n
FormsNumber (Given now m id octets) n = ⊥
FormsNumber (Again now id octets) n = ⊥
FormsNumber (Told id sent) n = ⊥
FormsNumber (Heard from octets found) n = ⊥
FormsNumber Stopped n = ⊥

-- the call gives this identifier to a request
abbrev pub GivesIdentifier : BillingCall → ℕ → Type 0
GivesIdentifier (Formed status facts moment m) id = ⊥
GivesIdentifier (Given now m i octets) id = i ≡ id
GivesIdentifier (Again now i octets) id = ⊥
GivesIdentifier (Told i sent) id = ⊥
GivesIdentifier (Heard from octets found) id = ⊥
GivesIdentifier Stopped id = ⊥

-- a record that is open was so before, as the same record
record WasOpen (c : BillingCall) (s : BillingState) (n : ℕ) (x : Sheet) : Type 0 where
  sheet : Sheet
  is_open : sheet_at s.spool.sheets n ≡ Some sheet
  same : x.record ≡ sheet.record
  not_formed : FormsNumber c n → ⊥

record IsNewRecord (calls : List BillingCall) (k n : ℕ) (x : Sheet) : Type 0 where
  is : FormedAt calls k n x.record

still_open : (c : BillingCall) (s t : BillingState) (n : ℕ) (x : Sheet) → sheet_at t.spool.sheets n ≡ sheet_at s.spool.sheets n → (FormsNumber c n → ⊥) → sheet_at t.spool.sheets n ≡ Some x → WasOpen c s n x
still_open c s t n x same not is = record { sheet = x; is_open = sym same ∙ is; same = refl; not_formed = not }

was_open : (calls : List BillingCall) (k : ℕ) (c : BillingCall) (s t : BillingState) → slice_get calls k ≡ Some c → Does s c t → (n : ℕ) (x : Sheet) → sheet_at t.spool.sheets n ≡ Some x → IsNewRecord calls k n x ⊎ WasOpen c s n x
was_open calls k (Formed status facts moment m) s t at by n x is =
    let f = by.formed in
    ⊎_elim
    (λ (e : n ≡ m).
    let it : f.sheet ≡ x = some_is f.sheet x (sym f.sets.changed ∙ ap (sheet_at t.spool.sheets) (sym e) ∙ is) in
    inl (record {
      is = subst (λ (y : Sheet). FormedAt calls k n y.record) it
          (record { status = status; facts = facts; moment = moment; at = at ∙ ap (λ (i : ℕ). Some (Formed status facts moment i)) (sym e); status_is = f.status_is; facts_are = f.facts_are; moment_is = f.moment_is });
    }))
    (λ (other : n ≢ m). inr (still_open (Formed status facts moment m) s t n x (f.sets.others n other) (λ e. other (sym e)) is))
    (cases_eq n m)
was_open calls k (Given now m id octets) s t at by n x is =
    let h = by.handed in
    ⊎_elim
    (λ (e : n ≡ m).
    let it : record h.sheet { handed = true } ≡ x = some_is (record h.sheet { handed = true }) x (sym h.sets.changed ∙ ap (sheet_at t.spool.sheets) (sym e) ∙ is) in
    inr (record { sheet = h.sheet; is_open = ap (sheet_at s.spool.sheets) e ∙ h.was; same = sym (ap (λ (y : Sheet). y.record) it); not_formed = λ z. z }))
    (λ (other : n ≢ m). inr (still_open (Given now m id octets) s t n x (h.sets.others n other) (λ z. z) is))
    (cases_eq n m)
was_open calls k (Again now id octets) s t at by n x is = inr (still_open (Again now id octets) s t n x (ap (λ (y : BillingState). sheet_at y.spool.sheets n) by.others) (λ z. z) is)
was_open calls k (Told id sent) s t at by n x is = inr (still_open (Told id sent) s t n x (ap (λ (y : BillingState). sheet_at y.spool.sheets n) by) (λ z. z) is)
was_open calls k (Heard from octets None) s t at by n x is = inr (still_open (Heard from octets None) s t n x (ap (λ (y : BillingState). sheet_at y.spool.sheets n) by.1) (λ z. z) is)
was_open calls k (Heard from octets (Some m)) s t at by n x is = ⊎_elim
    (λ (e : n ≡ m.0). absurd (none_some x (sym by.acknowledged.sets.changed ∙ ap (sheet_at t.spool.sheets) (sym e) ∙ is)))
    (λ (other : n ≢ m.0). inr (still_open (Heard from octets (Some m)) s t n x (by.acknowledged.sets.others n other) (λ z. z) is))
    (cases_eq n m.0)
was_open calls k Stopped s t at by n x is = inr (record { sheet = x; is_open = (only_stop_is (sheet_at s.spool.sheets n) x (sym (by.sheets n) ∙ is)).0; same = refl; not_formed = λ z. z })

-- a request that is out was so before, with the same octets and of the same record; where it was sent, it was so before, or the call
-- tells it
record WasOut (c : BillingCall) (s t : BillingState) (id n : ℕ) (r : Pending) : Type 0 where
  request : Pending
  pending : request_of (places_of s) id ≡ Some request
  octets : r.octets ≡ request.octets
  owner : r.owner ≡ request.owner
  flag : flag_of t id ≡ true → (flag_of s id ≡ true) ⊎ (c ≡ Told id true)
  not_given : GivesIdentifier c id → ⊥

record IsNewRequest (calls : List BillingCall) (k : ℕ) (t : BillingState) (id n : ℕ) (r : Pending) : Type 0 where
  is : GivenAt calls k n id r.octets
  unsent : flag_of t id ≡ false

same_out : (c : BillingCall) (s t : BillingState) (id n : ℕ) (r : Pending) → places_of t ≡ places_of s → flag_of t id ≡ flag_of s id → (GivesIdentifier c id → ⊥) → request_of (places_of t) id ≡ Some r → WasOut c s t id n r
same_out c s t id n r places flags not is = record {
  request = r;
  pending = ap (λ (ps : List (Option Pending)). request_of ps id) (sym places) ∙ is;
  octets = refl;
  owner = refl;
  flag = λ e. inl (sym flags ∙ e);
  not_given = not;
}

was_out : (calls : List BillingCall) (k : ℕ) (c : BillingCall) (s t : BillingState) → slice_get calls k ≡ Some c → IsBilling s.client s.spool → Does s c t → (id n : ℕ) (r : Pending) → request_of (places_of t) id ≡ Some r → r.owner ≡ owner_of n
    → IsNewRequest calls k t id n r ⊎ WasOut c s t id n r
was_out calls k (Formed status facts moment m) s t at b by id n r is owner = inr (same_out (Formed status facts moment m) s t id n r (ap places_of by.others) (ap (λ (y : BillingState). flag_of y id) by.others) (λ z. z) is)
was_out calls k (Given now m i octets) s t at b by id n r is owner =
    let flags : flag_of t id ≡ get_or (set s.sent i false) id false = ap (λ (y : BillingState). flag_of y id) by.others in
    ⊎_elim
    (λ (e : id ≡ i).
    let it : by.asked.made ≡ r = some_is by.asked.made r (sym by.pending ∙ ap (request_of (places_of t)) (sym e) ∙ is) in
    let number : m ≡ n = one_number m n (sym by.asked.owner_is ∙ ap (λ (y : Pending). y.owner) it ∙ owner) in
    let same : octets ≡ r.octets = by.payload ∙ sym by.asked.octets ∙ ap (λ (y : Pending). y.octets) it in
    inl (record {
      is = record {
        now = now;
        at = at ∙ ap (λ (j : ℕ). Some (Given now j i octets)) number ∙ ap (λ (j : ℕ). Some (Given now n j octets)) (sym e) ∙ ap (λ (o : List ℕ). Some (Given now n id o)) same;
      };
      unsent = flags ∙ ap (λ (j : ℕ). get_or (set s.sent i false) j false) e ∙ unflagged s.sent i;
    }))
    (λ (other : id ≢ i). inr (record {
      request = r;
      pending = sym (ap (λ (ps : List (Option Pending)). request_of ps id) by.asked.places ∙ get_or-set_other (places_of s) i id (Some by.asked.made) None other) ∙ is;
      octets = refl;
      owner = refl;
      flag = λ e. inl (sym (flags ∙ get_or-set_other s.sent i id false false other) ∙ e);
      not_given = λ e. other (sym e);
    }))
    (cases_eq id i)
was_out calls k (Again now i octets) s t at b by id n r is owner =
    let w = again_was s.client t.client s.spool i now by.frame by.resent.sent (ap (λ (y : BillingState). y.client.secret) by.others) (ap (λ (y : BillingState). y.client.auth) by.others) b id r is in
    inr (record { request = w.0; pending = w.1; octets = w.3; owner = w.2; flag = λ e. inl (sym (ap (λ (y : BillingState). flag_of y id) by.others) ∙ e); not_given = λ z. z })
was_out calls k (Told i false) s t at b by id n r is owner = inr (same_out (Told i false) s t id n r (ap places_of by) (ap (λ (y : BillingState). flag_of y id) by) (λ z. z) is)
was_out calls k (Told i true) s t at b by id n r is owner = inr (record {
  request = r;
  pending = ap (λ (ps : List (Option Pending)). request_of ps id) (sym (ap places_of by)) ∙ is;
  octets = refl;
  owner = refl;
  flag = λ e. ⊎_elim
      (λ here. inr (ap (λ (j : ℕ). Told j true) (sym here.0)))
      (λ same. inl (sym same ∙ sym (ap (λ (y : BillingState). flag_of y id) by) ∙ e))
      (written s.sent i id true false);
  not_given = λ z. z;
})
was_out calls k (Heard from octets None) s t at b by id n r is owner = inr (same_out (Heard from octets None) s t id n r (ap places_of by.1) (ap (λ (y : BillingState). flag_of y id) by.1) (λ z. z) is)
was_out calls k (Heard from octets (Some m)) s t at b by id n r is owner =
    let gone : ℕ = by.counts.packet.id in
    let there : request_of (set (places_of s) gone None) id ≡ Some r = ap (λ (y : BillingState). request_of (places_of y) id) (sym by.others) ∙ is in
    let flags : flag_of t id ≡ get_or (set s.sent gone false) id false = ap (λ (y : BillingState). flag_of y id) by.others in
    inr (record {
      request = r;
      pending = ⊎_elim (λ none. absurd (none_some r (sym none.1 ∙ there))) (λ same. sym same ∙ there) (written (places_of s) gone id None None);
      octets = refl;
      owner = refl;
      flag = λ e. ⊎_elim (λ none. absurd (false≢true (sym none.1 ∙ sym flags ∙ e))) (λ same. inl (sym same ∙ sym flags ∙ e)) (written s.sent gone id false false);
      not_given = λ z. z;
    })
was_out calls k Stopped s t at b by id n r is owner = inr (record {
  request = r;
  pending = (stop_was s t by b id r is).0;
  octets = refl;
  owner = refl;
  flag = λ e. inl (kept (is_lost t.spool.sheets (request_of (places_of s) id)) (flag_of s id) (sym (by.flags id) ∙ e));
  not_given = λ z. z;
})
  where
    kept : (lost flag : Bool) → cond lost false flag ≡ true → flag ≡ true
    kept true flag e = absurd (false≢true e)
    kept false flag e = e

-- What is known -------------------------------------------------------------------------------------------------------------

module _ (rules : BillingRules) (calls : List BillingCall) where
  pub forms : (k n : ℕ) (r : Record) (c : BillingCall) → slice_get calls k ≡ Some c → FormedAt calls k n r → FormsNumber c n
  forms k n r c at f = subst (λ (x : BillingCall). FormsNumber x n) (some_is (Formed f.status f.facts f.moment n) c (sym f.at ∙ at)) refl

  pub gives : (k m id : ℕ) (o : List ℕ) (c : BillingCall) → slice_get calls k ≡ Some c → GivenAt calls k m id o → GivesIdentifier c id
  gives k m id o c at g = subst (λ (x : BillingCall). GivesIdentifier x id) (some_is (Given g.now m id o) c (sym g.at ∙ at)) refl

  -- the record was formed before the call with this number, and no call between gave another one its number
  pub record WasFormed (k n : ℕ) (r : Record) : Type 0 where
    pub formed : ℕ
    pub before : formed < k
    pub is : FormedAt calls formed n r
    pub only : (j : ℕ) (q : Record) → formed < j → j < k → FormedAt calls j n q → ⊥

  -- the octets were given out before the call with this number, as the request of a record that was formed before; where they were
  -- sent, a call between told it
  pub record WasGiven (k n id : ℕ) (octets : List ℕ) (r : Record) (flag : Bool) : Type 0 where
    pub formed : ℕ
    pub is_formed : FormedAt calls formed n r
    pub only : (j : ℕ) (q : Record) → formed < j → j < k → FormedAt calls j n q → ⊥
    pub given : ℕ
    pub before : given < k
    pub is : GivenAt calls given n id octets
    pub alone : (j m : ℕ) (o : List ℕ) → given < j → j < k → GivenAt calls j m id o → ⊥
    pub formed_first : formed < given
    pub sent : flag ≡ true → (j : ℕ) × (given < j) × (j < k) × (slice_get calls j ≡ Some (Told id true))

  pub record Knows (k : ℕ) (b : BillingState) : Type 0 where
    pub holds : IsBilling b.client b.spool
    pub server : b.client.acct_server ≡ rules.server
    pub secret : b.client.secret ≡ rules.secret.items
    pub gateway : SameGateway rules.acct b.spool.rules
    pub records : (n : ℕ) (x : Sheet) → sheet_at b.spool.sheets n ≡ Some x → WasFormed k n x.record
    pub requests : (id n : ℕ) (r : Pending) (x : Sheet) → request_of (places_of b) id ≡ Some r → r.owner ≡ owner_of n → sheet_at b.spool.sheets n ≡ Some x → WasGiven k n id r.octets x.record (flag_of b id)

  -- one call later
  only_later : (k n formed : ℕ) (c : BillingCall) → slice_get calls k ≡ Some c → (FormsNumber c n → ⊥) → ((j : ℕ) (q : Record) → formed < j → j < k → FormedAt calls j n q → ⊥)
      → (j : ℕ) (q : Record) → formed < j → j < suc k → FormedAt calls j n q → ⊥
  only_later k n formed c at not only j q after before f = ⊎_elim
      (λ (e : j ≡ k). not (forms k n q c at (subst (λ (i : ℕ). FormedAt calls i n q) e f)))
      (λ (other : j ≢ k). only j q after (omega (arith, before, other)) f)
      (cases_eq j k)

  alone_later : (k id given : ℕ) (c : BillingCall) → slice_get calls k ≡ Some c → (GivesIdentifier c id → ⊥) → ((j m : ℕ) (o : List ℕ) → given < j → j < k → GivenAt calls j m id o → ⊥)
      → (j m : ℕ) (o : List ℕ) → given < j → j < suc k → GivenAt calls j m id o → ⊥
  alone_later k id given c at not alone j m o after before g = ⊎_elim
      (λ (e : j ≡ k). not (gives k m id o c at (subst (λ (i : ℕ). GivenAt calls i m id o) e g)))
      (λ (other : j ≢ k). alone j m o after (omega (arith, before, other)) g)
      (cases_eq j k)

  formed_later : (k n : ℕ) (r : Record) (c : BillingCall) → slice_get calls k ≡ Some c → (FormsNumber c n → ⊥) → WasFormed k n r → WasFormed (suc k) n r
  formed_later k n r c at not w = record { formed = w.formed; before = omega (arith, w.before); is = w.is; only = only_later k n w.formed c at not w.only }

  module _ (k : ℕ) (c : BillingCall) (s t : BillingState) (at : slice_get calls k ≡ Some c) (by : Does s c t) (known : Knows k s) where
    records_later : (n : ℕ) (x : Sheet) → sheet_at t.spool.sheets n ≡ Some x → WasFormed (suc k) n x.record
    records_later n x is = ⊎_elim
        (λ new. record { formed = k; before = omega arith; is = new.is; only = λ j q after before f. absurd (omega (arith, after, before)) })
        (λ was. subst (WasFormed (suc k) n) (sym was.same) (formed_later k n was.sheet.record c at was.not_formed (known.records n was.sheet was.is_open)))
        (was_open calls k c s t at by n x is)

    -- a record that is open, of a request that is out
    record_was : (id n : ℕ) (q : Pending) (x : Sheet) → request_of (places_of s) id ≡ Some q → q.owner ≡ owner_of n → sheet_at t.spool.sheets n ≡ Some x → WasOpen c s n x
    record_was id n q x pending owner is =
        let o = known.holds.requests id q pending in
        let number : o.number ≡ n = one_number o.number n (sym o.owner_is ∙ owner) in
        ⊎_elim
        (λ new. absurd (fresh c by (forms k n x.record c at new.is) o.sheet (ap (sheet_at s.spool.sheets) (sym number) ∙ o.is_open)))
        (λ was. was)
        (was_open calls k c s t at by n x is)
      where
        fresh : (c : BillingCall) → Does s c t → FormsNumber c n → (y : Sheet) → sheet_at s.spool.sheets n ≡ Some y → ⊥
        fresh (Formed status facts moment m) by e y there = none_some y (sym by.formed.fresh ∙ ap (sheet_at s.spool.sheets) e ∙ there)
        fresh (Given now m i octets) by e y there = e
        fresh (Again now i octets) by e y there = e
        fresh (Told i sent) by e y there = e
        fresh (Heard from octets found) by e y there = e
        fresh Stopped by e y there = e

    requests_later : (id n : ℕ) (r : Pending) (x : Sheet) → request_of (places_of t) id ≡ Some r → r.owner ≡ owner_of n → sheet_at t.spool.sheets n ≡ Some x
        → WasGiven (suc k) n id r.octets x.record (flag_of t id)
    requests_later id n r x pending owner is = ⊎_elim
        (λ new.
        ⊎_elim
        (λ both. absurd (no_both c (forms k n x.record c at both.is) (gives k n id r.octets c at new.is)))
        (λ was.
        let f = known.records n was.sheet was.is_open in
        record {
          formed = f.formed;
          is_formed = subst (FormedAt calls f.formed n) (sym was.same) f.is;
          only = only_later k n f.formed c at was.not_formed f.only;
          given = k;
          before = omega arith;
          is = new.is;
          alone = λ j m o after before g. absurd (omega (arith, after, before));
          formed_first = f.before;
          sent = λ e. absurd (false≢true (sym new.unsent ∙ e));
        })
        (was_open calls k c s t at by n x is))
        (λ out.
        let was = record_was id n out.request x out.pending (sym out.owner ∙ owner) is in
        let g = known.requests id n out.request was.sheet out.pending (sym out.owner ∙ owner) was.is_open in
        record {
          formed = g.formed;
          is_formed = subst (FormedAt calls g.formed n) (sym was.same) g.is_formed;
          only = only_later k n g.formed c at was.not_formed g.only;
          given = g.given;
          before = omega (arith, g.before);
          is = subst (GivenAt calls g.given n id) (sym out.octets) g.is;
          alone = alone_later k id g.given c at out.not_given g.alone;
          formed_first = g.formed_first;
          sent = λ e. ⊎_elim
              (λ before. let w = g.sent before in (w.0, w.1, omega (arith, w.2), w.3))
              (λ told. (k, g.before, omega arith, at ∙ ap Some told))
              (out.flag e);
        })
        (was_out calls k c s t at known.holds by id n r pending owner)
      where
        no_both : (c : BillingCall) → FormsNumber c n → GivesIdentifier c id → ⊥
        no_both (Formed status facts moment m) f g = g
        no_both (Given now m i octets) f g = f
        no_both (Again now i octets) f g = f
        no_both (Told i sent) f g = f
        no_both (Heard from octets found) f g = f
        no_both Stopped f g = f

    pub knows_later : Knows (suc k) t
    knows_later =
        let kept = serves c by in
        record {
          holds = does_keep c s t by known.holds;
          server = kept.0 ∙ known.server;
          secret = kept.1 ∙ known.secret;
          gateway = subst (SameGateway rules.acct) (sym kept.2) known.gateway;
          records = records_later;
          requests = requests_later;
        }
      where
        serves : (c : BillingCall) → Does s c t → (t.client.acct_server ≡ s.client.acct_server) × (t.client.secret ≡ s.client.secret) × (t.spool.rules ≡ s.spool.rules)
        serves (Formed status facts moment m) by = (ap (λ (x : BillingState). x.client.acct_server) by.others, ap (λ (x : BillingState). x.client.secret) by.others, by.formed.rules)
        serves (Given now m i octets) by = (ap (λ (x : BillingState). x.client.acct_server) by.others, ap (λ (x : BillingState). x.client.secret) by.others, by.handed.rules)
        serves (Again now i octets) by =
            (ap (λ (x : BillingState). x.client.acct_server) by.others, ap (λ (x : BillingState). x.client.secret) by.others, ap (λ (x : BillingState). x.spool.rules) by.others)
        serves (Told i sent) by = (ap (λ (x : BillingState). x.client.acct_server) by, ap (λ (x : BillingState). x.client.secret) by, ap (λ (x : BillingState). x.spool.rules) by)
        serves (Heard from octets None) by =
            (ap (λ (x : BillingState). x.client.acct_server) by.1, ap (λ (x : BillingState). x.client.secret) by.1, ap (λ (x : BillingState). x.spool.rules) by.1)
        serves (Heard from octets (Some m)) by = (ap (λ (x : BillingState). x.client.acct_server) by.others, ap (λ (x : BillingState). x.client.secret) by.others, by.acknowledged.rules)
        serves Stopped by = (ap (λ (x : BillingState). x.client.acct_server) by.others, ap (λ (x : BillingState). x.client.secret) by.others, by.rules)

  -- a datagram that acknowledges a record answers its request
  is_answered : (k : ℕ) (from : Peer) (octets : List ℕ) (n : RecordNo) (s t : BillingState) → Does s (Heard from octets (Some n)) t → Knows k s → IsAnswered rules calls k from octets n.0
  unfolding says_alike
  is_answered k from octets n s t by known =
      let c = by.counts in
      let o = known.holds.requests c.packet.id c.request c.reply.pending in
      let number : o.number ≡ n.0 = one_number o.number n.0 (sym o.owner_is ∙ c.record_is) in
      let g = known.requests c.packet.id n.0 c.request o.sheet c.reply.pending c.record_is (ap (sheet_at s.spool.sheets) (sym number) ∙ o.is_open) in
      let w = g.sent c.sent in
      record {
        server = c.server ∙ known.server;
        report = o.sheet.record;
        formed = g.formed;
        is_formed = g.is_formed;
        only = g.only;
        id = c.packet.id;
        request = c.request.octets;
        given = g.given;
        is_given = g.is;
        alone = g.alone;
        sent = w.0;
        is_sent = w.3;
        formed_first = g.formed_first;
        sent_after = w.1;
        sent_before = w.2;
        says = says_alike rules.acct s.spool.rules s.client.secret rules.secret.items o.sheet.record c.packet.id c.request.octets known.gateway known.secret o.says;
        reply = c.packet;
        is_reply = c.reply.reply.packet;
        one = λ p is. one_packet p c.packet octets is c.reply.reply.packet;
        code = response_is c.packet.code c.reply.reply.code;
        same = refl;
        signed = subst (λ (x : List ℕ). IsSigned c.packet x rules.secret.items) (sym o.says.reads.authenticator)
            (subst (IsSigned c.packet (authenticator_of c.request)) known.secret c.signed);
      }

  all_answered : (left : List BillingCall) (k : ℕ) → ((i : ℕ) (c : BillingCall) → slice_get left i ≡ Some c → slice_get calls (i + k) ≡ Some c) → (s last : BillingState) → Chain Does s left last → Knows k s
      → (i : ℕ) (from : Peer) (octets : List ℕ) (n : RecordNo) → slice_get left i ≡ Some (Heard from octets (Some n)) → IsAnswered rules calls (i + k) from octets n.0
  all_answered [] k part s last run known i from octets n at = absurd (none_some (Heard from octets (Some n)) at)
  all_answered (c ∷ left) k part s last (mid, does, run) known zero from octets n at =
      let same : c ≡ Heard from octets (Some n) = some_is c (Heard from octets (Some n)) at in
      let here : k ≡ 0 + k = omega arith in
      subst (λ (x : ℕ). IsAnswered rules calls x from octets n.0) here (is_answered k from octets n s mid (subst (λ (x : BillingCall). Does s x mid) same does) known)
  all_answered (c ∷ left) k part s last (mid, does, run) known (suc i) from octets n at =
      let shifted : (j : ℕ) → suc j + k ≡ j + suc k = λ j. omega arith in
      let here : 0 + k ≡ k = omega arith in
      subst (λ (x : ℕ). IsAnswered rules calls x from octets n.0) (sym (shifted i))
      (all_answered left (suc k) (λ j x e. subst (λ (y : ℕ). slice_get calls y ≡ Some x) (shifted j) (part (suc j) x e)) mid last run
      (knows_later k c s mid (subst (λ (y : ℕ). slice_get calls y ≡ Some c) here (part 0 c refl)) does known) i from octets n at)

  pub knows_new : (b : BillingState) → IsNewBilling rules b → Knows 0 b
  knows_new b new = record {
    holds = new_holds rules b new;
    server = new.client.acct_server;
    secret = new.client.secret_is;
    gateway = record { wall = new.spool.wall; name = new.spool.name; nas_ip = new.spool.nas_ip };
    records = λ n x is. absurd (no_record n x is);
    requests = λ id n r x pending owner is. absurd (no_record n x is);
  }
    where
      no_record : (n : ℕ) (x : Sheet) → sheet_at b.spool.sheets n ≡ Some x → ⊥
      no_record n x is = none_some x (sym (ap (λ (sheets : List (Option Sheet)). sheet_at sheets n) new.spool.no_sheet) ∙ is)

pub answers_of : (rules : BillingRules) (opening last : BillingState) (calls : List BillingCall) → IsNewBilling rules opening → Chain Does opening calls last → AreAnswered rules calls
answers_of rules opening last calls new run k from octets n at =
    subst (λ (x : ℕ). IsAnswered rules calls x from octets n.0) (same k)
    (all_answered rules calls calls 0 (λ i c e. subst (λ (y : ℕ). slice_get calls y ≡ Some c) (sym (same i)) e) opening last run (knows_new rules calls opening new) k from octets n at)
  where
    same : (i : ℕ) → i + 0 ≡ i
    same i = omega arith
