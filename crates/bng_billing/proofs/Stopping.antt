-- The identifiers that the stop frees.
use Rattle.std.proofs.Common.{◌≡◌, ◌≢◌, ⊎_elim, ℕ, ◌+◌, ◌<◌, ◌≤◌, Bool, true, false, cond, List, [], ◌∷◌, get_or, set, length, Option, None, zero, suc, refl, sym, ap, subst, ◌∙◌, arith}
use Rattle.std.specs.Prelude.{nat_lt, filter}
use Rattle.std.proofs.lemmas.Bool.{cases_eq, cases_Bool, lt-ltb, ltb-true, ltb-false, false≢true}
use Rattle.std.proofs.lemmas.List.{length-set, get_or-set_other, get_or_past}
use Rattle.bng_rad_client.specs.declared.pending.Pending.{Pending}
use Rattle.bng_rad_client.specs.State.{State as Client}
use Rattle.bng_rad_client.specs.Table.{request_of}
use Rattle.bng_base.specs.declared.circuit.TermId.{TermId}
use Rattle.bng_acct.specs.Queue.{sheet_at}
use Rattle.bng_acct.specs.Roster.{of_term}
use Rattle.bng_acct.specs.Spool.{State as Spool, Agree, is_live, is_stop_sheet, only_stop}
use Rattle.bng_billing.specs.State.{BillingState, places_of}
use Rattle.bng_billing.specs.Stopping.{is_lost, unless_lost, flag_unless_lost, StopsOnly, Withdraws, WithdrawsBelow}
use Rattle.bng_billing.proofs.Places.{emptied}

pub unflagged : (sent : List Bool) (i : ℕ) → get_or (set sent i false) i false ≡ false
unflagged [] i = refl
unflagged (b ∷ sent) zero = refl
unflagged (b ∷ sent) (suc i) = unflagged sent i

not_below : (i k : ℕ) → k ≤ i → nat_lt i k ≡ false
not_below i k past = ⊎_elim (λ (is : nat_lt i k ≡ true). absurd (omega (arith, past, ltb-true i k is))) (λ not. not) (cases_Bool (nat_lt i k))

below_next : (k : ℕ) → nat_lt k (k + 1) ≡ true
below_next k = lt-ltb k (k + 1) (omega arith)

below_alike : (i k : ℕ) → i ≢ k → nat_lt i (k + 1) ≡ nat_lt i k
below_alike i k other = ⊎_elim
    (λ (is : nat_lt i k ≡ true). lt-ltb i (k + 1) (omega (arith, ltb-true i k is)) ∙ sym is)
    (λ (not : nat_lt i k ≡ false). ⊎_elim
    (λ (is : nat_lt i (k + 1) ≡ true). absurd (false≢true (sym not ∙ lt-ltb i k (omega (arith, other, ltb-true i (k + 1) is)))))
    (λ above. above ∙ sym not)
    (cases_Bool (nat_lt i (k + 1))))
    (cases_Bool (nat_lt i k))

pub none_below : (s : Spool) (c : Client) (sent : List Bool) → WithdrawsBelow 0 s c c sent sent
none_below s c sent = record { places = λ id. same (request_of c.acct.places id) id; flags = λ id. same_flag (get_or sent id false) id; size = refl; others = refl }
  where
    same : (p : Option Pending) (id : ℕ) → p ≡ cond (nat_lt id 0) (unless_lost s.sheets p) p
    same p id = sym (ap (λ (b : Bool). cond b (unless_lost s.sheets p) p) (not_below id 0 (omega arith)))

    same_flag : (f : Bool) (id : ℕ) → f ≡ cond (nat_lt id 0) (flag_unless_lost s.sheets (request_of c.acct.places id) f) f
    same_flag f id = sym (ap (λ (b : Bool). cond b (flag_unless_lost s.sheets (request_of c.acct.places id) f) f) (not_below id 0 (omega arith)))

module _ (k : ℕ) (s : Spool) (old mid new : Client) (sent mid_sent new_sent : List Bool) (w : WithdrawsBelow k s old mid sent mid_sent) (x : Withdraws k s mid new mid_sent new_sent) where
  abbrev at : ℕ → Option Pending
  at id = request_of old.acct.places id

  abbrev flag : ℕ → Bool
  flag id = get_or sent id false

  abbrev emptied_at : Client
  emptied_at = record mid { acct = record mid.acct { places = set mid.acct.places k None } }

  here : request_of mid.acct.places k ≡ at k
  here = w.places k ∙ ap (λ (b : Bool). cond b (unless_lost s.sheets (at k)) (at k)) (not_below k k (omega arith))

  flag_here : get_or mid_sent k false ≡ flag k
  flag_here = w.flags k ∙ ap (λ (b : Bool). cond b (flag_unless_lost s.sheets (at k) (flag k)) (flag k)) (not_below k k (omega arith))

  client : (b : Bool) → is_lost s.sheets (at k) ≡ b → new ≡ cond b emptied_at mid
  client b is = x.client ∙ ap (λ (p : Option Pending). cond (is_lost s.sheets p) emptied_at mid) here ∙ ap (λ (y : Bool). cond y emptied_at mid) is

  flags : (b : Bool) → is_lost s.sheets (at k) ≡ b → new_sent ≡ cond b (set mid_sent k false) mid_sent
  flags b is = x.flags ∙ ap (λ (p : Option Pending). cond (is_lost s.sheets p) (set mid_sent k false) mid_sent) here ∙ ap (λ (y : Bool). cond y (set mid_sent k false) mid_sent) is

  -- the identifier itself
  place_here : (b : Bool) → is_lost s.sheets (at k) ≡ b → request_of new.acct.places k ≡ unless_lost s.sheets (at k)
  place_here true is = ap (λ (c : Client). request_of c.acct.places k) (client true is) ∙ emptied mid.acct.places k ∙ sym (ap (λ (b : Bool). cond b None (at k)) is)
  place_here false is = ap (λ (c : Client). request_of c.acct.places k) (client false is) ∙ here ∙ sym (ap (λ (b : Bool). cond b None (at k)) is)

  now_here : (b : Bool) → is_lost s.sheets (at k) ≡ b → get_or new_sent k false ≡ flag_unless_lost s.sheets (at k) (flag k)
  now_here true is = ap (λ (l : List Bool). get_or l k false) (flags true is) ∙ unflagged mid_sent k ∙ sym (ap (λ (b : Bool). cond b false (flag k)) is)
  now_here false is = ap (λ (l : List Bool). get_or l k false) (flags false is) ∙ flag_here ∙ sym (ap (λ (b : Bool). cond b false (flag k)) is)

  -- each other one
  place_other : (id : ℕ) → id ≢ k → (b : Bool) → is_lost s.sheets (at k) ≡ b → request_of new.acct.places id ≡ request_of mid.acct.places id
  place_other id other true is = ap (λ (c : Client). request_of c.acct.places id) (client true is) ∙ get_or-set_other mid.acct.places k id None None other
  place_other id other false is = ap (λ (c : Client). request_of c.acct.places id) (client false is)

  flag_other : (id : ℕ) → id ≢ k → (b : Bool) → is_lost s.sheets (at k) ≡ b → get_or new_sent id false ≡ get_or mid_sent id false
  flag_other id other true is = ap (λ (l : List Bool). get_or l id false) (flags true is) ∙ get_or-set_other mid_sent k id false false other
  flag_other id other false is = ap (λ (l : List Bool). get_or l id false) (flags false is)

  sized : (b : Bool) → is_lost s.sheets (at k) ≡ b → length new.acct.places ≡ length mid.acct.places
  sized true is = ap (λ (c : Client). length c.acct.places) (client true is) ∙ length-set mid.acct.places k None
  sized false is = ap (λ (c : Client). length c.acct.places) (client false is)

  -- all but the requests is as it was
  rest : (b : Bool) → is_lost s.sheets (at k) ≡ b → new ≡ record old { acct = record old.acct { places = new.acct.places } }
  rest true is =
      let out : new ≡ emptied_at = client true is in
      out ∙ ap (λ (c : Client). record c { acct = record c.acct { places = set mid.acct.places k None } }) w.others ∙ ap (λ (c : Client). record old { acct = record old.acct { places = c.acct.places } }) (sym out)
  rest false is =
      let out : new ≡ mid = client false is in
      out ∙ w.others ∙ ap (λ (c : Client). record old { acct = record old.acct { places = c.acct.places } }) (sym out)

  place_at : (id : ℕ) → id ≡ k → request_of new.acct.places id ≡ cond (nat_lt id (k + 1)) (unless_lost s.sheets (at id)) (at id)
  place_at id e = subst (λ (i : ℕ). request_of new.acct.places i ≡ cond (nat_lt i (k + 1)) (unless_lost s.sheets (at i)) (at i)) (sym e)
      (place_here (is_lost s.sheets (at k)) refl ∙ sym (ap (λ (b : Bool). cond b (unless_lost s.sheets (at k)) (at k)) (below_next k)))

  flag_at : (id : ℕ) → id ≡ k → get_or new_sent id false ≡ cond (nat_lt id (k + 1)) (flag_unless_lost s.sheets (at id) (flag id)) (flag id)
  flag_at id e = subst (λ (i : ℕ). get_or new_sent i false ≡ cond (nat_lt i (k + 1)) (flag_unless_lost s.sheets (at i) (flag i)) (flag i)) (sym e)
      (now_here (is_lost s.sheets (at k)) refl ∙ sym (ap (λ (b : Bool). cond b (flag_unless_lost s.sheets (at k) (flag k)) (flag k)) (below_next k)))

  pub one_more : WithdrawsBelow (k + 1) s old new sent new_sent
  one_more = record {
    places = λ id. ⊎_elim
        (place_at id)
        (λ (other : id ≢ k). place_other id other (is_lost s.sheets (at k)) refl ∙ w.places id ∙ ap (λ (b : Bool). cond b (unless_lost s.sheets (at id)) (at id)) (sym (below_alike id k other)))
        (cases_eq id k);
    flags = λ id. ⊎_elim
        (flag_at id)
        (λ (other : id ≢ k). flag_other id other (is_lost s.sheets (at k)) refl ∙ w.flags id ∙ ap (λ (b : Bool). cond b (flag_unless_lost s.sheets (at id) (flag id)) (flag id)) (sym (below_alike id k other)))
        (cases_eq id k);
    size = sized (is_lost s.sheets (at k)) refl ∙ w.size;
    others = rest (is_lost s.sheets (at k)) refl;
  }

-- all identifiers were looked at
module _ (old : BillingState) (c : Client) (s : Spool) (sent : List Bool) (size : length (places_of old) ≡ 256) (w : WithdrawsBelow 256 s old.client c old.sent sent) where
  place_is : (id : ℕ) (b : Bool) → nat_lt id 256 ≡ b → request_of c.acct.places id ≡ unless_lost s.sheets (request_of (places_of old) id)
  place_is id true is = w.places id ∙ ap (λ (b : Bool). cond b (unless_lost s.sheets (request_of (places_of old) id)) (request_of (places_of old) id)) is
  place_is id false past =
      let none : request_of (places_of old) id ≡ None = get_or_past (places_of old) id None (omega (arith, size, ltb-false id 256 past)) in
      w.places id ∙ ap (λ (b : Bool). cond b (unless_lost s.sheets (request_of (places_of old) id)) (request_of (places_of old) id)) past ∙ none ∙ ap (unless_lost s.sheets) (sym none)

  flag_is : (id : ℕ) (b : Bool) → nat_lt id 256 ≡ b → get_or sent id false ≡ flag_unless_lost s.sheets (request_of (places_of old) id) (get_or old.sent id false)
  flag_is id true is = w.flags id ∙ ap (λ (b : Bool). cond b (flag_unless_lost s.sheets (request_of (places_of old) id) (get_or old.sent id false)) (get_or old.sent id false)) is
  flag_is id false past =
      let none : request_of (places_of old) id ≡ None = get_or_past (places_of old) id None (omega (arith, size, ltb-false id 256 past)) in
      w.flags id ∙ ap (λ (b : Bool). cond b (flag_unless_lost s.sheets (request_of (places_of old) id) (get_or old.sent id false)) (get_or old.sent id false)) past
      ∙ ap (λ (p : Option Pending). flag_unless_lost s.sheets p (get_or old.sent id false)) (sym none)

  pub stops : ((n : ℕ) → sheet_at s.sheets n ≡ only_stop (sheet_at old.spool.sheets n)) → s.waiting ≡ filter (λ n. is_stop_sheet (sheet_at old.spool.sheets n)) old.spool.waiting
      → ((t : TermId) → is_live (of_term t s.held) ≡ is_live (of_term t old.spool.held)) → length s.held ≤ length old.spool.held → Agree s.sheets s.held → s.rules ≡ old.spool.rules
      → StopsOnly old (record { client = c; spool = s; sent = sent })
  stops sheets waiting live fewer agree rules = record {
    sheets = sheets;
    waiting = waiting;
    live = live;
    fewer = fewer;
    agree = agree;
    rules = rules;
    size = w.size;
    places = λ id. place_is id (nat_lt id 256) refl;
    flags = λ id. flag_is id (nat_lt id 256) refl;
    others = ap (λ (x : Client). record { client = x; spool = s; sent = sent }) w.others;
  }
