-- Which terms accounting keeps as live.
use Rattle.std.proofs.Common.{◌≡◌, inl, inr, ℕ, ◌||◌, Bool, true, false, List, Option, Some, None, get_or, refl, sym, ap, subst, ◌∙◌, arith}
use Rattle.std.specs.Prelude.{MatchBool, is_some}
use Rattle.std.proofs.lemmas.Bool.{cases_Bool}
use Rattle.std.proofs.lemmas.Bool.Decides.{nat_tests}
use Rattle.bng_acct.specs.declared.facts.Moment.{Moment}
use Rattle.bng_acct.specs.declared.facts.RecordNo.{RecordNo}
use Rattle.bng_acct.specs.declared.facts.StatusType.{StatusType}
use Rattle.bng_acct.specs.declared.facts.StatusType.TheVariants.{Start, Interim, Stop as OfStop}
use Rattle.bng_acct.specs.declared.facts.TermFacts.{TermFacts}
use Rattle.bng_acct.specs.declared.held.Held.{Held}
use Rattle.bng_acct.specs.declared.sheet.Sheet.{Sheet}
use Rattle.bng_acct.specs.Queue.{sheet_at}
use Rattle.bng_acct.specs.Roster.{Puts, Removes, of_term, same}
use Rattle.bng_acct.specs.Spool.{ReleasesIfAny, is_kept, is_live, with_number}
use Rattle.bng_acct.proofs.Marks.{formed, term-formed, term-with, term_of}
use Rattle.bng_acct.proofs.Rosters.{same_is}
use Rattle.bng_base.specs.declared.circuit.TermId.{TermId}
use Rattle.bng_base.specs.Chain.{Chain}
use Rattle.bng_base.proofs.ChainLaws.{chain_keeps}
use Rattle.bng_billing.specs.Records.{IsFormedBy}
use Rattle.bng_billing.specs.Replies.{Takes}
use Rattle.bng_billing.specs.State.{BillingState}
use Rattle.bng_engine.specs.Terms.{Key}
use Rattle.bng_lane.specs.Sends.{LaneSend}
use Rattle.bng_desk.specs.Accounting.{Acknowledged, AreBilled, Gives, HearsRecords, RecordRequests, RecordSend, Resends, SettlesRecords}
use Rattle.bng_desk.specs.Turn.{Closes}

-- the same server, and the same terms are live
pub record KeepsTerms (b b' : BillingState) : Type 0 where
  pub live : (t : TermId) → is_live (of_term t b'.spool.held) ≡ is_live (of_term t b.spool.held)
  pub server : b'.client.acct_server ≡ b.client.acct_server

keeps_none : (b : BillingState) → KeepsTerms b b
keeps_none b = record { live = λ t. refl; server = refl }

keeps_more : (a b c : BillingState) → KeepsTerms a b → KeepsTerms b c → KeepsTerms a c
keeps_more a b c x y = record { live = λ t. y.live t ∙ x.live t; server = y.server ∙ x.server }

-- so terms that were billed still are
pub billed_kept : (keys : List Key) (b b' : BillingState) → KeepsTerms b b' → AreBilled keys b → AreBilled keys b'
billed_kept keys b b' keeps billed = record { live = λ i d lt. keeps.live (get_or keys i d).term ∙ billed.live i d lt; apart = billed.apart }

-- A record is open no longer ----------------------------------------------------------------------------------------------

live-with : (s : StatusType) (n : Option ℕ) (h : Held) → (with_number s n h).live ≡ h.live
live-with Start n h = refl
live-with Interim n h = refl
live-with OfStop n h = refl

or_left : (a b : Bool) → (a || b) ≡ false → a ≡ false
or_left true b e = absurd cc
or_left false b e = refl

-- of a live term something is kept
dead : (h : Held) → is_kept h ≡ false → h.live ≡ false
dead h e = or_left h.live (is_some h.start) (or_left (h.live || is_some h.start) (is_some h.interim) (or_left (h.live || is_some h.start || is_some h.interim) (is_some h.stop) e))

module _ (old new : List Held) (t : TermId) (status : StatusType) (was : Held) (found : of_term t old ≡ Some was) where
  abbrev left : Held
  left = with_number status None was

  left_term : left.term ≡ t
  left_term = term-with status None was ∙ term_of t old was found

  was_live : (u : TermId) → same left.term u ≡ true → is_live (of_term u old) ≡ left.live
  was_live u is = ap (λ (v : TermId). is_live (of_term v old)) (sym (same_is left.term u is) ∙ left_term) ∙ ap is_live found ∙ sym (live-with status None was)

  live_put : Puts old new left → (u : TermId) → is_live (of_term u new) ≡ is_live (of_term u old)
  live_put p u = elim (cases_Bool (same left.term u)) [
    | inl is ↦ let here : of_term u new ≡ Some left = p.finds u ∙ rw is refl in ap is_live here ∙ sym (was_live u is)
    | inr apart ↦ let there : of_term u new ≡ of_term u old = p.finds u ∙ rw apart refl in ap is_live there
  ]

  live_removed : is_kept left ≡ false → Removes old new left.term → (u : TermId) → is_live (of_term u new) ≡ is_live (of_term u old)
  live_removed gone p u = elim (cases_Bool (same left.term u)) [
    | inl is ↦ let here : of_term u new ≡ None = p.finds u ∙ rw is refl in ap is_live here ∙ sym (was_live u is ∙ dead left gone)
    | inr apart ↦ let there : of_term u new ≡ of_term u old = p.finds u ∙ rw apart refl in ap is_live there
  ]

  live_left : (b : Bool) → is_kept left ≡ b → MatchBool b (Puts old new left) (Removes old new left.term) → (u : TermId) → is_live (of_term u new) ≡ is_live (of_term u old)
  live_left true e p = live_put p
  live_left false e p = live_removed e p

live_released : (old new : List Held) (x : Option Sheet) → ReleasesIfAny old new x → (u : TermId) → is_live (of_term u new) ≡ is_live (of_term u old)
live_released old new None stays u = ap (λ (hs : List Held). is_live (of_term u hs)) stays
live_released old new (Some x) r u =
    live_left old new x.record.facts.term x.record.status r.was r.found (is_kept (with_number x.record.status None r.was)) refl r.leaves u

taken_keeps : (b b' : BillingState) (a : Acknowledged) → Takes b a.arrival.from a.arrival.octets a.found b' → KeepsTerms b b'
taken_keeps b b' a takes = by a.found takes
  where
    by : (found : Option RecordNo) → Takes b a.arrival.from a.arrival.octets found b' → KeepsTerms b b'
    by None x = subst (λ (c : BillingState). KeepsTerms b c) (sym x.1) (keeps_none b)
    by (Some n) x = record {
      live = live_released b.spool.held b'.spool.held (sheet_at b.spool.sheets n.0) x.acknowledged.terms;
      server = ap (λ (c : BillingState). c.client.acct_server) x.others;
    }

-- accounting heard datagrams
pub heard_keeps : (b b' : BillingState) (acks : List Acknowledged) → HearsRecords b acks b' → KeepsTerms b b'
heard_keeps b b' acks hears =
    chain_keeps (λ c (a : Acknowledged) c'. Takes c a.arrival.from a.arrival.octets a.found c') (λ c. KeepsTerms b c) (λ c c' a takes so_far. keeps_more b c c' so_far (taken_keeps c c' a takes)) b b' acks hears (keeps_none b)

-- Requests are sent -------------------------------------------------------------------------------------------------------

resent_keeps : (now : ℕ) (b b' : BillingState) (s : LaneSend) → Resends now b s b' → KeepsTerms b b'
resent_keeps now b b' s (m, by, after) =
    keeps_more b m b' (record { live = λ t. ap (λ (c : BillingState). is_live (of_term t c.spool.held)) by.others; server = ap (λ (c : BillingState). c.client.acct_server) by.others })
    (record { live = λ t. ap (λ (c : BillingState). is_live (of_term t c.spool.held)) after; server = ap (λ (c : BillingState). c.client.acct_server) after })

given_keeps : (now : ℕ) (b b' : BillingState) (r : RecordSend) → Gives now b r b' → KeepsTerms b b'
given_keeps now b b' r (m, by, after) =
    keeps_more b m b' (record { live = λ t. ap (λ (hs : List Held). is_live (of_term t hs)) by.handed.terms; server = ap (λ (c : BillingState). c.client.acct_server) by.others })
    (record { live = λ t. ap (λ (c : BillingState). is_live (of_term t c.spool.held)) after; server = ap (λ (c : BillingState). c.client.acct_server) after })

-- requests were sent again
pub all_resent_keep : (now : ℕ) (b b' : BillingState) (again : List LaneSend) → Chain (Resends now) b again b' → KeepsTerms b b'
all_resent_keep now b b' again resends = chain_keeps (Resends now) (λ c. KeepsTerms b c) (λ c c' s one so_far. keeps_more b c c' so_far (resent_keeps now c c' s one)) b b' again resends (keeps_none b)

-- records were sent
pub all_given_keep : (now : ℕ) (b b' : BillingState) (given : List RecordSend) → Chain (Gives now) b given b' → KeepsTerms b b'
all_given_keep now b b' given gives = chain_keeps (Gives now) (λ c. KeepsTerms b c) (λ c c' r one so_far. keeps_more b c c' so_far (given_keeps now c c' r one)) b b' given gives (keeps_none b)

pub settled_keeps : (now : ℕ) (b b' : BillingState) (q : RecordRequests) → SettlesRecords now b q b' → KeepsTerms b b'
settled_keeps now b b' q s = keeps_more b s.mid b' (all_resent_keep now b s.mid q.again s.resends) (all_given_keep now s.mid b' q.given s.gives)

-- all but Stops are forgotten, if no session is left
pub closed_billed : (keys : List Key) (ended : Bool) (b b' : BillingState) → Closes ended b b' → AreBilled keys b → AreBilled keys b'
closed_billed keys false b b' same billed = subst (λ (c : BillingState). AreBilled keys c) (sym same) billed
closed_billed keys true b b' only billed = record { live = λ i d lt. only.live (get_or keys i d).term ∙ billed.live i d lt; apart = billed.apart }

-- A record is formed ------------------------------------------------------------------------------------------------------

-- of another term what was held still is
pub formed_others : (b b' : BillingState) (status : StatusType) (facts : TermFacts) (moment : Moment) (n : ℕ) → IsFormedBy b status facts moment n b' → (u : TermId) → same facts.term u ≡ false → of_term u b'.spool.held ≡ of_term u b.spool.held
formed_others b b' status facts moment n f u apart =
    let h = formed status n facts.term b.spool.held in
    let other : same h.term u ≡ false = ap (λ (v : TermId). same v u) (term-formed status n facts.term b.spool.held) ∙ apart in
    f.formed.holds.finds u ∙ rw other refl

pub apart_back : (s t : TermId) → same s t ≡ false → same t s ≡ false
apart_back s t e = grind (arith, nat_tests)

abbrev pub AreApart : Key → Key → Type 0
AreApart j k = same j.term k.term ≡ false
