-- No Interim of a shard is due before the moment that is kept for that, through a round; and what its Interims leave of accounting.
use Rattle.std.proofs.Common.{◌≡◌, inl, inr, ℕ, ◌+◌, ◌≤◌, List, [], ◌∷◌, ◌++◌, Option, Some, None, refl, sym, subst, arith}
use Rattle.std.specs.Prelude.{IsSome, option_to_list}
use Rattle.std.specs.List.{AllByRecursion, AllZip}
use Rattle.std.proofs.lemmas.Bool.{false≢true}
use Rattle.bng_acct.specs.declared.held.Held.{Held}
use Rattle.bng_acct.specs.Roster.{of_term}
use Rattle.bng_base.proofs.ChainLaws.{chain_append}
use Rattle.bng_billing.specs.Records.{IsFormedBy}
use Rattle.bng_billing.specs.State.{BillingState}
use Rattle.bng_engine.specs.Calls.{Kept}
use Rattle.bng_engine.specs.Journals.{after, AreSteps}
use Rattle.bng_engine.specs.Lists.{Zip3}
use Rattle.bng_engine.specs.Terms.{Key, Stop}
use Rattle.bng_engine.specs.Views.{Row}
use Rattle.bng_steps.specs.declared.changes.ChangeAnswer.{ChangeAnswer}
use Rattle.bng_steps.specs.Interims.{AwaitsInterims, Reports}
use Rattle.bng_steps.specs.Protocol.{ShardState, Handled, pppoe}
use Rattle.bng_steps.specs.Tenures.{Tenure}
use Rattle.bng_steps.proofs.Awaiting.{awaits_kept, awaits_settled}
use Rattle.bng_desk.specs.Accounting.{FormedRecord, Forms, HasBegun, KnowsBegun}
use Rattle.bng_desk.specs.Interims.{AreAwaited, AreWaiting, AwaitsAt, FormsInterim, FormsInterims, WaitsAt}
use Rattle.bng_desk.specs.Taking.{BegunTo, KeepsHeld, ReapedTo, Shown}
use Rattle.bng_desk.proofs.Growing.{IsAt, Worked}
use Rattle.bng_desk.proofs.Overs.{IsOver, all_over}
use Rattle.bng_desk.proofs.Readying.{Shards}
use Rattle.bng_desk.proofs.Zips.{zip_onward}

-- Each shard with what is kept of its Interims --------------------------------------------------------------------------------

-- what each shard keeps of it where it goes on
pub awaited_onward : (m n : ℕ) (R : Shown → Shown → Type 0) → ((v w : Shown) (t : Reports) → R v w → AwaitsAt m v t → AwaitsAt n w t) → (vs ws : Shards) (rs : List Reports) → AllZip R vs ws → AreAwaited m vs rs → AreAwaited n ws rs
awaited_onward m n R f [] [] rs z all = all
awaited_onward m n R f [] (w ∷ ws) rs z all = absurd z
awaited_onward m n R f (v ∷ vs) [] rs z all = absurd z
awaited_onward m n R f (v ∷ vs) (w ∷ ws) [] z all = absurd all
awaited_onward m n R f (v ∷ vs) (w ∷ ws) (t ∷ rs) z all = (f v w t z.0 all.0, awaited_onward m n R f vs ws rs z.1 all.1)

later_one : (m n : ℕ) (v : Shown) (t : Reports) → m ≤ n → WaitsAt m v t → WaitsAt n v t
later_one m n v t le h = record { waits = h.waits; soon = omega (arith, le, h.soon) }

-- it is so at a later moment
pub awaited_later : (m n : ℕ) (vs : Shards) (rs : List Reports) → m ≤ n → AreWaiting m vs rs → AreWaiting n vs rs
awaited_later m n vs rs le all = zip_onward (WaitsAt m) (WaitsAt n) (λ v t h. later_one m n v t le h) vs rs all

one_same : (moment : ℕ) (v w : Shown) (t : Reports) → w.state ≡ v.state → WaitsAt moment v t → WaitsAt moment w t
one_same moment v w t same h = record { waits = subst (λ (s : ShardState). AwaitsInterims s.slots t) (sym same) h.waits; soon = h.soon }

-- making shards ready changes no state
pub awaited_held : (moment : ℕ) (vs ws : Shards) (rs : List Reports) → AllZip Kept vs ws → AreWaiting moment vs rs → AreWaiting moment ws rs
awaited_held moment [] [] rs kept all = all
awaited_held moment [] (w ∷ ws) rs kept all = absurd kept
awaited_held moment (v ∷ vs) [] rs kept all = absurd kept
awaited_held moment (v ∷ vs) (w ∷ ws) [] kept all = absurd all
awaited_held moment (v ∷ vs) (w ∷ ws) (t ∷ rs) kept all = (one_same moment v w t kept.0.state all.0, awaited_held moment vs ws rs kept.1 all.1)

-- within a round, where requests for changes may be answered
one_within : (moment : ℕ) (v : Shown) (t : Reports) → WaitsAt moment v t → AwaitsAt moment v t
one_within moment v t h = record { awaits = λ empty. h.waits; soon = h.soon }

pub awaited_within : (moment : ℕ) (vs : Shards) (rs : List Reports) → AreWaiting moment vs rs → AreAwaited moment vs rs
awaited_within moment vs rs all = zip_onward (WaitsAt moment) (AwaitsAt moment) (one_within moment) vs rs all

-- Along a journal -----------------------------------------------------------------------------------------------------------

-- nothing was answered before an entry, nor was it, where nothing is answered after it
none_answered : (answers : List ChangeAnswer) (o : Option ChangeAnswer) → answers ++ option_to_list o ≡ [] → (answers ≡ []) × (o ≡ None)
none_answered [] None e = (refl, refl)
none_answered [] (Some a) e = absurd (let never : ⊥ = cc in never)
none_answered (a ∷ answers) o e = absurd (let never : ⊥ = cc in never)

awaited_along : (t : Reports) (moment : ℕ) (s : ShardState) (es : List Handled) → AreSteps pppoe s es → AllByRecursion (IsAt moment) es → t.next ≤ moment + 60000 → (s.changed ≡ [] → AwaitsInterims s.slots t)
    → (after pppoe s es).changed ≡ [] → AwaitsInterims (after pppoe s es).slots t
awaited_along t moment s [] steps at soon h = h
awaited_along t moment s (e ∷ es) steps at soon h =
    let same : e.deed.entry.moment ≡ moment = at.0 in
    awaited_along t moment (pppoe.next s e) es steps.1 at.1 soon (λ empty.
    let none = none_answered s.changed e.answer empty in
    awaits_kept t s.rules s.slots e.limited e.deed (omega (arith, same, soon)) e.answer steps.0.answered none.1 steps.0.step (h none.0))

one_worked : (moment : ℕ) (v u : Shown) (t : Reports) → Worked moment v u → AwaitsAt moment v t → AwaitsAt moment u t
one_worked moment v u t w h = record {
  awaits = subst (λ (s : ShardState). s.changed ≡ [] → AwaitsInterims s.slots t) (sym w.state) (awaited_along t moment v.state w.journal w.steps w.moments h.soon h.awaits);
  soon = h.soon;
}

one_over : (moment : ℕ) (u z : Shown) (t : Reports) → IsOver u z → AwaitsAt moment u t → AwaitsAt moment z t
one_over moment u z t o h = record { awaits = subst (λ (s : ShardState). s.changed ≡ [] → AwaitsInterims s.slots t) (sym o.state) (λ empty. awaits_settled t u.state.slots (h.awaits empty)); soon = h.soon }

-- once a round was settled
pub awaited_over : (moment : ℕ) (vs us left zs : Shards) (rs : List Reports) → AllZip (Worked moment) vs us → (sss : List (List Stop)) (kss : List (List Key)) → Zip3 ReapedTo us left sss → Zip3 BegunTo left zs kss → AreAwaited moment vs rs → AreAwaited moment zs rs
awaited_over moment vs us left zs rs worked sss kss reaped begun all =
    awaited_onward moment moment IsOver (one_over moment) us zs rs (all_over us left zs sss kss reaped begun) (awaited_onward moment moment (Worked moment) (one_worked moment) vs us rs worked all)

-- In accounting -------------------------------------------------------------------------------------------------------------

one_forms : (terms : List Tenure) (moment wall : ℕ) (b : BillingState) (r : Row) (formed : List FormedRecord) (b' : BillingState) → FormsInterim terms moment wall b r formed b' → Forms b formed b'
one_forms terms moment wall b r formed b' (inl (left, none, same)) = subst (λ (fs : List FormedRecord). Forms b fs b') (sym none) same
one_forms terms moment wall b r formed b' (inr (free, f, is, of, by)) = subst (λ (fs : List FormedRecord). Forms b fs b') (sym is) (b', by, refl)

-- the Interims of some terms are records that were formed, one after the other
pub interims_form : (terms : List Tenure) (moment wall : ℕ) (b : BillingState) (rows : List Row) (formed : List FormedRecord) (b' : BillingState) → FormsInterims terms moment wall b rows formed b' → Forms b formed b'
interims_form terms moment wall b [] formed b' f = subst (λ (fs : List FormedRecord). Forms b fs b') (sym f.0) f.1
interims_form terms moment wall b (r ∷ rows) formed b' (first, rest, next, one, more, are) =
    subst (λ (fs : List FormedRecord). Forms b fs b') (sym are)
    (chain_append (λ c (f : FormedRecord) c'. IsFormedBy c f.status f.facts f.moment f.number c') b next b' first rest (one_forms terms moment wall b r first next one) (interims_form terms moment wall next rows rest b' more))

-- accounting knows of no term of which it knew nothing
pub knows_as : (vs : Shards) (b b' : BillingState) → KeepsHeld b b' → KnowsBegun vs b → KnowsBegun vs b'
knows_as vs b b' keeps knows t h e = by (of_term t b.spool.held) refl (keeps.known t h e)
  where
    by : (o : Option Held) → of_term t b.spool.held ≡ o → IsSome o → HasBegun vs t
    by None none some = absurd (false≢true some)
    by (Some x) there some = knows t x there
