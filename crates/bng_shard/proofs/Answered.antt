-- A step of which the table answered what it asked for: each term of the shard holds its address, as before.
use Rattle.std.proofs.Common.{◌≡◌, ◌≢◌, ◌⊎◌, ⊎_elim, inl, inr, ℕ, ◌<◌, ◌==◌, Bool, false, List, [], ◌∷◌, map, Some, refl, sym, ap, subst, ◌∙◌}
use Rattle.std.specs.List.{AllByRecursion}
use Rattle.bng_base.specs.declared.address.Ip4.{Ip4}
use Rattle.bng_base.specs.declared.book.Book.{Book}
use Rattle.bng_base.specs.declared.fate.Fate.{Fate}
use Rattle.bng_base.specs.declared.item.Claim.{Claim}
use Rattle.bng_base.specs.declared.item.Claim.TheVariants.{NoClaim, Claimed, Held, Exhausted}
use Rattle.bng_base.specs.declared.item.Entry.{Entry}
use Rattle.bng_base.specs.declared.item.Item.{Item}
use Rattle.bng_base.specs.declared.item.ItemKind.{ItemKind}
use Rattle.bng_base.specs.declared.item.ItemKind.TheVariants.{Access, Core, Tunnel, Verdict, Change, Tick, End}
use Rattle.bng_engine.specs.Terms.{Key}
use Rattle.bng_engine.specs.Views.{ShardView}
use Rattle.bng_pool.specs.Plain.{PlainView}
use Rattle.bng_pool.specs.Tables.{Puts, Table, entry}
use Rattle.bng_steps.specs.declared.rules.Rules.{Rules}
use Rattle.bng_steps.specs.declared.wish.Wish.{Wish}
use Rattle.bng_steps.specs.Deed.{Deed}
use Rattle.bng_steps.specs.Protocol.{ShardState, Handled, claimed_by, key_in, terms_of}
use Rattle.bng_steps.specs.TermRows.{TermsView, whole}
use Rattle.bng_steps.specs.State.{State}
use Rattle.bng_steps.specs.Step.{Step}
use Rattle.bng_steps.specs.Wished.{IsAnswered, IsWished, WishesFor}
use Rattle.bng_steps.proofs.TermLaws.{AnyCause, Begins, Remains, step_moves, terms_there, zip_keys}
use Rattle.bng_shard.specs.Handling.{AnswersClaim, AreHeld, Handles, HandlesAs, IsUnused, is_limited}
use Rattle.bng_shard.specs.declared.body.Body.{Body}
use Rattle.bng_shard.specs.Fits.{Fits, begun_in, shown_of}
use Rattle.bng_shard.proofs.KeyLaws.{keys_there, HoldTheirs, all_last, keys_more, all_held, are_held, free_of, all_both, same_address, unused_of}
use Rattle.bng_shard.proofs.Stepping.{limit_is}

-- What an item asks is told by the sessions -----------------------------------------------------------------------------------

pub wishes_whole : (s : State) (t : TermsView) (kind : ItemKind) (r : Rules) (item : Item) (limited : Bool) (wish : Wish) → WishesFor kind r s item limited wish → WishesFor kind r (whole s t) item limited wish
wishes_whole s t (Access number) r item limited wish h = h
wishes_whole s t Core r item limited wish h = h
wishes_whole s t Tunnel r item limited wish h = h
wishes_whole s t Verdict r item limited wish h = h
wishes_whole s t Change r item limited wish h = h
wishes_whole s t Tick r item limited wish h = h
wishes_whole s t End r item limited wish h = h

wishes_part : (s : State) (t : TermsView) (kind : ItemKind) (r : Rules) (item : Item) (limited : Bool) (wish : Wish) → WishesFor kind r (whole s t) item limited wish → WishesFor kind r s item limited wish
wishes_part s t (Access number) r item limited wish h = h
wishes_part s t Core r item limited wish h = h
wishes_part s t Tunnel r item limited wish h = h
wishes_part s t Verdict r item limited wish h = h
wishes_part s t Change r item limited wish h = h
wishes_part s t Tick r item limited wish h = h
wishes_part s t End r item limited wish h = h

pub answered_part : (s : State) (t : TermsView) (r : Rules) (item : Item) (limited : Bool) (claim : Claim) → IsAnswered r (whole s t) item limited claim → IsAnswered r s item limited claim
answered_part s t r item limited claim h = record { wish = h.wish; is_wished = wishes_part s t item.kind r item limited h.wish h.is_wished; answers = h.answers }

-- what was answered, by the fields of a shard in which there is room
pub answered_at : (a : Body) → Fits a → 0 < a.room → (v : ShardView ShardState Entry) → shown_of a ≡ v → (item : Item) (claim : Claim)
    → IsAnswered v.state.rules v.state.slots item (is_limited v) claim → IsAnswered a.rules a.served item (a.left == 0) claim
answered_at a was some v seen item claim h =
    let here = subst (λ (w : ShardView ShardState Entry). IsAnswered w.state.rules w.state.slots item (is_limited w) claim) (sym seen) h in
    let limited : (a.left == 0) ≡ is_limited (shown_of a) = limit_is a.left (begun_in a.journal.items) a.allowance (was.left some) in
    answered_part a.served a.terms a.rules item (a.left == 0) claim (subst (λ (b : Bool). IsAnswered a.rules (whole a.served a.terms) item b claim) (sym limited) here)

-- and what was asked
pub wished_at : (a : Body) → Fits a → 0 < a.room → (v : ShardView ShardState Entry) → shown_of a ≡ v → (item : Item) (wish : Wish)
    → IsWished a.rules a.served item (a.left == 0) wish → IsWished v.state.rules v.state.slots item (is_limited v) wish
wished_at a was some v seen item wish h =
    let limited : (a.left == 0) ≡ is_limited (shown_of a) = limit_is a.left (begun_in a.journal.items) a.allowance (was.left some) in
    subst (λ (w : ShardView ShardState Entry). IsWished w.state.rules w.state.slots item (is_limited w) wish) seen
    (subst (λ (b : Bool). IsWished a.rules (whole a.served a.terms) item b wish) limited (wishes_whole a.served a.terms item.kind a.rules item (a.left == 0) wish h))

-- The terms hold their addresses ----------------------------------------------------------------------------------------------

-- no term began and none was claimed, or one began with the address that was
abbrev Goes : Rules → State → State → Claim → Type 0
Goes r s s' claim = ((claimed_by claim ≡ []) × Remains AnyCause r s s') ⊎ ((a : Ip4) × (claim ≡ Claimed a) × Begins r s s' a)

goes : (r : Rules) (s : State) (limited : Bool) (d : Deed) → Step r s limited d → Goes r s d.next d.entry.claim
goes r s limited d step =
    ⊎_elim
    (λ (m : (claimed_by d.entry.claim ≡ []) × Remains AnyCause r s d.next). inl m)
    (λ (m : (a : Ip4) × (d.entry.claim ≡ Claimed a) × (limited ≡ false) × Begins r s d.next a). inr (m.0, m.1, m.3))
    (step_moves r s limited d step)

module _ (shard : ℕ) (claim : Claim) (s : State) (pool pool' : PlainView) (answers : AnswersClaim shard claim pool pool') (held : AreHeld shard (terms_there s) pool.table) where
  abbrev ks : List Key
  ks = keys_there s.terms

  theirs : HoldTheirs pool.table shard ks
  theirs = all_held pool.table shard (terms_there s) held

  puts : (a : Ip4) → claim ≡ Claimed a → Puts pool.table a.0 shard pool'.table
  puts a is = (subst (λ (c : Claim). AnswersClaim shard c pool pool') is answers).0

  claimed_free : (a : Ip4) → claim ≡ Claimed a → AllByRecursion (λ (k : Key). k.address ≢ a) ks
  claimed_free a is = free_of pool.table shard a ks (puts a is).free theirs

  -- an address that was claimed is that of no term
  pub claimed_unused : (a : Ip4) → claim ≡ Claimed a → IsUnused a.0 (terms_there s)
  claimed_unused a is = unused_of a (terms_there s) (claimed_free a is)

  same_table : (c : Claim) → claim ≡ c → claimed_by c ≡ [] → pool'.table ≡ pool.table
  same_table NoClaim is none = ap (λ (p : PlainView). p.table) (subst (λ (c : Claim). AnswersClaim shard c pool pool') is answers)
  same_table (Claimed a) is none = absurd (let never : ⊥ = cc in never)
  same_table (Held a) is none = ap (λ (p : PlainView). p.table) (subst (λ (c : Claim). AnswersClaim shard c pool pool') is answers).1
  same_table (Exhausted k) is none = ap (λ (p : PlainView). p.table) (subst (λ (c : Claim). AnswersClaim shard c pool pool') is answers).1

  held_after : (r : Rules) (s' : State) → Goes r s s' claim → AreHeld shard (terms_there s') pool'.table
  held_after r s' moved = are_held pool'.table shard (terms_there s') (elim moved as (λ _. HoldTheirs pool'.table shard (keys_there s'.terms)) [
    | inl m ↦
        subst (HoldTheirs pool'.table shard) (sym (zip_keys AnyCause s.terms s'.terms m.1.terms))
        (subst (λ (table : Table). HoldTheirs table shard ks) (sym (same_table claim refl m.0)) theirs)
    | inr m ↦
        let a = m.0 in
        let put = puts a m.1 in
        let begins = m.2 in
        let k = key_in begins.one in
        let stay : HoldTheirs pool'.table shard ks =
        all_both (λ (j : Key). entry pool.table j.address.0 ≡ Some shard) (λ (j : Key). j.address ≢ a) (λ (j : Key). entry pool'.table j.address.0 ≡ Some shard) ks
        (λ j holds other. put.elsewhere j.address.0 (λ same. other (same_address j.address a same)) ∙ holds) theirs (claimed_free a m.1) in
        subst (HoldTheirs pool'.table shard) (sym (ap keys_there begins.terms ∙ keys_more s.terms begins.one))
        (all_last (λ (j : Key). entry pool'.table j.address.0 ≡ Some shard) ks k stay (ap (λ (b : Ip4). entry pool'.table b.0) begins.address ∙ put.put))
  ])

-- some effects of these entries
effects_of : Handled → List Entry → List Handled
effects_of h [] = []
effects_of h (e ∷ es) = record h { deed = record h.deed { entry = e } } ∷ effects_of h es

entries_are : (h : Handled) (es : List Entry) → map (λ (x : Handled). x.deed.entry) (effects_of h es) ≡ es
unfolding effects_of
entries_are h [] = refl
entries_are h (e ∷ es) = ap (λ (xs : List Entry). e ∷ xs) (entries_are h es)

-- a step with this answer is that of today, where the table gave it
pub handles_with : (v v' : ShardView ShardState Entry) (e : Entry) (claim : Claim) (fate : Fate) (tally tally' : Book) (pool pool' : PlainView)
    → HandlesAs v v' (record e { claim = claim }) fate tally tally' → AnswersClaim v.number claim pool pool' → AreHeld v.number (terms_of v.state) pool.table → Handles v v' pool pool' e fate tally tally'
handles_with v v' e claim fate tally tally' pool pool' h answers held =
    let effect : Handled = h.shown.effect in
    let did = h.shown.handles (effects_of effect v.journal) (entries_are effect v.journal) in
    let is : claim ≡ effect.deed.entry.claim = sym (ap (λ (x : Entry). x.claim) h.shown.entry) in
    let answered = subst (λ (c : Claim). AnswersClaim v.number c pool pool') is answers in
    let after = held_after v.number effect.deed.entry.claim v.state.slots pool pool' answered held v.state.rules effect.deed.next (goes v.state.rules v.state.slots effect.limited effect.deed did.is_step.step) in
    record {
      claim = claim;
      shown = h.shown;
      answers = answers;
      held = subst (λ (n : ℕ). AreHeld n (terms_of v'.state) pool'.table) (sym did.number) (subst (λ (t : ShardState). AreHeld v.number (terms_of t) pool'.table) (sym did.state) after);
      fate_is = h.fate_is;
      light = h.light;
      few = h.few;
      tallied = h.tallied;
    }
