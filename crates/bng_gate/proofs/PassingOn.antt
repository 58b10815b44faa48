-- What the shards send of packets of an address in a round comes of the items of its list.
use Rattle.std.proofs.Common.{◌≡◌, ⊎_elim, inl, inr, ℕ, ◌+◌, ◌<◌, ◌≤◌, Bool, true, false, cond, List, [], ◌∷◌, ◌++◌, map, filter, Option, Some, None, IfSome, refl, sym, ap, subst, ◌∙◌, arith, eqb}
use Rattle.std.specs.List.{AllByRecursion, flat_map}
use Rattle.std.specs.Option.{option_map, option_map_or}
use Rattle.std.proofs.lemmas.Bool.{eq-eqb, cases_lt}
use Rattle.std.proofs.lemmas.List.{map-append, append-nil}
use Rattle.std.proofs.lemmas.List.Elements.{filter-append, recursion_from_All}
use Rattle.std.proofs.lemmas.List.Sums.{sum_by-append, sum_by-cons}
use Rattle.bng_base.specs.declared.address.Ip4.{Ip4}
use Rattle.bng_base.specs.declared.item.Charge.{Charge}
use Rattle.bng_base.specs.declared.item.Entry.{Entry}
use Rattle.bng_base.specs.declared.item.Item.{Item}
use Rattle.bng_base.specs.declared.item.OutRecord.{OutRecord}
use Rattle.bng_base.specs.declared.outside.Datagram.{Datagram}
use Rattle.bng_engine.specs.Claims.{claimed_at, times_in}
use Rattle.bng_engine.specs.Exact.{holders}
use Rattle.bng_engine.specs.Histories.{NextInShard, ShardHistory, rounds_of}
use Rattle.bng_engine.specs.Journals.{AreSteps, after, claims_of, outs_of, unsent}
use Rattle.bng_engine.specs.Lists.{AnyOf, Zip3, one_if}
use Rattle.bng_engine.specs.Protocol.{HasKey, IsOwned, as_told}
use Rattle.bng_engine.specs.Rounds.{journals_of}
use Rattle.bng_engine.specs.Terms.{Key, keys, leases_at}
use Rattle.bng_engine.specs.Views.{ShardView, turn_in}
use Rattle.bng_engine.specs.Wire.{WirePacket, datagram_of, went}
use Rattle.bng_engine.proofs.Adding.{sum_map}
use Rattle.bng_engine.proofs.Journals.{run_begins, run_outs, run_owned}
use Rattle.bng_engine.proofs.Wire.{went_append}
use Rattle.bng_steps.specs.declared.rules.Rules.{Rules}
use Rattle.bng_steps.specs.declared.whose.Whose.{Whose}
use Rattle.bng_steps.specs.Deed.{Deed}
use Rattle.bng_steps.specs.Granting.{IsSound}
use Rattle.bng_steps.specs.Protocol.{Handled, ShardState, entry_of, pppoe, terms_of}
use Rattle.bng_steps.specs.Reader.{IsWhole, tells_pppoe, pppoe_reader}
use Rattle.bng_steps.specs.Serving.{AreOwn}
use Rattle.bng_steps.specs.State.{State}
use Rattle.bng_steps.specs.Step.{Step}
use Rattle.bng_steps.proofs.GrantLaws.{settled_sound, step_sound}
use Rattle.bng_steps.proofs.Reading.{whole_read}
use Rattle.bng_steps.proofs.StepLaws.{pppoe_laws, step_whole}
use Rattle.bng_desk.specs.Items.{entries_in, stands_in, without_claim}
use Rattle.bng_desk.specs.Round.{AreParts, IsPart, entries_of, of_seat}
use Rattle.bng_gate.specs.Unchanged.{Arises}
use Rattle.bng_gate.proofs.Arising.{arises_append, arises_fewer, arises_later, arises_none, arises_under}
use Rattle.bng_gate.proofs.Lists.{all_left, all_right}
use Rattle.bng_gate.proofs.Passing.{IsKnown, datagrams_in, those}

-- Entries and items ---------------------------------------------------------------------------------------------------------------

-- the datagrams of entries that were handled, and of entries
abbrev heard_in : List Handled → List Datagram
heard_in hs = flat_map (λ (h : Handled). datagrams_in h.deed.entry.item) hs

abbrev of_entries : List Entry → List Datagram
of_entries es = flat_map (λ (e : Entry). datagrams_in e.item) es

of_handled : (hs : List Handled) → of_entries (map without_claim (map (λ (h : Handled). h.deed.entry) hs)) ≡ heard_in hs
of_handled [] = refl
of_handled (h ∷ hs) = ap (λ (ds : List Datagram). datagrams_in h.deed.entry.item ++ ds) (of_handled hs)

-- all are of the one seat
one_seat : (es : List Entry) → AllByRecursion (λ (e : Entry). e.seat < 1) es → of_seat 0 es ≡ es
one_seat [] seats = refl
one_seat (e ∷ es) seats =
    let zero_seat : e.seat ≡ 0 = omega (arith, seats.0) in
    ap (λ (b : Bool). cond b (e ∷ of_seat 0 es) (of_seat 0 es)) (eq-eqb e.seat 0 zero_seat) ∙ ap (λ (us : List Entry). e ∷ us) (one_seat es seats.1)

module _ (R : Datagram → Datagram → Type 0) where
  -- what comes of the entries of a list comes of its items
  of_items : (seat shard place moment : ℕ) (items : List Item) (whose : List Whose) (ys : List Datagram) → Arises R (of_entries (entries_in seat shard place moment items whose)) ys → Arises R (flat_map datagrams_in items) ys
  of_items seat shard place moment [] whose ys h = h
  of_items seat shard place moment (i ∷ is) [] ys h = subst (Arises R (flat_map datagrams_in (i ∷ is))) (sym h) (arises_none R (flat_map datagrams_in (i ∷ is)))
  of_items seat shard place moment (i ∷ is) (w ∷ ws) ys h = by (stands_in shard w) (λ zs k. of_items seat shard (place + 1) moment is ws zs k) h
    where
      by : (b : Bool) → ((zs : List Datagram) → Arises R (of_entries (entries_in seat shard (place + 1) moment is ws)) zs → Arises R (flat_map datagrams_in is) zs)
          → Arises R (of_entries (cond b (entry_of seat place moment i ∷ []) [] ++ entries_in seat shard (place + 1) moment is ws)) ys → Arises R (flat_map datagrams_in (i ∷ is)) ys
      by true rest h = arises_under R (datagrams_in i) (of_entries (entries_in seat shard (place + 1) moment is ws)) (flat_map datagrams_in is) rest ys h
      by false rest h = arises_later R (datagrams_in i) (flat_map datagrams_in is) ys (rest ys h)

  of_part : (items : List Item) (whose : List (List Whose)) (shard moment : ℕ) (hs : List Handled) → IsPart (items ∷ []) whose shard moment (map without_claim (map (λ (h : Handled). h.deed.entry) hs))
      → (ys : List Datagram) → Arises R (heard_in hs) ys → Arises R (flat_map datagrams_in items) ys
  of_part items whose shard moment hs part ys h =
      let es = map without_claim (map (λ (x : Handled). x.deed.entry) hs) in
      let one : 0 < 1 = omega arith in
      let same = sym (one_seat es (recursion_from_All (λ (e : Entry). e.seat < 1) es part.seats)) ∙ part.each 0 one in
      of_items 0 shard 0 moment items _ ys (subst (λ (us : List Entry). Arises R (of_entries us) ys) same (subst (λ (ds : List Datagram). Arises R ds ys) (sym (of_handled hs)) h))

-- What was sent --------------------------------------------------------------------------------------------------------------------

pub those_append : (test : WirePacket → Bool) (xs ys : List Datagram) → those test (xs ++ ys) ≡ those test xs ++ those test ys
those_append test xs ys = filter-append (λ (d : Datagram). option_map_or test (pppoe_reader d.role d.octets) false) xs ys

before_sends : (os : List OutRecord) → map datagram_of (map unsent os) ≡ map datagram_of os
before_sends [] = refl
before_sends (o ∷ os) = ap (λ (ds : List Datagram). datagram_of o ∷ ds) (before_sends os)

abbrev Same : Datagram → Datagram → Type 0
Same x y = x ≡ y

-- what was sent is of what was to be sent
with_it : (b : Bool) (d : Datagram) (xs ys : List Datagram) → Arises Same xs ys → Arises Same (cond b (d ∷ xs) xs) (cond b (d ∷ ys) ys)
with_it true d xs ys h = inr (refl, h)
with_it false d xs ys h = h

without_it : (b : Bool) (d : Datagram) (xs ys : List Datagram) → Arises Same xs ys → Arises Same (cond b (d ∷ xs) xs) ys
without_it true d xs ys h = arises_later Same (d ∷ []) xs ys h
without_it false d xs ys h = h

fewer_sent : (test : WirePacket → Bool) (os : List OutRecord) → Arises Same (those test (map datagram_of os)) (those test (went os))
fewer_sent test [] = refl
fewer_sent test (o ∷ os) = by o.sent (fewer_sent test os)
  where
    by : (b : Bool) → Arises Same (those test (map datagram_of os)) (those test (went os)) → Arises Same (those test (map datagram_of (o ∷ os))) (those test (map datagram_of (cond b (o ∷ filter (λ (r : OutRecord). r.sent) os) (filter (λ (r : OutRecord). r.sent) os))))
    by true h = with_it (option_map_or test (pppoe_reader o.role o.frame) false) (datagram_of o) (those test (map datagram_of os)) (those test (went os)) h
    by false h = without_it (option_map_or test (pppoe_reader o.role o.frame) false) (datagram_of o) (those test (map datagram_of os)) (those test (went os)) h

-- What is known of a shard's state: it works by these rules, and it is sound.
pub record Works (r : Rules) (s : ShardState) : Type 0 where
  pub rules : s.rules ≡ r
  pub sound : IsSound s.slots

-- so it is after an entry, after a journal, and once the round is settled
works_on : (r : Rules) (s : ShardState) (e : Handled) → Works r s → pppoe.is_step s e → Works r (pppoe.next s e)
works_on r s e works is = record { rules = works.rules; sound = step_sound s.rules s.slots e.limited e.deed is.step works.sound }

works_after : (r : Rules) (s : ShardState) (es : List Handled) → Works r s → AreSteps pppoe s es → Works r (after pppoe s es)
works_after r s [] works is = works
works_after r s (e ∷ es) works is = works_after r (pppoe.next s e) es (works_on r s e works is.0) is.1

pub works_settled : (r : Rules) (s : ShardState) (es : List Handled) → Works r s → AreSteps pppoe s es → Works r (pppoe.settled (after pppoe s es))
works_settled r s es works is =
    let end = works_after r s es works is in
    record { rules = end.rules; sound = settled_sound (after pppoe s es).slots end.sound }

-- a charge is the same before it is sent
unsent_known : (terms : List Key) (os : List OutRecord) → AllByRecursion (IsKnown terms) os → AllByRecursion (IsKnown terms) (map unsent os)
unsent_known terms [] known = tt
unsent_known terms (o ∷ os) known = (known.0, unsent_known terms os known.1)

module _ (a : Ip4) (test : WirePacket → Bool) (its : (w : WirePacket) → test w ≡ true → w.address ≡ a) where
  -- where a packet of the address is charged to one of these keys, a key has the address
  has_lease : (c : Charge) (ks : List Key) → c.address ≡ a → AnyOf (HasKey c) ks → 1 ≤ leases_at a.0 ks
  has_lease c [] e h = absurd h
  has_lease c (k ∷ ks) e (inl h) =
      let same : k.address.0 ≡ a.0 = ap (λ (x : Key). x.address.0) h ∙ ap (λ (x : Ip4). x.0) e in
      omega (arith, sum_by-cons (λ (x : Key). one_if (eqb x.address.0 a.0)) k ks, ap one_if (eq-eqb k.address.0 a.0 same))
  has_lease c (k ∷ ks) e (inr h) = omega (arith, sum_by-cons (λ (x : Key). one_if (eqb x.address.0 a.0)) k ks, has_lease c ks e h)

  -- so where none has it, there is none
  not_charged : (ks : List Key) → leases_at a.0 ks ≡ 0 → (charge : Option Charge) → IfSome charge (λ c. AnyOf (HasKey c) ks) → option_map_or test (option_map (as_told tells_pppoe) charge) false ≡ false
  not_charged ks none None h = refl
  not_charged ks none (Some c) h = by (test (as_told tells_pppoe c)) refl
    where
      by : (b : Bool) → test (as_told tells_pppoe c) ≡ b → b ≡ false
      by true is = absurd (omega (arith, none, has_lease c ks (its (as_told tells_pppoe c) is) h))
      by false is = refl

  none_owned : (ks : List Key) → leases_at a.0 ks ≡ 0 → (os : List OutRecord) → AllByRecursion IsWhole os → AllByRecursion (IsOwned ks) os → those test (map datagram_of os) ≡ []
  none_owned ks none [] whole owned = refl
  none_owned ks none (o ∷ os) whole owned =
      let rest = those test (map datagram_of os) in
      ap (λ (w : Option WirePacket). cond (option_map_or test w false) (datagram_of o ∷ rest) rest) (whole_read o whole.0)
      ∙ ap (λ (b : Bool). cond b (datagram_of o ∷ rest) rest) (not_charged ks none o.charge owned.0)
      ∙ none_owned ks none os whole.1 owned.1

  -- how many terms have the address after a journal: as many as before, with its claims
  leases_after : (s : ShardState) (es : List Handled) → AreSteps pppoe s es → leases_at a.0 (keys (terms_of (after pppoe s es))) ≡ leases_at a.0 (keys (terms_of s)) + times_in a.0 (claims_of pppoe es)
  leases_after s es steps =
      let begins = run_begins pppoe pppoe_laws s es steps in
      let g = λ (k : Key). one_if (eqb k.address.0 a.0) in
      omega (
        arith,
        begins.keys g,
        sum_by-append g (keys (terms_of s)) begins.began,
        sum_map (λ (k : Key). k.address.0) (λ (x : ℕ). one_if (eqb x a.0)) begins.began,
        ap (times_in a.0) begins.leases,
      )

  none_outs : (s : ShardState) (es : List Handled) → AreSteps pppoe s es → leases_at a.0 (keys (terms_of s)) + times_in a.0 (claims_of pppoe es) ≡ 0 → those test (map datagram_of (outs_of pppoe s es)) ≡ []
  none_outs s es steps none =
      none_owned (keys (terms_of (after pppoe s es))) (leases_after s es steps ∙ none) (outs_of pppoe s es)
      (run_outs pppoe IsWhole (λ t e is. step_whole t.rules t.slots e.limited e.deed is.step) s es steps)
      (run_owned pppoe pppoe_laws s es steps)

  -- In a shard
  module _ (h h' : ShardHistory ShardState) (v : ShardView ShardState Handled) (next : NextInShard pppoe h (turn_in v) h') where
    abbrev count_in : ℕ
    count_in = leases_at a.0 (keys (terms_of h.state)) + times_in a.0 (claims_of pppoe v.journal)

    were_outs : map datagram_of (outs_of pppoe h.state v.journal) ≡ map datagram_of v.sends
    were_outs = ap (map datagram_of) (sym next.settlement.outs) ∙ before_sends v.sends

    none_sent : count_in ≡ 0 → those test (went v.sends) ≡ []
    none_sent none =
        let are : those test (map datagram_of v.sends) ≡ [] = ap (those test) (sym were_outs) ∙ none_outs h.state v.journal next.round.steps none in
        subst (λ (ds : List Datagram). Arises Same ds (those test (went v.sends))) are (fewer_sent test v.sends)

  -- In all shards, where no term has the address
  none_of_all : (hs : List (ShardHistory ShardState)) (vs : List (ShardView ShardState Handled)) (hs' : List (ShardHistory ShardState)) → Zip3 (NextInShard pppoe) hs (map turn_in vs) hs'
      → holders pppoe a.0 hs + claimed_at pppoe a.0 (journals_of (rounds_of (map turn_in vs))) ≡ 0 → those test (went (flat_map (λ v. v.sends) vs)) ≡ []
  none_of_all [] [] [] zip none = refl
  none_of_all (h ∷ hs) (v ∷ vs) (h' ∷ hs') zip none =
      let later = flat_map (λ (x : ShardView ShardState Handled). x.sends) vs in
      let sum = sum_by-cons (λ (x : ShardHistory ShardState). leases_at a.0 (keys (terms_of x.state))) h hs in
      let claims = sum_by-cons (λ (es : List Handled). times_in a.0 (claims_of pppoe es)) v.journal (journals_of (rounds_of (map turn_in vs))) in
      ap (those test) (went_append v.sends later)
      ∙ those_append test (went v.sends) (went later)
      ∙ ap (λ (ds : List Datagram). ds ++ those test (went later)) (none_sent h h' v zip.0 (omega (arith, sum, claims, none)))
      ∙ none_of_all hs vs hs' zip.1 (omega (arith, sum, claims, none))
  none_of_all hs vs hs' zip none = absurd zip

  module _ (r : Rules) (terms : List Key) (R : Datagram → Datagram → Type 0)
      (steps : (s : State) (limited : Bool) (d : Deed) → AreOwn s.sessions → AllByRecursion (IsKnown terms) d.outs → Step r s limited d → Arises R (datagrams_in d.entry.item) (those test (map datagram_of d.outs))) where
    -- What a journal sends comes of its entries, each once and in their order.
    journal_sends : (s : ShardState) (es : List Handled) → Works r s → AllByRecursion (IsKnown terms) (outs_of pppoe s es) → AreSteps pppoe s es → Arises R (heard_in es) (those test (map datagram_of (outs_of pppoe s es)))
    journal_sends s [] works known is = refl
    journal_sends s (e ∷ es) works known is =
        let later = outs_of pppoe (pppoe.next s e) es in
        let here = subst (λ (x : Rules). Step x s.slots e.limited e.deed) works.rules is.0.step in
        let split : those test (map datagram_of (e.deed.outs ++ later)) ≡ those test (map datagram_of e.deed.outs) ++ those test (map datagram_of later) =
        ap (those test) (map-append datagram_of e.deed.outs later) ∙ those_append test (map datagram_of e.deed.outs) (map datagram_of later) in
        subst (Arises R (heard_in (e ∷ es))) (sym split)
        (arises_append R (datagrams_in e.deed.entry.item) (heard_in es) (those test (map datagram_of e.deed.outs)) (those test (map datagram_of later))
        (steps s.slots e.limited e.deed works.sound.own (all_left (IsKnown terms) e.deed.outs later known) here)
        (journal_sends (pppoe.next s e) es (works_on r s e works is.0) (all_right (IsKnown terms) e.deed.outs later known) is.1))

    shard_sends : (items : List Item) (whose : List (List Whose)) (shard moment : ℕ) (h h' : ShardHistory ShardState) (v : ShardView ShardState Handled) → NextInShard pppoe h (turn_in v) h' → Works r h.state
        → AllByRecursion (IsKnown terms) v.sends → IsPart (items ∷ []) whose shard moment (map without_claim (entries_of v)) → Arises R (flat_map datagrams_in items) (those test (went v.sends))
    shard_sends items whose shard moment h h' v next works known part =
        arises_fewer R (flat_map datagrams_in items) (those test (map datagram_of v.sends)) (those test (went v.sends))
        (of_part R items whose shard moment v.journal part (those test (map datagram_of v.sends))
        (subst (λ (ds : List Datagram). Arises R (heard_in v.journal) (those test ds)) (were_outs h h' v next) (journal_sends h.state v.journal works (subst (AllByRecursion (IsKnown terms)) next.settlement.outs (unsent_known terms v.sends known)) next.round.steps)))
        (fewer_sent test v.sends)

    -- What the shards of a round send of the address comes of its items: one of them alone sends any.
    pub round_sends : (items : List Item) (whose : List (List Whose)) (shard moment : ℕ) (hs : List (ShardHistory ShardState)) (vs : List (ShardView ShardState Handled)) (hs' : List (ShardHistory ShardState))
        → Zip3 (NextInShard pppoe) hs (map turn_in vs) hs' → AllByRecursion (λ (h : ShardHistory ShardState). Works r h.state) hs → AllByRecursion (IsKnown terms) (flat_map (λ v. v.sends) vs)
        → AreParts (items ∷ []) whose shard moment vs
        → holders pppoe a.0 hs + claimed_at pppoe a.0 (journals_of (rounds_of (map turn_in vs))) ≤ 1 → Arises R (flat_map datagrams_in items) (those test (went (flat_map (λ v. v.sends) vs)))
    round_sends items whose shard moment [] [] [] zip works known parts few = arises_none R (flat_map datagrams_in items)
    round_sends items whose shard moment (h ∷ hs) (v ∷ vs) (h' ∷ hs') zip works known parts few =
        let later = flat_map (λ (x : ShardView ShardState Handled). x.sends) vs in
        let sum = sum_by-cons (λ (x : ShardHistory ShardState). leases_at a.0 (keys (terms_of x.state))) h hs in
        let claims = sum_by-cons (λ (es : List Handled). times_in a.0 (claims_of pppoe es)) v.journal (journals_of (rounds_of (map turn_in vs))) in
        let split : those test (went (v.sends ++ later)) ≡ those test (went v.sends) ++ those test (went later) = ap (those test) (went_append v.sends later) ∙ those_append test (went v.sends) (went later) in
        let here = count_in h h' v zip.0 in
        subst (Arises R (flat_map datagrams_in items)) (sym split)
        (⊎_elim
        (λ (none : here < 1).
        subst (λ (ds : List Datagram). Arises R (flat_map datagrams_in items) (ds ++ those test (went later))) (sym (none_sent h h' v zip.0 (omega (arith, none))))
        (round_sends items whose (shard + 1) moment hs vs hs' zip.1 works.1 (all_right (IsKnown terms) v.sends later known) parts.1 (omega (arith, sum, claims, few))))
        (λ (some : 1 ≤ here).
        subst (λ (ds : List Datagram). Arises R (flat_map datagrams_in items) (those test (went v.sends) ++ ds)) (sym (none_of_all hs vs hs' zip.1 (omega (arith, sum, claims, few, some))))
        (subst (Arises R (flat_map datagrams_in items)) (sym (append-nil (those test (went v.sends)))) (shard_sends items whose shard moment h h' v zip.0 works.0 (all_left (IsKnown terms) v.sends later known) parts.0)))
        (cases_lt here 1))
    round_sends items whose shard moment hs vs hs' zip works known parts few = absurd zip
