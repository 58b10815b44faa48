-- An entry of an access port or of the end for tunnels that a shard handled is a datagram that the turn took there.
use Rattle.std.proofs.Common.{◌≡◌, inl, inr, ℕ, Bool, true, false, cond, List, [], ◌∷◌, ◌++◌, Option, Some, None, Contains, map, length, slice_get, refl, sym, ap, subst, ◌∙◌, arith}
use Rattle.std.specs.List.{All, AllByRecursion, flat_map}
use Rattle.std.specs.Option.{option_map}
use Rattle.std.proofs.lemmas.Bool.{false≢true}
use Rattle.std.proofs.lemmas.List.Elements.{All-append, All-cons, All-from_recursion, All-map, All-nil, All-weaker, Contains-append_left, Contains-append_right}
use Rattle.bng_base.specs.declared.item.Item.{Item}
use Rattle.bng_base.specs.declared.item.ItemKind.TheVariants as kind
use Rattle.bng_base.specs.declared.outside.Datagram.{Datagram}
use Rattle.bng_base.specs.declared.outside.Role.{Role}
use Rattle.bng_base.specs.declared.outside.Role.TheVariants.{Access, Core, Tunnel, Auth, Acct, Coa, Control}
use Rattle.bng_base.specs.FateOf.{Arrival}
use Rattle.bng_coa.specs.declared.rules.Admitted.{Admitted}
use Rattle.bng_coa.specs.declared.rules.Admitted.TheVariants.{New, Repeat, InHand, Ignored}
use Rattle.bng_steps.specs.Protocol.{ShardState, Handled}
use Rattle.bng_verdict.specs.declared.question.QuestionNo.{QuestionNo}
use Rattle.bng_desk.specs.Coa.{Requested, change_in, change_item, change_items}
use Rattle.bng_desk.specs.Items.{DataReading, arrived, drawn_from, ends_of, kept_of, kind_of, stays, taken_items, ticks_of}
use Rattle.bng_desk.specs.Logins.{Answered, reply_in, reply_items, silence, timeout_items, verdict_item}
use Rattle.bng_desk.specs.Model.{Desk}
use Rattle.bng_desk.specs.Reading.{taken_in}
use Rattle.bng_desk.specs.Round.{Round}
use Rattle.bng_desk.specs.Turn.{Turn, RoundOf, Step, ending_items, has_end, items_of, new_items}
use Rattle.bng_desk.proofs.Drawing.{drawn_all}
use Rattle.bng_desk.proofs.ItemLaws.{all_due, all_ends}
use Rattle.bng_gate.specs.Granted.{HandledIn, Stage, held_of, round_of_turn, round_of_end, stage_at, stage_in, stages_of}
use Rattle.bng_gate.specs.Serving.{Made, MadeEnd, Late, Ends, Waits, LateStep, Goes, GoesEnding, Run, EndRun}
use Rattle.bng_gate.proofs.Entries.{entry_holds}
use Rattle.bng_gate.proofs.LoginsAt.{stage_is}
use Rattle.bng_gate.proofs.Places.{InFirst, InSecond, chain_end, in_both, link_at}
use Rattle.bng_gate.proofs.Verdicts.{kept_after, of_made, of_end}

-- the datagram that an item of an access port is
abbrev pub on_port : ℕ → Item → Datagram
on_port port i = record { role = Access port; peer = i.from; octets = i.frame.payload }

-- the datagram that an item of the end for tunnels is
abbrev pub over_tunnel : Item → Datagram
over_tunnel i = record { role = Tunnel; peer = i.from; octets = i.frame.payload }

-- where the item is of an access port or of the end for tunnels, its datagram is among these
abbrev IsAmong : List Datagram → Item → Type 0
IsAmong taken i = ((port : ℕ) → i.kind ≡ kind.Access port → Contains taken (on_port port i)) × (i.kind ≡ kind.Tunnel → Contains taken (over_tunnel i))

-- the item is of neither
abbrev IsElse : Item → Type 0
IsElse i = ((port : ℕ) → i.kind ≡ kind.Access port → ⊥) × (i.kind ≡ kind.Tunnel → ⊥)

else_among : (taken : List Datagram) (i : Item) → IsElse i → IsAmong taken i
else_among taken i else = (λ port e. absurd (else.0 port e), λ e. absurd (else.1 e))

-- What was taken ----------------------------------------------------------------------------------------------------------

role_of : (role : Role) (port : ℕ) → kind_of role ≡ kind.Access port → role ≡ Access port
role_of (Access number) port e = let same : number ≡ port = cc in ap Access same
role_of Core port e = absurd cc
role_of Tunnel port e = absurd cc
role_of Auth port e = absurd cc
role_of Acct port e = absurd cc
role_of Coa port e = absurd cc
role_of Control port e = absurd cc

tunnel_of : (role : Role) → kind_of role ≡ kind.Tunnel → role ≡ Tunnel
tunnel_of (Access number) e = absurd cc
tunnel_of Core e = absurd cc
tunnel_of Tunnel e = refl
tunnel_of Auth e = absurd cc
tunnel_of Acct e = absurd cc
tunnel_of Coa e = absurd cc
tunnel_of Control e = absurd cc

among_left : (xs ys : List Datagram) (i : Item) → IsAmong xs i → IsAmong (xs ++ ys) i
among_left xs ys i h = (λ port e. Contains-append_left xs ys (on_port port i) (h.0 port e), λ e. Contains-append_left xs ys (over_tunnel i) (h.1 e))

among_right : (xs ys : List Datagram) (i : Item) → IsAmong ys i → IsAmong (xs ++ ys) i
among_right xs ys i h = (λ port e. Contains-append_right xs ys (on_port port i) (h.0 port e), λ e. Contains-append_right xs ys (over_tunnel i) (h.1 e))

reading_among : (role : Role) (arrivals : List Arrival) → All (IsAmong (taken_in role arrivals)) (map (arrived role) arrivals)
reading_among role [] = All-nil (IsAmong (taken_in role []))
reading_among role (a ∷ arrivals) =
    let here : Datagram = record { role = role; peer = a.from; octets = a.octets } in
    let rest = taken_in role arrivals in
    All-cons (IsAmong (here ∷ rest)) (arrived role a) (map (arrived role) arrivals) (
      λ port e. (0, omega arith, ap (λ (r : Role). record { role = r; peer = a.from; octets = a.octets }) (role_of role port e)),
      λ e. (0, omega arith, ap (λ (r : Role). record { role = r; peer = a.from; octets = a.octets }) (tunnel_of role e)),
    )
    (All-weaker (IsAmong rest) (IsAmong (here ∷ rest)) (among_right (here ∷ []) rest) (map (arrived role) arrivals) (reading_among role arrivals))

abbrev taken_of : List DataReading → List Datagram
taken_of readings = flat_map (λ r. taken_in r.role r.arrivals) readings

taken_among : (readings : List DataReading) → All (IsAmong (taken_of readings)) (taken_items readings)
taken_among [] = All-nil (IsAmong [])
taken_among (r ∷ readings) =
    let here = taken_in r.role r.arrivals in
    let rest = taken_of readings in
    let first = map (arrived r.role) r.arrivals in
    let second = taken_items readings in
    All-append (IsAmong (here ++ rest)) first second
    (All-weaker (IsAmong here) (IsAmong (here ++ rest)) (among_left here rest) first (reading_among r.role r.arrivals))
    (All-weaker (IsAmong rest) (IsAmong (here ++ rest)) (among_right here rest) second (taken_among readings))

-- What else there is in a turn --------------------------------------------------------------------------------------------

-- what stays of a round
stays_else : (i : Item) → stays i.kind ≡ true → IsElse i
stays_else i h = (λ port e. false≢true (ap stays (sym e) ∙ h), λ e. false≢true (ap stays (sym e) ∙ h))

kept_else : (items : List Item) → AllByRecursion IsElse (kept_of items)
kept_else [] = tt
kept_else (i ∷ items) = by (stays i.kind) refl (kept_else items)
  where
    by : (b : Bool) → stays i.kind ≡ b → AllByRecursion IsElse (kept_of items) → AllByRecursion IsElse (cond b (i ∷ kept_of items) (kept_of items))
    by true is rest = (stays_else i is, rest)
    by false is rest = rest

changes_else : (requested : List Requested) → All IsElse (change_items requested)
changes_else [] = All-nil IsElse
changes_else (q ∷ requested) = All-append IsElse (change_in q.arrival q.admitted q.target) (change_items requested) (one q.admitted) (changes_else requested)
  where
    one : (admitted : Admitted) → All IsElse (change_in q.arrival admitted q.target)
    one (New number) = All-cons IsElse (change_item q.arrival number q.target) [] (λ port e. absurd cc, λ e. absurd cc) (All-nil IsElse)
    one (Repeat frame) = All-nil IsElse
    one InHand = All-nil IsElse
    one (Ignored cause) = All-nil IsElse

replies_else : (answers : List Answered) → All IsElse (reply_items answers)
replies_else [] = All-nil IsElse
replies_else (x ∷ answers) = All-append IsElse (reply_in x.arrival x.found) (reply_items answers) (one x.found) (replies_else answers)
  where
    one : (found : Option QuestionNo) → All IsElse (reply_in x.arrival found)
    one None = All-nil IsElse
    one (Some q) = All-cons IsElse (verdict_item x.arrival q) [] (λ port e. absurd cc, λ e. absurd cc) (All-nil IsElse)

timeouts_else : (timed : List QuestionNo) → All IsElse (timeout_items timed)
timeouts_else timed = All-map IsElse (verdict_item silence) timed (λ n d lt. (λ port e. absurd cc, λ e. absurd cc))

ticks_else : (d : Desk) (moment : ℕ) → All IsElse (ticks_of moment d.shards)
ticks_else d moment = all_due IsElse (λ shard. (λ port e. absurd cc, λ e. absurd cc)) moment d.shards

ends_else : (n : ℕ) → All IsElse (ends_of n)
ends_else n = all_ends IsElse (λ shard. (λ port e. absurd cc, λ e. absurd cc)) n

-- the items of a turn of serving
items_among : (d : Desk) (t : Turn) → All IsElse d.kept → All (IsAmong (taken_of t.readings)) (items_of d t)
items_among d t kept =
    let P = IsAmong (taken_of t.readings) in
    let weaker = All-weaker IsElse P (else_among (taken_of t.readings)) in
    All-append P d.kept (drawn_from d.seed d.drawn (new_items d t)) (weaker d.kept kept)
    (drawn_all P (λ i octets h. h) d.seed d.drawn (new_items d t)
    (All-append P (change_items t.requested) (reply_items t.answers ++ taken_items t.readings ++ timeout_items t.timed ++ ticks_of t.moment d.shards) (weaker (change_items t.requested) (changes_else t.requested))
    (All-append P (reply_items t.answers ++ taken_items t.readings ++ timeout_items t.timed) (ticks_of t.moment d.shards)
    (All-append P (reply_items t.answers ++ taken_items t.readings) (timeout_items t.timed)
    (All-append P (reply_items t.answers) (taken_items t.readings) (weaker (reply_items t.answers) (replies_else t.answers)) (taken_among t.readings))
    (weaker (timeout_items t.timed) (timeouts_else t.timed)))
    (weaker (ticks_of t.moment d.shards) (ticks_else d t.moment)))))

-- and of one of the ending
ending_else : (d : Desk) → All IsElse d.kept → All IsElse (ending_items d)
ending_else d kept = by (has_end d.kept)
  where
    by : (b : Bool) → All IsElse (cond b d.kept (d.kept ++ drawn_from d.seed d.drawn (ends_of (length d.shards))))
    by true = kept
    by false = All-append IsElse d.kept (drawn_from d.seed d.drawn (ends_of (length d.shards))) kept (drawn_all IsElse (λ i octets h. h) d.seed d.drawn (ends_of (length d.shards)) (ends_else (length d.shards)))

-- Turns -------------------------------------------------------------------------------------------------------------------

abbrev AreElse : Desk → Type 0
AreElse d = All IsElse d.kept

step_keeps : (d d' : Desk) (t : Option Turn) → Step d t d' → AreElse d → AreElse d'
step_keeps d d' None step kept = subst (All IsElse) (sym (ap (λ (x : Desk). x.kept) step)) kept
step_keeps d d' (Some t) step kept =
    let items = items_of d t in
    subst (All IsElse) (sym (ap (λ (x : Desk). x.kept) step.5)) (kept_after IsElse d items t.round (All-from_recursion IsElse (kept_of items) (kept_else items)))

end_keeps : (d d' : Desk) (t : Late) → LateStep d t d' → AreElse d → AreElse d'
end_keeps d d' (Ends None) step kept = subst (All IsElse) (sym (ap (λ (x : Desk). x.kept) step)) kept
end_keeps d d' (Waits t) step kept = subst (All IsElse) (sym (ap (λ (x : Desk). x.kept) step.after)) kept
end_keeps d d' (Ends (Some t)) step kept =
    let items = ending_items d in
    subst (All IsElse) (sym (ap (λ (x : Desk). x.kept) step.5)) (kept_after IsElse d items t.round (All-from_recursion IsElse (kept_of items) (kept_else items)))

-- the item of an entry that was handled is one of the round's
handled_is : (P : Item → Type 0) (d : Desk) (moment : ℕ) (items : List Item) (round : Option Round) (r : Round) → round ≡ Some r → RoundOf d moment items round → All P items
    → (place : ℕ) (earlier later : List Handled) (h : Handled) → option_map (λ v. v.journal) (slice_get r.shards place) ≡ Some (earlier ++ h ∷ later)
    → P h.deed.entry.item
handled_is P d moment items None r opened is all place earlier later h journal = absurd cc
handled_is P d moment items (Some round) r opened is all place earlier later h journal =
    entry_holds P d.rules d.shards d.pool d.tallies moment items r (subst (λ (o : Option Round). RoundOf d moment items o) opened is) all place earlier later h journal

turn_among : (d d' : Desk) (t : Option Turn) (e : Desk) → Step d t d' → AreElse d → (r : Round) → round_of_turn t ≡ Some r
    → (place : ℕ) (earlier later : List Handled) (h : Handled) → option_map (λ v. v.journal) (slice_get r.shards place) ≡ Some (earlier ++ h ∷ later)
    → IsAmong (stage_in e t).taken h.deed.entry.item
turn_among d d' None e step kept r opened place earlier later h journal = absurd cc
turn_among d d' (Some t) e step kept r opened place earlier later h journal =
    handled_is (IsAmong (taken_of t.readings)) d t.moment (items_of d t) t.round r opened step.1 (items_among d t kept) place earlier later h journal

end_turn_else : (d d' : Desk) (t : Late) → LateStep d t d' → AreElse d → (r : Round) → round_of_end t ≡ Some r
    → (place : ℕ) (earlier later : List Handled) (h : Handled) → option_map (λ v. v.journal) (slice_get r.shards place) ≡ Some (earlier ++ h ∷ later)
    → IsElse h.deed.entry.item
end_turn_else d d' (Ends None) step kept r opened place earlier later h journal = absurd cc
end_turn_else d d' (Waits t) step kept r opened place earlier later h journal = absurd cc
end_turn_else d d' (Ends (Some t)) step kept r opened place earlier later h journal =
    handled_is IsElse d t.moment (ending_items d) t.round r opened step.1 (ending_else d kept) place earlier later h journal

module _ (opening over last : Desk) (turns : List Made) (endings : List MadeEnd) (run : Run opening turns over) (ending : EndRun over endings last) (fresh : opening.kept ≡ []) where
  none_kept : AreElse opening
  none_kept = subst (All IsElse) (sym fresh) (All-nil IsElse)

  go_keeps : (n : ℕ) (d d' : Desk) (m : Made) → slice_get turns n ≡ Some m → Goes d m d' → AreElse d → AreElse d'
  go_keeps n d d' m at goes kept = step_keeps d d' m.turn goes.1 kept

  serving : (k : ℕ) (s : ShardState) (h : Handled) (x : HandledIn (held_of turns endings) k s h) → InFirst of_made turns k x.turn → IsAmong (stage_at (stages_of turns endings) k).taken h.deed.entry.item
  serving k s h x f =
      let link = link_at Goes (λ n d. AreElse d) turns go_keeps opening over run none_kept k f.it f.at in
      subst (λ (stage : Stage). IsAmong stage.taken h.deed.entry.item) (sym (stage_is turns endings k f.it f.at))
      (turn_among link.before link.after f.it.turn f.it.desk link.is.1 link.holds x.round (ap (λ t. t.round) f.is ∙ x.opened) x.place x.earlier x.later h x.journal)

  in_ending : (k : ℕ) (s : ShardState) (h : Handled) (x : HandledIn (held_of turns endings) k s h) → InSecond of_end turns endings k x.turn → IsElse h.deed.entry.item
  in_ending k s h x e =
      let kept : AreElse over = chain_end Goes (λ n d. AreElse d) turns go_keeps opening over run none_kept in
      let link = link_at GoesEnding (λ n d. AreElse d) endings (λ n d d' m at goes k. end_keeps d d' m.turn goes.1 k) over last ending kept e.place e.it e.at in
      end_turn_else link.before link.after e.it.turn link.is.1 link.holds x.round (ap (λ t. t.round) e.is ∙ x.opened) x.place x.earlier x.later h x.journal

  -- it was taken in the turn in which it was handled
  pub taken_then : (k : ℕ) (s : ShardState) (h : Handled) → HandledIn (held_of turns endings) k s h → (port : ℕ) → h.deed.entry.item.kind ≡ kind.Access port
      → Contains (stage_at (stages_of turns endings) k).taken (on_port port h.deed.entry.item)
  taken_then k s h x port is = elim (in_both of_made of_end turns endings k x.turn x.at) [
    | inl f ↦ (serving k s h x f).0 port is
    | inr e ↦ absurd ((in_ending k s h x e).0 port is)
  ]

  pub taken_over : (k : ℕ) (s : ShardState) (h : Handled) → HandledIn (held_of turns endings) k s h → h.deed.entry.item.kind ≡ kind.Tunnel
      → Contains (stage_at (stages_of turns endings) k).taken (over_tunnel h.deed.entry.item)
  taken_over k s h x is = elim (in_both of_made of_end turns endings k x.turn x.at) [
    | inl f ↦ (serving k s h x f).1 is
    | inr e ↦ absurd ((in_ending k s h x e).1 is)
  ]
