-- The datagrams of the items of a turn are those that it took.
use Rattle.std.proofs.Common.{◌≡◌, ℕ, ◌+◌, Bool, true, false, cond, List, [], ◌∷◌, ◌++◌, map, length, Option, Some, None, refl, sym, ap, subst, ◌∙◌}
use Rattle.std.specs.List.{All, AllByRecursion, flat_map, range_with_len}
use Rattle.std.proofs.lemmas.Bool.{false≢true}
use Rattle.std.proofs.lemmas.List.{append-nil}
use Rattle.std.proofs.lemmas.List.Concat.{flat_map-append}
use Rattle.std.proofs.lemmas.List.Elements.{All-from_recursion, All-head, All-map, All-tail}
use Rattle.bng_base.specs.declared.address.Peer.{Peer}
use Rattle.bng_base.specs.declared.item.Item.{Item}
use Rattle.bng_base.specs.declared.item.ItemKind.{ItemKind}
use Rattle.bng_base.specs.declared.item.ItemKind.TheVariants as kind
use Rattle.bng_base.specs.declared.outside.Datagram.{Datagram}
use Rattle.bng_base.specs.declared.outside.Role.{Role}
use Rattle.bng_base.specs.declared.outside.Role.TheVariants.{Access, Core}
use Rattle.bng_base.specs.FateOf.{Arrival}
use Rattle.bng_coa.specs.declared.rules.Admitted.{Admitted}
use Rattle.bng_coa.specs.declared.rules.Admitted.TheVariants.{New, Repeat, InHand, Ignored}
use Rattle.bng_verdict.specs.declared.question.QuestionNo.{QuestionNo}
use Rattle.bng_desk.specs.Coa.{Requested, change_in, change_items}
use Rattle.bng_desk.specs.Items.{DataReading, arrived, drawn_from, ends_of, kept_of, kind_of, stays, taken_items, ticks_of}
use Rattle.bng_desk.specs.Logins.{Answered, reply_in, reply_items, silence, timeout_items, verdict_item}
use Rattle.bng_desk.specs.Model.{Desk}
use Rattle.bng_desk.specs.Reading.{taken_in}
use Rattle.bng_desk.specs.Turn.{Step, Turn, tunnel_roles, data_roles, ending_items, has_end, items_of, new_items}
use Rattle.bng_desk.proofs.ItemLaws.{all_due, all_ends}
use Rattle.bng_gate.specs.Serving.{Ends, Late, LateStep, Waits}
use Rattle.bng_gate.proofs.Passing.{datagrams_as, datagrams_in}
use Rattle.bng_gate.proofs.Verdicts.{kept_after}

-- the item is no datagram of an access port, of the core or for a tunnel
abbrev pub IsSilent : Item → Type 0
IsSilent i = datagrams_in i ≡ []

none_in : (items : List Item) → All IsSilent items → flat_map datagrams_in items ≡ []
none_in [] all = refl
none_in (i ∷ items) all = ap (λ (ds : List Datagram). ds ++ flat_map datagrams_in items) (All-head IsSilent i items all) ∙ none_in items (All-tail IsSilent i items all)

drawn_same : (seed : List ℕ) (n : ℕ) (items : List Item) → flat_map datagrams_in (drawn_from seed n items) ≡ flat_map datagrams_in items
drawn_same seed n [] = refl
drawn_same seed n (i ∷ items) = ap (λ (ds : List Datagram). datagrams_in i ++ ds) (drawn_same seed (n + 1) items)

-- what stays of a round
stays_silent : (k : ItemKind) (from : Peer) (octets : List ℕ) → stays k ≡ true → datagrams_as k from octets ≡ []
stays_silent (kind.Access number) from octets h = absurd (false≢true h)
stays_silent kind.Core from octets h = absurd (false≢true h)
stays_silent kind.Tunnel from octets h = absurd (false≢true h)
stays_silent kind.Verdict from octets h = refl
stays_silent kind.Change from octets h = refl
stays_silent kind.Tick from octets h = refl
stays_silent kind.End from octets h = refl

kept_silent : (items : List Item) → AllByRecursion IsSilent (kept_of items)
kept_silent [] = tt
kept_silent (i ∷ items) = by (stays i.kind) refl (kept_silent items)
  where
    by : (b : Bool) → stays i.kind ≡ b → AllByRecursion IsSilent (kept_of items) → AllByRecursion IsSilent (cond b (i ∷ kept_of items) (kept_of items))
    by true is rest = (stays_silent i.kind i.from i.frame.payload is, rest)
    by false is rest = rest

all_kept_silent : (items : List Item) → All IsSilent (kept_of items)
all_kept_silent items = All-from_recursion IsSilent (kept_of items) (kept_silent items)

changes_silent : (requested : List Requested) → flat_map datagrams_in (change_items requested) ≡ []
changes_silent [] = refl
changes_silent (q ∷ requested) =
    flat_map-append datagrams_in (change_in q.arrival q.admitted q.target) (change_items requested)
    ∙ ap (λ (ds : List Datagram). ds ++ flat_map datagrams_in (change_items requested)) (one q.admitted)
    ∙ changes_silent requested
  where
    one : (admitted : Admitted) → flat_map datagrams_in (change_in q.arrival admitted q.target) ≡ []
    one (New number) = refl
    one (Repeat frame) = refl
    one InHand = refl
    one (Ignored cause) = refl

replies_silent : (answers : List Answered) → flat_map datagrams_in (reply_items answers) ≡ []
replies_silent [] = refl
replies_silent (x ∷ answers) = flat_map-append datagrams_in (reply_in x.arrival x.found) (reply_items answers) ∙ ap (λ (ds : List Datagram). ds ++ flat_map datagrams_in (reply_items answers)) (one x.found) ∙ replies_silent answers
  where
    one : (found : Option QuestionNo) → flat_map datagrams_in (reply_in x.arrival found) ≡ []
    one None = refl
    one (Some q) = refl

timeouts_silent : (timed : List QuestionNo) → flat_map datagrams_in (timeout_items timed) ≡ []
timeouts_silent timed = none_in (timeout_items timed) (All-map IsSilent (verdict_item silence) timed (λ n d lt. refl))

ticks_silent : (d : Desk) (moment : ℕ) → flat_map datagrams_in (ticks_of moment d.shards) ≡ []
ticks_silent d moment = none_in (ticks_of moment d.shards) (all_due IsSilent (λ shard. refl) moment d.shards)

ends_silent : (n : ℕ) → flat_map datagrams_in (ends_of n) ≡ []
ends_silent n = none_in (ends_of n) (all_ends IsSilent (λ shard. refl) n)

-- what was taken of a role is what its items are
abbrev IsTold : Role → Type 0
IsTold role = (from : Peer) (octets : List ℕ) → let d : Datagram = record { role = role; peer = from; octets = octets } in datagrams_as (kind_of role) from octets ≡ d ∷ []

reading_told : (role : Role) → IsTold role → (arrivals : List Arrival) → flat_map datagrams_in (map (arrived role) arrivals) ≡ taken_in role arrivals
reading_told role told [] = refl
reading_told role told (a ∷ arrivals) =
    let d : Datagram = record { role = role; peer = a.from; octets = a.octets } in
    ap (λ (ds : List Datagram). ds ++ flat_map datagrams_in (map (arrived role) arrivals)) (told a.from a.octets) ∙ ap (λ (ds : List Datagram). d ∷ ds) (reading_told role told arrivals)

abbrev pub taken_of : List DataReading → List Datagram
taken_of readings = flat_map (λ r. taken_in r.role r.arrivals) readings

readings_told : (readings : List DataReading) → AllByRecursion IsTold (map (λ r. r.role) readings) → flat_map datagrams_in (taken_items readings) ≡ taken_of readings
readings_told [] told = refl
readings_told (r ∷ readings) told =
    flat_map-append datagrams_in (map (arrived r.role) r.arrivals) (taken_items readings)
    ∙ ap (λ (ds : List Datagram). ds ++ flat_map datagrams_in (taken_items readings)) (reading_told r.role told.0 r.arrivals)
    ∙ ap (λ (ds : List Datagram). taken_in r.role r.arrivals ++ ds) (readings_told readings told.1)

ports_told : (ports : List ℕ) → AllByRecursion IsTold (map Access ports ++ Core ∷ [])
ports_told [] = (λ from octets. refl, tt)
ports_told (p ∷ ports) = (λ from octets. refl, ports_told ports)

roles_told : (serves : Bool) (ports : List ℕ) → AllByRecursion IsTold (tunnel_roles serves ++ (map Access ports ++ Core ∷ []))
roles_told true ports = (λ from octets. refl, ports_told ports)
roles_told false ports = ports_told ports

-- in a turn of serving they are what was taken, and in one of the ending there are none
pub items_told : (d : Desk) (t : Turn) → All IsSilent d.kept → map (λ r. r.role) t.readings ≡ data_roles d.rules → flat_map datagrams_in (items_of d t) ≡ taken_of t.readings
items_told d t kept roles =
    let told : AllByRecursion IsTold (map (λ r. r.role) t.readings) = subst (AllByRecursion IsTold) (sym roles) (roles_told d.rules.serves_tunnels (range_with_len 1 (length d.rules.access))) in
    let replies = reply_items t.answers in
    let taken = taken_items t.readings in
    let timed = timeout_items t.timed in
    let ticks = ticks_of t.moment d.shards in
    flat_map-append datagrams_in d.kept (drawn_from d.seed d.drawn (new_items d t))
    ∙ ap (λ (ds : List Datagram). ds ++ flat_map datagrams_in (drawn_from d.seed d.drawn (new_items d t))) (none_in d.kept kept)
    ∙ drawn_same d.seed d.drawn (new_items d t)
    ∙ flat_map-append datagrams_in (change_items t.requested) (replies ++ taken ++ timed ++ ticks)
    ∙ ap (λ (ds : List Datagram). ds ++ flat_map datagrams_in (replies ++ taken ++ timed ++ ticks)) (changes_silent t.requested)
    ∙ flat_map-append datagrams_in (replies ++ taken ++ timed) ticks
    ∙ ap (λ (ds : List Datagram). flat_map datagrams_in (replies ++ taken ++ timed) ++ ds) (ticks_silent d t.moment)
    ∙ append-nil (flat_map datagrams_in (replies ++ taken ++ timed))
    ∙ flat_map-append datagrams_in (replies ++ taken) timed
    ∙ ap (λ (ds : List Datagram). flat_map datagrams_in (replies ++ taken) ++ ds) (timeouts_silent t.timed)
    ∙ append-nil (flat_map datagrams_in (replies ++ taken))
    ∙ flat_map-append datagrams_in replies taken
    ∙ ap (λ (ds : List Datagram). ds ++ flat_map datagrams_in taken) (replies_silent t.answers)
    ∙ readings_told t.readings told

pub ending_told : (d : Desk) → All IsSilent d.kept → flat_map datagrams_in (ending_items d) ≡ []
ending_told d kept = by (has_end d.kept)
  where
    by : (b : Bool) → flat_map datagrams_in (cond b d.kept (d.kept ++ drawn_from d.seed d.drawn (ends_of (length d.shards)))) ≡ []
    by true = none_in d.kept kept
    by false =
        flat_map-append datagrams_in d.kept (drawn_from d.seed d.drawn (ends_of (length d.shards)))
        ∙ ap (λ (ds : List Datagram). ds ++ flat_map datagrams_in (drawn_from d.seed d.drawn (ends_of (length d.shards)))) (none_in d.kept kept)
        ∙ drawn_same d.seed d.drawn (ends_of (length d.shards))
        ∙ ends_silent (length d.shards)

-- nothing that stays is such a datagram
pub step_keeps : (d d' : Desk) (t : Option Turn) → Step d t d' → All IsSilent d.kept → All IsSilent d'.kept
step_keeps d d' None step kept = subst (All IsSilent) (sym (ap (λ (x : Desk). x.kept) step)) kept
step_keeps d d' (Some t) step kept =
    subst (All IsSilent) (sym (ap (λ (x : Desk). x.kept) step.5)) (kept_after IsSilent d (items_of d t) t.round (all_kept_silent (items_of d t)))

pub end_keeps : (d d' : Desk) (t : Late) → LateStep d t d' → All IsSilent d.kept → All IsSilent d'.kept
end_keeps d d' (Ends None) step kept = subst (All IsSilent) (sym (ap (λ (x : Desk). x.kept) step)) kept
end_keeps d d' (Waits t) step kept = subst (All IsSilent) (sym (ap (λ (x : Desk). x.kept) step.after)) kept
end_keeps d d' (Ends (Some t)) step kept =
    subst (All IsSilent) (sym (ap (λ (x : Desk). x.kept) step.5)) (kept_after IsSilent d (ending_items d) t.round (all_kept_silent (ending_items d)))
