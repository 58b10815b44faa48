-- Each item of a turn that is a yes is a datagram that was taken from Auth in that turn or before it.
use Rattle.std.proofs.Common.{◌≡◌, ℕ, ◌+◌, ◌<◌, ◌≤◌, Bool, true, false, List, [], ◌∷◌, ◌++◌, Option, Some, None, map, length, slice_get, refl, sym, ap, subst, ◌∙◌, arith}
use Rattle.std.specs.List.{All, AllByRecursion, range_with_len}
use Rattle.std.proofs.lemmas.Bool.{true≢false}
use Rattle.std.proofs.lemmas.List.Elements.{All-append, All-cons, All-filter, All-from_recursion, All-map, All-nil}
use Rattle.bng_base.specs.declared.item.Item.{Item}
use Rattle.bng_base.specs.declared.item.ItemKind.TheVariants as kind
use Rattle.bng_base.specs.declared.outside.Role.{Role}
use Rattle.bng_base.specs.declared.outside.Role.TheVariants.{Access, Core}
use Rattle.bng_coa.specs.declared.rules.Admitted.{Admitted}
use Rattle.bng_coa.specs.declared.rules.Admitted.TheVariants.{New, Repeat, InHand, Ignored}
use Rattle.bng_radius_wire.specs.Grammar.{Packet, IsRadius}
use Rattle.bng_verdict.specs.declared.question.QuestionNo.{QuestionNo}
use Rattle.bng_verdict.specs.Verdicts.{Saying, IsVerdict, Silent, Replied, NoReply, silence as silent}
use Rattle.bng_desk.specs.Coa.{Requested, change_in, change_item, change_items}
use Rattle.bng_desk.specs.Items.{DataReading, arrived, ends_of, for_shard, kept_of, kind_of, stays, taken_items, ticks_of}
use Rattle.bng_desk.specs.Logins.{Answered, reply_in, reply_items, silence, timeout_items, verdict_item}
use Rattle.bng_desk.specs.Model.{Desk}
use Rattle.bng_desk.specs.Turn.{Turn, tunnel_roles, data_roles}
use Rattle.bng_desk.proofs.ItemLaws.{all_due, all_ends}
use Rattle.bng_gate.specs.Replied.{answers_in}
use Rattle.bng_gate.specs.Serving.{Made}
use Rattle.bng_gate.proofs.Lists.{all_by_place}

-- the item is the yes to this question of this session
pub record IsYesItem (i : Item) (session ask : ℕ) : Type 0 where
  pub kind : i.kind ≡ kind.Verdict
  pub target : i.target ≡ session
  pub number : i.ask ≡ ask
  pub verdict : Saying
  pub says : IsVerdict i.frame.payload (Some verdict)
  pub yes : verdict.yes ≡ true

-- the question with this number of this session
abbrev pub question_no : ℕ → ℕ → QuestionNo
question_no session ask = record { session = record { 0 = session }; ask = ask }

-- in this turn, as this datagram of Auth, counted from 0, the reply to the question was taken, and it is a yes
pub record IsYesAt (turns : List Made) (k place : ℕ) (q : QuestionNo) : Type 0 where
  pub made : Made
  pub at : slice_get turns k ≡ Some made
  pub answer : Answered
  pub here : slice_get (answers_in made.turn) place ≡ Some answer
  pub found : answer.found ≡ Some q
  pub verdict : Saying
  pub is_verdict : IsVerdict answer.arrival.octets (Some verdict)
  pub yes : verdict.yes ≡ true

-- in some turn before this one, with these octets
pub record WasTaken (turns : List Made) (k : ℕ) (q : QuestionNo) (octets : List ℕ) : Type 0 where
  pub turn : ℕ
  pub before : turn < k
  pub place : ℕ
  pub is : IsYesAt turns turn place q
  pub its : is.answer.arrival.octets ≡ octets

-- where the item is a yes, it was taken before the turn with this number
abbrev pub HasCause : List Made → ℕ → Item → Type 0
HasCause turns k i = (session ask : ℕ) → IsYesItem i session ask → WasTaken turns k (question_no session ask) i.frame.payload

pub later_cause : (turns : List Made) (k n : ℕ) → k ≤ n → (i : Item) → HasCause turns k i → HasCause turns n i
later_cause turns k n le i h session ask tells =
    let was = h session ask tells in
    let before : was.turn < n = omega (arith, was.before, le) in
    record { turn = was.turn; before = before; place = was.place; is = was.is; its = was.its }

-- What is no yes -----------------------------------------------------------------------------------------------------------

-- no octets are no packet
no_packet : (p : Packet) → IsRadius p [] → ⊥
no_packet p h = omega (arith, h.at_least, h.is_there)

-- and no octets are no yes
no_yes : (verdict : Saying) → IsVerdict [] (Some verdict) → verdict.yes ≡ true → ⊥
no_yes verdict (Silent empty told) tells = true≢false (sym tells ∙ same_yes verdict told)
  where
    same_yes : (v : Saying) → Some v ≡ Some silent → v.yes ≡ false
    same_yes v e = cc
no_yes verdict (Replied p h told) tells = no_packet p h.packet
no_yes verdict (NoReply some h told) tells = some refl

module _ (turns : List Made) (k : ℕ) where
  abbrev Caused : Item → Type 0
  Caused = HasCause turns k

  -- an item of another kind
  other_kind : (i : Item) → (i.kind ≡ kind.Verdict → ⊥) → Caused i
  other_kind i other session ask tells = absurd (other tells.kind)

  pub drawn_caused : (i : Item) (octets : List ℕ) → Caused i → Caused (record i { random = octets })
  drawn_caused i octets h session ask tells = h session ask (record { kind = tells.kind; target = tells.target; number = tells.number; verdict = tells.verdict; says = tells.says; yes = tells.yes })

  pub changes_caused : (requested : List Requested) → All Caused (change_items requested)
  changes_caused [] = All-nil Caused
  changes_caused (q ∷ requested) = All-append Caused (change_in q.arrival q.admitted q.target) (change_items requested) (one q.admitted) (changes_caused requested)
    where
      one : (admitted : Admitted) → All Caused (change_in q.arrival admitted q.target)
      one (New number) = All-cons Caused (change_item q.arrival number q.target) [] (other_kind (change_item q.arrival number q.target) (λ e. absurd cc)) (All-nil Caused)
      one (Repeat frame) = All-nil Caused
      one InHand = All-nil Caused
      one (Ignored cause) = All-nil Caused

  pub timeout_caused : (timed : List QuestionNo) → All Caused (timeout_items timed)
  timeout_caused timed = All-map Caused (verdict_item silence) timed (λ n d lt session ask tells. absurd (no_yes tells.verdict tells.says tells.yes))

  pub ticks_caused : (d : Desk) (moment : ℕ) → All Caused (ticks_of moment d.shards)
  ticks_caused d moment = all_due Caused (λ shard. other_kind (for_shard kind.Tick shard) (λ e. absurd cc)) moment d.shards

  pub ends_caused : (n : ℕ) → All Caused (ends_of n)
  ends_caused n = all_ends Caused (λ shard. other_kind (for_shard kind.End shard) (λ e. absurd cc)) n

  pub kept_caused : (items : List Item) → All Caused items → All Caused (kept_of items)
  kept_caused items all = All-filter (λ (i : Item). stays i.kind) Caused items all

  -- of the end for tunnels, the access ports and the core
  abbrev IsElse : Role → Type 0
  IsElse role = kind_of role ≡ kind.Verdict → ⊥

  reading_caused : (r : DataReading) → IsElse r.role → All Caused (map (arrived r.role) r.arrivals)
  reading_caused r else = All-map Caused (arrived r.role) r.arrivals (λ n d lt. other_kind (arrived r.role _) else)

  pub taken_caused : (readings : List DataReading) → AllByRecursion IsElse (map (λ r. r.role) readings) → All Caused (taken_items readings)
  taken_caused [] all = All-nil Caused
  taken_caused (r ∷ readings) all = All-append Caused (map (arrived r.role) r.arrivals) (taken_items readings) (reading_caused r all.0) (taken_caused readings all.1)

ports_else : (ports : List ℕ) → AllByRecursion (λ role. kind_of role ≡ kind.Verdict → ⊥) (map Access ports ++ Core ∷ [])
ports_else [] = (λ e. absurd cc, tt)
ports_else (p ∷ ports) = (λ e. absurd cc, ports_else ports)

roles_else : (serves : Bool) (ports : List ℕ) → AllByRecursion (λ role. kind_of role ≡ kind.Verdict → ⊥) (tunnel_roles serves ++ (map Access ports ++ Core ∷ []))
roles_else true ports = (λ e. absurd cc, ports_else ports)
roles_else false ports = ports_else ports

-- The replies ----------------------------------------------------------------------------------------------------------------

same_question : (q : QuestionNo) (session ask : ℕ) → q.session.0 ≡ session → q.ask ≡ ask → q ≡ question_no session ask
same_question q session ask s a = ap (λ n. question_no n q.ask) s ∙ ap (question_no session) a

module _ (turns : List Made) (k : ℕ) (m : Made) (at : slice_get turns k ≡ Some m) where
  reply_caused : (place : ℕ) (x : Answered) → slice_get (answers_in m.turn) place ≡ Some x → (found : Option QuestionNo) → x.found ≡ found → All (HasCause turns (k + 1)) (reply_in x.arrival found)
  reply_caused place x here None e = All-nil (HasCause turns (k + 1))
  reply_caused place x here (Some q) e =
      let lt : k < k + 1 = omega arith in
      All-from_recursion (HasCause turns (k + 1)) (reply_in x.arrival (Some q)) (
        λ session ask tells. record {
          turn = k;
          before = lt;
          place = place;
          is = record { made = m; at = at; answer = x; here = here; found = e ∙ ap Some (same_question q session ask tells.target tells.number); verdict = tells.verdict; is_verdict = tells.says; yes = tells.yes };
          its = refl;
        },
        tt,
      )

  pub replies_caused : All (HasCause turns (k + 1)) (reply_items (answers_in m.turn))
  replies_caused = flat (answers_in m.turn) (all_by_place (λ x. All (HasCause turns (k + 1)) (reply_in x.arrival x.found)) (answers_in m.turn) (λ place x here. reply_caused place x here x.found refl))
    where
      flat : (xs : List Answered) → AllByRecursion (λ x. All (HasCause turns (k + 1)) (reply_in x.arrival x.found)) xs → All (HasCause turns (k + 1)) (reply_items xs)
      flat [] all = All-nil (HasCause turns (k + 1))
      flat (x ∷ xs) all = All-append (HasCause turns (k + 1)) (reply_in x.arrival x.found) (reply_items xs) all.0 (flat xs all.1)

-- the readings are of the end for tunnels, of the access ports and of the core
pub readings_else : (d : Desk) (t : Turn) → map (λ r. r.role) t.readings ≡ data_roles d.rules → AllByRecursion (λ role. kind_of role ≡ kind.Verdict → ⊥) (map (λ r. r.role) t.readings)
readings_else d t roles = subst (AllByRecursion (λ role. kind_of role ≡ kind.Verdict → ⊥)) (sym roles) (roles_else d.rules.serves_tunnels (range_with_len 1 (length d.rules.access)))
