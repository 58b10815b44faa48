-- The Interims of a round are those of terms that it left live, and say what was sent for them.
use Rattle.std.proofs.Common.{◌≡◌, ◌⊎◌, inl, inr, ⊎_elim, ℕ, ◌+◌, Bool, true, false, cond, eqb, List, [], ◌∷◌, map, Option, Some, None, refl, sym, ap, subst, ◌∙◌, arith}
use Rattle.std.specs.Prelude.{zip, find, filter, filter_map}
use Rattle.std.specs.List.{AllByRecursion, AllZip, cons_option, sum_by}
use Rattle.std.proofs.lemmas.Bool.{eqb-true}
use Rattle.std.proofs.lemmas.List.Elements.{All-from_recursion}
use Rattle.std.proofs.lemmas.List.Sums.{sum_by-cons}
use Rattle.std.proofs.lemmas.Option.{none-some, option_and_then_some, same_Some}
use Rattle.bng_acct.specs.declared.facts.StatusType.TheVariants.{Interim}
use Rattle.bng_base.specs.declared.item.Entry.{Entry}
use Rattle.bng_base.specs.Chain.{Chain}
use Rattle.bng_billing.specs.State.{BillingState}
use Rattle.bng_engine.specs.Accounted.{Accounted, Sound}
use Rattle.bng_engine.specs.Histories.{History, NextRound, ShardHistory, ShardTurn, Run}
use Rattle.bng_engine.specs.Laws.{TurnBy}
use Rattle.bng_engine.specs.Lists.{AnyOf, one_if}
use Rattle.bng_engine.specs.Quantities.{Quantity, in_book}
use Rattle.bng_engine.specs.Settlements.{SaysCarried}
use Rattle.bng_engine.specs.Sums.{carried}
use Rattle.bng_engine.specs.Terms.{Key, keys, numbered_as}
use Rattle.bng_engine.specs.Turns.{Tells}
use Rattle.bng_engine.specs.Views.{DeskView, Row, ShardView, row_keys}
use Rattle.bng_engine.proofs.Adding.{sum_map}
use Rattle.bng_engine.proofs.Everywhere.{all_append, all_weaker, any_all, any_either}
use Rattle.bng_engine.proofs.Owners.{each_is, live_is_keys, none_of}
use Rattle.bng_engine.proofs.SameLists.{any_same}
use Rattle.bng_engine.proofs.Turns.{turn_goes_on}
use Rattle.bng_steps.specs.declared.session.Lease.{Lease}
use Rattle.bng_steps.specs.declared.session.Session.{Session}
use Rattle.bng_steps.specs.Interims.{Reports, owed, owes, row_in}
use Rattle.bng_steps.specs.Protocol.{Handled, ShardState, pppoe, terms_of}
use Rattle.bng_steps.specs.Tenures.{Tenure}
use Rattle.bng_steps.proofs.StepLaws.{pppoe_laws}
use Rattle.bng_sessions.specs.Listed.{values}
use Rattle.bng_desk.specs.Accounting.{FormedRecord}
use Rattle.bng_desk.specs.Interims.{FormsInterim, FormsInterims, IsInterimOf, owed_by}
use Rattle.bng_desk.specs.Round.{Round, terms_in}
use Rattle.bng_desk.specs.Turn.{AreOfRound}
use Rattle.bng_gate.specs.Recorded.{SayRounds}
use Rattle.bng_gate.specs.Reported.{IsInterimIn, ReportsLive, SaysInterim}
use Rattle.bng_gate.proofs.Lists.{contained}

-- Lists ---------------------------------------------------------------------------------------------------------------------------

-- one of them, by itself
any_one : {X : Type 0} (P : X → Type 0) (C : Type 0) (xs : List X) → AnyOf P xs → ((x : X) → P x → AnyOf (λ y. y ≡ x) xs → C) → C
any_one P C [] h f = absurd h
any_one P C (x ∷ xs) (inl p) f = f x p (inl refl)
any_one P C (x ∷ xs) (inr h) f = any_one P C xs h (λ y p there. f y p (inr there))

any_mapped : {X Y : Type 0} (g : X → Y) (xs : List X) (x : X) → AnyOf (λ y. y ≡ x) xs → AnyOf (λ y. y ≡ g x) (map g xs)
any_mapped g [] x h = absurd h
any_mapped g (y ∷ xs) x (inl e) = inl (ap g e)
any_mapped g (y ∷ xs) x (inr h) = inr (any_mapped g xs x h)

all_for : {X A B : Type 0} (P : A → B → X → Type 0) (xs : List X) → ((a : A) (b : B) → AllByRecursion (P a b) xs) → AllByRecursion (λ x. (a : A) (b : B) → P a b x) xs
all_for P [] h = tt
all_for P (x ∷ xs) h = (λ a b. (h a b).0, all_for P xs (λ a b. (h a b).1))

-- what is found is one of them
any_found_at : {X : Type 0} (P : X → Type 0) (test : X → Bool) (x y : X) (xs : List X) (b : Bool) → cond b (Some x) (find test xs) ≡ Some y → P y → (find test xs ≡ Some y → AnyOf P xs) → P x ⊎ AnyOf P xs
any_found_at P test x y xs true e p rest = inl (subst P (sym (same_Some x y e)) p)
any_found_at P test x y xs false e p rest = inr (rest e)

any_found : {X : Type 0} (P : X → Type 0) (test : X → Bool) (xs : List X) (y : X) → find test xs ≡ Some y → P y → AnyOf P xs
any_found P test [] y e p = absurd (none-some y e)
any_found P test (x ∷ xs) y e p = any_found_at P test x y xs (test x) e p (λ later. any_found P test xs y later p)

any_given_at : {Y : Type 0} (P : Y → Type 0) (C : Type 0) (o : Option Y) (ys : List Y) → ((y : Y) → o ≡ Some y → P y → C) → (AnyOf P ys → C) → AnyOf P (cons_option o ys) → C
any_given_at P C None ys first rest h = rest h
any_given_at P C (Some y) ys first rest (inl p) = first y refl p
any_given_at P C (Some y) ys first rest (inr h) = rest h

any_given : {X Y : Type 0} (g : X → Option Y) (P : Y → Type 0) (C : Type 0) (xs : List X) → ((x : X) (y : Y) → g x ≡ Some y → P y → C) → AnyOf P (filter_map g xs) → C
any_given g P C [] each h = absurd h
any_given g P C (x ∷ xs) each h = any_given_at P C (g x) (filter_map g xs) (each x) (any_given g P C xs each) h

-- The rows of a shard say what was sent --------------------------------------------------------------------------------------------

-- of keys of which one has a number, what is summed of those with that number is that one's
module _ (g : ℕ → ℕ) (n : ℕ) where
  abbrev sum_at : List Key → ℕ
  sum_at ks = sum_by (λ k. cond (eqb k.term.serial n) (g k.term.serial) 0) ks

  abbrev number_of : Key → ℕ
  number_of k = k.term.serial

  one_at : (k : Key) (ks : List Key) (b : Bool) → eqb k.term.serial n ≡ b → one_if b + numbered_as n ks ≡ 1 → (numbered_as n ks ≡ 1 → sum_at ks ≡ g n) → cond b (g k.term.serial) 0 + sum_at ks ≡ g n
  one_at k ks true is one rest = omega (arith, none_of number_of (λ (j : Key). g j.term.serial) n ks (omega (arith, one)), ap g (eqb-true k.term.serial n is))
  one_at k ks false is one rest = omega (arith, rest (omega (arith, one)))

  one_number : (ks : List Key) → numbered_as n ks ≡ 1 → sum_at ks ≡ g n
  one_number [] one = absurd (omega (arith, one))
  one_number (k ∷ ks) one =
      omega (
        arith,
        sum_by-cons (λ (j : Key). cond (eqb j.term.serial n) (g j.term.serial) 0) k ks,
        one_at k ks (eqb k.term.serial n) refl (omega (arith, one, sum_by-cons (λ (j : Key). one_if (eqb j.term.serial n)) k ks)) (one_number ks),
      )

-- The record is an Interim with the key of this row, and its octets and packets.
pub record SaysRow (f : FormedRecord) (r : Row) : Type 0 where
  pub status : f.status ≡ Interim
  pub term : f.facts.term ≡ r.key.term
  pub circuit : f.facts.circuit ≡ r.key.circuit
  pub address : f.facts.address ≡ r.key.address
  pub carried : f.facts.carried ≡ r.carried

-- it is that of a row of this shard
abbrev pub IsOfRows : FormedRecord → ShardView ShardState Handled → Type 0
IsOfRows f v = AnyOf (SaysRow f) v.rows

module _ (v : ShardView ShardState Handled) (h : ShardHistory ShardState) (tells : Tells pppoe v h) (sound : Sound pppoe h) where
  abbrev live : List Key
  live = keys (terms_of h.state)

  abbrev row_number : Row → ℕ
  row_number r = r.key.term.serial

  -- as many rows have a number as live terms
  rows_numbered : (n : ℕ) → sum_by (λ (r : Row). one_if (eqb r.key.term.serial n)) v.rows ≡ numbered_as n live
  rows_numbered n =
      let number = λ (k : Key). one_if (eqb k.term.serial n) in
      sym (sum_map (λ (r : Row). r.key) number v.rows) ∙ tells.fit number

  rows_say_each : (q : Quantity) (input : Bool) → AllByRecursion (λ r. in_book q input r.carried ≡ carried q r.key.term.serial input h.sends) v.rows
  rows_say_each q input =
      each_is row_number (λ (r : Row). in_book q input r.carried) (λ n. carried q n input h.sends) v.rows
      (λ n. omega (arith, rows_numbered n, sound.once n))
      (λ n some.
      let pick = λ (k : Key). eqb k.term.serial n in
      let one : numbered_as n live ≡ 1 = omega (arith, some, rows_numbered n, sound.once n) in
      tells.rows q pick input ∙ live_is_keys q pick input h.sends (terms_of h.state) ∙ one_number (λ m. carried q m input h.sends) n live one)

  rows_say : AllByRecursion (λ r. SaysCarried h.sends r.key.term.serial r.carried) v.rows
  rows_say = all_for (λ (q : Quantity) (input : Bool) (r : Row). in_book q input r.carried ≡ carried q r.key.term.serial input h.sends) v.rows rows_say_each

  row_interim : (f : FormedRecord) (r : Row) → SaysRow f r → AnyOf (λ s. s ≡ r) v.rows → SaysInterim f h
  row_interim f r says there = record {
    key = r.key;
    among = contained live r.key (any_same r.key (row_keys v.rows) live tells.fit (any_mapped (λ (s : Row). s.key) v.rows r there));
    status = says.status;
    term = says.term;
    circuit = says.circuit;
    address = says.address;
    carried =
        any_all (λ s. s ≡ r) (λ s. SaysCarried h.sends s.key.term.serial s.carried) (SaysCarried h.sends r.key.term.serial f.facts.carried)
        (λ s is say q input. ap (in_book q input) says.carried ∙ subst (λ (x : Row). in_book q input x.carried ≡ carried q x.key.term.serial input h.sends) is (say q input))
        v.rows there rows_say;
  }

  interim_live : (f : FormedRecord) → IsOfRows f v → SaysInterim f h
  interim_live f is = any_one (SaysRow f) (SaysInterim f h) v.rows is (row_interim f)

-- and so of all shards
interim_any : (f : FormedRecord) (vs : List (ShardView ShardState Handled)) (hs : List (ShardHistory ShardState)) → AllZip (Tells pppoe) vs hs → AllByRecursion (Sound pppoe) hs → AnyOf (IsOfRows f) vs → AnyOf (SaysInterim f) hs
interim_any f [] hs tells sound h = absurd h
interim_any f (v ∷ vs) [] tells sound h = absurd tells
interim_any f (v ∷ vs) (x ∷ hs) tells sound (inl is) = inl (interim_live v x tells.0 sound.0 f is)
interim_any f (v ∷ vs) (x ∷ hs) tells sound (inr h) = inr (interim_any f vs hs tells.1 sound.1 h)

interim_in : (f : FormedRecord) (hs : List (ShardHistory ShardState)) → AnyOf (SaysInterim f) hs → IsInterimIn hs f
interim_in f hs h = any_one (SaysInterim f) (IsInterimIn hs f) hs h (λ x says there. record { shard = x; among = contained hs x there; says = says })

-- The Interims of a round are of its rows ----------------------------------------------------------------------------------------------

-- each record is one of a row that owed it
module _ (terms : List Tenure) (moment wall : ℕ) where
  abbrev IsOfOne : List Row → FormedRecord → Type 0
  IsOfOne rs f = AnyOf (λ r. IsInterimOf terms moment wall r f) rs

  first_of : (b : BillingState) (r : Row) (rs : List Row) (fs : List FormedRecord) (b' : BillingState) → FormsInterim terms moment wall b r fs b' → AllByRecursion (IsOfOne (r ∷ rs)) fs
  first_of b r rs fs b' (inl h) = subst (AllByRecursion (IsOfOne (r ∷ rs))) (sym h.1) tt
  first_of b r rs fs b' (inr h) = subst (AllByRecursion (IsOfOne (r ∷ rs))) (sym h.2) (inl h.3, tt)

  formed_of_rows : (b : BillingState) (rs : List Row) (fs : List FormedRecord) (b' : BillingState) → FormsInterims terms moment wall b rs fs b' → AllByRecursion (IsOfOne rs) fs
  formed_of_rows b [] fs b' h = subst (AllByRecursion (IsOfOne [])) (sym h.0) tt
  formed_of_rows b (r ∷ rs) fs b' h =
      subst (AllByRecursion (IsOfOne (r ∷ rs))) (sym h.5)
      (all_append (IsOfOne (r ∷ rs)) h.0 h.1 (first_of b r rs h.0 h.2 h.3)
      (all_weaker (IsOfOne rs) (IsOfOne (r ∷ rs)) (λ f is. inr is) h.1 (formed_of_rows h.2 rs h.1 b' h.4)))

-- a row that is owed is one of the shard's
owed_there : (P : Row → Type 0) (v : ShardView ShardState Handled) (last : List ℕ) (moment : ℕ) → AnyOf P (owed v last moment) → AnyOf P v.rows
owed_there P v last moment h =
    any_given (row_in v.rows) P (AnyOf P v.rows) (filter (owes last moment) (values v.state.slots.sessions))
    (λ (x : Session) (r : Row) is p. option_and_then_some (λ (l : Lease). find (λ (s : Row). eqb s.key.term.serial l.serial) v.rows) x.lease r is (λ l _ found. any_found P (λ (s : Row). eqb s.key.term.serial l.serial) v.rows r found p)) h

owed_in_all : (P : Row → Type 0) (moment : ℕ) (vs : List (ShardView ShardState Handled)) (rs : List Reports) → AnyOf P (owed_by moment vs rs) → AnyOf (λ v. AnyOf P v.rows) vs
owed_in_all P moment [] rs h = absurd h
owed_in_all P moment (v ∷ vs) [] h = absurd h
owed_in_all P moment (v ∷ vs) (r ∷ rs) h =
    ⊎_elim
    (λ (i : AnyOf P (owed v r.last moment)). inl (owed_there P v r.last moment i))
    (λ (i : AnyOf P (owed_by moment vs rs)). inr (owed_in_all P moment vs rs i))
    (any_either P (owed v r.last moment) (owed_by moment vs rs) h)

any_weaker : {X : Type 0} (P Q : X → Type 0) → ((x : X) → P x → Q x) → (xs : List X) → AnyOf P xs → AnyOf Q xs
any_weaker P Q f [] h = absurd h
any_weaker P Q f (x ∷ xs) (inl p) = inl (f x p)
any_weaker P Q f (x ∷ xs) (inr h) = inr (any_weaker P Q f xs h)

row_said : (terms : List Tenure) (moment wall : ℕ) (f : FormedRecord) (r : Row) → IsInterimOf terms moment wall r f → SaysRow f r
row_said terms moment wall f r is = record { status = is.status; term = is.facts.term; circuit = is.facts.circuit; address = is.facts.address; carried = is.facts.carried }

pub round_reports : (shards : List (ShardView ShardState Entry)) (moment wall : ℕ) (round : Round) (reports reports' : List Reports) (b : BillingState) (formed : List FormedRecord) (b' : BillingState)
    → (is : AreOfRound shards moment wall round reports reports' b formed b') → AllByRecursion (λ f. AnyOf (IsOfRows f) round.shards) is.interims
round_reports shards moment wall round reports reports' b formed b' is =
    let terms = terms_in (map (λ (v : ShardView ShardState Handled). v.state) round.shards) in
    let owing = owed_by moment round.shards reports in
    all_weaker (IsOfOne terms moment wall owing) (λ f. AnyOf (IsOfRows f) round.shards)
    (λ f of. owed_in_all (SaysRow f) moment round.shards reports (any_weaker (λ r. IsInterimOf terms moment wall r f) (SaysRow f) (row_said terms moment wall f) owing of)) is.interims
    (formed_of_rows terms moment wall is.started owing is.interims b' is.reported)

-- Turns --------------------------------------------------------------------------------------------------------------------------------

-- a turn of the engine, with Interims of rows that it left
pub record ReportTurn (v : DeskView ShardState Handled) (r : List (ShardTurn Handled) × List FormedRecord) (v' : DeskView ShardState Handled) : Type 0 where
  pub turn : TurnBy pppoe v r.0 v'
  pub reported : AllByRecursion (λ f. AnyOf (IsOfRows f) v'.shards) r.1

-- where such turns lead
pub record GoesLive (v' : DeskView ShardState Handled) (h : History ShardState) (rounds : List (List (ShardTurn Handled))) (interims : List (List FormedRecord)) : Type 0 where
  pub history : History ShardState
  pub run : Run pppoe h rounds history
  pub live : Chain ReportsLive h (zip rounds interims) history
  pub accounted : Accounted pppoe v' history

-- turns from a desk that keeps the sums of a run go on with it
pub reports_go_on : (v v' : DeskView ShardState Handled) (h : History ShardState) (rounds : List (List (ShardTurn Handled))) (interims : List (List FormedRecord)) (formed : List FormedRecord)
    → SayRounds rounds interims formed → Chain ReportTurn v (zip rounds interims) v' → Accounted pppoe v h → GoesLive v' h rounds interims
reports_go_on v v' h [] [] formed say turns so_far = record { history = h; run = refl; live = refl; accounted = subst (λ (x : DeskView ShardState Handled). Accounted pppoe x h) (sym turns) so_far }
reports_go_on v v' h [] (is ∷ interims) formed say turns so_far = absurd say
reports_go_on v v' h (ts ∷ rounds) [] formed say turns so_far = absurd say
reports_go_on v v' h (ts ∷ rounds) (is ∷ interims) formed say turns so_far =
    let mid = turns.0 in
    let goes = turn_goes_on pppoe pppoe_laws v mid h turns.1.turn.turn so_far in
    let past = goes.history in
    let next : NextRound pppoe h ts past = subst (λ (x : List (ShardTurn Handled)). NextRound pppoe h x past) (sym turns.1.turn.parts) goes.round in
    let rest = reports_go_on mid v' past rounds interims say.1 say.4 turns.2 goes.accounted in
    let here : ReportsLive h (ts, is) past = record {
      next = next;
      interims = All-from_recursion (IsInterimIn past.shards) is
          (all_weaker (λ f. AnyOf (IsOfRows f) mid.shards) (IsInterimIn past.shards)
          (λ f of. interim_in f past.shards (interim_any f mid.shards past.shards goes.accounted.tells.shards goes.accounted.fine.sound of)) is turns.1.reported);
    } in
    record { history = rest.history; run = (past, next, rest.run); live = (past, here, rest.live); accounted = rest.accounted }
