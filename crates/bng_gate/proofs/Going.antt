-- The rounds of a run are turns of the engine.
use Rattle.std.proofs.Common.{◌≡◌, ℕ, ◌+◌, Bool, true, false, ◌&&◌, ◌==◌, List, [], ◌∷◌, map, length, Some, None, refl, ap, subst, sym, ◌∙◌}
use Rattle.std.specs.List.{AllByRecursion, AllZip, count_by, sum_by}
use Rattle.bng_base.specs.declared.address.Ip4.{Ip4}
use Rattle.bng_base.specs.declared.book.Book.{Book}
use Rattle.bng_base.specs.declared.item.Entry.{Entry}
use Rattle.bng_base.specs.Listed.{Same}
use Rattle.bng_engine.specs.Accounted.{Balanced}
use Rattle.bng_engine.specs.Books.{book_at, sent_by}
use Rattle.bng_engine.specs.Calls.{Moves}
use Rattle.bng_engine.specs.Claims.{is_held}
use Rattle.bng_engine.specs.Histories.{History, ShardHistory, ShardTurn}
use Rattle.bng_engine.specs.Laws.{TurnBy, BooksAccount, RowsAccount, RowsAccountOnWire, accounted_in, stops_of}
use Rattle.bng_engine.specs.Lists.{AnyOf}
use Rattle.bng_engine.specs.Pool.{ClaimsSoFar}
use Rattle.bng_engine.specs.Quantities.{Quantity, in_book}
use Rattle.bng_engine.specs.Sums.{stopped_where, has_lease, has_circuit, is_at, is_any}
use Rattle.bng_engine.specs.Terms.{Key, Stop, keys}
use Rattle.bng_engine.specs.Turns.{journals_in, TalliesGrow, HasSeat, Tells}
use Rattle.bng_engine.specs.Views.{Row, ShardView, DeskView, row_keys, rows_where, turn_in}
use Rattle.bng_engine.proofs.Walks.{zip_both}
use Rattle.bng_steps.specs.Protocol.{ShardState, Handled, pppoe, terms_of}
use Rattle.bng_desk.specs.Model.{Desk}
use Rattle.bng_desk.specs.Round.{Round, left_by, views_of, view_of, held_by}
use Rattle.bng_gate.proofs.Beside.{IsBeside, Sight, Went, all_beside_itself, all_gone, all_moved, any_gone, each_gone, gone, map_gone, moves_beside, sum_gone, sums_beside}
use Rattle.bng_gate.proofs.Follows.{Follows, IsOf}

-- the desk stands where a turn of the engine left it, but for what its shards answered to requests for changes, which was told
pub record Stands (v : DeskView ShardState Handled) (d : Desk) : Type 0 where
  pub shards : AllZip IsBeside v.shards (views_of d.shards)
  pub held : held_by d.pool ≡ v.held
  pub tallies : d.tallies ≡ v.tallies

pub stands_itself : (d : Desk) → Stands (view_of d.shards d.pool d.tallies) d
stands_itself d = record { shards = all_beside_itself (views_of d.shards); held = refl; tallies = refl }

-- the desk as the engine sees it after a round, from where it stood
abbrev pub view_beside : DeskView ShardState Handled → Round → DeskView ShardState Handled
view_beside v round = record { shards = all_gone v.shards round.shards; held = held_by round.pool; tallies = round.tallies }

all_went : (v : DeskView ShardState Handled) (d : Desk) (round : Round) → Stands v d → IsOf d (Some round) → AllZip Went v.shards round.shards
all_went v d round stands is = zip_both IsBeside (Moves pppoe) Went moves_beside v.shards (views_of d.shards) round.shards stands.shards is.2.turn.shards

abbrev HasSeats : ℕ → Sight → Type 0
HasSeats n v = AllByRecursion (HasSeat pppoe n) v.journal

pub round_turns : (v : DeskView ShardState Handled) (d : Desk) (round : Round) → Stands v d → IsOf d (Some round) → TurnBy pppoe v (map turn_in round.shards) (view_beside v round)
round_turns v d round stands is =
    let us = v.shards in
    let ws = round.shards in
    let went = all_went v d round stands is in
    let t = is.2.turn in
    let claims : ClaimsSoFar pppoe v.held (journals_in ws) t.mid = subst (λ (h : List Ip4). ClaimsSoFar pppoe h (journals_in ws) t.mid) stands.held t.claims in
    let seats : AllByRecursion (HasSeats (length v.tallies)) ws = subst (λ (bs : List Book). AllByRecursion (HasSeats (length bs)) ws) stands.tallies t.seats in
    let tallies : TalliesGrow v.tallies ws round.tallies = subst (λ (bs : List Book). TalliesGrow bs ws round.tallies) stands.tallies t.tallies in
    record {
      turn = record {
        shards = all_moved us ws went;
        mid = t.mid;
        claims = subst (λ (js : List (List Handled)). ClaimsSoFar pppoe v.held js t.mid) (sym (map_gone (λ (x : Sight). x.journal) (λ u w. refl) us ws went)) claims;
        given = λ a. t.given a ∙ ap (λ (n : ℕ). is_held a t.mid && (0 == n)) (sym (sum_gone (λ (x : Sight). count_by (λ (s : Stop). s.key.address.0 == a) x.stops) (λ u w. refl) us ws went));
        seats = each_gone (HasSeats (length v.tallies)) (λ u w h. h) us ws went seats;
        tallies = record {
          count = tallies.count;
          each = λ q i input within. tallies.each q i input within ∙ ap (λ (n : ℕ). in_book q input (book_at i v.tallies) + n) (sym (sum_gone (λ (x : Sight). sent_by q i input x.sends) (λ u w. refl) us ws went));
        };
      };
      parts = sym (map_gone turn_in (λ u w. refl) us ws went);
    }

left_beside : (us ws : List Sight) → AllZip Went us ws → AllZip IsBeside (all_gone us ws) (views_of (map left_by ws))
left_beside [] [] h = tt
left_beside [] (w ∷ ws) h = absurd h
left_beside (u ∷ us) [] h = absurd h
left_beside (u ∷ us) (w ∷ ws) h = (record { number = refl; state = record { rules = refl; slots = refl }; rows = refl; books = refl }, left_beside us ws h.1)

pub round_stands : (v : DeskView ShardState Handled) (d d' : Desk) (round : Round) → Stands v d → Follows d (Some round) d' → Stands (view_beside v round) d'
round_stands v d d' round stands follows = record {
  shards = subst (λ (vs : List (ShardView ShardState Entry)). AllZip IsBeside (all_gone v.shards round.shards) (views_of vs)) (sym follows.shards)
      (left_beside v.shards round.shards (all_went v d round stands follows.is_round));
  held = ap held_by follows.pool;
  tallies = follows.tallies;
}

-- what is so of a shard that the round left is so of one as the engine sees it
pub any_left : (P : Sight → Type 0) → ((u w : Sight) → P w → P (gone u w)) → (v : DeskView ShardState Handled) (d : Desk) (round : Round) → Stands v d → IsOf d (Some round) → AnyOf P round.shards → AnyOf P (view_beside v round).shards
any_left P keeps v d round stands is any = any_gone P keeps v.shards round.shards (all_went v d round stands is) any

pub none_stands : (v : DeskView ShardState Handled) (d d' : Desk) → Stands v d → Follows d None d' → Stands v d'
none_stands v d d' stands follows = record {
  shards = subst (λ (vs : List (ShardView ShardState Entry)). AllZip IsBeside v.shards (views_of vs)) (sym follows.shards) stands.shards;
  held = ap held_by follows.pool ∙ stands.held;
  tallies = follows.tallies ∙ stands.tallies;
}

-- What is said of sums -------------------------------------------------------------------------------------------------------------

-- what the sums of the engine's view say, those of the desk say
module _ (v : DeskView ShardState Handled) (d : Desk) (stands : Stands v d) where
  abbrev end : DeskView ShardState Handled
  end = view_of d.shards d.pool d.tallies

  same : (f : List Row → List Book → ℕ) → sum_by (λ x. f x.rows x.books) end.shards ≡ sum_by (λ x. f x.rows x.books) v.shards
  same f = sums_beside f v.shards end.shards stands.shards

  rows_same : (q : Quantity) (pick : Key → Bool) (input : Bool) → sum_by (λ x. rows_where q pick input x.rows) end.shards ≡ sum_by (λ x. rows_where q pick input x.rows) v.shards
  rows_same q pick input = same (λ rows books. rows_where q pick input rows)

  accounted_same : (rounds : List (List (ShardTurn Handled))) (q : Quantity) (pick : Key → Bool) (input : Bool) → accounted_in q pick input rounds end ≡ accounted_in q pick input rounds v
  accounted_same rounds q pick input = ap (λ (n : ℕ). stopped_where q pick input (stops_of rounds) + n) (rows_same q pick input)

  pub balanced_left : (h : History ShardState) → Balanced v h → Balanced end h
  balanced_left h b = record {
    books = λ q input. same (λ rows books. sum_by (in_book q input) books) ∙ b.books q input;
    tallies = λ q input. ap (λ (bs : List Book). sum_by (in_book q input) bs) stands.tallies ∙ b.tallies q input;
    carried = λ q input. ap (λ (n : ℕ). sum_by (λ (x : ShardHistory ShardState). stopped_where q is_any input x.stops) h.shards + n) (rows_same q is_any input) ∙ b.carried q input;
  }

  pub rows_left : (rounds : List (List (ShardTurn Handled))) → RowsAccount rounds v → RowsAccount rounds end
  rows_left rounds r = λ q pick input. accounted_same rounds q pick input ∙ r q pick input

  pub wire_left : (rounds : List (List (ShardTurn Handled))) → RowsAccountOnWire pppoe rounds v → RowsAccountOnWire pppoe rounds end
  wire_left rounds r = record {
    from = λ q address. accounted_same rounds q (has_lease address) true ∙ r.from q address;
    to = λ q address. accounted_same rounds q (has_lease address) false ∙ r.to q address;
    on = λ q circuit tells. accounted_same rounds q (has_circuit circuit) false ∙ r.on q circuit tells;
    on_to = λ q circuit address tells. accounted_same rounds q (is_at circuit address) false ∙ r.on_to q circuit address tells;
    all_input = λ q. accounted_same rounds q is_any true ∙ r.all_input q;
    all_output = λ q. accounted_same rounds q is_any false ∙ r.all_output q;
  }

  pub books_left : (u : DeskView ShardState Handled) (rounds : List (List (ShardTurn Handled))) → BooksAccount pppoe u rounds v → BooksAccount pppoe u rounds end
  books_left u rounds b = record { each = λ q i input. same (λ rows books. in_book q input (book_at i books)) ∙ b.each q i input; whole = b.whole }

-- A shard of the desk has the sessions of its history, and a row for each term of it.
pub record Shows (v : Sight) (h : ShardHistory ShardState) : Type 0 where
  pub slots : v.state.slots ≡ h.state.slots
  pub fit : Same (row_keys v.rows) (keys (terms_of h.state))

pub shows : (vs ws : List Sight) (hs : List (ShardHistory ShardState)) → AllZip IsBeside vs ws → AllZip (Tells pppoe) vs hs → AllZip Shows ws hs
shows [] [] [] b tells = tt
shows [] [] (h ∷ hs) b tells = absurd tells
shows [] (w ∷ ws) hs b tells = absurd b
shows (v ∷ vs) [] hs b tells = absurd b
shows (v ∷ vs) (w ∷ ws) [] b tells = absurd tells
shows (v ∷ vs) (w ∷ ws) (h ∷ hs) b tells =
    let here : Shows w h = record {
      slots = b.0.state.slots ∙ ap (λ (s : ShardState). s.slots) tells.0.state;
      fit = subst (λ (rows : List Row). Same (row_keys rows) (keys (terms_of h.state))) (sym b.0.rows) tells.0.fit;
    } in
    (here, shows vs ws hs b.1 tells.1)
