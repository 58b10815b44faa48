-- What a turn gives to its settlement, and what that leaves.
use Rattle.std.proofs.Common.{◌≡◌, inl, inr, ◌+◌, ◌*◌, ◌^◌, ◌<◌, ◌≤◌, ℕ, List, [], Vec, Global, length, vec_capacity, sym, ap, subst, ◌∙◌, arith}
use Rattle.bng_base.specs.declared.item.Item.{Item}
use Rattle.bng_base.specs.declared.round.RoundRecord.{RoundRecord}
use Rattle.bng_base.specs.Told.{PlantTold, TraceTold}
use Rattle.bng_billing.specs.State.{BillingState}
use Rattle.bng_coa.specs.State.{State as CoaState}
use Rattle.bng_lane.specs.State.{LaneState}
use Rattle.bng_desk.specs.declared.holding.Named.{Named}
use Rattle.bng_desk.specs.declared.lists.Lists.{Lists}
use Rattle.bng_desk.specs.declared.settlement.Settled.{Settled}
use Rattle.bng_desk.specs.declared.settlement.Works.{Works}
use Rattle.bng_desk.specs.Accounting.{AreBilled, KnowsBegun}
use Rattle.bng_desk.specs.Coa.{CoaReply}
use Rattle.bng_desk.specs.Items.{kept_of}
use Rattle.bng_desk.specs.Kept.{IsKept, all_turns, octets_most, drops_most}
use Rattle.bng_desk.specs.Model.{Desk, keys_in, sessions_in}
use Rattle.bng_desk.specs.Random.{Drawn}
use Rattle.bng_desk.specs.Settlement.{AreBlank, IsReady, KeepsWorks, Settles}
use Rattle.bng_desk.specs.Taking.{Accounts, AreItems, Holds, outs_of_items}
use Rattle.bng_desk.proofs.Awaited.{awaited_later}
use Rattle.bng_desk.proofs.DropLaws.{within_wider}
use Rattle.bng_desk.proofs.Dwindling.{Nears, all_work, nears}
use Rattle.bng_desk.proofs.Joining.{low_wider, books_wider}
use Rattle.bng_desk.proofs.Keeping.{IsLeft}
use Rattle.bng_desk.proofs.Knowing.{terms_later}
use Rattle.bng_desk.proofs.OneMore.{low_more}
use Rattle.bng_desk.proofs.Readying.{Shards}
use Rattle.bng_desk.proofs.Staying.{AreEnds}
use Rattle.bng_desk.proofs.Telling.{told_rules, told_sessions, told_then}
use Rattle.bng_desk.proofs.Works.{gathered, kept_with}

module _ (d : Desk) (w : Works) (heard : BillingState) (coa : CoaState) (lane : LaneState) (draws : Drawn) (none : Vec Item Global) (emptied : Lists) (named : Named) (lists : Lists) where
  pub is_ready : IsKept (kept_with d w) → AreBilled (keys_in w.shards.items) heard → KnowsBegun w.shards.items heard → d.moment ≤ named.moment → named.moment < 2 ^ 60 → draws.drawn ≤ w.draws.drawn + 896 → none.items ≡ [] → length (kept_of lists.items.items) ≤ vec_capacity none
      → AreItems lists.items.items → outs_of_items lists.items.items ≤ 8320 + 320 * length w.shards.items → AreBlank (length w.shards.items) lists → IsReady d.rules named lists (gathered w heard coa lane draws none emptied)
  is_ready k billed knows later early few none_kept room items few_outs blank =
      let turns = all_turns d in
      let most : octets_most * turns ≤ 2 ^ 62 + 2 ^ 61 = omega (arith, k.made, k.most, k.endings) in
      record {
        count = k.shards;
        some = k.some_shard;
        few = k.few_shards;
        order = k.order;
        empty = k.empty;
        sessions = k.sessions;
        places = k.places;
        held = k.held;
        pools = k.pools;
        one_rule = k.rules;
        terms = terms_later d.moment named.moment w.shards.items later k.terms;
        low = low_wider (octets_most * turns) (2 ^ 62 + 2 ^ 61) w.shards.items most k.low;
        books = books_wider (octets_most * turns) (2 ^ 62 + 2 ^ 61) w.shards.items most k.books;
        tally = low_more (octets_most * turns) (2 ^ 62 + 2 ^ 61) w.tally most (k.tallies 0 (omega arith));
        tallied = k.tallied;
        adds_up = k.adds_up;
        billed = billed;
        knows = knows;
        awaited = awaited_later d.moment named.moment w.shards.items w.accounts.reports later k.awaited;
        all_told = k.all_told;
        moment = early;
        counts = within_wider (drops_most * turns) (2 ^ 61) w.drops (omega (arith, k.made, k.most, k.endings)) k.counts;
        drawn = omega (arith, few, k.drawn, k.made, k.most, k.endings);
        handed = k.handed;
        none_kept = none_kept;
        room = room;
        items = items;
        few_outs = few_outs;
        blank = blank;
      }

module _ (d : Desk) (w w' : Works) (heard : BillingState) (coa : CoaState) (lane : LaneState) (draws : Drawn) (none : Vec Item Global) (emptied : Lists) (named : Named) (repeats : List CoaReply) (items : List Item) (p p' : PlantTold) (t t' : TraceTold) (s : Settled) where
  abbrev mid : Works
  mid = gathered w heard coa lane draws none emptied

  abbrev before : Accounts
  before = record w.accounts { billing = heard }

  abbrev Held : Shards → PlantTold → RoundRecord → BillingState → Type 0
  Held held sent round booked = Holds d.rules w.pool w'.pool before (record w'.accounts { billing = booked }) named items p sent w.shards.items held w.drops w'.drops w.tally w'.tally round s.is_opened w'.kept.items

  -- what stays is nothing, or what the items keep
  kept_as : (P : List Item → Type 0) (held : Shards) (sent : PlantTold) (round : RoundRecord) (booked : BillingState) → Held held sent round booked → P [] → P (kept_of items) → P w'.kept.items
  kept_as P held sent round booked (inl h) empty some = subst P (sym h.1) empty
  kept_as P held sent round booked (inr h) empty some = subst P (sym h.1) some

  pub kept_by : (P : List Item → Type 0) → Settles d.rules named repeats items mid w' p p' t t' s → P [] → P (kept_of items) → P w'.kept.items
  kept_by P settles empty some = kept_as P settles.held settles.sent settles.round settles.booked settles.holds empty some

  -- a round of the ending that was opened leaves fewer sessions
  pub ends_near : IsKept (kept_with d w) → AreEnds (length w.shards.items) items → Settles d.rules named repeats items mid w' p p' t t' s → Nears s.is_opened (sessions_in w.shards.items) (sessions_in w'.shards.items)
  ends_near k ends settles =
      subst (λ (n : ℕ). Nears s.is_opened (sessions_in w.shards.items) n) (sym (ap sessions_in settles.replies.shards_are ∙ told_sessions settles.held))
      (nears d.rules w.pool w'.pool before (record w'.accounts { billing = settles.booked }) named items p settles.sent w.shards.items settles.held w.drops w'.drops w.tally w'.tally settles.round s.is_opened w'.kept.items settles.holds k.shards ends)

  pub is_left : IsKept (kept_with d w) → Settles d.rules named repeats items mid w' p p' t t' s → KeepsWorks named.moment mid w' → draws.drawn ≤ w.draws.drawn + 896 → IsLeft (kept_with d w) named.moment w'
  is_left k settles keeps few = record {
    shards = keeps.count;
    order = keeps.order;
    rules = told_rules d.rules settles.held w'.shards.items settles.replies.shards_are
        (all_work d.rules w.pool w'.pool before (record w'.accounts { billing = settles.booked }) named items p settles.sent w.shards.items settles.held w.drops w'.drops w.tally w'.tally settles.round d.rules s.is_opened w'.kept.items settles.holds k.rules);
    empty = keeps.empty;
    sessions = keeps.sessions;
    low = keeps.low (octets_most * all_turns d) k.low;
    books = keeps.books (octets_most * all_turns d) k.books;
    places = keeps.places;
    held = keeps.held;
    ranges = keeps.ranges;
    terms = keeps.terms;
    tally_low = keeps.tally (octets_most * all_turns d) (k.tallies 0 (omega arith));
    tallied = keeps.tallied;
    adds_up = keeps.adds_up;
    counts = keeps.counts (drops_most * all_turns d) k.counts;
    drawn_is = omega (arith, few, keeps.drawn);
    handed_is = keeps.handed;
    billed = keeps.billed;
    knows = keeps.knows;
    awaited = keeps.awaited;
    all_told = told_then settles.held w'.shards.items settles.replies.shards_are;
  }
