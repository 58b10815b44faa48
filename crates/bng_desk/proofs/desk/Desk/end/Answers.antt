use Rattle.std.proofs.Common.{◌≡◌, ℕ, ◌+◌, ◌-◌, ◌*◌, ◌<◌, ◌≤◌, ◌==◌, Bool, true, ◌&&◌, ◌||◌, cond, List, [], ◌∷◌, ◌++◌, length, map, replicate, refl, sym, ap, subst, arith, ◌∙◌}
use Rattle.std.proofs.lemmas.Bool.{false≢true}
use Rattle.std.proofs.lemmas.List.{length-map}
use Rattle.bng_base.specs.declared.item.Item.{Item}
use Rattle.bng_base.specs.Stretch.{Outside}
use Rattle.bng_desk.specs.declared.holding.Named.{Named}
use Rattle.bng_desk.specs.declared.settlement.Works.{Works}
use Rattle.bng_desk.specs.Items.{drawn_from, ends_of}
use Rattle.bng_desk.specs.Kept.{IsKept, rested, octets_most, drops_most}
use Rattle.bng_desk.specs.Coa.{replies_in}
use Rattle.bng_desk.specs.Model.{Desk, graces_most, is_over, left_of, rounds_left, sessions_in, state_of, unopened_most}
use Rattle.bng_desk.specs.Random.{Drawn}
use Rattle.bng_desk.specs.Taking.{Accounts}
use Rattle.bng_desk.specs.Turn.{Closes, MakesEnd, ending_items, has_end}
use Rattle.bng_desk.proofs.DropLaws.{within_wider}
use Rattle.bng_desk.proofs.Dwindling.{Nears}
use Rattle.bng_desk.proofs.Ending.{ended, after_ending}
use Rattle.bng_desk.proofs.Gracing.{closing_low, left_closed}
use Rattle.bng_desk.proofs.Joining.{low_wider, books_wider}
use Rattle.bng_desk.proofs.Keeping.{AreKept, IsNearer, Ends, kept_ended, ends_of_state, ends_few_kept, ends_kept, few_told, is_nearer, are_ends_of, none_kept, few_draws, one_low}
use Rattle.bng_desk.proofs.Leaving.{ends_near, is_left, is_ready, kept_by}
use Rattle.bng_desk.proofs.OneMore.{low_more}
use Rattle.bng_desk.proofs.Resting.{sessions_rested}
use Rattle.bng_desk.proofs.Staying.{AreEnds, items_of_ends, outs_of_ending, stays_few}
use Rattle.bng_desk.proofs.Works.{billed_by, kept_with, seen_with}
use Rattle.bng_desk.proofs.desk.Desk.end.Given.{Over}
use Rattle.bng_desk.proofs.desk.Desk.end.Goals as goal
use Rattle.bng_desk.proofs.desk.Desk.end.Goals.{After-to_end, After-answer}

module _ (g : Over) (c : After-to_end g) where
  abbrev works : Works
  works = c.self.inside.works

  abbrev desk : Desk
  desk = record {
    rules = c.self.inside.rules;
    lines = works.accounts.lines;
    stopped_book = works.accounts.stopped.carried;
    stops = works.accounts.stopped.stops;
    rounds = c.self.inside.rounds;
    turns = c.self.inside.turns;
    stopped = c.self.inside.stopped;
    shards = works.shards.items;
    pool = works.pool;
    tallies = works.tally ∷ [];
    seed = works.draws.seed;
    drawn = works.draws.drawn;
    drops = works.drops;
    moment = c.self.inside.moment;
    told = c.self.inside.told;
    lane = works.lane;
    handed = works.handed.items;
    billing = works.accounts.billing;
    reports = works.accounts.reports;
    coa = works.coa;
    endings = c.self.inside.endings;
    unopened = c.self.inside.unopened;
    closed = c.self.inside.closed;
    closing = c.self.inside.closing;
    graces = c.self.inside.graces;
    kept = works.kept.items;
  }

  abbrev named : Named
  named = record { number = c.self.inside.told + 1; moment = c.now-now.result; wall = c.wall-wall.result }

  later : c.self.inside.moment ≤ c.now-now.result
  later = omega (arith, ap (λ (x : Desk). x.moment) c.self.view_is, c.requires.later, c.now-now.ensures.later)

  shards_count : c.len-shards.result ≡ length works.shards.items
  shards_count = c.len-shards.ensures ∙ works.shards.ok.0

  -- by how many shards there are
  abbrev ending_with : ℕ → List Item
  ending_with n = cond (has_end works.kept.items) works.kept.items (works.kept.items ++ drawn_from works.draws.seed works.draws.drawn (ends_of n))

  abbrev drawn_with : ℕ → Drawn
  drawn_with n = record { seed = works.draws.seed; drawn = works.draws.drawn + cond (has_end works.kept.items) 0 n }

  items_are : c.to_end.new.items.items ≡ ending_items desk
  items_are = c.to_end.ensures.items ∙ ap ending_with shards_count

  draws_are : c.to_end.new.draws ≡ drawn_with (length works.shards.items)
  draws_are = c.to_end.ensures.drawn ∙ ap drawn_with shards_count

  few_drawn : c.to_end.new.draws.drawn ≤ works.draws.drawn + 896
  few_drawn = omega (arith, ap (λ (x : Drawn). x.drawn) draws_are, few_draws desk c.self.invariant.0)

  are_ends : AreEnds (length works.shards.items) c.to_end.new.items.items
  are_ends = subst (λ (is : List Item). AreEnds (length works.shards.items) is) (sym items_are) (are_ends_of desk c.self.invariant.0)

  few_shards : length works.shards.items ≤ 64
  few_shards = omega (arith, c.self.invariant.0.shards, c.self.invariant.0.few_shards)

pub invariant_of-self : goal.invariant_of-self
invariant_of-self g c =
    let was = c.self.invariant.0 in
    let works = c.self.inside.works in
    let turns = c.self.inside.turns in
    let endings = c.self.inside.endings in
    let e : Ends c.args.self.now = ends_of_state c.args.self.now c.requires.state in
    let over : (c.self.inside.stopped || (c.self.inside.turns == c.self.inside.rounds)) ≡ true = subst (λ (x : Desk). is_over x ≡ true) (sym c.self.view_is) e.over in
    let low : c.self.inside.unopened < unopened_most = subst (λ (x : Desk). x.unopened < unopened_most) (sym c.self.view_is) e.low in (
      record {
        some_port = was.some_port;
        few_ports = was.few_ports;
        few_profiles = was.few_profiles;
        shards = was.shards;
        some_shard = was.some_shard;
        few_shards = was.few_shards;
        order = was.order;
        rules = was.rules;
        empty = was.empty;
        sessions = was.sessions;
        pools = was.pools;
        places = was.places;
        held = was.held;
        terms = was.terms;
        most = was.most;
        made = was.made;
        serving = λ serves. absurd (false≢true (sym serves ∙ over));
        endings = omega (arith, was.left, low);
        unopened = omega (arith, low);
        left = omega (arith, was.left);
        told = omega (arith, was.told);
        drawn = omega (arith, was.drawn);
        one_seat = was.one_seat;
        low = low_wider (octets_most * (turns + endings)) (octets_most * (turns + (endings + 1))) works.shards.items (omega arith) was.low;
        books = books_wider (octets_most * (turns + endings)) (octets_most * (turns + (endings + 1))) works.shards.items (omega arith) was.books;
        tallies = one_low (octets_most * (turns + (endings + 1))) works.tally (low_more (octets_most * (turns + endings)) (octets_most * (turns + (endings + 1))) works.tally (omega arith) (was.tallies 0 (omega arith)));
        tallied = was.tallied;
        adds_up = was.adds_up;
        counts = within_wider (drops_most * (turns + endings)) (drops_most * (turns + (endings + 1))) works.drops (omega arith) was.counts;
        kept = was.kept;
        stays = was.stays;
        while_serving = λ serves. absurd (false≢true (sym serves ∙ over));
        handed = was.handed;
        closing = was.closing;
        graces = was.graces;
        billed = was.billed;
        knows = was.knows;
        awaited = was.awaited;
        all_told = was.all_told;
      },
      c.self.invariant.1,
    )

pub to_end-requires-clause-room : goal.to_end-requires-clause-room
to_end-requires-clause-room g c =
    let was = c.self.invariant.0 in
    let works = c.self.inside.works in
    omega (arith, stays_few (length works.shards.items) works.kept.items (omega (arith, was.shards, was.few_shards)) was.stays, c.len-shards.ensures, works.shards.ok.0, was.shards, was.few_shards, c.in-Ok.ensures.items.1)

pub settle-noted-requires : goal.settle-noted-requires
settle-noted-requires g c =
    let b = (goal.at.settle-noted-requires g c).After-to_end in
    let d = desk g b in
    let w = works g b in
    let n = length w.shards.items in
    let taken = c.in-Ok.ensures in
    record {
      ready = is_ready d w w.accounts.billing w.coa w.lane c.to_end.new.draws c.to_end.new.kept c.take.new.self (named g b) _ c.self.invariant.0 c.self.invariant.0.billed c.self.invariant.0.knows (later g b) c.now-now.ensures.bound (few_drawn g b) c.to_end.ensures.none_kept
          (omega (arith, ends_few_kept d c.to_end.new.items.items c.self.invariant.0 (are_ends g b), c.to_end.ensures.kept_room, c.self.invariant.1)) (items_of_ends n c.to_end.new.items.items (few_shards g b) (are_ends g b)) (outs_of_ending n c.to_end.new.items.items (are_ends g b))
          (record {
            loose = taken.loose.0;
            loose_room = taken.loose.1;
            journals = taken.journals.0;
            journals_room = omega (arith, taken.journals.1, shards_count g b);
            outs = taken.outs.0;
            outs_room = omega (arith, taken.outs.1, shards_count g b);
            allowances = taken.allowances ∙ ap (λ (m : ℕ). replicate m 0) (shards_count g b);
          });
    }

module _ (g : Over) (c : After-answer g) where
  abbrev so_far : After-to_end g
  so_far = (goal.at.invariant_of-self-2 g c).After-to_end

  -- fewer sessions are left, where a round was opened
  -- what the turn works on in the end
  accounts_are : c.close.new.self ≡ record c.settle-noted.new.works.accounts { billing = c.close.new.self.billing }
  accounts_are = c.close.ensures.others

  closes : Closes (c.either-self-inside.result && (sessions_in c.settle-noted.new.works.shards.items == 0)) c.settle-noted.new.works.accounts.billing c.close.new.self.billing
  closes =
      let after = c.settle-noted.new.works in
      subst (λ (b : Bool). Closes b after.accounts.billing c.close.new.self.billing)
      (c.both.ensures ∙ ap (λ (n : ℕ). c.either-self-inside.result && (n == 0)) (c.sessions_in-sessions.ensures ∙ ap sessions_in c.as_slice.ensures.value)) c.close.ensures.closes

  nearer : Nears c.settle-noted.result.is_opened (sessions_in (works g so_far).shards.items) (sessions_in c.settle-noted.new.works.shards.items)
  nearer =
      ends_near (desk g so_far) (works g so_far) c.settle-noted.new.works (works g so_far).accounts.billing (works g so_far).coa (works g so_far).lane c.to_end.new.draws c.to_end.new.kept c.take.new.self (named g so_far) (replies_in c.in-Ok.lists.repeats.items) c.to_end.new.items.items (g.P.Plant.told c.args.plant.now) (g.P.Plant.told c.settle-noted.new.plant) (g.T.Trace.told c.args.trace.now) (g.T.Trace.told c.settle-noted.new.trace)
      c.settle-noted.result c.self.invariant.0 (are_ends g so_far) c.settle-noted.ensures.settles

pub invariant_of-self-2 : goal.invariant_of-self-2
invariant_of-self-2 g c =
    let b = so_far g c in
    let d = desk g b in
    let w = works g b in
    let after = c.settle-noted.new.works in
    let told = g.P.Plant.told in
    let trace = g.T.Trace.told in
    let settles = c.settle-noted.ensures.settles in
    let keeps = c.settle-noted.ensures.keeps in
    let items = c.to_end.new.items.items in
    let e : Ends (seen_with d w) = ends_of_state (seen_with d w) (ap (λ (x : Desk). state_of x) c.self.view_is ∙ c.requires.state) in
    let near : IsNearer d after.shards.items c.unopened_after-self-inside.result c.either-self-inside.result =
    is_nearer d after.shards.items c.settle-noted.result.is_opened c.unopened_after-self-inside.result c.either-self-inside.result (record { over = e.over; low = e.low; some = λ closed. omega (arith, e.some closed, sessions_rested w.shards.items) }) (nearer g c) c.self.invariant.0.left c.unopened_after-self-inside.ensures c.either-self-inside.ensures in (
      subst (λ (a : Accounts). IsKept (after_ending (kept_with d (record after { accounts = a })) c.unopened_after-self-inside.result c.either-self-inside.result c.closing_after-self-inside.result c.now-now.result c.told_after-self-inside.result)) (sym (accounts_are g c))
          (kept_ended d (billed_by after c.close.new.self.billing) c.unopened_after-self-inside.result c.either-self-inside.result c.closing_after-self-inside.result c.now-now.result c.told_after-self-inside.result c.self.invariant.0 e.over near (later g b)
          (closing_low c.settle-noted.result.is_opened c.self.inside.closing c.now-now.result c.closing_after-self-inside.result (omega (arith, c.self.invariant.0.closing, later g b)) c.closing_after-self-inside.ensures)
          (left_closed d c.now-now.result after (c.either-self-inside.result && (sessions_in after.shards.items == 0)) c.close.new.self.billing c.free.ensures.agree (closes g c) (is_left d w after w.accounts.billing w.coa w.lane c.to_end.new.draws c.to_end.new.kept c.take.new.self (named g b) (replies_in c.in-Ok.lists.repeats.items) items (told c.args.plant.now) (told c.settle-noted.new.plant) (trace c.args.trace.now) (trace c.settle-noted.new.trace) c.settle-noted.result c.self.invariant.0 settles keeps (few_drawn g b)))
          (subst (λ (n : ℕ). n ≤ c.self.inside.told + 1) (sym c.told_after-self-inside.ensures) (few_told c.settle-noted.result.noted c.self.inside.told))
          (kept_by d w after w.accounts.billing w.coa w.lane c.to_end.new.draws c.to_end.new.kept c.take.new.self (named g b) (replies_in c.in-Ok.lists.repeats.items) items (told c.args.plant.now) (told c.settle-noted.new.plant) (trace c.args.trace.now) (trace c.settle-noted.new.trace) c.settle-noted.result (AreKept d) settles (none_kept d) (ends_kept d items c.self.invariant.0 (are_ends g b)))),
      omega (arith, keeps.room, c.to_end.ensures.kept_room, c.self.invariant.1),
    )

pub returns-clause-nearer : goal.returns-clause-nearer
returns-clause-nearer g c =
    let b = so_far g c in
    let vs = (works g b).shards.items in
    let ws = c.settle-noted.new.works.shards.items in
    let d = seen_with (desk g b) (works g b) in
    let n = c.unopened_after-self-inside.result in
    let closed = c.either-self-inside.result in
    let was : sessions_in vs ≡ sessions_in d.shards = sym (sessions_rested vs) in
    let nears : Nears c.settle-noted.result.is_opened (sessions_in d.shards) (sessions_in (map rested ws)) =
    subst (λ (k : ℕ). Nears c.settle-noted.result.is_opened k (sessions_in (map rested ws))) was (subst (λ (k : ℕ). Nears c.settle-noted.result.is_opened (sessions_in vs) k) (sym (sessions_rested ws)) (nearer g c)) in
    let left : d.endings + unopened_most * rounds_left d ≤ unopened_most * 65410 + d.unopened =
    subst (λ (k : ℕ). d.endings + unopened_most * (k + cond d.closed 0 1) ≤ unopened_most * 65410 + d.unopened) was c.self.invariant.0.left in
    let near = is_nearer d (map rested ws) c.settle-noted.result.is_opened n closed (ends_of_state d (ap (λ (x : Desk). state_of x) c.self.view_is ∙ c.requires.state)) nears left
    c.unopened_after-self-inside.ensures c.either-self-inside.ensures in
    subst (λ (x : Desk). unopened_most * (sessions_in (map rested ws) + cond closed 0 1) + (unopened_most - n) + (graces_most - d.graces) < left_of x) c.self.view_is near.less

pub returns-clause-makes : goal.returns-clause-makes
returns-clause-makes g c =
    let b = so_far g c in
    let told = g.P.Plant.told in
    let clock = g.C.Clock.told in
    let trace = g.T.Trace.told in
    let d = desk g b in
    let w = works g b in
    let after = c.settle-noted.new.works in
    let before_is : Outside = record { plant = told c.args.plant.now; clock = clock c.args.clock.now; trace = trace c.args.trace.now } in
    let behind_is : Outside = record { plant = told c.settle-noted.new.plant; clock = clock c.wall-wall.new.self; trace = trace c.settle-noted.new.trace } in
    let count : length w.shards.items ≡ length (map rested w.shards.items) = sym (length-map w.shards.items rested) in
    let made = ended d w after c.to_end.new.draws c.to_end.new.kept c.take.new.self (named g b) (replies_in c.in-Ok.lists.repeats.items) c.to_end.new.items.items c.settle-noted.result c.close.new.self.billing (told c.args.plant.now) (told c.settle-noted.new.plant) (trace c.args.trace.now) (trace c.settle-noted.new.trace)
    refl c.self.invariant.0.all_told (ap replies_in c.in-Ok.ensures.repeats.0) (items_are g b ∙ ap (λ (n : ℕ). ending_with g b n) count) (draws_are g b ∙ ap (λ (n : ℕ). drawn_with g b n) count) c.settle-noted.ensures.settles
    (later g b) (clock c.args.clock.now) (clock c.now-now.new.self) (clock c.wall-wall.new.self) c.now-now.ensures.answers c.wall-wall.ensures.answers (c.wall-wall.ensures.last ∙ c.now-now.ensures.last)
    c.answer.result c.answer.ensures c.unopened_after-self-inside.result c.unopened_after-self-inside.ensures c.either-self-inside.result c.either-self-inside.ensures
    c.closing_after-self-inside.result c.closing_after-self-inside.ensures (closes g c) c.told_after-self-inside.result c.told_after-self-inside.ensures in
    subst (λ (x : Desk). MakesEnd x (after_ending (seen_with d (record after { accounts = c.close.new.self })) c.unopened_after-self-inside.result c.either-self-inside.result c.closing_after-self-inside.result c.now-now.result c.told_after-self-inside.result) before_is behind_is c.answer.result) c.self.view_is
    (subst (λ (a : Accounts). MakesEnd (seen_with d w) (after_ending (seen_with d (record after { accounts = a })) c.unopened_after-self-inside.result c.either-self-inside.result c.closing_after-self-inside.result c.now-now.result c.told_after-self-inside.result) before_is behind_is c.answer.result) (sym (accounts_are g c)) made)
