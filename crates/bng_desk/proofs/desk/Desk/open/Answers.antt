use Rattle.std.proofs.Common.{◌≡◌, ℕ, ◌+◌, ◌^◌, ◌<◌, ◌==◌, false, List, [], ◌∷◌, is_some, length, map, filter, refl, sym, ap, subst, arith, ◌∙◌}
use Rattle.std.specs.List.{All, AllPairs, AllZip, range_with_len}
use Rattle.std.proofs.lemmas.List.{length-map}
use Rattle.bng_base.specs.declared.book.Book.{Book}
use Rattle.bng_base.specs.declared.book.Profile.{Profile}
use Rattle.bng_base.specs.declared.book.Range.{Range}
use Rattle.bng_base.specs.declared.item.Entry.{Entry}
use Rattle.bng_base.specs.declared.item.Item.{Item}
use Rattle.bng_base.specs.declared.settings.AccessPort.{AccessPort}
use Rattle.bng_base.specs.declared.settings.NamedRange.{NamedRange}
use Rattle.bng_base.specs.declared.settings.Static.{Static}
use Rattle.bng_base.specs.Books.{empty_book}
use Rattle.bng_acct.specs.Roster.{same}
use Rattle.bng_billing.specs.declared.rules.BillingRules.{BillingRules}
use Rattle.bng_billing.specs.State.{IsNewBilling}
use Rattle.bng_coa.specs.State.{State as CoaState}
use Rattle.bng_engine.specs.Lists.{AnyOf}
use Rattle.bng_engine.specs.Terms.{Key, keys}
use Rattle.bng_engine.specs.Views.{ShardView}
use Rattle.bng_discovery.specs.declared.port.PortRules.{PortRules}
use Rattle.bng_profile.specs.Books.{AreDifferent, names_of}
use Rattle.bng_steps.specs.declared.rules.Rules.{Rules}
use Rattle.bng_steps.specs.Interims.{Reports, no_reports}
use Rattle.bng_steps.specs.Lasting.{AreTenures}
use Rattle.bng_steps.specs.Protocol.{ShardState, opened, terms_of}
use Rattle.bng_shard.specs.Handling.{HasPools}
use Rattle.bng_steps.proofs.RowLaws.{new_keys}
use Rattle.bng_steps.specs.Questions.{none_handed}
use Rattle.bng_desk.specs.declared.accounts.Stopped.{Stopped}
use Rattle.bng_desk.specs.declared.line.CircuitLine.{CircuitLine}
use Rattle.bng_desk.specs.Accounting.{AreBilled, IsStartOf, KnowsBegun}
use Rattle.bng_desk.specs.Counting.{no_drops}
use Rattle.bng_desk.specs.Kept.{rested}
use Rattle.bng_desk.specs.Model.{Desk, begun_in, keys_in, live_terms}
use Rattle.bng_desk.specs.Opening.{AreOffersOf, AreRules, AreServed, IsOpenedPool, OpensAccounts, line_of, shard_of, opened_shards, dns_of}
use Rattle.bng_desk.specs.Random.{Drawn, draw}
use Rattle.bng_desk.specs.Round.{terms_in}
use Rattle.bng_desk.specs.Taking.{AreInOrder, HasRows, KeepsTerms, no_stops, states_of}
use Rattle.bng_desk.proofs.Beginning.{IsTermOf}
use Rattle.bng_desk.proofs.Fresh.{fresh_all, fresh_order, fresh_rested, kept_fresh}
use Rattle.bng_desk.proofs.Leases.{opened_holds}
use Rattle.bng_desk.proofs.OpenedTerms.{are_served, few_terms, knows_there, opened_keeps, terms_apart, terms_opened}
use Rattle.bng_desk.proofs.Outfit.{names_differ, of_shard, offers_count, ranges_of}
use Rattle.bng_desk.proofs.Returning.{HoldsOwn}
use Rattle.bng_desk.proofs.desk.Desk.open.Goals as goal
use Rattle.bng_desk.proofs.desk.Desk.open.Goals.{After-as_slice-2, After-new-4}

module _ (c : After-new-4) where
  abbrev statics : ℕ → List Static
  statics n = filter (λ (s : Static). shard_of s == n) c.args.config.statics

  abbrev made : Rules
  made = c.in_ok-rules.rules

  made_as : made ≡ record { shards = c.args.config.shards; core_peer = c.args.config.core_peer; access = c.args.config.access; offers = c.in_ok-offers.offers.items; pools = c.args.config.pools; profiles = c.args.config.profiles; lacs = c.args.config.lacs; serves_tunnels = is_some c.args.config.tunnel_local; nas_ip = c.args.config.nas_ip; wall = c.args.wall; serves_changes = is_some c.args.config.coa; link = record { name = c.args.config.name; address = c.args.config.address; dns = dns_of c.args.config.dns.items; auth = c.args.config.auth; echo = c.args.config.echo } }
  made_as = c.in_ok-rules.ensures

  circuits : c.into_vec.result.items ≡ c.args.config.statics
  circuits = (c.into_vec.ensures ∙ c.replace-circuits.ensures.value)

  shards_are : c.in_ok-opens.opens.items ≡ map (λ n. opened n made (statics n) c.args.now) (range_with_len 0 made.shards)
  shards_are = c.in_ok-opens.ensures.opened ∙ ap (λ (ss : List Static). map (λ n. opened n made (filter (λ (s : Static). shard_of s == n) ss) c.args.now) (range_with_len 0 made.shards)) circuits

  opens_accounts : OpensAccounts c.billing_rules-billing.result c.in_ok-lines.lines.items c.in_ok-handed.reports.items c.as_slice-2.result.now c.args.now c.in_ok-accounts.accounts
  opens_accounts = c.in_ok-accounts.ensures

  circuits_named : c.in_ok-lines.lines.items ≡ map line_of c.args.config.statics
  circuits_named = c.in_ok-lines.ensures ∙ ap (λ (ss : List Static). map line_of ss) c.as_slice.ensures

  lines_are : c.in_ok-accounts.accounts.lines ≡ map line_of c.args.config.statics
  lines_are = opens_accounts.booked.lines_are ∙ circuits_named

  stopped_is : c.in_ok-accounts.accounts.stopped ≡ no_stops
  stopped_is = opens_accounts.booked.stopped_is

  keys_are : keys_in c.as_slice-2.result.now ≡ keys_in c.in_ok-opens.opens.items
  keys_are = ap keys_in c.as_slice-2.ensures.value

  is_pool : IsOpenedPool c.args.config c.in_ok-pool.pool
  is_pool = c.in_ok-pool.ensures

  draws_are : c.sixteen-key.new.self ≡ (let x : Drawn = record { seed = c.args.seed; drawn = 1 } in x)
  draws_are = c.sixteen-key.ensures.counted ∙ ap (λ (x : Drawn). let y : Drawn = record x { drawn = x.drawn + 1 } in y) c.of-draws.ensures

  tallies_are : c.empty.result ∷ [] ≡ empty_book ∷ []
  tallies_are = ap (λ (b : Book). let bs : List Book = b ∷ [] in bs) c.empty.ensures

  handed_are : c.in_ok-handed.handed.items ≡ map (λ n. none_handed) (range_with_len 0 made.shards)
  handed_are = c.in_ok-handed.ensures.handed ∙ ap (λ (n : ℕ). map (λ k. none_handed) (range_with_len 0 n)) (sym (ap (λ (r : Rules). r.shards) made_as))

  reports_are : c.in_ok-accounts.accounts.reports ≡ map (λ n. no_reports) (range_with_len 0 c.args.config.shards)
  reports_are = opens_accounts.booked.reports_are ∙ c.in_ok-handed.ensures.reports

  none_reported : c.in_ok-accounts.accounts.reports ≡ map (λ n. no_reports) (range_with_len 0 made.shards)
  none_reported = reports_are ∙ ap (λ (n : ℕ). map (λ k. no_reports) (range_with_len 0 n)) (sym (ap (λ (r : Rules). r.shards) made_as))

  key_is : c.sixteen-key.result ≡ draw c.args.seed 0
  key_is = c.sixteen-key.ensures.octets ∙ ap (λ (x : Drawn). draw x.seed x.drawn) c.of-draws.ensures

  offers_are : AreOffersOf c.args.config.name.items c.args.config.services.items (draw c.args.seed 0) 1 c.args.config.access made.offers
  offers_are =
      subst (λ (os : List PortRules). AreOffersOf c.args.config.name.items c.args.config.services.items (draw c.args.seed 0) 1 c.args.config.access os) (sym (ap (λ (r : Rules). r.offers) made_as))
      (subst (λ (ps : List AccessPort). AreOffersOf c.args.config.name.items c.args.config.services.items (draw c.args.seed 0) 1 ps c.in_ok-offers.offers.items) c.as_slice-access.ensures
      (subst (λ (key : List ℕ). AreOffersOf c.args.config.name.items c.args.config.services.items key 1 c.as_slice-access.result.now c.in_ok-offers.offers.items) key_is c.in_ok-offers.ensures))

  are_rules : AreRules c.args.config c.args.seed c.args.wall made
  are_rules = record {
    shards = ap (λ (r : Rules). r.shards) made_as;
    core_peer = ap (λ (r : Rules). r.core_peer) made_as;
    access = ap (λ (r : Rules). r.access) made_as;
    offers = offers_are;
    pools = ap (λ (r : Rules). r.pools) made_as;
    profiles = ap (λ (r : Rules). r.profiles) made_as;
    lacs = ap (λ (r : Rules). r.lacs) made_as;
    serves_tunnels = ap (λ (r : Rules). r.serves_tunnels) made_as;
    nas_ip = ap (λ (r : Rules). r.nas_ip) made_as;
    opened_at = ap (λ (r : Rules). r.wall) made_as;
    serves_changes = ap (λ (r : Rules). r.serves_changes) made_as;
    name = ap (λ (r : Rules). r.link.name.items) made_as;
    address = ap (λ (r : Rules). r.link.address) made_as;
    dns = ap (λ (r : Rules). r.link.dns) made_as;
    auth = ap (λ (r : Rules). r.link.auth.items) made_as;
    echo = ap (λ (r : Rules). r.link.echo) made_as;
  }

  served : AreServed made c.args.config.statics
  served = are_served c.args.config made c.requires.rules (ap (λ (r : Rules). r.profiles) made_as) (ap (λ (r : Rules). r.shards) made_as) (ap (λ (r : Rules). length r.access) made_as)

  -- each circuit's address is held by its shard
  held : All (HoldsOwn c.in_ok-pool.pool.table) c.in_ok-opens.opens.items
  held = subst (λ (vs : List (ShardView ShardState Entry)). All (HoldsOwn c.in_ok-pool.pool.table) vs) (sym shards_are)
      (fresh_all made statics c.args.now (HoldsOwn c.in_ok-pool.pool.table) made.shards (λ n lt. opened_holds c.args.config.statics c.in_ok-pool.pool.table served.addresses is_pool.table made c.args.now n))

  few_circuits : length c.args.config.statics < 2 ^ 48
  few_circuits = omega (arith, c.requires.rules.few_terms, c.requires.rules.enough_terms)

  -- each term that began is there
  counts : live_terms c.in_ok-opens.opens.items ≡ begun_in c.in_ok-opens.opens.items
  counts = subst (λ (vs : List (ShardView ShardState Entry)). live_terms vs ≡ begun_in vs) (sym shards_are) (terms_opened made c.args.config.statics c.args.now served 0 made.shards)

  -- its terms have numbers that it gave, and a Start each
  terms : All (KeepsTerms c.args.now) c.in_ok-opens.opens.items
  terms = subst (λ (vs : List (ShardView ShardState Entry)). All (KeepsTerms c.args.now) vs) (sym shards_are)
      (fresh_all made statics c.args.now (KeepsTerms c.args.now) made.shards (λ n lt. opened_keeps made c.args.config.statics c.args.now served few_circuits n (omega (arith, lt, are_rules.shards, c.requires.rules.few_shards))))

  -- and accounting knows of no other
  knows : KnowsBegun c.in_ok-opens.opens.items c.in_ok-accounts.accounts.billing
  knows = knows_there c.args.now c.in_ok-opens.opens.items c.in_ok-accounts.accounts.billing (subst AreInOrder (sym shards_are) (fresh_order made statics c.args.now made.shards)) terms
      (λ t h found. subst (λ (ks : List Key). AnyOf (IsTermOf t) ks) keys_are (opens_accounts.known t h found))

  -- each pool has its range in the table
  pools : HasPools made.pools c.in_ok-pool.pool.ranges
  pools = subst (λ (rs : List Range). HasPools made.pools rs) (sym is_pool.ranges) (subst (λ (ps : List NamedRange). HasPools ps (map (λ (p : NamedRange). p.range) c.args.config.pools)) (sym are_rules.pools) (ranges_of c.args.config.pools))

pub invariant_of-result : goal.invariant_of-result
invariant_of-result c =
    let rules = are_rules c in (
      kept_fresh _ (statics c) c.args.now c.args.config.statics (shards_are c) c.in_ok-opens.ensures.sessions (lines_are c) (stopped_is c) (counts c)
          (omega (arith, c.requires.rules.some_port, ap (λ (ps : List AccessPort). length ps) rules.access)) (omega (arith, c.requires.rules.few_ports, ap (λ (ps : List AccessPort). length ps) rules.access))
          (omega (arith, c.requires.rules.few_profiles, ap (λ (ps : List Profile). length ps) rules.profiles))
          (omega (arith, c.requires.rules.some_shard, rules.shards)) (omega (arith, c.requires.rules.few_shards, rules.shards))
          (pools c) ((is_pool c).shards ∙ sym rules.shards) (held c) (terms c)
          c.requires.most refl refl refl refl refl (ap (λ (x : Drawn). x.drawn) (draws_are c)) refl (tallies_are c) c.in_ok-kept.ensures.0 (handed_are c) (none_reported c) refl refl
          (subst (λ (ks : List Key). AreBilled ks c.in_ok-accounts.accounts.billing) (keys_are c) (opens_accounts c).billed) (knows c),
      c.in_ok-kept.ensures.1,
    )

pub returns : goal.returns
returns c =
    let b = (goal.at.returns c).After-new-4 in
    let config = c.args.config in
    let r = made b in
    let desk = λ (tallies : List Book) (lines : List CircuitLine) (stopped : Stopped) (shards : List (ShardView ShardState Entry)) (draws : Drawn) (handed : List (List ℕ)) (reports : List Reports) (kept : List Item) (coa : CoaState). let x : Desk = record {
      rules = r;
      lines = lines;
      stopped_book = stopped.carried;
      stops = stopped.stops;
      rounds = c.args.rounds;
      turns = 0;
      stopped = false;
      shards = shards;
      pool = c.in_ok-pool.pool;
      tallies = tallies;
      seed = draws.seed;
      drawn = draws.drawn;
      drops = no_drops;
      moment = c.args.now;
      told = 0;
      lane = c.in_ok-lane.lane;
      handed = handed;
      billing = c.in_ok-accounts.accounts.billing;
      reports = reports;
      coa = coa;
      endings = 0;
      unopened = 0;
      closed = false;
      closing = c.args.now;
      graces = 0;
      kept = kept;
    } in x in
    let first : Drawn = record { seed = c.args.seed; drawn = 1 } in
    let opens = opened_shards config r c.args.now in
    let accounts = opens_accounts b in
    let all_there = ap (λ (n : ℕ). map (λ k. opened k r (statics b k) c.args.now) (range_with_len 0 n)) (are_rules b).shards in
    let opened_all : c.in_ok-opens.opens.items ≡ opens = shards_are b ∙ all_there in
    let shards : map rested c.in_ok-opens.opens.items ≡ opens = ap (λ (xs : List (ShardView ShardState Entry)). map rested xs) (shards_are b) ∙ fresh_rested r (statics b) c.args.now (range_with_len 0 r.shards) ∙ all_there in
    record {
      rules = r;
      are_rules = are_rules b;
      lane = c.in_ok-lane.lane;
      new_lane = c.in_ok-lane.ensures;
      pool = c.in_ok-pool.pool;
      is_pool = is_pool b;
      new_billing = accounts.new_billing;
      is_new = subst (λ (rules : BillingRules). IsNewBilling rules accounts.new_billing) c.billing_rules-billing.ensures accounts.is_new;
      starts = accounts.booked.formed;
      are_starts = subst (λ (vs : List (ShardView ShardState Entry)). AllZip (IsStartOf (terms_in (states_of vs)) c.args.now c.args.wall) (keys_in vs) accounts.booked.formed) (c.as_slice-2.ensures.value ∙ opened_all)
          (subst (λ (wall : ℕ). AllZip (IsStartOf (terms_in (states_of c.as_slice-2.result.now)) c.args.now wall) (keys_in c.as_slice-2.result.now) accounts.booked.formed) (ap (λ (rules : BillingRules). rules.acct.wall) c.billing_rules-billing.ensures) accounts.booked.are_starts);
      billing = c.in_ok-accounts.accounts.billing;
      forms = accounts.booked.forms;
      desk =
          ap (λ (bs : List Book). desk bs c.in_ok-accounts.accounts.lines c.in_ok-accounts.accounts.stopped (map rested c.in_ok-opens.opens.items) c.sixteen-key.new.self c.in_ok-handed.handed.items c.in_ok-accounts.accounts.reports c.in_ok-kept.kept.items c.in_ok-coa.coa) (tallies_are b)
          ∙ ap (λ (ls : List CircuitLine). desk (empty_book ∷ []) ls c.in_ok-accounts.accounts.stopped (map rested c.in_ok-opens.opens.items) c.sixteen-key.new.self c.in_ok-handed.handed.items c.in_ok-accounts.accounts.reports c.in_ok-kept.kept.items c.in_ok-coa.coa) (lines_are b)
          ∙ ap (λ (t : Stopped). desk (empty_book ∷ []) (map line_of config.statics) t (map rested c.in_ok-opens.opens.items) c.sixteen-key.new.self c.in_ok-handed.handed.items c.in_ok-accounts.accounts.reports c.in_ok-kept.kept.items c.in_ok-coa.coa) (stopped_is b)
          ∙ ap (λ (xs : List (ShardView ShardState Entry)). desk (empty_book ∷ []) (map line_of config.statics) no_stops xs c.sixteen-key.new.self c.in_ok-handed.handed.items c.in_ok-accounts.accounts.reports c.in_ok-kept.kept.items c.in_ok-coa.coa) shards
          ∙ ap (λ (x : Drawn). desk (empty_book ∷ []) (map line_of config.statics) no_stops opens x c.in_ok-handed.handed.items c.in_ok-accounts.accounts.reports c.in_ok-kept.kept.items c.in_ok-coa.coa) (draws_are b)
          ∙ ap (λ (ls : List (List ℕ)). desk (empty_book ∷ []) (map line_of config.statics) no_stops opens first ls c.in_ok-accounts.accounts.reports c.in_ok-kept.kept.items c.in_ok-coa.coa) c.in_ok-handed.ensures.handed
          ∙ ap (λ (rs : List Reports). desk (empty_book ∷ []) (map line_of config.statics) no_stops opens first (map (λ n. none_handed) (range_with_len 0 config.shards)) rs c.in_ok-kept.kept.items c.in_ok-coa.coa) (reports_are b)
          ∙ ap (λ (is : List Item). desk (empty_book ∷ []) (map line_of config.statics) no_stops opens first (map (λ n. none_handed) (range_with_len 0 config.shards)) (map (λ n. no_reports) (range_with_len 0 config.shards)) is c.in_ok-coa.coa) c.in_ok-kept.ensures.0
          ∙ ap (λ (x : CoaState). desk (empty_book ∷ []) (map line_of config.statics) no_stops opens first (map (λ n. none_handed) (range_with_len 0 config.shards)) (map (λ n. no_reports) (range_with_len 0 config.shards)) [] x) c.in_ok-coa.ensures;
    }

pub shards-requires-clause-circuits : goal.shards-requires-clause-circuits
shards-requires-clause-circuits c =
    subst (λ (cs : List Static). AreServed c.in_ok-rules.rules cs) (sym (c.into_vec.ensures ∙ c.replace-circuits.ensures.value))
    (are_served c.args.config c.in_ok-rules.rules c.requires.rules (ap (λ (r : Rules). r.profiles) c.in_ok-rules.ensures) (ap (λ (r : Rules). r.shards) c.in_ok-rules.ensures) (ap (λ (r : Rules). length r.access) c.in_ok-rules.ensures))

pub accounts-requires-clause-most : goal.accounts-requires-clause-most
accounts-requires-clause-most c = omega (arith, ap (λ (rules : BillingRules). rules.acct.terms) c.billing_rules-billing.ensures, c.requires.rules.few_terms)

-- the terms of the opening
module _ (c : After-as_slice-2) where
  served_by : AreServed c.in_ok-rules.rules c.args.config.statics
  served_by = are_served c.args.config c.in_ok-rules.rules c.requires.rules (ap (λ (r : Rules). r.profiles) c.in_ok-rules.ensures) (ap (λ (r : Rules). r.shards) c.in_ok-rules.ensures) (ap (λ (r : Rules). length r.access) c.in_ok-rules.ensures)

  there : c.as_slice-2.result.now ≡ map (λ n. opened n c.in_ok-rules.rules (of_shard c.args.config.statics n) c.args.now) (range_with_len 0 c.in_ok-rules.rules.shards)
  there =
      c.as_slice-2.ensures.value ∙ c.in_ok-opens.ensures.opened ∙ ap (λ (ss : List Static). map (λ n. opened n c.in_ok-rules.rules (of_shard ss n) c.args.now) (range_with_len 0 c.in_ok-rules.rules.shards)) (c.into_vec.ensures ∙ c.replace-circuits.ensures.value)

pub accounts-requires-clause-room : goal.accounts-requires-clause-room
accounts-requires-clause-room c =
    let b = (goal.at.accounts-requires-clause-room c).After-as_slice-2 in
    omega (
      arith,
      ap (λ (vs : List (ShardView ShardState Entry)). length (keys_in vs)) (there b),
      few_terms c.in_ok-rules.rules c.args.config.statics c.args.now (served_by b),
      ap (λ (rules : BillingRules). rules.acct.terms) c.billing_rules-billing.ensures,
      c.requires.rules.enough_terms,
    )

pub accounts-requires-clause-apart : goal.accounts-requires-clause-apart
accounts-requires-clause-apart c =
    let b = (goal.at.accounts-requires-clause-apart c).After-as_slice-2 in
    subst (λ (vs : List (ShardView ShardState Entry)). AllPairs (λ (j k : Key). same j.term k.term ≡ false) (keys_in vs)) (sym (there b))
    (terms_apart c.in_ok-rules.rules c.args.config.statics c.args.now (served_by b) (omega (arith, ap (λ (r : Rules). r.shards) c.in_ok-rules.ensures, c.requires.rules.few_shards)))

pub accounts-requires-clause-rows : goal.accounts-requires-clause-rows
accounts-requires-clause-rows c =
    let b = (goal.at.accounts-requires-clause-rows c).After-as_slice-2 in
    let made = c.in_ok-rules.rules in
    subst (λ (vs : List (ShardView ShardState Entry)). All HasRows vs) (sym (there b)) (fresh_all made (of_shard c.args.config.statics) c.args.now HasRows made.shards (λ n lt. new_keys (keys (terms_of (opened n made (of_shard c.args.config.statics n) c.args.now).state))))

pub accounts-requires-clause-terms : goal.accounts-requires-clause-terms
accounts-requires-clause-terms c =
    let b = (goal.at.accounts-requires-clause-terms c).After-as_slice-2 in
    let made = c.in_ok-rules.rules in
    let low = ap (λ (r : Rules). r.shards) c.in_ok-rules.ensures in
    subst (λ (vs : List (ShardView ShardState Entry)). All (λ v. AreTenures c.args.now v.state.slots) vs) (sym (there b))
    (fresh_all made (of_shard c.args.config.statics) c.args.now (λ v. AreTenures c.args.now v.state.slots) made.shards (λ n lt. (opened_keeps made c.args.config.statics c.args.now (served_by b) (omega (arith, c.requires.rules.few_terms, c.requires.rules.enough_terms)) n (omega (arith, lt, low, c.requires.rules.few_shards))).tenures))

pub pool-requires-clause-inside : goal.pool-requires-clause-inside
pool-requires-clause-inside c k d lt = (c.requires.rules.sharded k d lt).shard

pub shards-requires-clause-offers : goal.shards-requires-clause-offers
shards-requires-clause-offers c =
    let made = c.in_ok-rules.ensures in
    omega (
      arith,
      ap (λ (r : Rules). length r.offers) made,
      ap (λ (r : Rules). length r.access) made,
      offers_count c.args.config.name.items c.args.config.services.items c.sixteen-key.result 1 c.as_slice-access.result.now c.in_ok-offers.offers.items c.in_ok-offers.ensures,
      ap (λ (ps : List AccessPort). length ps) c.as_slice-access.ensures,
    )

pub shards-requires-clause-few_pools : goal.shards-requires-clause-few_pools
shards-requires-clause-few_pools c = omega (arith, ap (λ (r : Rules). length r.pools) c.in_ok-rules.ensures, length-map c.args.config.pools (λ (p : NamedRange). p.range), c.requires.pools.few)

pub shards-requires-clause-some_profile : goal.shards-requires-clause-some_profile
shards-requires-clause-some_profile c = omega (arith, ap (λ (r : Rules). length r.profiles) c.in_ok-rules.ensures, c.requires.rules.some_profile)

pub shards-requires-clause-few_profiles : goal.shards-requires-clause-few_profiles
shards-requires-clause-few_profiles c = omega (arith, ap (λ (r : Rules). length r.profiles) c.in_ok-rules.ensures, c.requires.rules.few_profiles)

pub shards-requires-clause-different : goal.shards-requires-clause-different
shards-requires-clause-different c =
    subst (λ (ps : List Profile). AreDifferent (names_of ps)) (sym (ap (λ (r : Rules). r.profiles) c.in_ok-rules.ensures)) (names_differ c.args.config.profiles c.requires.rules.different_profiles)
