use Rattle.std.proofs.Common.{◌≡◌, ℕ, ◌+◌, ◌*◌, ◌^◌, ◌≤◌, Bool, List, length, map, sum_by, vec_capacity, refl, sym, ap, subst, arith, ◌∙◌}
use Rattle.std.specs.List.{All, AllZip}
use Rattle.std.specs.Vec.{with_items}
use Rattle.std.proofs.lemmas.List.{length-replicate, with_items_is}
use Rattle.std.proofs.lemmas.List.Elements.{length_all_zip, recursion_from_All}
use Rattle.bng_base.specs.Batches.{Batch}
use Rattle.bng_base.specs.declared.item.Entry.{Entry}
use Rattle.bng_base.specs.declared.item.Item.{Item}
use Rattle.bng_engine.specs.Quantities.{Octets, in_book}
use Rattle.bng_engine.specs.Views.{ShardView}
use Rattle.bng_steps.specs.Interims.{Reports}
use Rattle.bng_steps.specs.Lasting.{AreTenures}
use Rattle.bng_steps.specs.Protocol.{ShardState, key_in}
use Rattle.bng_desk.specs.declared.lists.Lists.{Lists}
use Rattle.bng_desk.specs.Accounting.{AreBilled, AreSettling, KnowsBegun}
use Rattle.bng_desk.specs.Interims.{AreAwaited, AreWaiting}
use Rattle.bng_desk.specs.Kept.{octets_most, drops_most}
use Rattle.bng_desk.specs.Model.{begun_in, keys_in}
use Rattle.bng_desk.specs.Round.{news_in}
use Rattle.bng_desk.specs.Taking.{AddsUp, AllTurn, AreInOrder, AreTallied, BegunTo, HasFewSessions, HasNumbers, IsEmpty, KeepsTerms, OwesNone, ReapedTo, RoundHeld, SentTo, Shown, states_of}
use Rattle.bng_desk.proofs.Dealt.{dealt_books, dealt_count, dealt_rows}
use Rattle.bng_desk.proofs.DropLaws.{within_wider}
use Rattle.bng_desk.proofs.Awaited.{awaited_over, awaited_within, knows_as}
use Rattle.bng_desk.proofs.Growing.{Grown, Worked, all_grown, all_worked, few_begun, moments_dealt, terms_grew}
use Rattle.bng_desk.proofs.Joining.{HasLow, HasLowBooks, all_turn, all_turning, allowances_in, books_wider, dealt_covered, round_held, told_as}
use Rattle.bng_desk.proofs.Newcomers.{are_settling}
use Rattle.bng_desk.proofs.OneMore.{low_more}
use Rattle.bng_desk.proofs.Overs.{all_started, grown_tenures, round_knows, settled_adds_up, started, started_order, started_within, terms_kept}
use Rattle.bng_desk.proofs.Reaping.{all_empty as reaped_empty, all_few as reaped_few, all_low as reaped_low, all_books as reaped_books, in_order as reaped_order}
use Rattle.bng_desk.proofs.Prepared.{StandReady, stand_ready}
use Rattle.bng_desk.proofs.Readying.{Shards}
use Rattle.bng_desk.proofs.Returning.{HoldsOwn}
use Rattle.bng_desk.proofs.Settling.{all_empty as sent_empty, all_held as sent_held, all_low as sent_low, all_books as sent_books, in_order as sent_order}
use Rattle.bng_desk.proofs.Tallied.{lines_far, sent_sum_up, sent_tallied, sum_far}
use Rattle.bng_desk.proofs.Zips.{zip3_length}
use Rattle.bng_desk.proofs.holding.opened.Given.{Over}
use Rattle.bng_desk.proofs.holding.opened.Goals as goal
use Rattle.bng_desk.proofs.holding.opened.Goals.{After-begin_all, After-send_all}

pub deal_all-requires-clause-numbers : goal.deal_all-requires-clause-numbers
deal_all-requires-clause-numbers g c = (stand_ready c.args.rules.now c.args.named c.args.lists c.args.works.now c.as_mut_slice-shards.result.now c.as_mut_slice-shards.ensures.value c.requires.ready c.requires.prepared).order

pub deal_all-requires-clause-count : goal.deal_all-requires-clause-count
deal_all-requires-clause-count g c = (stand_ready c.args.rules.now c.args.named c.args.lists c.args.works.now c.as_mut_slice-shards.result.now c.as_mut_slice-shards.ensures.value c.requires.ready c.requires.prepared).count

pub deal_all-requires-clause-one_rule : goal.deal_all-requires-clause-one_rule
deal_all-requires-clause-one_rule g c = (stand_ready c.args.rules.now c.args.named c.args.lists c.args.works.now c.as_mut_slice-shards.result.now c.as_mut_slice-shards.ensures.value c.requires.ready c.requires.prepared).one_rule

pub deal_all-requires-clause-held : goal.deal_all-requires-clause-held
deal_all-requires-clause-held g c = (stand_ready c.args.rules.now c.args.named c.args.lists c.args.works.now c.as_mut_slice-shards.result.now c.as_mut_slice-shards.ensures.value c.requires.ready c.requires.prepared).held

pub deal_all-requires-clause-ready : goal.deal_all-requires-clause-ready
deal_all-requires-clause-ready g c = (stand_ready c.args.rules.now c.args.named c.args.lists c.args.works.now c.as_mut_slice-shards.result.now c.as_mut_slice-shards.ensures.value c.requires.ready c.requires.prepared).roomy

pub deal_all-requires-clause-rows : goal.deal_all-requires-clause-rows
deal_all-requires-clause-rows g c = (stand_ready c.args.rules.now c.args.named c.args.lists c.args.works.now c.as_mut_slice-shards.result.now c.as_mut_slice-shards.ensures.value c.requires.ready c.requires.prepared).rows

pub deal_all-requires-clause-low_books : goal.deal_all-requires-clause-low_books
deal_all-requires-clause-low_books g c = (stand_ready c.args.rules.now c.args.named c.args.lists c.args.works.now c.as_mut_slice-shards.result.now c.as_mut_slice-shards.ensures.value c.requires.ready c.requires.prepared).books

pub deal_all-requires-clause-drops : goal.deal_all-requires-clause-drops
deal_all-requires-clause-drops g c = within_wider (2 ^ 61) (2 ^ 62) c.args.works.now.drops (omega arith) c.requires.ready.counts

pub send_all-requires-clause-turning : goal.send_all-requires-clause-turning
send_all-requires-clause-turning g c =
    all_turn c.args.rules.now c.args.works.now.pool c.deal_all.new.pool c.args.named.moment c.args.lists.items.items c.as_mut_slice-shards.result.now c.deal_all.new.shards c.deal_all.new.lists.loose.items c.args.works.now.drops c.deal_all.new.drops c.args.works.now.tally c.deal_all.new.tally c.deal_all.ensures.deals

pub send_all-requires-clause-low : goal.send_all-requires-clause-low
send_all-requires-clause-low g c =
    let h = stand_ready c.args.rules.now c.args.named c.args.lists c.args.works.now c.as_mut_slice-shards.result.now c.as_mut_slice-shards.ensures.value c.requires.ready c.requires.prepared in
    dealt_rows c.args.rules.now c.args.works.now.pool c.deal_all.new.pool c.args.named.moment c.args.lists.items.items c.as_mut_slice-shards.result.now c.deal_all.new.shards c.deal_all.new.lists.loose.items c.args.works.now.drops c.deal_all.new.drops c.args.works.now.tally c.deal_all.new.tally c.deal_all.ensures.deals (2 ^ 62 + 2 ^ 61) h.low

pub send_all-requires-clause-light : goal.send_all-requires-clause-light
send_all-requires-clause-light g c k d lt q test = omega (arith, c.deal_all.ensures.deals.light k d lt q test, c.requires.ready.items.few)

pub send_all-requires-clause-outs : goal.send_all-requires-clause-outs
send_all-requires-clause-outs g c = ap (λ (l : Lists). l.outs.items) c.deal_all.ensures.rest ∙ c.requires.ready.blank.outs

pub send_all-requires-clause-journals : goal.send_all-requires-clause-journals
send_all-requires-clause-journals g c = ap (λ (l : Lists). l.journals.items) c.deal_all.ensures.rest ∙ c.requires.ready.blank.journals

pub send_all-requires-clause-outs_room : goal.send_all-requires-clause-outs_room
send_all-requires-clause-outs_room g c =
    let h = stand_ready c.args.rules.now c.args.named c.args.lists c.args.works.now c.as_mut_slice-shards.result.now c.as_mut_slice-shards.ensures.value c.requires.ready c.requires.prepared in
    omega (arith, c.deal_all.ensures.deals.few, h.few_outs, h.blank.outs_room, ap (λ (l : Lists). l.outs.room) c.deal_all.ensures.rest)

pub send_all-requires-clause-journals_room : goal.send_all-requires-clause-journals_room
send_all-requires-clause-journals_room g c =
    let h = stand_ready c.args.rules.now c.args.named c.args.lists c.args.works.now c.as_mut_slice-shards.result.now c.as_mut_slice-shards.ensures.value c.requires.ready c.requires.prepared in
    omega (arith, dealt_count c.args.rules.now c.args.works.now.pool c.deal_all.new.pool c.args.named.moment c.args.lists.items.items c.as_mut_slice-shards.result.now c.deal_all.new.shards c.deal_all.new.lists.loose.items c.args.works.now.drops c.deal_all.new.drops c.args.works.now.tally c.deal_all.new.tally c.deal_all.ensures.deals, h.blank.journals_room, ap (λ (l : Lists). vec_capacity l.journals) c.deal_all.ensures.rest)

pub send_all-requires-clause-drops : goal.send_all-requires-clause-drops
send_all-requires-clause-drops g c = within_wider (2 ^ 61 + length c.args.lists.items.items) (2 ^ 62) c.deal_all.new.drops (omega (arith, c.requires.ready.items.few)) (c.deal_all.ensures.within (2 ^ 61) c.requires.ready.counts)

pub send_all-requires-clause-few : goal.send_all-requires-clause-few
send_all-requires-clause-few g c =
    let h = stand_ready c.args.rules.now c.args.named c.args.lists c.args.works.now c.as_mut_slice-shards.result.now c.as_mut_slice-shards.ensures.value c.requires.ready c.requires.prepared in
    omega (arith, c.deal_all.ensures.deals.few, h.few_outs, h.count, c.requires.ready.few)

pub send_all-requires-clause-covered : goal.send_all-requires-clause-covered
send_all-requires-clause-covered g c =
    dealt_covered c.args.rules.now c.args.works.now.pool c.deal_all.new.pool c.args.named.moment c.args.lists.items.items c.as_mut_slice-shards.result.now c.deal_all.new.shards c.deal_all.new.lists.loose.items c.args.works.now.drops c.deal_all.new.drops c.args.works.now.tally c.deal_all.new.tally c.deal_all.ensures.deals

-- the outs were sent, and what the circuits have carried stands in the tally
module _ (g : Over) (c : After-send_all g) where
  h : StandReady c.args.rules.now c.args.named c.args.lists c.args.works.now c.as_mut_slice-shards.result.now
  h = stand_ready c.args.rules.now c.args.named c.args.lists c.args.works.now c.as_mut_slice-shards.result.now c.as_mut_slice-shards.ensures.value c.requires.ready c.requires.prepared

  tallied : AreTallied c.send_all.new.tally c.send_all.new.shards c.args.works.now.accounts.lines
  tallied =
      sent_tallied c.args.rules.now c.args.works.now.pool c.deal_all.new.pool c.args.named.moment c.args.lists.items.items c.as_mut_slice-shards.result.now c.deal_all.new.shards c.send_all.new.shards c.deal_all.new.lists.loose.items c.args.works.now.drops c.deal_all.new.drops c.send_all.new.drops c.args.works.now.tally c.deal_all.new.tally c.send_all.new.tally
      (g.P.Plant.told c.args.plant.now) (g.P.Plant.told c.send_all.new.plant) c.send_all.new.outs.items c.send_all.new.journals.items c.args.works.now.accounts.lines c.deal_all.ensures.deals c.send_all.ensures.sends h.tallied

pub reap_all-requires-clause-low : goal.reap_all-requires-clause-low
reap_all-requires-clause-low g c =
    let n = length c.args.lists.items.items in
    lines_far (2 ^ 62 + 2 ^ 61 + 4160 * n) c.send_all.new.tally c.send_all.new.shards c.args.works.now.accounts.lines (omega (arith, c.requires.ready.items.few))
    (c.send_all.ensures.tally (2 ^ 62 + 2 ^ 61 + 4160 * n) (c.deal_all.ensures.tally (2 ^ 62 + 2 ^ 61) c.requires.ready.tally)) (tallied g (goal.at.reap_all-requires-clause-low g c).After-send_all)

-- what the shards are once all was sent
module _ (g : Over) (c : After-send_all g) where
  stand : StandReady c.args.rules.now c.args.named c.args.lists c.args.works.now c.as_mut_slice-shards.result.now
  stand = h g c

  turning : AllTurn c.deal_all.new.shards
  turning = all_turn c.args.rules.now c.args.works.now.pool c.deal_all.new.pool c.args.named.moment c.args.lists.items.items c.as_mut_slice-shards.result.now c.deal_all.new.shards c.deal_all.new.lists.loose.items c.args.works.now.drops c.deal_all.new.drops c.args.works.now.tally c.deal_all.new.tally c.deal_all.ensures.deals

  -- each ran through its journal
  all_ran : AllZip (Worked c.args.named.moment) c.as_mut_slice-shards.result.now c.send_all.new.shards
  all_ran =
      let deals = c.deal_all.ensures.deals in
      let sent = c.send_all.ensures.sends in
      let moment = c.args.named.moment in
      let items = c.args.lists.items.items in
      let turns = all_turning c.args.rules.now c.args.works.now.pool c.deal_all.new.pool moment items c.as_mut_slice-shards.result.now c.deal_all.new.shards c.deal_all.new.lists.loose.items c.args.works.now.drops c.deal_all.new.drops c.args.works.now.tally c.deal_all.new.tally deals in
      all_worked moment c.as_mut_slice-shards.result.now c.deal_all.new.shards deals.seen c.send_all.new.shards sent.sends turns sent.each deals.allowances (moments_dealt 0 moment items deals.whose deals.seen deals.dealt)

  -- each has grown by what its journal claimed
  all_grow : AllZip (Grown c.args.named.moment) c.as_mut_slice-shards.result.now c.send_all.new.shards
  all_grow = all_grown c.args.named.moment c.as_mut_slice-shards.result.now c.send_all.new.shards (recursion_from_All (KeepsTerms c.args.named.moment) c.as_mut_slice-shards.result.now stand.terms) (recursion_from_All HasNumbers c.as_mut_slice-shards.result.now stand.serials) all_ran

  terms_there : All (λ (v : Shown). AreTenures c.args.named.moment v.state.slots) c.send_all.new.shards
  terms_there k d lt = (grown_tenures c.args.named.moment c.as_mut_slice-shards.result.now c.send_all.new.shards all_grow k d lt).tenures

  settling : AreSettling (keys_in c.send_all.new.shards) (map key_in (news_in (states_of c.send_all.new.shards))) c.args.works.now.accounts.billing
  settling = are_settling c.args.named.moment c.as_mut_slice-shards.result.now c.send_all.new.shards c.args.works.now.accounts.billing all_grow stand.order stand.billed stand.knows stand.free

  adds_up : AddsUp c.send_all.new.tally c.send_all.new.shards c.args.works.now.accounts.stopped
  adds_up =
      sent_sum_up c.args.rules.now c.args.works.now.pool c.deal_all.new.pool c.args.named.moment c.args.lists.items.items c.as_mut_slice-shards.result.now c.deal_all.new.shards c.send_all.new.shards c.deal_all.new.lists.loose.items c.args.works.now.drops c.deal_all.new.drops c.send_all.new.drops c.args.works.now.tally c.deal_all.new.tally c.send_all.new.tally
      (g.P.Plant.told c.args.plant.now) (g.P.Plant.told c.send_all.new.plant) c.send_all.new.outs.items c.send_all.new.journals.items c.args.works.now.accounts.stopped c.deal_all.ensures.deals c.send_all.ensures.sends (terms_grew c.args.named.moment c.as_mut_slice-shards.result.now c.send_all.new.shards all_grow) stand.adds_up

  begun_low : begun_in c.send_all.new.shards ≤ 2 ^ 63
  begun_low =
      omega (arith, few_begun c.args.named.moment c.as_mut_slice-shards.result.now c.send_all.new.shards all_grow, length_all_zip (Grown c.args.named.moment) c.as_mut_slice-shards.result.now c.send_all.new.shards all_grow, stand.count, c.requires.ready.few)

pub reap_all-requires-clause-low_in_all : goal.reap_all-requires-clause-low_in_all
reap_all-requires-clause-low_in_all g c =
    let b = (goal.at.reap_all-requires-clause-low_in_all g c).After-send_all in
    let n = length c.args.lists.items.items in
    sum_far (2 ^ 62 + 2 ^ 61 + 4160 * n) c.send_all.new.tally c.send_all.new.shards c.args.works.now.accounts.stopped (omega (arith, c.requires.ready.items.few))
    (c.send_all.ensures.tally (2 ^ 62 + 2 ^ 61 + 4160 * n) (c.deal_all.ensures.tally (2 ^ 62 + 2 ^ 61) c.requires.ready.tally)) (begun_low g b) (adds_up g b)

pub reap_all-requires-clause-terms : goal.reap_all-requires-clause-terms
reap_all-requires-clause-terms g c = terms_there g (goal.at.reap_all-requires-clause-terms g c).After-send_all

pub reap_all-requires-clause-settling : goal.reap_all-requires-clause-settling
reap_all-requires-clause-settling g c = settling g (goal.at.reap_all-requires-clause-settling g c).After-send_all

pub reap_all-requires-clause-numbers : goal.reap_all-requires-clause-numbers
reap_all-requires-clause-numbers g c =
    let sent = c.send_all.ensures.sends in sent_order c.deal_all.new.shards c.send_all.new.shards sent.sends sent.each c.deal_all.ensures.numbers

pub reap_all-requires-clause-held : goal.reap_all-requires-clause-held
reap_all-requires-clause-held g c =
    let b = (goal.at.reap_all-requires-clause-held g c).After-send_all in
    let sent = c.send_all.ensures.sends in
    sent_held c.deal_all.new.shards c.send_all.new.shards sent.sends sent.each c.deal_all.new.pool.table (turning g b) c.deal_all.ensures.held

-- the round was settled
module _ (g : Over) (c : After-begin_all g) where
  count_kept : length c.begin_all.new.shards ≡ length c.as_mut_slice-shards.result.now
  count_kept =
      let sent = c.send_all.ensures.sends in
      let reaped = c.reap_all.ensures.reaps in
      let begun = c.begin_all.ensures.begins in
      omega (
        arith,
        zip3_length BegunTo c.reap_all.new.shards c.begin_all.new.shards begun.starts begun.each,
        zip3_length ReapedTo c.send_all.new.shards c.reap_all.new.shards reaped.stops reaped.each,
        zip3_length SentTo c.deal_all.new.shards c.send_all.new.shards sent.sends sent.each,
        dealt_count c.args.rules.now c.args.works.now.pool c.deal_all.new.pool c.args.named.moment c.args.lists.items.items c.as_mut_slice-shards.result.now c.deal_all.new.shards c.deal_all.new.lists.loose.items c.args.works.now.drops c.deal_all.new.drops c.args.works.now.tally c.deal_all.new.tally c.deal_all.ensures.deals,
      )

  -- what holds of each shard that was reaped
  all_left : (P : Shown → Type 0) → ((w : Shown) → P w → P (started w)) → All P c.reap_all.new.shards → All P c.begin_all.new.shards
  all_left P f all = all_started c.reap_all.new.shards c.begin_all.new.shards c.begin_all.ensures.begins.starts c.begin_all.ensures.begins.each P f all

pub report_all-requires-clause-terms : goal.report_all-requires-clause-terms
report_all-requires-clause-terms g c k d lt =
    let b = (goal.at.report_all-requires-clause-terms g c).After-send_all in
    let reaped = c.reap_all.ensures.reaps in
    let begun = c.begin_all.ensures.begins in
    (terms_kept c.args.named.moment c.as_mut_slice-shards.result.now c.send_all.new.shards c.reap_all.new.shards c.begin_all.new.shards (all_grow g b) reaped.stops begun.starts reaped.each begun.each k d lt).tenures

pub report_all-requires-clause-awaited : goal.report_all-requires-clause-awaited
report_all-requires-clause-awaited g c =
    let b = (goal.at.report_all-requires-clause-awaited g c).After-send_all in
    let reaped = c.reap_all.ensures.reaps in
    let begun = c.begin_all.ensures.begins in
    subst (λ (rs : List Reports). AreAwaited c.args.named.moment c.begin_all.new.shards rs) (sym (begun.booked.reports_are ∙ reaped.booked.reports_are))
    (awaited_over c.args.named.moment c.as_mut_slice-shards.result.now c.send_all.new.shards c.reap_all.new.shards c.begin_all.new.shards c.args.works.now.accounts.reports (all_ran g b) reaped.stops begun.starts reaped.each begun.each (awaited_within c.args.named.moment c.as_mut_slice-shards.result.now c.args.works.now.accounts.reports (h g b).awaited))

pub note-requires : goal.note-requires
note-requires g c =
    let h = stand_ready c.args.rules.now c.args.named c.args.lists c.args.works.now c.as_mut_slice-shards.result.now c.as_mut_slice-shards.ensures.value c.requires.ready c.requires.prepared in
    omega (arith, count_kept g (goal.at.note-requires g c).After-begin_all, ap (λ (l : Lists). length l.allowances.items) c.deal_all.ensures.rest, ap (λ (ns : List ℕ). length ns) h.blank.allowances, length-replicate {A = ℕ} (length c.as_mut_slice-shards.result.now) 0)

-- the shards as they stand once the slice of them was worked on
module _ (g : Over) (c : After-begin_all g) where
  behind : (with_items c.args.works.now.shards c.begin_all.new.shards).items ≡ c.begin_all.new.shards
  behind =
      with_items_is c.args.works.now.shards c.begin_all.new.shards
      (omega (arith, count_kept g c, c.as_mut_slice-shards.ensures.len, ap (λ (vs : Shards). length vs) c.as_mut_slice-shards.ensures.value, c.args.works.now.shards.ok.0))

pub returns-clause-round : goal.returns-clause-round
returns-clause-round g c =
    let b = (goal.at.returns-clause-round g c).After-begin_all in
    let h = stand_ready c.args.rules.now c.args.named c.args.lists c.args.works.now c.as_mut_slice-shards.result.now c.as_mut_slice-shards.ensures.value c.requires.ready c.requires.prepared in
    let told = g.P.Plant.told in
    let w = c.args.works.now in
    let r = c.args.rules.now in
    let items = c.args.lists.items.items in
    let vs = c.as_mut_slice-shards.result.now in
    let held = λ (xs ys : Shards). RoundHeld r w.pool c.reap_all.new.pool w.accounts c.report_all.new.self c.args.named items (told c.args.plant.now) (told c.send_all.new.plant) xs ys w.drops c.send_all.new.drops w.tally c.send_all.new.tally c.recorded.result in
    subst (λ (ys : Shards). held w.shards.items ys) (sym (behind g b)) (subst (λ (xs : Shards). held xs c.begin_all.new.shards) c.as_mut_slice-shards.ensures.value
    (round_held r w.pool c.deal_all.new.pool c.reap_all.new.pool w.accounts c.reap_all.new.accounts c.begin_all.new.accounts c.args.named items (told c.args.plant.now) (told c.send_all.new.plant) vs c.deal_all.new.shards c.send_all.new.shards c.reap_all.new.shards c.begin_all.new.shards
    c.deal_all.new.lists.loose.items c.send_all.new.outs.items c.send_all.new.journals.items w.drops c.deal_all.new.drops c.send_all.new.drops w.tally c.deal_all.new.tally c.send_all.new.tally
    c.deal_all.ensures.deals c.send_all.ensures.sends c.reap_all.ensures.reaps c.begin_all.ensures.begins
    (recursion_from_All OwesNone vs (λ k d lt. (h.terms k d lt).owes_none)) c.report_all.new.self c.report_all.ensures.reports c.recorded.result
    (c.recorded.ensures
    ∙ told_as c.args.named c.note.new.allowances.items (allowances_in c.begin_all.new.shards) c.send_all.new.journals.items c.deal_all.new.lists.loose.items c.send_all.new.outs.items c.clear.new.self.items c.note.ensures (ap (λ (b : Batch Item). b.items) c.clear.ensures))))

pub returns-clause-keeps : goal.returns-clause-keeps
returns-clause-keeps g c =
    let b = (goal.at.returns-clause-keeps g c).After-send_all in
    let e = (goal.at.returns-clause-keeps g c).After-begin_all in
    let h = stand_ready c.args.rules.now c.args.named c.args.lists c.args.works.now c.as_mut_slice-shards.result.now c.as_mut_slice-shards.ensures.value c.requires.ready c.requires.prepared in
    let w = c.args.works.now in
    let moment = c.args.named.moment in
    let items = c.args.lists.items.items in
    let n = length items in
    let vs = c.as_mut_slice-shards.result.now in
    let dealt = c.deal_all.new.shards in
    let out = c.send_all.new.shards in
    let reaped = c.reap_all.new.shards in
    let ws = c.begin_all.new.shards in
    let deals = c.deal_all.ensures.deals in
    let sent = c.send_all.ensures.sends in
    let reaps = c.reap_all.ensures.reaps in
    let begun = c.begin_all.ensures.begins in
    let reports = c.report_all.ensures.reports in
    let a = c.report_all.new.self in
    let tally = c.send_all.new.tally in
    let most_in = λ (input : Bool). in_book Octets input tally in
    let few = c.requires.ready.items.few in
    let value = c.as_mut_slice-shards.ensures.value in
    let after = sym (behind g e) in
    let m = sum_by (λ (v : ShardView ShardState Entry). length v.outs) dealt in
    record {
      count = ap (λ (xs : Shards). length xs) (behind g e) ∙ count_kept g e ∙ ap (λ (xs : Shards). length xs) value;
      order = subst AreInOrder after (started_order reaped ws begun.starts begun.each (reaped_order out reaped reaps.stops reaps.each (sent_order dealt out sent.sends sent.each c.deal_all.ensures.numbers)));
      empty = subst (λ (xs : Shards). All IsEmpty xs) after (all_left g e IsEmpty (λ x y. y) (reaped_empty out reaped reaps.stops reaps.each (sent_empty dealt out sent.sends sent.each)));
      sessions = subst (λ (xs : Shards). All HasFewSessions xs) after (all_left g e HasFewSessions (λ x y. y) (reaped_few out reaped reaps.stops reaps.each));
      low = λ most low. subst (λ (xs : Shards). All (HasLow (most + octets_most)) xs) after
          (all_left g e (HasLow (most + octets_most)) (λ x y. y)
          (reaped_low out reaped reaps.stops reaps.each (most + octets_most)
          (sent_low dealt out sent.sends sent.each most octets_most
          (dealt_rows c.args.rules.now w.pool c.deal_all.new.pool moment items vs dealt c.deal_all.new.lists.loose.items w.drops c.deal_all.new.drops w.tally c.deal_all.new.tally deals most (subst (λ (xs : Shards). All (HasLow most) xs) (sym value) low))
          (λ k d lt q test. omega (arith, deals.light k d lt q test, few)))));
      books = λ most low. subst (λ (xs : Shards). All (HasLowBooks (most + octets_most)) xs) after
          (books_wider (most + 4160 * n) (most + octets_most) ws (omega (arith, few))
          (all_left g e (HasLowBooks (most + 4160 * n)) (λ x y. y)
          (reaped_books out reaped reaps.stops reaps.each (most + 4160 * n)
          (sent_books dealt out sent.sends sent.each (most + 4160 * n)
          (dealt_books c.args.rules.now w.pool c.deal_all.new.pool moment items vs dealt c.deal_all.new.lists.loose.items w.drops c.deal_all.new.drops w.tally c.deal_all.new.tally deals most (subst (λ (xs : Shards). All (HasLowBooks most) xs) (sym value) low))))));
      tally = λ most low. low_more (most + 4160 * n) (most + octets_most) tally (omega (arith, few)) (c.send_all.ensures.tally (most + 4160 * n) (c.deal_all.ensures.tally most low));
      tallied = subst (λ (xs : Shards). AreTallied tally xs a.lines) after
          (started_within most_in reaped ws begun.starts c.reap_all.new.accounts.lines a.lines begun.each (reports.lines_are ∙ begun.booked.lines_are) (c.reap_all.ensures.within most_in (tallied g b)));
      adds_up = subst (λ (xs : Shards). AddsUp tally xs a.stopped) after
          (settled_adds_up tally out reaped ws reaps.stops begun.starts w.accounts.stopped c.reap_all.new.accounts.stopped a.stopped reaps.each c.reap_all.ensures.same begun.each (reports.stopped_is ∙ begun.booked.stopped_is) (adds_up g b));
      billed = subst (λ (xs : Shards). AreBilled (keys_in xs) a.billing) after c.report_all.ensures.billed;
      counts = λ most within. within_wider (most + n + m) (most + drops_most) c.send_all.new.drops (omega (arith, deals.few, h.few_outs, h.count, c.requires.ready.few, few)) (c.send_all.ensures.within (most + n) (c.deal_all.ensures.within most within));
      drawn = omega arith;
      handed = refl;
      room = refl;
      places = reaps.returned.shards ∙ deals.claimed.places;
      held = subst (λ (xs : Shards). All (HoldsOwn c.reap_all.new.pool.table) xs) after (all_left g e (HoldsOwn c.reap_all.new.pool.table) (λ x y. y) c.reap_all.ensures.held);
      ranges = reaps.returned.ranges ∙ deals.claimed.ranges;
      terms = subst (λ (xs : Shards). All (KeepsTerms moment) xs) after (terms_kept moment vs out reaped ws (all_grow g b) reaps.stops begun.starts reaps.each begun.each);
      knows = subst (λ (xs : Shards). KnowsBegun xs a.billing) after
          (knows_as ws c.begin_all.new.accounts.billing a.billing c.report_all.ensures.held
          (round_knows moment c.args.named.wall vs out reaped ws w.accounts c.reap_all.new.accounts c.begin_all.new.accounts (all_grow g b) h.order reaps.stops begun.starts reaps.each begun.each reaps.booked begun.booked h.knows));
      awaited = subst (λ (xs : Shards). AreWaiting moment xs a.reports) after c.report_all.ensures.awaited;
    }
