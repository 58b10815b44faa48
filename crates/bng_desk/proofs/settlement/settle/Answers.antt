use Rattle.std.proofs.Common.{◌≡◌, ℕ, List, length, map, sym, ap, subst, arith, ◌∙◌}
use Rattle.std.specs.Vec.{with_items}
use Rattle.std.proofs.lemmas.List.{length-map, with_items_is}
use Rattle.bng_base.specs.declared.item.Loose.{Loose}
use Rattle.bng_steps.specs.Interims.{Reports}
use Rattle.bng_desk.specs.declared.accounts.Stopped.{Stopped}
use Rattle.bng_desk.specs.declared.coa.Repeated.{Repeated}
use Rattle.bng_desk.specs.declared.line.CircuitLine.{CircuitLine}
use Rattle.bng_desk.specs.declared.settlement.Works.{Works}
use Rattle.bng_desk.specs.Coa.{replies_in}
use Rattle.bng_desk.specs.Intake.{SendsReplies, SendsRequests}
use Rattle.bng_desk.specs.Interims.{AreWaiting}
use Rattle.bng_desk.specs.Model.{keys_in}
use Rattle.bng_desk.specs.Taking.{Accounts, AddsUp, AreInOrder, AreTallied, Holds, told_all}
use Rattle.bng_desk.proofs.Billed.{billed_kept, settled_keeps}
use Rattle.bng_desk.proofs.Knowing.{knows_less, settled_forgets}
use Rattle.bng_desk.proofs.Prepared.{ready_with}
use Rattle.bng_desk.proofs.Readying.{Shards}
use Rattle.bng_desk.proofs.Telling.{ToldKeep, told_keep}
use Rattle.bng_desk.proofs.settlement.settle.Given.{Over}
use Rattle.bng_desk.proofs.settlement.settle.Goals as goal
use Rattle.bng_desk.proofs.settlement.settle.Goals.{After-of_round, After-send_replies}

pub hold-record-requires : goal.hold-record-requires
hold-record-requires g c = record { ready = ready_with c.args.rules.now c.args.named c.args.lists c.args.works.now c.replace-repeats.new.dest c.requires.ready }

-- once the replies were sent
module _ (g : Over) (c : After-send_replies g) where
  abbrev was : Works
  was = c.hold-record.new.works

  abbrev ws : Shards
  ws = (with_items was.shards c.send_replies.new.shards).items

  told_as : c.send_replies.new.shards ≡ map told_all was.shards.items
  told_as = c.send_replies.ensures.shards_are ∙ ap (λ (vs : Shards). map told_all vs) c.as_mut_slice.ensures.value

  same_count : length c.send_replies.new.shards ≡ was.shards.len
  same_count = omega (arith, ap (λ (vs : Shards). length vs) told_as, length-map was.shards.items told_all, was.shards.ok.0)

  shards_are : ws ≡ c.send_replies.new.shards
  shards_are = with_items_is was.shards c.send_replies.new.shards same_count

  keep : ToldKeep c.args.named.moment c.args.works.now was ws
  keep = told_keep c.args.named.moment c.args.works.now was ws (shards_are ∙ told_as) c.hold-record.ensures.keeps

  replies : SendsReplies c.args.rules.now (replies_in c.args.lists.repeats.items) c.hold-record.result.record.loose was.shards.items ws (g.P.Plant.told c.hold-record.new.plant) (g.P.Plant.told c.send_replies.new.plant) c.args.works.now.coa c.send_replies.new.coa
  replies =
      let r = c.args.rules.now in
      let told = g.P.Plant.told in
      let sends = λ (rs : List Repeated) (ls : List Loose) (vs us : Shards) (x : Works). SendsReplies r (replies_in rs) ls vs us (told c.hold-record.new.plant) (told c.send_replies.new.plant) x.coa c.send_replies.new.coa in
      subst (λ (x : Works). sends c.args.lists.repeats.items c.hold-record.result.record.loose was.shards.items ws x) c.hold-record.ensures.rest
      (subst (λ (us : Shards). sends c.args.lists.repeats.items c.hold-record.result.record.loose was.shards.items us was) (sym shards_are)
      (subst (λ (vs : Shards). sends c.args.lists.repeats.items c.hold-record.result.record.loose vs c.send_replies.new.shards was) c.as_mut_slice.ensures.value
      (subst (λ (ls : List Loose). sends c.args.lists.repeats.items ls c.as_mut_slice.result.now c.send_replies.new.shards was) c.as_slice-2.ensures
      (subst (λ (rs : List Repeated). sends rs c.as_slice-2.result.now c.as_mut_slice.result.now c.send_replies.new.shards was) (c.as_slice.ensures.value ∙ ap (λ x. x.items) c.replace-repeats.ensures.value) c.send_replies.ensures))))

pub send_requests-requires-clause-numbers : goal.send_requests-requires-clause-numbers
send_requests-requires-clause-numbers g c =
    let b = (goal.at.send_requests-requires-clause-numbers g c).After-send_replies in
    subst AreInOrder (sym c.as_slice-3.ensures.value) (keep g b).order

module _ (g : Over) (c : After-of_round g) where
  abbrev held : Works
  held = c.hold-record.new.works

  same_handed : length c.send_requests.new.handed ≡ held.handed.len
  same_handed = omega (arith, c.send_requests.auto.handed, c.as_mut_slice-2.ensures.len, held.handed.ok.0)

  handed_are : (with_items held.handed c.send_requests.new.handed).items ≡ c.send_requests.new.handed
  handed_are = with_items_is held.handed c.send_requests.new.handed same_handed

  -- accounting alone goes on after the round
  accounts_are : held.accounts ≡ record c.send.new.self { billing = held.accounts.billing }
  accounts_are = sym (ap (λ (a : Accounts). let b : Accounts = record a { billing = held.accounts.billing } in b) c.send.ensures.others)

pub returns-clause-settles : goal.returns-clause-settles
returns-clause-settles g c =
    let b = (goal.at.returns-clause-settles g c).After-of_round in
    let e = (goal.at.returns-clause-settles g c).After-send_replies in
    let told = g.P.Plant.told in
    let w = c.args.works.now in
    let h = c.hold-record.new.works in
    let named = c.args.named in
    let sent = told c.hold-record.new.plant in
    let replied = told c.send_replies.new.plant in
    let asked = told c.send_requests.new.plant in
    let asks = λ (x : Works) (vs : Shards) (olds news : List (List ℕ)). SendsRequests named.moment vs replied asked x.lane c.send_requests.new.lane olds news x.draws c.send_requests.new.draws in
    record {
      round = c.hold-record.result.record;
      booked = h.accounts.billing;
      held = h.shards.items;
      sent = sent;
      replied = replied;
      asked = asked;
      holds =
          subst (λ (a : Accounts). Holds c.args.rules.now w.pool h.pool w.accounts a named c.args.lists.items.items (told c.args.plant.now) sent w.shards.items h.shards.items w.drops h.drops w.tally h.tally c.hold-record.result.record c.hold-record.result.is_opened h.kept.items) (accounts_are g b) c.hold-record.ensures.round;
      replies = replies g e;
      asks = subst (λ (x : Works). asks x (ws g e) x.handed.items (with_items h.handed c.send_requests.new.handed).items) c.hold-record.ensures.rest
          (subst (λ (hs : List (List ℕ)). asks h (ws g e) h.handed.items hs) (sym (handed_are g b))
          (subst (λ (vs : Shards). asks h vs h.handed.items c.send_requests.new.handed) c.as_slice-3.ensures.value
          (subst (λ (hs : List (List ℕ)). asks h c.as_slice-3.result.now hs c.send_requests.new.handed) c.as_mut_slice-2.ensures.value c.send_requests.ensures.sends)));
      bills = c.send.ensures.sends;
      rounds = c.note-noted.ensures.rounds;
      cause = c.note-noted.ensures.cause;
      uncounted = c.note-noted.ensures.uncounted;
    }

pub returns-clause-keeps : goal.returns-clause-keeps
returns-clause-keeps g c =
    let b = (goal.at.returns-clause-keeps g c).After-of_round in
    let e = (goal.at.returns-clause-keeps g c).After-send_replies in
    let w = c.args.works.now in
    let h = c.hold-record.new.works in
    let keeps = c.hold-record.ensures.keeps in
    let kept = keep g e in
    let rest = c.hold-record.ensures.rest in
    let moment = c.args.named.moment in
    let shards = ws g e in
    let booked = h.accounts.billing in
    let bills = c.send.ensures.sends in
    record {
      count = kept.count;
      order = kept.order;
      empty = kept.empty;
      sessions = kept.sessions;
      low = kept.low;
      books = kept.books;
      tally = keeps.tally;
      tallied = subst (λ (ls : List CircuitLine). AreTallied h.tally shards ls) (sym (ap (λ (a : Accounts). a.lines) c.send.ensures.others)) kept.tallied;
      adds_up = subst (λ (t : Stopped). AddsUp h.tally shards t) (sym (ap (λ (a : Accounts). a.stopped) c.send.ensures.others)) kept.adds_up;
      billed = billed_kept (keys_in shards) booked c.send.new.self.billing (settled_keeps moment booked c.send.new.self.billing bills.requests bills.settles) kept.billed;
      counts = keeps.counts;
      drawn = omega (arith, c.send_requests.ensures.few_drawn, ap (λ (x : Works). x.draws.drawn) rest);
      handed = ap (λ (hs : List (List ℕ)). length hs) (handed_are g b) ∙ same_handed g b ∙ h.handed.ok.0 ∙ keeps.handed;
      room = keeps.room;
      places = keeps.places;
      held = kept.held;
      ranges = keeps.ranges;
      terms = kept.terms;
      knows = knows_less shards booked c.send.new.self.billing (settled_forgets moment booked c.send.new.self.billing bills.requests bills.settles) kept.knows;
      awaited = subst (λ (rs : List Reports). AreWaiting moment shards rs) (sym (ap (λ (a : Accounts). a.reports) c.send.ensures.others)) kept.awaited;
    }
