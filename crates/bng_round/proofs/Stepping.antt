-- A shard in its place that handled an item.
use Rattle.std.proofs.Common.{◌≡◌, ℕ, ◌≤◌, true, false, List, length, sym, ap, ◌∙◌, subst, arith}
use Rattle.bng_base.specs.declared.book.Book.{Book}
use Rattle.bng_base.specs.declared.fate.Fate.{Fate}
use Rattle.bng_base.specs.declared.item.Claim.{Claim}
use Rattle.bng_base.specs.declared.item.Entry.{Entry}
use Rattle.bng_base.specs.declared.item.Item.{Item}
use Rattle.bng_base.specs.declared.item.OutRecord.{OutRecord}
use Rattle.bng_engine.specs.Protocol.{StepLaws}
use Rattle.bng_engine.specs.Quantities.{Octets, Packets, empty_book}
use Rattle.bng_engine.specs.Sums.{charge_if, is_directed, passed_sum}
use Rattle.bng_pool.specs.Seats.{IsInRound}
use Rattle.bng_round.specs.Asking.{Asks, AreHeldBy, IsAskedFor}
use Rattle.bng_round.specs.Booking.{without_claim, passed_in, done_of, IsNext, HandlesAs, Steps, CanHandle}
use Rattle.bng_round.specs.Views.{PlacedView, is_limited}
use Rattle.bng_round.proofs.Answering.{asks_of}
use Rattle.bng_round.proofs.Following.{handling}
use Rattle.bng_round.proofs.Holding.{held_on}
use Rattle.bng_steps.specs.declared.wish.Wish.{Wish}
use Rattle.bng_steps.specs.Hearing.{outs_most}
use Rattle.bng_steps.specs.Protocol.{ShardState, Handled, entry_of, entry_with, pppoe, terms_of}
use Rattle.bng_steps.specs.Sums.{Rises}
use Rattle.bng_steps.specs.Wished.{IsWished}

-- what was entered in an empty book
book_is : (b : Book) (outs : List OutRecord) → Rises empty_book outs b → b ≡ passed_in outs
book_is b outs r =
    let input : b.input ≡ passed_sum (charge_if Octets (is_directed true)) outs = let h = r Octets true in omega arith in
    let output : b.output ≡ passed_sum (charge_if Octets (is_directed false)) outs = let h = r Octets false in omega arith in
    let input_packets : b.input_packets ≡ passed_sum (charge_if Packets (is_directed true)) outs = let h = r Packets true in omega arith in
    let output_packets : b.output_packets ≡ passed_sum (charge_if Packets (is_directed false)) outs = let h = r Packets false in omega arith in
    λ i. record { input = input i; output = output i; input_packets = input_packets i; output_packets = output_packets i }

pub steps_of : StepLaws pppoe → (v v' : PlacedView) (seat place moment : ℕ) (item : Item) (wish : Wish) (claim : Claim) (fate : Fate) (passed : Book)
    → IsInRound v.hold → IsNext v (entry_of seat place moment item) → CanHandle v item.kind
    → IsWished v.shard.state.rules v.shard.state.slots item (is_limited v.shard) wish → IsAskedFor wish claim v.hold v'.hold
    → HandlesAs v.shard v'.shard (entry_with claim seat place moment item) fate empty_book passed
    → v'.lists ≡ v.lists → v'.moment ≡ v.moment → v'.last ≡ (record { fate = fate; passed = passed }) → Steps v (entry_of seat place moment item) (record { fate = fate; passed = passed }) v'
steps_of laws v v' seat place moment item wish claim fate passed round next can wished asked h lists same last =
    let effect : Handled = h.effect in
    let is : effect.deed.entry ≡ entry_with claim seat place moment item = h.entry_is in
    let d = handling v.shard effect v'.shard h.handles in
    let bare : without_claim effect.deed.entry ≡ entry_of seat place moment item = ap without_claim is in
    let asks : Asks effect.deed.entry.claim v.hold v'.hold = subst (λ (e : Entry). Asks e.claim v.hold v'.hold) (sym is) (asks_of wish claim v.hold v'.hold round asked) in
    let done : done_of effect ≡ (record { fate = fate; passed = passed }) = λ i. record { fate = h.fate_is i; passed = sym (book_is passed effect.deed.outs h.entered) i } in
    record {
      effect = effect;
      asked_is = bare;
      is_step = record {
        next = subst (λ (e : Entry). IsNext v e) (sym bare) next;
        handles = h.handles;
        wish = wish;
        wished = subst (λ (e : Entry). IsWished v.shard.state.rules v.shard.state.slots e.item (is_limited v.shard) wish) (sym is) wished;
        asked = subst (λ (e : Entry). IsAskedFor wish e.claim v.hold v'.hold) (sym is) asked;
        held = subst (λ (s : ShardState). AreHeldBy v'.hold (terms_of s)) (sym d.state) (held_on laws v.shard.state effect v.hold v'.hold d.is_step asks can.held);
        light = h.light;
        few = subst (λ (e : Entry). length effect.deed.outs ≤ outs_most e.item.kind) (sym is) h.few;
        lists = lists;
        moment = same;
        last = last ∙ sym done;
      };
      done_is = done;
    }
