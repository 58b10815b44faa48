use Rattle.std.proofs.Common.{◌≡◌, ℕ, List, [], ◌∷◌, ◌++◌, refl, sym, ap, subst, ◌∙◌}
use Rattle.std.proofs.lemmas.List.{map-append}
use Rattle.bng_base.specs.declared.item.Item.{Item}
use Rattle.bng_base.specs.Batches.{Batch}
use Rattle.bng_base.specs.FateOf.{Arrival}
use Rattle.bng_coa.specs.declared.rules.Admitted.TheVariants.{New, Repeat, InHand, Ignored}
use Rattle.bng_coa.specs.Admission.{IsRequestIn}
use Rattle.bng_coa.specs.Leads.{lead_of, target_of}
use Rattle.bng_radius_wire.specs.Grammar.{Packet}
use Rattle.bng_desk.specs.Coa.{change_item, replies_in, reply_of}
use Rattle.bng_desk.specs.Random.{draw}
use Rattle.bng_desk.proofs.CoaLaws.{adds_new, adds_none, adds_repeat, admitted_as}
use Rattle.bng_desk.proofs.coa.add_request.Goals as goal

pub target_of-target-requires : goal.target_of-target-requires
target_of-target-requires c =
    let new = c.in-New.ensures.after in
    record { request = (new.packet, subst (λ (os : List ℕ). IsRequestIn new.packet os) (c.payload.ensures.octets ∙ sym c.payload-in-New.ensures.octets) new.reads) }

pub returns-in-New-clause-adds : goal.returns-in-New-clause-adds
returns-in-New-clause-adds c =
    let a : Arrival = record { from = c.args.from; cut = c.args.cut; octets = c.args.frame.now.payload } in
    let named = c.args.named in
    let number = c.in-New.number in
    let target = c.target_of-target.result in
    let names = subst (λ (os : List ℕ). (p : Packet) × IsRequestIn p os × (target ≡ target_of (lead_of p))) c.payload-in-New.ensures.octets c.target_of-target.ensures in
    adds_new named.moment named.wall a number target c.args.coa.now c.admit.new.self c.args.draws.now c.sixteen-random.new.self c.args.lists.now.items.items c.push.new.self.items (replies_in c.args.lists.now.repeats.items)
    (admitted_as named.moment named.wall c.args.from c.args.cut c.payload.result.now c.args.frame.now.payload (New number) target c.args.coa.now c.admit.new.self c.payload.ensures.octets c.in-New.ensures.answer c.in-New.ensures.after c.change.ensures.low names)
    (ap (λ (b : Batch Item). b.items) c.push.ensures ∙ ap (λ (i : Item). c.args.lists.now.items.items ++ i ∷ [])
    (c.change.ensures.item ∙ ap (λ (os : List ℕ). let i : Item = record (change_item (record { from = c.args.from; cut = c.args.cut; octets = c.replace-whole.result.payload }) number target) { random = os } in i) c.sixteen-random.ensures.octets
    ∙ ap (λ (os : List ℕ). let i : Item = record (change_item (record { from = c.args.from; cut = c.args.cut; octets = os }) number target) { random = draw c.args.draws.now.seed c.args.draws.now.drawn } in i) (ap (λ x. x.payload) c.replace-whole.ensures.value)))
    c.sixteen-random.ensures.counted

pub returns-in-Repeat-clause-adds : goal.returns-in-Repeat-clause-adds
returns-in-Repeat-clause-adds c =
    let a : Arrival = record { from = c.args.from; cut = c.args.cut; octets = c.args.frame.now.payload } in
    let named = c.args.named in
    let frame = c.in-Repeat.reply in
    adds_repeat named.moment named.wall a frame c.args.coa.now c.admit.new.self c.args.draws.now c.args.lists.now.items.items (replies_in c.args.lists.now.repeats.items) (replies_in c.push_reserved.new.self.items)
    (admitted_as named.moment named.wall c.args.from c.args.cut c.payload.result.now c.args.frame.now.payload (Repeat frame) 0 c.args.coa.now c.admit.new.self c.payload.ensures.octets c.in-Repeat.ensures.answer c.in-Repeat.ensures.after tt refl)
    (ap replies_in c.push_reserved.ensures.items ∙ map-append reply_of c.args.lists.now.repeats.items (record { to = c.args.from; frame = frame } ∷ []))

pub returns-in-InHand-clause-adds : goal.returns-in-InHand-clause-adds
returns-in-InHand-clause-adds c =
    let a : Arrival = record { from = c.args.from; cut = c.args.cut; octets = c.args.frame.now.payload } in
    let named = c.args.named in
    adds_none named.moment named.wall a InHand c.args.coa.now c.admit.new.self c.args.draws.now c.args.lists.now.items.items (replies_in c.args.lists.now.repeats.items)
    (admitted_as named.moment named.wall c.args.from c.args.cut c.payload.result.now c.args.frame.now.payload InHand 0 c.args.coa.now c.admit.new.self c.payload.ensures.octets c.in-InHand.ensures.answer c.in-InHand.ensures.after tt refl) refl refl

pub returns-in-Ignored-clause-adds : goal.returns-in-Ignored-clause-adds
returns-in-Ignored-clause-adds c =
    let a : Arrival = record { from = c.args.from; cut = c.args.cut; octets = c.args.frame.now.payload } in
    let named = c.args.named in
    let cause = c.in-Ignored._cause in
    adds_none named.moment named.wall a (Ignored cause) c.args.coa.now c.admit.new.self c.args.draws.now c.args.lists.now.items.items (replies_in c.args.lists.now.repeats.items)
    (admitted_as named.moment named.wall c.args.from c.args.cut c.payload.result.now c.args.frame.now.payload (Ignored cause) 0 c.args.coa.now c.admit.new.self c.payload.ensures.octets c.in-Ignored.ensures.answer c.in-Ignored.ensures.after tt refl) refl refl
