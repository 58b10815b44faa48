use Rattle.std.proofs.Common.{rules, tests, ◌≡◌, List, sym, ap, ◌∙◌, arith}
use Rattle.std.specs.Prelude.{count_by, position}
use Rattle.std.proofs.lemmas.Iterator.{YieldsList-from_slice}
use Rattle.std.proofs.lemmas.Iterator.Search.{position_from_yields_List}
use Rattle.bng_coa.specs.declared.request.ChangeRequest.{ChangeRequest}
use Rattle.bng_coa.specs.Requests.{is_in_hand, is_answered, with_room}
use Rattle.bng_coa.proofs.Rooms.{none_answered, room_made}
use Rattle.bng_coa.proofs.requests.ChangeRequests.make_room.Goals as goal

pub unreachable-requires : goal.unreachable-requires
unreachable-requires c =
    let old = c.self.inside.list.items in
    let first : c.position.result ≡ position is_answered old = position_from_yields_List is_answered _ _ c.position.result c.position.ensures.ran (YieldsList-from_slice old cc) (λ x b q k. search (rules, tests)) in
    omega (arith, none_answered old (sym first ∙ c.in-None.is), ap (λ (rs : List ChangeRequest). count_by is_in_hand rs) c.self.view_is, c.requires, c.if-len-lt-MOST.false, c.len.ensures)

pub returns-clause-list : goal.returns-clause-list
returns-clause-list c =
    let old = c.self.inside.list.items in
    let first : c.position.result ≡ position is_answered old = position_from_yields_List is_answered _ _ c.position.result c.position.ensures.ran (YieldsList-from_slice old cc) (λ x b q k. search (rules, tests)) in
    c.remove.ensures.items ∙ sym (room_made old c.in-Some.place (omega (arith, c.if-len-lt-MOST.false, c.len.ensures)) (sym first ∙ c.in-Some.is)) ∙ ap with_room c.self.view_is
