use Rattle.std.proofs.Common.{rules, ◌≡◌, ◌-◌, length, List, [], ◌∷◌, ◌++◌, take, drop, get_or, refl, sym, ap, subst, ◌∙◌}
use Rattle.bng_radius_wire.specs.Attributes.{Field, Fits, text, fields}
use Rattle.bng_base.proofs.PieceLaws.{Reads, one_more, one_over, no_pieces}
use Rattle.bng_radius_wire.proofs.Progress.{is_code, opened, too_short, small_length, large_length, fields-push, length-fields}
use Rattle.bng_radius_wire.proofs.lists.list_of.Goals as goal
use Rattle.bng_radius_wire.proofs.lists.list_of.Goals.{then-length-lt2-via-then-length-lt2, then-length-lt2-via-else-length-lt2+then-after-length}

pub returns-then-length-lt2-clause-answer : goal.returns-then-length-lt2-clause-answer
returns-then-length-lt2-clause-answer c =
    let rest = c.loop-rest.rest.now in
    let none = no_pieces Fits text 64 is_code c.args.octets.now rest (fields c.loop-rest.found.items) c.loop-rest.many c.loop-rest.invariant.reads (search rules) in
    elim c.then-length-lt2.branch [
      | then-length-lt2-via-then-length-lt2 w ↦ none (small_length rest (search rules))
      | then-length-lt2-via-else-length-lt2+then-after-length w ↦ none (large_length rest (take (length rest - 2) (drop 2 rest)) refl (search rules))
    ]

pub loop-rest-preserved-then-is_full : goal.loop-rest-preserved-then-is_full
loop-rest-preserved-then-is_full c =
    let rest = c.loop-rest.rest.now in
    let body = c.args.octets.now in
    let value = c.split_at.result.0.now in
    let next = c.split_at.result.1.now in
    let made : Field = record { kind = get_or rest 0 0; value = value } in
    let e = opened rest (take (length rest - 2) (drop 2 rest)) value next c.from-length.result c.in-len2-up.len_at_least refl c.from-length.ensures (search rules) (search rules) c.split_at.ensures.front c.split_at.ensures.back in
    record { reads = one_over Fits text 64 body rest next (fields c.loop-rest.found.items) c.loop-rest.many made (search rules) e (search (rules, length-fields)) c.loop-rest.invariant.reads; few = search rules }

pub loop-rest-preserved : goal.loop-rest-preserved
loop-rest-preserved c =
    let rest = c.loop-rest.rest.now in
    let body = c.args.octets.now in
    let value = c.split_at.result.0.now in
    let next = c.split_at.result.1.now in
    let made : Field = record { kind = get_or rest 0 0; value = value } in
    let e = opened rest (take (length rest - 2) (drop 2 rest)) value next c.from-length.result c.in-len2-up.len_at_least refl c.from-length.ensures (search rules) (search rules) c.split_at.ensures.front c.split_at.ensures.back in
    let new = one_more Fits text 64 body rest next (fields c.loop-rest.found.items) c.loop-rest.many made (search rules) e c.loop-rest.invariant.reads in
    let is : fields c.push.new.self.items ≡ fields c.loop-rest.found.items ++ made ∷ [] = ap fields c.push.ensures.items ∙ fields-push c.loop-rest.found.items _ in
    record { reads = subst (λ (fs : List Field). Reads Fits text 64 body next fs c.loop-rest.many) (sym is) new; few = search rules }

pub returns-then-not-is_empty-clause-answer : goal.returns-then-not-is_empty-clause-answer
returns-then-not-is_empty-clause-answer c =
    let rest = c.loop-rest.rest.now in
    no_pieces Fits text 64 is_code c.args.octets.now rest (fields c.loop-rest.found.items) c.loop-rest.many c.loop-rest.invariant.reads (search rules) (too_short rest (search rules))
