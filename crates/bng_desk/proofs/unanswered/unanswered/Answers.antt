use Rattle.std.proofs.Common.{◌≡◌, ℕ, List, [], ◌∷◌, ◌++◌, take, sym, ap, ◌∙◌, append_assoc, append-nil, arith}
use Rattle.std.specs.Option.{option_copied}
use Rattle.bng_acct.specs.declared.facts.TermFacts.{TermFacts}
use Rattle.bng_acct.specs.Spool.{unacked_stops}
use Rattle.bng_acct.specs.Texts.{session_id}
use Rattle.bng_desk.specs.Report.{stop_line, stop_lines}
use Rattle.bng_desk.proofs.Parts.{StandsAt, found_at, found_none}
use Rattle.bng_desk.proofs.unanswered.unanswered.Goals as goal

-- the line of one more Stop
lines_more : (wall : ℕ) (xs : List TermFacts) (f : TermFacts) → stop_lines wall (xs ++ f ∷ []) ≡ stop_lines wall xs ++ stop_line (session_id wall f.term) f
lines_more wall [] f = append-nil (stop_line (session_id wall f.term) f)
lines_more wall (x ∷ xs) f =
    let line = stop_line (session_id wall x.term) x in
    ap (λ (rest : List ℕ). line ++ rest) (lines_more wall xs f) ∙ sym (append_assoc line (stop_lines wall xs) (stop_line (session_id wall f.term) f))

pub unreachable-requires : goal.unreachable-requires
unreachable-requires c =
    let past = found_none (unacked_stops c.args.billing.now.spool) c.loop-at.at (sym c.unacked.ensures ∙ ap option_copied c.in_default.is) in
    omega (arith, past, c.unacked_stops-at-end.ensures)

pub loop-at-preserved : goal.loop-at-preserved
loop-at-preserved c =
    let b = c.args.billing.now in
    let wall = b.spool.rules.wall in
    let stops = unacked_stops b.spool in
    let n : ℕ = c.loop-at.at in
    let f : TermFacts = c.in-Some.facts.now in
    let at : StandsAt stops n f = found_at stops n f (sym c.unacked.ensures ∙ ap option_copied c.in-Some.is) in
    c.in_ok-push_stop_line.ensures
    ∙ ap (λ (id : List ℕ). c.loop-at.text.items ++ stop_line id f) c.session_id.ensures
    ∙ ap (λ (octets : List ℕ). octets ++ stop_line (session_id wall f.term) f) c.loop-at.invariant
    ∙ sym (lines_more wall (take n stops) f) ∙ ap (λ (fs : List TermFacts). stop_lines wall fs) (sym at.next)
