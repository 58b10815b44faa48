use Rattle.std.proofs.Common.{◌≡◌, ℕ, ◌+◌, ◌*◌, List, [], ◌∷◌, ◌++◌, length, map, sym, ap, subst, ◌∙◌, arith}
use Rattle.std.specs.List.{All, range_with_len}
use Rattle.bng_base.specs.declared.book.Profile.{Profile}
use Rattle.bng_steps.specs.declared.rules.Rules.{Rules}
use Rattle.bng_steps.specs.declared.sums.Traffic.{Traffic}
use Rattle.bng_desk.specs.declared.line.CircuitLine.{CircuitLine}
use Rattle.bng_desk.specs.declared.sums.Sums.{Sums}
use Rattle.bng_desk.specs.Kept.{octets_most, rested}
use Rattle.bng_desk.specs.Model.{Desk, carried_on, all_carried, by_profile, sums_of, total_of, traffic_by, traffic_under}
use Rattle.bng_desk.specs.Report.{report_text}
use Rattle.bng_desk.proofs.Readying.{Shards}
use Rattle.bng_desk.proofs.Counted.{seen_adds_up}
use Rattle.bng_desk.proofs.Resting.{all_carried_rested, all_under_rested}
use Rattle.bng_desk.specs.Taking.{LinesWithin, far}
use Rattle.bng_desk.proofs.Tallied.{lines_far}
use Rattle.bng_desk.proofs.desk.Desk.report.Goals as goal
use Rattle.bng_desk.proofs.desk.Desk.report.Goals.{After-as_slice-shards}

pub all_carried-requires : goal.all_carried-requires
all_carried-requires c =
    let was = c.self.invariant.0 in
    let inside = c.self.inside in
    record {
      low = subst (λ (vs : Shards). LinesWithin far vs c.lines-lines.result.now) (sym c.as_slice-shards.ensures.value)
          (subst (λ (ls : List CircuitLine). LinesWithin far inside.works.shards.items ls) (sym c.lines-lines.ensures)
          (lines_far (octets_most * (inside.turns + inside.endings)) inside.works.tally inside.works.shards.items inside.works.accounts.lines (omega (arith, was.made, was.most, was.endings)) (was.tallies 0 (omega arith)) was.tallied));
    }

pub report-requires-clause-few_profiles : goal.report-requires-clause-few_profiles
report-requires-clause-few_profiles c = omega (arith, c.self.invariant.0.few_profiles, ap (λ (ps : List Profile). length ps) c.as_slice-profiles.ensures)

pub report-requires-clause-few_shards : goal.report-requires-clause-few_shards
report-requires-clause-few_shards c = omega (arith, c.self.invariant.0.shards, c.self.invariant.0.few_shards, ap (λ (vs : Shards). length vs) c.as_slice-shards.ensures.value)

-- each shard works by the desk's rules
pub report-requires-clause-books : goal.report-requires-clause-books
report-requires-clause-books c =
    subst (λ (vs : Shards). All (λ v. length v.state.rules.profiles ≡ length c.as_slice-profiles.result.now) vs) (sym c.as_slice-shards.ensures.value)
    (λ k d lt. ap (λ (r : Rules). length r.profiles) (c.self.invariant.0.rules k d lt) ∙ sym (ap (λ (ps : List Profile). length ps) c.as_slice-profiles.ensures))

-- the total of what the Stops and the terms that are left carried is that of the tally
module _ (c : After-as_slice-shards) where
  adds_up : (sums_of c.args.self.now).total ≡ total_of c.args.self.now.tallies
  adds_up =
      let inside = c.self.inside in
      subst (λ (d : Desk). (sums_of d).total ≡ total_of d.tallies) c.self.view_is (seen_adds_up inside.works.tally inside.works.shards.items inside.works.accounts.stopped c.self.invariant.0.adds_up)

pub returns-in_default-clause-adds_up : goal.returns-in_default-clause-adds_up
returns-in_default-clause-adds_up c = adds_up (goal.at.returns-in_default-clause-adds_up c).After-as_slice-shards

pub returns-in_default-report-clause-adds_up : goal.returns-in_default-report-clause-adds_up
returns-in_default-report-clause-adds_up c = adds_up (goal.at.returns-in_default-report-clause-adds_up c).After-as_slice-shards

pub returns-in-Ok-extend_from_slice-clause-adds_up : goal.returns-in-Ok-extend_from_slice-clause-adds_up
returns-in-Ok-extend_from_slice-clause-adds_up c = adds_up (goal.at.returns-in-Ok-extend_from_slice-clause-adds_up c).After-as_slice-shards

pub returns-clause-adds_up : goal.returns-clause-adds_up
returns-clause-adds_up c = adds_up (goal.at.returns-clause-adds_up c).After-as_slice-shards

pub returns-in-Ok-extend_from_slice-clause-appended : goal.returns-in-Ok-extend_from_slice-clause-appended
returns-in-Ok-extend_from_slice-clause-appended c =
    let vs = c.self.inside.works.shards.items in
    let lines = c.self.inside.works.accounts.lines in
    let profiles = c.self.inside.rules.profiles in
    let seen = c.args.self.now in
    let places = λ (ps : List Profile). range_with_len 0 (length ps) in
    let carried : c.as_slice.result.now ≡ map (carried_on (map rested vs)) lines =
    c.as_slice.ensures.value ∙ c.in-Ok.ensures ∙ ap (λ (xs : Shards). map (carried_on xs) c.lines-lines.result.now) c.as_slice-shards.ensures.value ∙ ap (λ (ls : List CircuitLine). map (carried_on vs) ls) c.lines-lines.ensures ∙ all_carried_rested vs lines in
    let all : c.as_slice.result.now ≡ all_carried seen = carried ∙ ap (λ (d : Desk). all_carried d) c.self.view_is in
    let named : c.lines-lines.result.now ≡ seen.lines = c.lines-lines.ensures ∙ ap (λ (d : Desk). d.lines) c.self.view_is in
    let metered : c.as_slice-profiles.result.now ≡ seen.rules.profiles = c.as_slice-profiles.ensures ∙ ap (λ (d : Desk). d.rules.profiles) c.self.view_is in
    let under : map (traffic_under c.as_slice-shards.result.now) (places c.as_slice-profiles.result.now) ≡ by_profile seen =
    ap (λ (xs : Shards). map (traffic_under xs) (places c.as_slice-profiles.result.now)) c.as_slice-shards.ensures.value ∙ ap (λ (ps : List Profile). map (traffic_under vs) (places ps)) c.as_slice-profiles.ensures
    ∙ all_under_rested vs (places profiles) ∙ ap (λ (d : Desk). by_profile d) c.self.view_is in
    let one = λ (t : Traffic). let ts : List Traffic = t ∷ [] in ts in
    let passed : one c.octets_of.result ≡ map traffic_by seen.tallies = ap one c.octets_of.ensures ∙ ap (λ (d : Desk). map traffic_by d.tallies) c.self.view_is in
    let text = λ (s : Sums) (ws : List Traffic) (ps : List Profile) (us : List Traffic) (ls : List CircuitLine) (ts : List Traffic). c.args.out.now.items ++ report_text s.stopped s.live s.total ws ps us ls ts s.drops in
    c.in-Ok-extend_from_slice.ensures.items ∙ ap (λ (bs : List ℕ). c.args.out.now.items ++ bs) (c.as_slice-2.ensures.value ∙ c.in-Ok-report.ensures)
    ∙ ap (λ (s : Sums). text s (one c.octets_of.result) c.as_slice-profiles.result.now (map (traffic_under c.as_slice-shards.result.now) (places c.as_slice-profiles.result.now)) c.lines-lines.result.now c.as_slice.result.now) c.sums-sums.ensures.sums
    ∙ ap (λ (ws : List Traffic). text (sums_of seen) ws c.as_slice-profiles.result.now (map (traffic_under c.as_slice-shards.result.now) (places c.as_slice-profiles.result.now)) c.lines-lines.result.now c.as_slice.result.now) passed
    ∙ ap (λ (us : List Traffic). text (sums_of seen) (map traffic_by seen.tallies) c.as_slice-profiles.result.now us c.lines-lines.result.now c.as_slice.result.now) under
    ∙ ap (λ (ps : List Profile). text (sums_of seen) (map traffic_by seen.tallies) ps (by_profile seen) c.lines-lines.result.now c.as_slice.result.now) metered
    ∙ ap (λ (ls : List CircuitLine). text (sums_of seen) (map traffic_by seen.tallies) seen.rules.profiles (by_profile seen) ls c.as_slice.result.now) named
    ∙ ap (λ (ts : List Traffic). text (sums_of seen) (map traffic_by seen.tallies) seen.rules.profiles (by_profile seen) seen.lines ts) all
