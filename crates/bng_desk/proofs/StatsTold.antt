-- What Control is told of a desk.
use Rattle.std.proofs.Common.{◌≡◌, ℕ, ◌*◌, ◌^◌, ◌≤◌, List, [], ◌∷◌, length, map, sym, ap, ◌∙◌}
use Rattle.std.specs.List.{All, range_with_len}
use Rattle.bng_base.specs.declared.book.Book.{Book}
use Rattle.bng_steps.specs.declared.rules.Rules.{Rules}
use Rattle.bng_steps.specs.declared.sums.Traffic.{Traffic}
use Rattle.bng_steps.specs.Sums.{IsLow}
use Rattle.bng_desk.specs.declared.accounts.Stopped.{Stopped}
use Rattle.bng_desk.specs.declared.settlement.Works.{Works}
use Rattle.bng_desk.specs.Kept.{octets_most, rested}
use Rattle.bng_desk.specs.Model.{Desk, live_of, plus_book, traffic_by, traffic_under}
use Rattle.bng_desk.specs.Report.{MayTell, report_text, stats_by, stats_text}
use Rattle.bng_desk.specs.Taking.{AddsUp}
use Rattle.bng_desk.proofs.Counted.{sums_low}
use Rattle.bng_desk.proofs.Readying.{Shards, WorksBy}
use Rattle.bng_desk.proofs.Resting.{all_under_rested, live_rested}
use Rattle.bng_desk.proofs.Works.{seen_with}

-- the desk's parts tell what contracts see
pub stats_seen : (d : Desk) (w : Works) → stats_by w.shards.items w.accounts.stopped w.tally w.drops d.rules.profiles ≡ stats_text (seen_with d w)
stats_seen d w =
    let vs = w.shards.items in
    let ps = d.rules.profiles in
    let s = w.accounts.stopped.carried in
    let text = λ (live : Book) (under : List Traffic). report_text s live (plus_book s live) (traffic_by w.tally ∷ []) ps under [] [] w.drops.counts in
    ap (λ (b : Book). text b (map (traffic_under vs) (range_with_len 0 (length ps)))) (sym (live_rested vs)) ∙ ap (λ (ts : List Traffic). text (live_of (map rested vs)) ts) (all_under_rested vs (range_with_len 0 (length ps)))

pub may_tell : (r : Rules) (vs : Shards) (stopped : Stopped) (tally : Book) (turns : ℕ) → length r.profiles ≤ 16 → length vs ≤ 64 → All (WorksBy r) vs → AddsUp tally vs stopped → turns ≤ 2 ^ 41 → IsLow (octets_most * turns) tally → MayTell vs stopped r.profiles
may_tell r vs stopped tally turns few_profiles few_shards rules sum few low = record {
  few_profiles = few_profiles;
  few_shards = few_shards;
  books = λ k d lt. ap (λ (x : Rules). length x.profiles) (rules k d lt);
  low = sums_low tally vs stopped sum turns few low;
}
