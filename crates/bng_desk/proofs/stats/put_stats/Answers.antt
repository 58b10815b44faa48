use Rattle.std.proofs.Common.{◌≡◌, ℕ, List, [], ◌∷◌, ◌++◌, codes, length, append-nil, sym, ap, ◌∙◌, arith}
use Rattle.std.specs.List.{range_with_len}
use Rattle.std.specs.Prelude.{map}
use Rattle.bng_base.specs.Packet.{Packet}
use Rattle.bng_steps.specs.declared.sums.Traffic.{Traffic}
use Rattle.bng_engine.specs.Quantities.{in_book}
use Rattle.bng_desk.specs.declared.accounts.Stopped.{Stopped}
use Rattle.bng_desk.specs.Causes.{causes}
use Rattle.bng_desk.specs.Model.{live_of, plus_book, traffic_by, traffic_under}
use Rattle.bng_desk.specs.Report.{drop_lines, profile_lines, traffic_line, worker_lines}
use Rattle.bng_desk.proofs.Texts.{onto}
use Rattle.bng_desk.proofs.stats.put_stats.Goals as goal

pub live-live-requires : goal.live-live-requires
live-live-requires c = record { low = λ q input. omega (arith, c.requires.may.low q input) }

pub plus_book-total-requires : goal.plus_book-total-requires
plus_book-total-requires c = record {
  low = λ q input. omega (arith, c.requires.may.low q input, ap (λ (t : Stopped). in_book q input t.carried) c.stopped.ensures, ap (in_book q input) c.live-live.ensures);
}

pub put_traffic-requires : goal.put_traffic-requires
put_traffic-requires c = record { name = omega arith; room = omega (arith, ap (λ (p : Packet). length p.payload) c.requires.blank, ap (λ (p : Packet). p.headroom) c.requires.blank) }

pub put_traffic-requires-2 : goal.put_traffic-requires-2
put_traffic-requires-2 c = record { name = omega arith; room = omega (arith, ap (λ (p : Packet). length p.payload) c.requires.blank, ap (λ (p : Packet). p.headroom) c.requires.blank, c.put_traffic.ensures.few, c.put_traffic.ensures.headroom) }

pub put_traffic-requires-3 : goal.put_traffic-requires-3
put_traffic-requires-3 c = record {
  name = omega arith;
  room = omega (arith, ap (λ (p : Packet). length p.payload) c.requires.blank, ap (λ (p : Packet). p.headroom) c.requires.blank, c.put_traffic.ensures.few, c.put_traffic.ensures.headroom, c.put_traffic-2.ensures.few, c.put_traffic-2.ensures.headroom);
}

pub put_worker-requires : goal.put_worker-requires
put_worker-requires c = record {
  room = omega (
    arith,
    ap (λ (p : Packet). length p.payload) c.requires.blank,
    ap (λ (p : Packet). p.headroom) c.requires.blank,
    c.put_traffic.ensures.few,
    c.put_traffic.ensures.headroom,
    c.put_traffic-2.ensures.few,
    c.put_traffic-2.ensures.headroom,
    c.put_traffic-3.ensures.few,
    c.put_traffic-3.ensures.headroom,
  );
}

pub put_profiles-requires-clause-room : goal.put_profiles-requires-clause-room
put_profiles-requires-clause-room c =
    omega (
      arith,
      ap (λ (p : Packet). length p.payload) c.requires.blank,
      ap (λ (p : Packet). p.headroom) c.requires.blank,
      c.put_traffic.ensures.few,
      c.put_traffic.ensures.headroom,
      c.put_traffic-2.ensures.few,
      c.put_traffic-2.ensures.headroom,
      c.put_traffic-3.ensures.few,
      c.put_traffic-3.ensures.headroom,
      c.put_worker.ensures.few,
      c.put_worker.ensures.headroom,
    )

pub put_drops-requires : goal.put_drops-requires
put_drops-requires c = record {
  room = omega (
    arith,
    ap (λ (p : Packet). length p.payload) c.requires.blank,
    ap (λ (p : Packet). p.headroom) c.requires.blank,
    c.put_traffic.ensures.few,
    c.put_traffic.ensures.headroom,
    c.put_traffic-2.ensures.few,
    c.put_traffic-2.ensures.headroom,
    c.put_traffic-3.ensures.few,
    c.put_traffic-3.ensures.headroom,
    c.put_worker.ensures.few,
    c.put_worker.ensures.headroom,
    c.put_profiles.ensures.few,
    c.put_profiles.ensures.headroom,
  );
}

pub returns : goal.returns
returns c =
    let counted = c.args.counted.now in
    let vs = counted.shards.now in
    let s = counted.accounts.now.stopped.carried in
    let o = c.args.text.now.payload in
    let stopped : c.octets_of.result ≡ traffic_by s = c.octets_of.ensures ∙ ap (λ (t : Stopped). traffic_by t.carried) c.stopped.ensures in
    let live : c.octets_of-2.result ≡ traffic_by (live_of vs) = c.octets_of-2.ensures ∙ ap traffic_by c.live-live.ensures in
    let total : c.octets_of-3.result ≡ traffic_by (plus_book s (live_of vs)) =
    c.octets_of-3.ensures ∙ ap traffic_by (c.plus_book-total.ensures ∙ ap (λ (t : Stopped). plus_book t.carried c.live-live.result) c.stopped.ensures ∙ ap (plus_book s) c.live-live.ensures) in
    let a = traffic_line (codes "stopped") (traffic_by s) in
    let b = a ++ traffic_line (codes "live") (traffic_by (live_of vs)) in
    let d = b ++ traffic_line (codes "total") (traffic_by (plus_book s (live_of vs))) in
    let e = d ++ worker_lines 0 (traffic_by counted.tally ∷ []) in
    let under = map (traffic_under vs) (range_with_len 0 (length counted.profiles.now)) in
    let f = e ++ profile_lines counted.profiles.now under in
    let text₁ = c.put_traffic.ensures.text ∙ ap (λ (t : Traffic). o ++ traffic_line (codes "stopped") t) stopped in
    let text₂ = onto o a (traffic_line (codes "live") (traffic_by (live_of vs))) c.put_traffic.new.text.payload c.put_traffic-2.new.text.payload text₁ (c.put_traffic-2.ensures.text ∙ ap (λ (t : Traffic). c.put_traffic.new.text.payload ++ traffic_line (codes "live") t) live) in
    let text₃ = onto o b (traffic_line (codes "total") (traffic_by (plus_book s (live_of vs)))) c.put_traffic-2.new.text.payload c.put_traffic-3.new.text.payload text₂ (c.put_traffic-3.ensures.text ∙ ap (λ (t : Traffic). c.put_traffic-2.new.text.payload ++ traffic_line (codes "total") t) total) in
    let text₄ = onto o d (worker_lines 0 (traffic_by counted.tally ∷ [])) c.put_traffic-3.new.text.payload c.put_worker.new.text.payload text₃ (c.put_worker.ensures.text ∙ ap (λ (t : Traffic). c.put_traffic-3.new.text.payload ++ worker_lines 0 (t ∷ [])) c.octets_of-4.ensures) in
    let text₅ = onto o e (profile_lines counted.profiles.now under) c.put_worker.new.text.payload c.put_profiles.new.text.payload text₄ c.put_profiles.ensures.text ∙ ap (λ (xs : List ℕ). o ++ xs) (sym (append-nil f)) in
    onto o (f ++ []) (drop_lines causes counted.drops.now.counts) c.put_profiles.new.text.payload c.put_drops.new.text.payload text₅ c.put_drops.ensures.text
    ∙ ap (λ (p : Packet). p.payload ++ ((f ++ []) ++ drop_lines causes counted.drops.now.counts)) c.requires.blank
