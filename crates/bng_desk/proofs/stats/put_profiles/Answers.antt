use Rattle.std.proofs.Common.{◌≡◌, ◌++◌, ◌+◌, ◌<◌, ℕ, zero, suc, List, [], ◌∷◌, length, map, take, get_or, sym, ap, ◌∙◌, append_assoc, append-nil, arith}
use Rattle.std.specs.List.{range_with_len}
use Rattle.std.proofs.lemmas.List.FromFn.{get_or-map-range_with_len, length-map-range_with_len}
use Rattle.bng_base.specs.declared.book.Profile.{Profile}
use Rattle.bng_steps.specs.declared.sums.Traffic.{Traffic}
use Rattle.bng_desk.specs.Model.{no_traffic, traffic_under}
use Rattle.bng_desk.specs.Report.{profile_line, profile_lines}
use Rattle.bng_desk.proofs.stats.put_profiles.Goals as goal

-- the line of one more profile
lines_more : (ps : List Profile) (ts : List Traffic) (i : ℕ) (p : Profile) → i < length ps → i < length ts
    → profile_lines (take (suc i) ps) ts ≡ profile_lines (take i ps) ts ++ profile_line (get_or ps i p).name.items (get_or ts i no_traffic)
lines_more [] ts i p in_profiles in_traffic = absurd (omega arith)
lines_more (x ∷ ps) [] i p in_profiles in_traffic = absurd (omega arith)
lines_more (x ∷ ps) (t ∷ ts) zero p in_profiles in_traffic = append-nil (profile_line x.name.items t)
lines_more (x ∷ ps) (t ∷ ts) (suc i) p in_profiles in_traffic =
    ap (λ (rest : List ℕ). profile_line x.name.items t ++ rest) (lines_more ps ts i p (omega arith) (omega arith)) ∙ sym (append_assoc (profile_line x.name.items t) _ _)

pub sent_under-input-requires-clause-there : goal.sent_under-input-requires-clause-there
sent_under-input-requires-clause-there c k d lt = omega (arith, c.requires.books k d lt)

pub loop-place-preserved : goal.loop-place-preserved
loop-place-preserved c =
    let n : ℕ = c.loop-place.place in
    let ps : List Profile = c.args.profiles.now in
    let under = traffic_under c.args.shards.now in
    let ts : List Traffic = map under (range_with_len 0 (length ps)) in
    let p = c.index-profiles-place.result in
    let sent = c.sent_under-input in
    let said : Traffic = record { input = sent.result.0; output = sent.result.1 } in
    let old = c.args.text.now.payload in
    let before = profile_lines (take n ps) ts in
    let within : n < length ps = omega arith in
    let in_traffic : n < length ts = omega (arith, within, length-map-range_with_len under 0 (length ps)) in
    let next : suc n ≡ n + 1 = omega arith in
    let same : said ≡ under n = λ i. record { input = sent.ensures.input i; output = sent.ensures.output i } in
    let at : under n ≡ get_or ts n no_traffic = sym (get_or-map-range_with_len under 0 (length ps) n n no_traffic within (omega arith)) in
    let line = profile_line (get_or ps n p).name.items (get_or ts n no_traffic) in
    let text = c.put_profile.ensures.text
    ∙ ap (λ (t : Traffic). c.loop-place.text.payload ++ profile_line p.name.items t) (same ∙ at)
    ∙ ap (λ (q : Profile). c.loop-place.text.payload ++ profile_line q.name.items (get_or ts n no_traffic)) c.index-profiles-place.is
    ∙ ap (λ (octets : List ℕ). octets ++ line) c.loop-place.invariant.text
    ∙ append_assoc old before line
    ∙ ap (λ (octets : List ℕ). old ++ octets) (sym (lines_more ps ts n p within in_traffic) ∙ ap (λ (k : ℕ). profile_lines (take k ps) ts) next) in
    record {
      text = text;
      few = omega (arith, c.put_profile.ensures.few, c.loop-place.invariant.few);
      headroom = c.put_profile.ensures.headroom ∙ c.loop-place.invariant.headroom;
    }

pub put_profile-requires : goal.put_profile-requires
put_profile-requires c = record { room = omega (arith, c.loop-place.invariant.few, c.loop-place.invariant.headroom, c.requires.room, c.requires.few_profiles, c.loop-place-test.true) }
