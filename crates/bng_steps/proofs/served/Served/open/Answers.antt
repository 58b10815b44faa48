use Rattle.std.proofs.Common.{rules, ◌≡◌, ◌∙◌, ℕ, ◌+◌, ◌-◌, ◌*◌, ◌^◌, ◌≤◌, ◌<◌, List, [], Some, replicate, sym, ap, subst, refl, arith, length}
use Rattle.std.specs.List.{All}
use Rattle.std.proofs.lemmas.List.{length-replicate}
use Rattle.std.proofs.lemmas.List.Elements.{All-replicate}
use Rattle.bng_base.specs.declared.address.SessionNo.{SessionNo}
use Rattle.bng_sessions.specs.Sessions.{NoneShares, Sessions, with_value}
use Rattle.bng_steps.specs.declared.meters.Meters.{Meters}
use Rattle.bng_steps.specs.declared.session.Session.{Session}
use Rattle.bng_steps.specs.Indexed.{address_of, term_of}
use Rattle.bng_steps.specs.Opening.{none_passed}
use Rattle.bng_steps.specs.Serving.{AreAsking, AreLeaving, AreYoung, asks, is_young}
use Rattle.bng_steps.specs.State.{circuit_of, leaves}
use Rattle.bng_steps.proofs.Circuits.{Opens, at, few_begun, opened_apart, opened_is, opened_leased, opened_listed, opened_none, opened_of_shard, opened_own, opens_none, opens_pass, opens_put, shares_address, shares_circuit, shares_term, vacant_there}
use Rattle.bng_steps.proofs.Metering.{opened_length}
use Rattle.bng_steps.proofs.served.Served.open.Goals as goal
use Rattle.bng_steps.proofs.served.Served.open.Goals.{in-Some, in_default}

pub loop-n-init : goal.loop-n-init
loop-n-init g c =
    let none : 0 ≡ c.args.number * 1024 + 1 - (c.args.number * 1024 + 1) = omega arith in
    subst (λ (k : ℕ). Opens c.args.now c.args.number c.args.circuits.now k (g.S.Store.sessions c.args.sessions) 0) none (opens_none c.args.now c.args.number c.args.circuits.now (g.S.Store.sessions c.args.sessions) (ap (λ (t : Sessions Session). t.shard) c.requires.empty) (ap (λ (t : Sessions Session). t.by_number) c.requires.empty))

pub overflow_add-begun : goal.overflow_add-begun
overflow_add-begun g c =
    let few = few_begun c.args.now c.args.number c.args.circuits.now (c.loop-n.n - (c.args.number * 1024 + 1)) (g.S.Store.sessions c.loop-n.sessions) c.loop-n.begun c.loop-n.invariant c.requires.sessions in
    let l = c.loop-n-test.true in
    omega (arith, few, l)

pub put-requires-clause-vacant : goal.put-requires-clause-vacant
put-requires-clause-vacant g c =
    let first = c.args.number * 1024 + 1 in
    let low : c.args.number * 1024 + 1 ≤ c.loop-n.n = search rules in
    let here = at c.args.now c.args.number c.args.circuits.now first c.loop-n.n (g.S.Store.sessions c.loop-n.sessions) c.loop-n.begun c.loop-n.invariant refl low in
    vacant_there c.args.now c.args.number c.args.circuits.now (c.loop-n.n - first) (g.S.Store.sessions c.loop-n.sessions) c.loop-n.begun c.loop-n.invariant c.loop-n.n here

pub put-requires-clause-circuit : goal.put-requires-clause-circuit
put-requires-clause-circuit g c =
    let first = c.args.number * 1024 + 1 in
    let low : c.args.number * 1024 + 1 ≤ c.loop-n.n = search rules in
    let here = at c.args.now c.args.number c.args.circuits.now first c.loop-n.n (g.S.Store.sessions c.loop-n.sessions) c.loop-n.begun c.loop-n.invariant refl low in
    subst (λ (x : Session). NoneShares (λ (y : Session). Some (circuit_of y)) (g.S.Store.sessions c.loop-n.sessions) x) (sym c.provisioned.ensures)
    (shares_circuit c.args.now c.args.number c.args.circuits.now (c.loop-n.n - first) (g.S.Store.sessions c.loop-n.sessions) c.loop-n.begun c.loop-n.invariant c.loop-n.n c.in-Some.circuit.now here c.in-Some.ensures.found (c.loop-n.begun + 1))

pub put-requires-clause-address : goal.put-requires-clause-address
put-requires-clause-address g c unique =
    let first = c.args.number * 1024 + 1 in
    let low : c.args.number * 1024 + 1 ≤ c.loop-n.n = search rules in
    let here = at c.args.now c.args.number c.args.circuits.now first c.loop-n.n (g.S.Store.sessions c.loop-n.sessions) c.loop-n.begun c.loop-n.invariant refl low in
    subst (λ (x : Session). NoneShares address_of (g.S.Store.sessions c.loop-n.sessions) x) (sym c.provisioned.ensures)
    (shares_address c.args.now c.args.number c.args.circuits.now (c.loop-n.n - first) (g.S.Store.sessions c.loop-n.sessions) c.loop-n.begun c.loop-n.invariant c.loop-n.n c.in-Some.circuit.now here c.in-Some.ensures.found (c.requires.addresses unique) (c.loop-n.begun + 1))

pub put-requires-clause-term : goal.put-requires-clause-term
put-requires-clause-term g c =
    let first = c.args.number * 1024 + 1 in
    let low : c.args.number * 1024 + 1 ≤ c.loop-n.n = search rules in
    let here = at c.args.now c.args.number c.args.circuits.now first c.loop-n.n (g.S.Store.sessions c.loop-n.sessions) c.loop-n.begun c.loop-n.invariant refl low in
    subst (λ (x : Session). NoneShares term_of (g.S.Store.sessions c.loop-n.sessions) x) (sym c.provisioned.ensures)
    (shares_term c.args.now c.args.number c.args.circuits.now (c.loop-n.n - first) (g.S.Store.sessions c.loop-n.sessions) c.loop-n.begun c.loop-n.invariant c.loop-n.n c.in-Some.circuit.now here c.in-Some.ensures.found (c.loop-n.begun + 1))

pub loop-n-preserved : goal.loop-n-preserved
loop-n-preserved g c =
    let first = c.args.number * 1024 + 1 in
    let low : c.args.number * 1024 + 1 ≤ c.loop-n.n = search rules in
    elim c.match-circuit_with.branch [
      | in-Some w ↦ opens_put c.args.now c.args.number c.args.circuits.now first c.loop-n.n (g.S.Store.sessions c.loop-n.sessions) c.loop-n.begun c.loop-n.invariant refl low w.in-Some.circuit.now w.in-Some.ensures.found (g.S.Store.sessions c.match-circuit_with.sessions) c.match-circuit_with.begun w.begun-is
          (ap g.S.Store.sessions w.sessions-is ∙ w.put.ensures ∙ ap (with_value (g.S.Store.sessions c.loop-n.sessions) c.loop-n.n) w.provisioned.ensures)
      | in_default w ↦ opens_pass c.args.now c.args.number c.args.circuits.now first c.loop-n.n (g.S.Store.sessions c.loop-n.sessions) c.loop-n.begun c.loop-n.invariant refl low w.in_default.ensures.none (g.S.Store.sessions c.match-circuit_with.sessions) c.match-circuit_with.begun w.begun-is (ap g.S.Store.sessions w.sessions-is)
    ]

pub invariant_of-result : goal.invariant_of-result
invariant_of-result g c =
    let past = c.loop-n-test.false in
    let all : c.loop-n.n - (c.args.number * 1024 + 1) ≡ 1022 = search rules in
    let opens = subst (λ (k : ℕ). Opens c.args.now c.args.number c.args.circuits.now k (g.S.Store.sessions c.loop-n.sessions) c.loop-n.begun) all c.loop-n.invariant in
    let none = c.in_ok-leaving.ensures.items in
    let room = c.in_ok-leaving.ensures.capacity in
    let none_ask = c.in_ok-asking.ensures.items in
    let asking_room = c.in_ok-asking.ensures.capacity in
    let none_young = c.in_ok-young.ensures.items in
    let young_room = c.in_ok-young.ensures.capacity in
    let zeros : c.in_ok-passed.passed.items ≡ none_passed = c.in_ok-passed.ensures.items_if_clones_equal (λ y same. same) ∙ ap (λ (n : ℕ). replicate n 0) c.from.ensures in
    record {
      own = opened_own c.args.now c.args.number c.args.circuits.now (g.S.Store.sessions c.loop-n.sessions) c.loop-n.begun opens;
      of_shard = opened_of_shard c.args.now c.args.number c.args.circuits.now (g.S.Store.sessions c.loop-n.sessions) c.loop-n.begun opens;
      apart = λ unique. opened_apart c.args.now c.args.number c.args.circuits.now (g.S.Store.sessions c.loop-n.sessions) c.loop-n.begun opens (c.requires.addresses unique);
      leased = opened_leased c.args.now c.args.number c.args.circuits.now (g.S.Store.sessions c.loop-n.sessions) c.loop-n.begun opens;
      leaving = subst (λ (ns : List SessionNo). AreLeaving (g.S.Store.sessions c.loop-n.sessions) ns) (sym none) (opened_listed c.args.now c.args.number c.args.circuits.now (g.S.Store.sessions c.loop-n.sessions) c.loop-n.begun opens leaves (λ k serial. refl));
      counted = opened_none c.args.now c.args.number c.args.circuits.now (g.S.Store.sessions c.loop-n.sessions) c.loop-n.begun opens leaves (λ k serial. refl) ∙ sym (ap (λ (ns : List SessionNo). length ns) none);
      room = omega (arith, room);
      asking = subst (λ (ns : List SessionNo). AreAsking (g.S.Store.sessions c.loop-n.sessions) ns) (sym none_ask) (opened_listed c.args.now c.args.number c.args.circuits.now (g.S.Store.sessions c.loop-n.sessions) c.loop-n.begun opens asks (λ k serial. refl));
      asking_counted = opened_none c.args.now c.args.number c.args.circuits.now (g.S.Store.sessions c.loop-n.sessions) c.loop-n.begun opens asks (λ k serial. refl) ∙ sym (ap (λ (ns : List SessionNo). length ns) none_ask);
      asking_room = omega (arith, asking_room);
      young = subst (λ (ns : List SessionNo). AreYoung (g.S.Store.sessions c.loop-n.sessions) ns) (sym none_young) (opened_listed c.args.now c.args.number c.args.circuits.now (g.S.Store.sessions c.loop-n.sessions) c.loop-n.begun opens is_young (λ k serial. refl));
      young_counted = opened_none c.args.now c.args.number c.args.circuits.now (g.S.Store.sessions c.loop-n.sessions) c.loop-n.begun opens is_young (λ k serial. refl) ∙ sym (ap (λ (ns : List SessionNo). length ns) none_young);
      young_room = omega (arith, young_room);
      passed = ap (λ (moments : List ℕ). length moments) zeros ∙ length-replicate {A = ℕ} 1024 0;
      passed_low = subst (All (λ moment. moment < 2 ^ 60)) (sym zeros) (All-replicate (λ moment. moment < 2 ^ 60) 1024 0 (omega arith));
      metered = ap (λ (ms : List Meters). length ms) c.in_ok-meters.ensures ∙ opened_length c.args.number c.args.profiles.now c.args.circuits.now c.args.now;
    }

pub returns : goal.returns
returns g c =
    let all : c.loop-n.n - (c.args.number * 1024 + 1) ≡ 1022 = search rules in
    let opens = subst (λ (k : ℕ). Opens c.args.now c.args.number c.args.circuits.now k (g.S.Store.sessions c.loop-n.sessions) c.loop-n.begun) all c.loop-n.invariant in
    let zeros : c.in_ok-passed.passed.items ≡ none_passed = c.in_ok-passed.ensures.items_if_clones_equal (λ y same. same) ∙ ap (λ (n : ℕ). replicate n 0) c.from.ensures in
    let opened = opened_is c.args.now c.args.number c.args.circuits.now (g.S.Store.sessions c.loop-n.sessions) c.loop-n.begun opens c.args.profiles.now c.requires.own in
    record { opened = λ i. record { sessions = (opened i).sessions; begun = (opened i).begun; question_count = (opened i).question_count; terms = []; news = (opened i).news; passed = zeros i; meters = c.in_ok-meters.ensures i; tunnels = c.in_ok-tunnels.ensures i } }
