-- By what a proof tells two states of a shard apart.
use Rattle.std.specs.Prelude.{ℕ, List, Option, refl}
use Rattle.std.specs.Coded.{Coded, code_by, coded×, coded_list, coded_option, coded_ℕ}
use Rattle.bng_base.specs.contracts.address.Ip4.{the_row as address_row}
use Rattle.bng_base.specs.contracts.circuit.Circuit.{the_row as circuit_row}
use Rattle.bng_base.specs.contracts.circuit.TermId.{the_row as term_row}
use Rattle.bng_base.specs.declared.address.Ip4.{Ip4}
use Rattle.bng_base.specs.declared.circuit.Circuit.{Circuit}
use Rattle.bng_base.specs.declared.circuit.TermId.{TermId}
use Rattle.bng_lns.specs.contracts.tunnels.Tunnels.{the_row as tunnels_row}
use Rattle.bng_lns.specs.Tunnels.{TunnelsState}
use Rattle.bng_sessions.specs.Sessions.{Sessions, sessions_code}
use Rattle.bng_steps.specs.contracts.meters.Meters.{the_row as meters_row}
use Rattle.bng_steps.specs.contracts.session.Session.{the_row}
use Rattle.bng_steps.specs.declared.meters.Meters.{Meters}
use Rattle.bng_steps.specs.declared.session.Session.{Session}
use Rattle.bng_steps.specs.State.{State}
use Rattle.bng_steps.specs.Tenures.{Tenure}

abbrev pub tenure_code : Coded Tenure
tenure_code =
    code_by
    (TermId × (Circuit × (Ip4 × (ℕ × (List ℕ × (List ℕ × (ℕ × Option ℕ)))))))
    (coded× term_row.coded (coded× circuit_row.coded (coded× address_row.coded (coded× coded_ℕ (coded× (coded_list coded_ℕ) (coded× (coded_list coded_ℕ) (coded× coded_ℕ (coded_option coded_ℕ))))))))
    (λ t. (t.term, (t.circuit, (t.address, (t.profile, (t.user, (t.class, (t.began, t.cause))))))))
    (λ p. record { term = p.0; circuit = p.1.0; address = p.1.1.0; profile = p.1.1.1.0; user = p.1.1.1.1.0; class = p.1.1.1.1.1.0; began = p.1.1.1.1.1.1.0; cause = p.1.1.1.1.1.1.1 })
    (λ _. refl)

abbrev pub state_code : Coded State
state_code =
    code_by
    (Sessions Session × (ℕ × (ℕ × (List Tenure × (List Tenure × (List ℕ × (List Meters × TunnelsState)))))))
    (coded× (sessions_code the_row.coded) (coded× coded_ℕ (coded× coded_ℕ (coded× (coded_list tenure_code) (coded× (coded_list tenure_code) (coded× (coded_list coded_ℕ) (coded× (coded_list meters_row.coded) tunnels_row.coded)))))))
    (λ s. (s.sessions, (s.begun, (s.question_count, (s.terms, (s.news, (s.passed, (s.meters, s.tunnels))))))))
    (λ p. record { sessions = p.0; begun = p.1.0; question_count = p.1.1.0; terms = p.1.1.1.0; news = p.1.1.1.1.0; passed = p.1.1.1.1.1.0; meters = p.1.1.1.1.1.1.0; tunnels = p.1.1.1.1.1.1.1 })
    (λ _. refl)
