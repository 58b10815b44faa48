use Rattle.std.proofs.Common.{◌≡◌, ◌≢◌, ◌+◌, ◌%◌, ◌<◌, ℕ, None}
use Rattle.bng_rad_client.specs.Table.{request_of}
use Rattle.bng_rad_client.proofs.requests.Requests.next_free.Given as goal

abbrev pub invariant-loop : goal.invariant-loop
invariant-loop l = record {
  place : l.id ≡ (l.self.last + l.counter) % 256;
  before : (k : ℕ) → k < l.counter → request_of l.self.places ((l.self.last + 1 + k) % 256) ≢ None;
}
