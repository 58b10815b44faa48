-- A lane's part of the client.
use Rattle.std.proofs.Common.{◌≡◌, ℕ, List, sym, subst}
use Rattle.bng_base.specs.declared.address.Peer.{Peer}
use Rattle.bng_rad_client.specs.declared.rules.Lane.{Lane}
use Rattle.bng_rad_client.specs.declared.replies.Replied.{Replied}
use Rattle.bng_rad_client.specs.Replies.{Answers}
use Rattle.bng_rad_client.specs.State.{State, table_of, server_of}

pub answers_at : (inside s : State) (lane known : Lane) → lane ≡ known → inside ≡ s → (from : Peer) (secret bytes : List ℕ) (r : Replied) → secret ≡ inside.secret
    → Answers (server_of inside known) from lane (table_of inside known).places secret bytes r
    → Answers (server_of s lane) from lane (table_of s lane).places s.secret bytes r
answers_at inside s lane known is view from secret bytes r key h =
    let at_lane : Answers (server_of inside lane) from lane (table_of inside lane).places secret bytes r =
    subst (λ (l : Lane). Answers (server_of inside l) from lane (table_of inside l).places secret bytes r) (sym is) h in
    let at_key : Answers (server_of inside lane) from lane (table_of inside lane).places inside.secret bytes r =
    subst (λ (k : List ℕ). Answers (server_of inside lane) from lane (table_of inside lane).places k bytes r) key at_lane in
    subst (λ (x : State). Answers (server_of x lane) from lane (table_of x lane).places x.secret bytes r) view at_key
