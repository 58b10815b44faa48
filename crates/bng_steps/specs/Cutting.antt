-- What a tunnel that was cleared leaves: each of its calls has ended (RFC 2661 section 6.4).
use Rattle.std.specs.Prelude.{◌≡◌, ℕ, ◌+◌, ◌*◌, ◌==◌, ◌&&◌, Bool, true, false, not, Option, Some, None, find, fold, is_some, map, if◌then◌else◌}
use Rattle.std.specs.List.{range_with_len}
use Rattle.std.specs.Option.{option_map_or}
use Rattle.bng_lns.specs.Timed.{Telling}
use Rattle.bng_sessions.specs.Listed.{values}
use Rattle.bng_sessions.specs.Sessions.{value_at}
use Rattle.bng_steps.specs.declared.session.Lease.{Lease}
use Rattle.bng_steps.specs.declared.session.Session.{Session}
use Rattle.bng_steps.specs.State.{State, is_way_of, lives_in, with_ended}
use Rattle.bng_steps.specs.Tenures.{Tenure, is_over}
use Rattle.bng_steps.specs.Link.{ended, lost_carrier}

-- the session is a call of the tunnel with this number, and has not ended
abbrev pub is_cut : ℕ → Session → Bool
is_cut tunnel x = is_way_of tunnel x.way && lives_in x.service

-- the session with this number has ended then, and its live term, if it has one, by Lost Carrier (RFC 2866 section 5.10)
abbrev pub cut_of : ℕ → State → ℕ → Option Session → State
cut_of tunnel s n None = s
cut_of tunnel s n (Some x) = if is_cut tunnel x then with_ended s n x.lease lost_carrier (ended x) else s

abbrev pub cut_at : ℕ → State → ℕ → State
cut_at tunnel s n = cut_of tunnel s n (value_at s.sessions n)

-- how many session numbers a shard has
unfoldable pub numbers_most : ℕ
numbers_most = 1022

-- so has each of the shard's, by rising number
unfoldable pub cut_off : ℕ → State → State
cut_off tunnel s = fold (cut_at tunnel) s (range_with_len (s.sessions.shard * 1024 + 1) numbers_most)

-- where the tunnel with this number was cleared; 0 is no tunnel's
abbrev pub cut_if : Bool → ℕ → State → State
cut_if cleared tunnel s = if cleared && not (tunnel == 0) then cut_off tunnel s else s

-- where what a tunnel tells by itself is its last
abbrev pub cut_told : Option Telling → State → State
cut_told None s = s
cut_told (Some t) s = cut_if t.said.cleared t.number s

-- What it leaves -----------------------------------------------------------------------------------------------------------

-- the session is a call of the tunnel that has not ended, and its live term has this number
abbrev pub loses_term : ℕ → ℕ → Session → Bool
loses_term tunnel serial x = is_cut tunnel x && option_map_or (λ (l : Lease). l.serial == serial) x.lease false

-- the term is the live one of such a call
abbrev pub is_lost : ℕ → State → Tenure → Bool
is_lost tunnel s t = is_some (find (loses_term tunnel t.term.serial) (values s.sessions))

-- a term, once its carrier was lost; one that had ended has its cause
abbrev pub lost : Tenure → Tenure
lost t = if is_over t then t else record t { cause = Some lost_carrier }

-- The tunnel with this number was cleared (RFC 2661 section 6.4): no call of it lives any longer. Each that lived has ended, and its live term
-- by Lost Carrier; every other session is as it was, and so is every other term. No session came, and nothing else of the shard changed
-- but its tunnels.
pub record Clears (tunnel : ℕ) (s s' : State) : Type 0 where
  pub none_lives : (n : ℕ) (x : Session) → value_at s'.sessions n ≡ Some x → is_cut tunnel x ≡ false
  pub calls_end : (n : ℕ) (x : Session) → value_at s.sessions n ≡ Some x → is_cut tunnel x ≡ true → value_at s'.sessions n ≡ Some (ended x)
  pub others_stay : (n : ℕ) (x : Session) → value_at s.sessions n ≡ Some x → is_cut tunnel x ≡ false → value_at s'.sessions n ≡ Some x
  pub none_comes : (n : ℕ) → value_at s.sessions n ≡ None → value_at s'.sessions n ≡ None
  pub terms_end : s'.terms ≡ map (λ t. if is_lost tunnel s t then lost t else t) s.terms
  pub shard : s'.sessions.shard ≡ s.sessions.shard
  pub rest : s' ≡ record s { sessions = s'.sessions; terms = s'.terms; tunnels = s'.tunnels }
