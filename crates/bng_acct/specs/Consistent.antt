-- What the parts of a spool keep.
use Rattle.std.specs.Prelude.{◌≡◌, ℕ, ◌*◌, ◌≤◌, sum_by, Some}
use Rattle.bng_acct.specs.declared.rules.AcctRules.{AcctRules}
use Rattle.bng_acct.specs.declared.sheet.Sheet.{Sheet}
use Rattle.bng_acct.specs.Roster.{Terms}
use Rattle.bng_acct.specs.Queue.{Open, sheet_at, count}
use Rattle.bng_acct.specs.Spool.{Agree, IsReady, open_count, stop_count}

pub record IsConsistent (rules : AcctRules) (queue : Open) (roster : Terms) (stops : ℕ) : Type 0 where
  pub room : roster.room ≡ rules.terms
  pub few : rules.terms ≤ 262144
  pub most : queue.most ≡ 3 * rules.terms
  pub agree : Agree queue.sheets roster.held
  pub counted : count queue.sheets ≡ sum_by open_count roster.held
  pub ready : (n : ℕ) (x : Sheet) → sheet_at queue.sheets n ≡ Some x → IsReady x.record
  pub stops_are : stops ≡ sum_by stop_count roster.held
