use Rattle.std.proofs.Common.{rules}
use Rattle.bng_l2tp_wire.specs.View.{control_of, said}
use Rattle.bng_l2tp_call.specs.Steps.{Hears}
use Rattle.bng_l2tp_call.proofs.Table.{one_outcome}
use Rattle.bng_l2tp_call.proofs.Soundness.{hears_sound}
use Rattle.bng_l2tp_call.proofs.Told.{told_refused, refused_told, told_reply, reply_told, opened_accepted, accepted_opened, ended_last, last_ended, hears_number, as_hears}
use Rattle.bng_l2tp_call.proofs.call.Call.on_message.Goals as goal

-- the message did what the table says
heard : (c : goal.After-hear) → Hears c.args.self.now (control_of c.args.message.now) (record { said = said c.hear.result; after = c.hear.new.self })
heard c = as_hears c.args.self.now (control_of c.args.message.now) (said c.hear.result) c.hear.new.self (search rules) (search rules)

pub returns-clause-steps : goal.returns-clause-steps
returns-clause-steps c = heard c

pub returns-clause-only : goal.returns-clause-only
returns-clause-only c = λ step. λ other.
    one_outcome c.args.self.now (control_of c.args.message.now) step (record { said = said c.hear.result; after = c.hear.new.self }) other (heard c)

pub returns-clause-sound : goal.returns-clause-sound
returns-clause-sound c = hears_sound c.args.self.now (control_of c.args.message.now) (heard c)

pub returns-clause-refused : goal.returns-clause-refused
returns-clause-refused c = λ cause. (
  λ r. refused_told c.args.self.now (control_of c.args.message.now) (heard c) cause r,
  λ t. told_refused c.args.self.now (control_of c.args.message.now) (heard c) cause t,
)

pub returns-clause-replied : goal.returns-clause-replied
returns-clause-replied c = (
  λ a. reply_told c.args.self.now (control_of c.args.message.now) (heard c) a,
  λ t. told_reply c.args.self.now (control_of c.args.message.now) (heard c) t,
)

pub returns-clause-opened : goal.returns-clause-opened
returns-clause-opened c = (
  λ o. opened_accepted c.args.self.now (control_of c.args.message.now) (heard c) o,
  λ a. accepted_opened c.args.self.now (control_of c.args.message.now) (heard c) a,
)

pub returns-clause-ended : goal.returns-clause-ended
returns-clause-ended c = (
  λ o. ended_last c.args.self.now (control_of c.args.message.now) (heard c) o,
  λ l. last_ended c.args.self.now (control_of c.args.message.now) (heard c) l,
)

pub returns-clause-number : goal.returns-clause-number
returns-clause-number c = hears_number c.args.self.now (control_of c.args.message.now) (heard c)
