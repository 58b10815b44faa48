use Rattle.bng_vlan.proofs.Accounting.{parted, once, front}
use Rattle.bng_vlan.proofs.laws.each_frame_is_given_once.Goals as goal

pub returns-clause-parted : goal.returns-clause-parted
returns-clause-parted c = λ m came sound. parted m sound came

pub returns-clause-once : goal.returns-clause-once
returns-clause-once c = λ m v w below above sound few as_few h. once m v w below above h sound few as_few

pub returns-clause-front : goal.returns-clause-front
returns-clause-front c = λ m v w below above none h i e at. front m v w below above h none i e at
