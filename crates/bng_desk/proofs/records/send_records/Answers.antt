use Rattle.bng_desk.proofs.RecordLaws.{records_sent}
use Rattle.bng_desk.proofs.records.send_records.Goals as goal

pub returns : goal.returns
returns g c =
    let told = g.P.Plant.told in
    records_sent c.args.now (told c.args.plant.now) (told c.resend_all.new.plant) (told c.give_all.new.plant) c.args.billing.now c.resend_all.new.billing c.give_all.new.billing c.resend_all.ensures c.give_all.ensures
