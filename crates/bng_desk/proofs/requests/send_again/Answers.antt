use Rattle.std.proofs.Common.{[], ◌∷◌, ◌++◌, refl, ap, ◌∙◌, arith}
use Rattle.bng_base.specs.declared.outside.Role.TheVariants.{Auth}
use Rattle.bng_base.proofs.StretchLaws.{plant_stays}
use Rattle.bng_lane.specs.Due.{due_count}
use Rattle.bng_lane.specs.Sends.{LaneSend}
use Rattle.bng_lane.specs.State.{LaneState}
use Rattle.bng_desk.proofs.RadiusSends.{sent_more}
use Rattle.bng_desk.proofs.RequestLaws.{all_resent, resent_more, resent_server, resent_size}
use Rattle.bng_desk.proofs.requests.send_again.Goals as goal

pub returns-then-not-is_due : goal.returns-then-not-is_due
returns-then-not-is_due g c = record { resent = []; resends = (refl, c.if-not-is_due.ensures.again refl); told = plant_stays (g.P.Plant.told c.args.plant.now) }

pub loop-id-init : goal.loop-id-init
loop-id-init g c = record { resent = []; sends = refl; told = plant_stays (g.P.Plant.told c.args.plant.now); server = refl }

pub send_one-sent-requires : goal.send_one-sent-requires
send_one-sent-requires g c = record { size = resent_size c.loop-id.lane c.resend.new.self c.args.now c.in-Some.id c.in-Some.request.payload c.in-Some.ensures.again }

pub loop-id-preserved : goal.loop-id-preserved
loop-id-preserved g c =
    let told = g.P.Plant.told in
    let so_far = c.loop-id.invariant in
    let by = c.in-Some.ensures.again in
    let s : LaneSend = record { id = c.in-Some.id; octets = c.in-Some.request.payload; sent = c.send_one-sent.result } in
    let at = resent_server c.loop-id.lane c.resend.new.self c.args.now c.in-Some.id c.in-Some.request.payload by ∙ so_far.server in
    record {
      resent = so_far.resent ++ s ∷ [];
      sends = resent_more c.args.now c.in-Some.id c.in-Some.request.payload c.args.lane.now c.loop-id.lane c.resend.new.self c.send_one-sent.new.lane c.send_one-sent.result so_far.resent so_far.sends by c.send_one-sent.ensures.noted;
      told = sent_more Auth c.args.lane.now.client.auth_server c.resend.new.self.client.auth_server (told c.args.plant.now) (told c.loop-id.plant) (told c.send_one-sent.new.plant) so_far.resent s at so_far.told c.send_one-sent.ensures.told;
      server = ap (λ (l : LaneState). l.client.auth_server) c.send_one-sent.ensures.noted ∙ at;
    }

pub loop-id-smaller : goal.loop-id-smaller
loop-id-smaller g c = omega (arith, c.in-Some.ensures.fewer, ap (λ (l : LaneState). due_count l c.args.now) c.send_one-sent.ensures.noted)

pub returns : goal.returns
returns g c =
    let told = g.P.Plant.told in
    let so_far = c.loop-id.invariant in
    all_resent c.args.now (told c.args.plant.now) (told c.loop-id.plant) c.args.lane.now c.loop-id.lane c.resend.new.self c.resend.result so_far.resent so_far.sends so_far.told c.resend.ensures.none c.resend.ensures.kept c.in_default.is
