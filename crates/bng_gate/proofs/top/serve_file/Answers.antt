use Rattle.bng_gate.proofs.Ends.{told_of, unready, unserved}
use Rattle.bng_gate.proofs.top.serve_file.Goals as goal

pub returns-in-Err : goal.returns-in-Err
returns-in-Err g c =
    unready c.args.name.now c.args.rounds (g.F.Files.told c.args.files.now) (g.F.Files.told c.make_ready.new.files) (g.P.Plant.told c.args.plant.now) (g.C.Clock.told c.args.clock.now)
    (g.E.Entropy.told c.args.entropy.now) (g.E.Entropy.told c.make_ready.new.entropy) (g.T.Trace.told c.args.trace.now) (g.O.Sink.told c.args.out.now)
    (g.X.Sink.told c.args.err.now) (g.X.Sink.told c.refuse.new.err) c.refuse.result c.in-Err.refusal c.in-Err.ensures.refused c.refuse.ensures

pub returns-in-Ok-serve_all : goal.returns-in-Ok-serve_all
returns-in-Ok-serve_all g c =
    told_of c.args.name.now c.args.rounds c.in-Ok.ready.config c.in-Ok.ready.seed (g.F.Files.told c.args.files.now) (g.F.Files.told c.make_ready.new.files)
    (g.P.Plant.told c.args.plant.now) (g.P.Plant.told c.serve_all.new.plant) (g.C.Clock.told c.args.clock.now) (g.C.Clock.told c.serve_all.new.clock)
    (g.E.Entropy.told c.args.entropy.now) (g.E.Entropy.told c.make_ready.new.entropy) (g.T.Trace.told c.args.trace.now) (g.T.Trace.told c.serve_all.new.trace)
    (g.O.Sink.told c.args.out.now) (g.O.Sink.told c.tell.new.out) (g.X.Sink.told c.args.err.now) (g.X.Sink.told c.tell.new.err) c.tell.result
    c.in-Ok.ensures.prepared c.in-Ok.ensures.seeded c.in-Ok.ready.rounds c.in-Ok.ensures.rounds c.in-Ok-serve_all.desk c.in-Ok-serve_all.ensures.served c.tell.ensures

pub returns-in-Err-serve_all : goal.returns-in-Err-serve_all
returns-in-Err-serve_all g c =
    unserved c.args.name.now c.args.rounds c.in-Ok.ready.config c.in-Ok.ready.seed (g.F.Files.told c.args.files.now) (g.F.Files.told c.make_ready.new.files)
    (g.P.Plant.told c.args.plant.now) (g.P.Plant.told c.serve_all.new.plant) (g.C.Clock.told c.args.clock.now) (g.C.Clock.told c.serve_all.new.clock)
    (g.E.Entropy.told c.args.entropy.now) (g.E.Entropy.told c.make_ready.new.entropy) (g.T.Trace.told c.args.trace.now) (g.T.Trace.told c.serve_all.new.trace)
    (g.O.Sink.told c.args.out.now) (g.O.Sink.told c.args.out.now) (g.X.Sink.told c.args.err.now) (g.X.Sink.told c.refuse-in-Err-serve_all.new.err) c.refuse-in-Err-serve_all.result
    c.in-Ok.ensures.prepared c.in-Ok.ensures.seeded c.in-Ok.ready.rounds c.in-Ok.ensures.rounds c.in-Err-serve_all.refusal (c.in-Err-serve_all.ensures.refused (g.O.Sink.told c.args.out.now)) c.refuse-in-Err-serve_all.ensures
