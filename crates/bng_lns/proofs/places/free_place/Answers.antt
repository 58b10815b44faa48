use Rattle.std.proofs.Common.{sym}
use Rattle.bng_lns.specs.Places.{is_free}
use Rattle.bng_lns.proofs.Finding.{first_at, past_all}
use Rattle.bng_lns.proofs.places.free_place.Goals as goal

pub returns-in-Some : goal.returns-in-Some
returns-in-Some c = sym (first_at (is_free c.args.now) c.args.places.now c.in-Some.at (sym c.in-Some.ensures))

pub returns-in-None : goal.returns-in-None
returns-in-None c = sym (past_all (is_free c.args.now) c.args.places.now (sym c.in-None.ensures))
