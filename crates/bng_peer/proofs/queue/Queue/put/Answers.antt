-- The marks are those of the links.
use Rattle.bng_peer.proofs.Marks.{of_links}
use Rattle.bng_peer.proofs.queue.Queue.put.Goals as goal

pub returns-in-Some : goal.returns-in-Some
returns-in-Some c = of_links c.args.self.now.links.items c.args.number c.args.link
