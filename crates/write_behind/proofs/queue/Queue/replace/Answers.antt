use Rattle.std.proofs.Common.{refl}
use Rattle.write_behind.proofs.queue.Queue.replace.Goals as goal

pub returns-in-Some : goal.returns-in-Some
returns-in-Some c = (c.in-Some.i, (c.args.p, (c.in-Some.ensures, (refl, refl), rw c.self.view_is refl)))
