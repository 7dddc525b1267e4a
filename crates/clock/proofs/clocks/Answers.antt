-- `clocks` meets its contract. Assumes nothing.
use Rattle.std.proofs.Common.{rules}
use Rattle.clock.proofs.Running as R
use Rattle.clock.proofs.clocks.Goals as goal

pub returns-then-not-has_room : goal.returns-then-not-has_room
returns-then-not-has_room c = search (R.no_clocks, rules)

pub returns : goal.returns
returns c = R.repeated c.scheduled-count.ensures _ (c.has_room.ensures.fit c.if-not-has_room.false) c.repeat.ensures
