-- `take` meets its contract. Assumes nothing.
use Rattle.std.proofs.Common.{rules}
use Rattle.clock.proofs.Settling as S
use Rattle.clock.proofs.turns.take.Goals as goal

pub settle-requires : goal.settle-requires
settle-requires c = (S.recorded_within c.turn-taken.ensures (S.lent _ _ _ (search rules)) (search rules), search rules)

pub returns-in-Recorded : goal.returns-in-Recorded
returns-in-Recorded c = search (S.take_recorded, S.lent)

pub returns-in-Unavailable : goal.returns-in-Unavailable
returns-in-Unavailable c = search (S.take_unavailable, S.lent)

pub returns-in-Stuck : goal.returns-in-Stuck
returns-in-Stuck c = search (S.take_stuck, S.lent)
