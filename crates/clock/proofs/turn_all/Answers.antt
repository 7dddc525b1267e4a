-- `turn_all` meets its contract. Assumes nothing.
use mathlib.Core.Path.{refl}
use Rattle.clock.proofs.Ticking as T
use Rattle.clock.proofs.turn_all.Goals as goal

pub returns-in-Fired : goal.returns-in-Fired
returns-in-Fired c = search T.turned_kept

pub returns-in-Stuck : goal.returns-in-Stuck
returns-in-Stuck c =
    let turns = c.turns-turns in
    T.turned_stuck _ turns.ensures.0 turns.ensures.1 c.in-Stuck.is c.copy_from_slice.ensures.after turns.auto.state c.copy_from_slice-in-Stuck.ensures.after refl
