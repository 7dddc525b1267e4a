-- `tick` meets its contract. Assumes nothing.
use Rattle.clock.proofs.Ticking as T
use Rattle.clock.proofs.tick.Goals as goal

pub returns-then-not-has_room : goal.returns-then-not-has_room
returns-then-not-has_room c = search T.no_room

pub returns-then-displays-lt-MOST_DISPLAYS : goal.returns-then-displays-lt-MOST_DISPLAYS
returns-then-displays-lt-MOST_DISPLAYS c = search T.no_displays

pub returns : goal.returns
returns c =
    let turns = c.turn_all-turns in
    T.ticked c.scheduled-count.ensures (T.turned_whole turns.ensures (c.has_room.ensures.fit c.if-not-has_room.false) turns.auto.fates) c.display-made.ensures
