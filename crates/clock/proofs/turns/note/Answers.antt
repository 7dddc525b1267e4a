-- `note` meets its contract. Assumes nothing.
use Rattle.clock.proofs.Turning as T
use Rattle.clock.proofs.turns.note.Goals as goal

pub returns-in-Ok : goal.returns-in-Ok
returns-in-Ok c = search T.noted_settled

pub returns-in-Err : goal.returns-in-Err
returns-in-Err c = search T.noted_stuck
