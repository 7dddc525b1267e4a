-- `perform` meets its contract. Assumes nothing.
use Rattle.clock.proofs.Firing as F
use Rattle.clock.proofs.fired.perform.Given as goal

abbrev pub invariant-loop-event : goal.invariant-loop-event
invariant-loop-event l = F.Writing l.plan l.mine l.initial.state l.event-index l.state
