-- `display` meets its contract. Assumes nothing.
use Prim.Native.Nat.{◌≤◌}
use Rattle.clock.proofs.Firing as F
use Rattle.clock.proofs.fired.display.Given as goal

abbrev pub invariant-loop-event : goal.invariant-loop-event
invariant-loop-event l = F.Showing l.log l.initial.displays 0 l.event-index l.displays l.made × (l.made ≤ l.event-index)
