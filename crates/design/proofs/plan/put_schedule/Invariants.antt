-- `put_schedule` meets its contract. The entries before j stand in the plan. Assumes nothing.
use Prim.Native.Nat.{◌≤◌}
use mathlib.Core.Path.{◌≡◌}
use lib.ListN.{length}
use Rattle.design.specs.Steps.{Schedules}
use Rattle.design.proofs.plan.put_schedule.Given as goal

abbrev pub invariant-loop-j : goal.invariant-loop-j
invariant-loop-j l = Schedules l.file l.start l.j l.initial.plan l.plan × (l.j ≤ l.count) × (length l.plan ≡ 1092)
