-- `walk_all` meets its contract. The invariant: the bodies that are left decide. Assumes nothing.
use Prim.Native.Nat.{◌+◌}
use mathlib.Core.Path.{◌≡◌}
use Rattle.checker.proofs.Placing as P
use Rattle.checker.proofs.bodies.walk_all.Given as goal

abbrev pub invariant-loop : goal.invariant-loop
invariant-loop l = P.Over l.d.file.now l.d.plan.now l.k l.n × (l.k + l.n ≡ l.counter)
