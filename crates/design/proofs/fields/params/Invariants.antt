-- `params` meets its contract. Assumes nothing.
use Prim.Native.Nat.{◌≤◌}
use lib.ListN.{length}
use Rattle.design.proofs.Rows as F
use Rattle.design.proofs.fields.params.Given as goal

abbrev pub invariant-loop : goal.invariant-loop
invariant-loop l = F.Goes l.count l.file l.at l.here l.counter × (l.here ≤ length l.file)
