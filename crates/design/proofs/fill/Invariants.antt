-- `fill` meets its contract. The invariant is `Fares`; what is left of the file falls with each record. Assumes nothing.
use Prim.Native.Nat.{◌-◌}
use lib.ListN.{length}
use Rattle.design.proofs.Filling as L
use Rattle.design.proofs.fill.Given as goal

abbrev pub invariant-loop-t : goal.invariant-loop-t
invariant-loop-t l = L.Fares l.file.bytes.now l.plan l.t

abbrev pub decreases-loop-t : goal.decreases-loop-t
decreases-loop-t l = length l.file.bytes.now - l.t.at
