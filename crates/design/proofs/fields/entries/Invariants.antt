-- `entries` meets its contract. The invariant: the entries that are left, after those passed, decide. Assumes nothing.
use Prim.Native.Nat.{◌≤◌}
use lib.ListN.{length}
use Rattle.design.proofs.Rows as F
use Rattle.design.proofs.fields.entries.Given as goal

abbrev pub invariant-loop : goal.invariant-loop
invariant-loop l = F.GoesOn l.rules l.count l.file l.at l.here l.counter × (l.here ≤ length l.file)
