-- `count_methods` meets its contract. The invariant: the methods so far are counted. Assumes nothing.
use mathlib.Core.Path.{◌≡◌}
use lib.ListN.{length}
use Rattle.checker.specs.Counted.{Before}
use Rattle.checker.proofs.calls.count_methods.Given as goal

abbrev pub invariant-loop-k : goal.invariant-loop-k
invariant-loop-k l = Before l.d.file.now l.d.plan.now l.counts l.k × (length l.counts ≡ 128)
