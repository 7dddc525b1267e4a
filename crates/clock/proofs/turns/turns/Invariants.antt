-- `turns` meets its contract. Assumes nothing.
use Prim.Native.Nat.{◌*◌, ◌≤◌}
use lib.ListN.{length}
use Rattle.clock.specs.Post.{Going}
use Rattle.clock.proofs.turns.turns.Given as goal

abbrev pub invariant-loop-j : goal.invariant-loop-j
invariant-loop-j l =
    Going l.d.file.now l.d.plan.now (length l.initial.fates) l.initial.state l.initial.fates l.p l.state l.log l.fates l.j × (l.p.calls ≤ 64 * l.j)
