-- What falls along the cycle: the weight of the bytes that are left, with the member's rank. And the invariants of its loops.
use Prim.Native.Nat.{◌-◌}
use lib.ListN.{length}
use Rattle.checker.specs.Walks.{place}
use Rattle.checker.proofs.Blocks as B
use Rattle.checker.proofs.Calling as C
use Rattle.checker.proofs.Falling.{weight}
use Rattle.checker.proofs.kinds.Body.+walking.Given as goal

abbrev pub decreases-arguments : goal.decreases-arguments
decreases-arguments l = weight (length l.self.text.now - l.at) 1

abbrev pub decreases-block : goal.decreases-block
decreases-block l = weight (length l.self.text.now - l.at) 1

abbrev pub decreases-call : goal.decreases-call
decreases-call l = weight (length l.self.text.now - l.at) 1

abbrev pub decreases-choice : goal.decreases-choice
decreases-choice l = weight (length l.self.text.now - l.at) 1

abbrev pub decreases-display : goal.decreases-display
decreases-display l = weight (length l.self.text.now - l.at) 1

abbrev pub decreases-guarded : goal.decreases-guarded
decreases-guarded l = weight (length l.self.text.now - l.at) 1

abbrev pub decreases-invoke : goal.decreases-invoke
decreases-invoke l = weight (length l.self.text.now - l.at) 2

abbrev pub decreases-kind_of : goal.decreases-kind_of
decreases-kind_of l = weight (length l.self.text.now - l.at) 0

abbrev pub decreases-operator : goal.decreases-operator
decreases-operator l = weight (length l.self.text.now - l.at) 1

abbrev pub decreases-statements : goal.decreases-statements
decreases-statements l = weight (length l.self.text.now - l.at) 1

abbrev pub invariant-arguments-loop-j : goal.invariant-arguments-loop-j
invariant-arguments-loop-j l = C.Row l.count l.self.text.now l.self.design.file.now l.self.design.plan.now (place l.self.me l.pure l.fn.locals) l.at l.c l.fit l.here l.j

abbrev pub invariant-statements-loop : goal.invariant-statements-loop
invariant-statements-loop l =
    B.Left l.count l.self.text.now l.self.design.file.now l.self.design.plan.now (place l.self.me l.pure l.fn.locals) l.at l.counter l.live l.own l.kind l.here
