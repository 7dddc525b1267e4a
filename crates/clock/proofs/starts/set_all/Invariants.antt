-- `set_all` meets its contract. Assumes nothing.
use Rattle.clock.proofs.Starting as S
use Rattle.clock.proofs.starts.set_all.Given as goal

abbrev pub invariant-loop-i : goal.invariant-loop-i
invariant-loop-i l = S.Setting l.plan l.initial.state l.i l.state
