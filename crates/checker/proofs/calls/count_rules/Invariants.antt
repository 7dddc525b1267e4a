-- `count_rules` meets its contract. The invariant: the rules that are left decide. Assumes nothing.
use Rattle.checker.proofs.Crowding as K
use Rattle.checker.proofs.calls.count_rules.Given as goal

abbrev pub invariant-loop-n : goal.invariant-loop-n
invariant-loop-n l = K.Left l.d.file.now l.d.plan.now l.counts l.n
