-- `put_in_front` meets its contract. The invariant: so many of the locals stand in front. Assumes nothing.
use Rattle.std.proofs.Common.{◌≡◌, length, take}
use Rattle.rule.proofs.evaluate.put_in_front.Given as goal

abbrev pub invariant-loop-k : goal.invariant-loop-k
invariant-loop-k l = (length l.own ≡ 16) × (take l.k l.own ≡ take l.k l.locals)
