-- `against` meets its contract. The invariants: the pairs that are left to try decide the whole. Assumes nothing.
use mathlib.Core.Path.{◌≡◌}
use mathlib.Core.Bool.{false}
use Rattle.conflict.proofs.Searching as S
use Rattle.conflict.proofs.against.Given as goal

abbrev pub invariant-loop-b : goal.invariant-loop-b
invariant-loop-b l = S.LeftWith l.clash l.plan l.before l.mine l.first-index l.b × (l.found ≡ false)

abbrev pub invariant-search : goal.invariant-search
invariant-search l = S.LeftPair l.clash l.plan l.before l.mine l.first-index × (l.found ≡ false)
