-- `number` meets its contract. Assumes nothing.
use Rattle.std.proofs.Common.{rules}
use Rattle.checker.proofs.Walking as W
use Rattle.checker.proofs.kinds.number.Goals as goal

pub returns-then-saturating_sub-lt-WORD : goal.returns-then-saturating_sub-lt-WORD
returns-then-saturating_sub-lt-WORD c = search (rules, W.number_cut)

pub returns : goal.returns
returns c = search (rules, W.number_done)
