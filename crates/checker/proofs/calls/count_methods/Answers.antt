-- `count_methods` meets its contract. The invariant: the methods so far are counted. Assumes nothing.
use Rattle.std.proofs.Common.{rules}
use Rattle.checker.proofs.Crowding as K
use Rattle.checker.proofs.calls.count_methods.Goals as goal

pub returns : goal.returns
returns c = search (rules, K.all_filled)
