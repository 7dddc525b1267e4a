-- `call_head` meets its contract. Assumes nothing.
use Rattle.checker.proofs.Tallying as T
use Rattle.checker.proofs.calls.Tally.call_head.Goals as goal

pub returns : goal.returns
returns c = search T.call_head
