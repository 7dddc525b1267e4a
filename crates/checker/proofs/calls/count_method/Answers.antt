-- `count_method` meets its contract. Assumes nothing.
use Rattle.checker.proofs.Crowding as K
use Rattle.checker.proofs.calls.count_method.Goals as goal

pub returns : goal.returns
returns c = search K.method_counted
