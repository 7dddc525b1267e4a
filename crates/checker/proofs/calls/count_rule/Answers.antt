-- `count_rule` meets its contract. Assumes nothing.
use Rattle.checker.proofs.Crowding as K
use Rattle.checker.proofs.calls.count_rule.Goals as goal

pub returns : goal.returns
returns c = search K.rule_counted
