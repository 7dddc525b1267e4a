-- `count_rules` meets its contract. The invariant: the rules that are left decide. Assumes nothing.
use Rattle.checker.proofs.Crowding as K
use Rattle.checker.proofs.calls.count_rules.Goals as goal

pub returns-then-count_rule-gt-MOST_CALLS : goal.returns-then-count_rule-gt-MOST_CALLS
returns-then-count_rule-gt-MOST_CALLS c = search K.over

pub loop-n-preserved : goal.loop-n-preserved
loop-n-preserved c = search K.next

pub returns : goal.returns
returns c = search K.done
