-- `logic` meets its contract. Assumes nothing.
use Rattle.rule.proofs.Operating as O
use Rattle.rule.proofs.logic.Goals as goal

pub returns-then-a : goal.returns-then-a
returns-then-a c = search O.and_true

pub returns-else-a : goal.returns-else-a
returns-else-a c = search O.and_false

pub returns-then-a-2 : goal.returns-then-a-2
returns-then-a-2 c = search O.or_true

pub returns-else-a-2 : goal.returns-else-a-2
returns-else-a-2 c = search O.or_false

pub returns-in_default : goal.returns-in_default
returns-in_default c = search O.no_truths
