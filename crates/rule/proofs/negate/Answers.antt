-- `negate` meets its contract. Assumes nothing.
use Rattle.rule.proofs.Operating as O
use Rattle.rule.proofs.negate.Goals as goal

pub returns-in_default : goal.returns-in_default
returns-in_default c = search (O.negate_kind, O.not_bool)

pub returns : goal.returns
returns c = search O.negate_done
