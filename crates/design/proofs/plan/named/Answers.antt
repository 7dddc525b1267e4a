-- `named` meets its contract. Assumes nothing.
use Rattle.design.proofs.Lookups as L
use Rattle.design.proofs.plan.named.Goals as goal

pub returns-then-rule-ge-MOST_RULES : goal.returns-then-rule-ge-MOST_RULES
returns-then-rule-ge-MOST_RULES c = search L.named_none

pub returns : goal.returns
returns c = search L.named_at
