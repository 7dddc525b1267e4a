-- `find` meets its contract. Assumes nothing.
use Rattle.design.proofs.Lookups as L
use Rattle.design.proofs.plan.find.Goals as goal

pub returns-then-instances-instance : goal.returns-then-instances-instance
returns-then-instances-instance c = search L.find_missing

pub returns-then-method-ge-MOST_ROWS : goal.returns-then-method-ge-MOST_ROWS
returns-then-method-ge-MOST_ROWS c = search L.find_far

pub returns-then-methods-k : goal.returns-then-methods-k
returns-then-methods-k c = search L.find_past

pub returns-then-cell-instance : goal.returns-then-cell-instance
returns-then-cell-instance c = search L.find_other

pub returns : goal.returns
returns c = search L.find_at
