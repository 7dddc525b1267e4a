-- `judge` meets its contract. Assumes nothing.
use Rattle.conflict.proofs.Searching as S
use Rattle.conflict.proofs.judge.Goals as goal

pub returns-then-within : goal.returns-then-within
returns-then-within c = search S.judged_inside

pub returns-then-against : goal.returns-then-against
returns-then-against c = search S.judged_earlier

pub returns-then-within-2 : goal.returns-then-within-2
returns-then-within-2 c = search S.judged_within

pub returns-then-against-2 : goal.returns-then-against-2
returns-then-against-2 c = search S.judged_against

pub returns : goal.returns
returns c = search S.judged_fired
