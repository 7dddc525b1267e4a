-- `operate` meets its contract. Assumes nothing.
use Rattle.rule.proofs.Operating as O
use Rattle.rule.proofs.operate.Goals as goal

pub returns-in-Num-Num : goal.returns-in-Num-Num
returns-in-Num-Num c = O.of_words c.in-Num-Num.is-0 c.in-Num-Num.is-1 c.arithmetic.ensures

pub returns-in-Bool-Bool : goal.returns-in-Bool-Bool
returns-in-Bool-Bool c = O.of_truths c.in-Bool-Bool.is-0 c.in-Bool-Bool.is-1 c.logic.ensures

pub returns-in_default : goal.returns-in_default
returns-in_default c = O.word_first c.in_default.is-0 c.in_default.not-Num-1

pub returns-in_default-2 : goal.returns-in_default-2
returns-in_default-2 c = O.truth_first c.in_default.is-0 c.in_default.not-Bool-1

pub returns-in_default-3 : goal.returns-in_default-3
returns-in_default-3 c = O.void_first c.in_default.is-0
