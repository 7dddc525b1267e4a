-- `has_kind` meets its contract. Assumes nothing.
use Rattle.rule.proofs.Kinded as K
use Rattle.rule.proofs.naming.has_kind.Goals as goal

pub returns-in-Num : goal.returns-in-Num
returns-in-Num c = search K.num_kind

pub returns-in-Bool : goal.returns-in-Bool
returns-in-Bool c = search K.bool_kind

pub returns-in-Void : goal.returns-in-Void
returns-in-Void c = search K.void_kind
