-- `same_kind` meets its contract. Assumes nothing.
use Rattle.rule.proofs.Kinded as K
use Rattle.rule.proofs.naming.same_kind.Goals as goal

pub returns : goal.returns
returns c = K.numbered _ _ _ c.min.ensures c.from.ensures c.has_kind.ensures
