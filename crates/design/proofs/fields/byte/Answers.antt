-- `byte` meets its contract. Assumes nothing.
use Rattle.design.proofs.Rows as F
use Rattle.design.proofs.fields.byte.Goals as goal

pub returns : goal.returns
returns c = F.byte_or_cut _ _ c.byte.ensures c.ok_or.ensures.value
