use Rattle.host.proofs.Packing as P
use Rattle.host.proofs.cantaribol_rule_part.Goals as goal

pub returns : goal.returns
returns c = search P.part_is
