-- `rule_fields` meets its contract. Assumes nothing.
use Rattle.design.proofs.Rows as F
use Rattle.design.proofs.fields.rule_fields.Goals as goal

pub returns : goal.returns
returns c = F.rule_to _ c.bodies.ensures
