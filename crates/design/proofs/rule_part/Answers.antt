-- `rule_part` meets its contract. Assumes nothing.
use mathlib.Core.Path.{◌∙◌}
use Rattle.design.specs.Parts.{rule_part}
use Rattle.design.proofs.Spans as S
use Rattle.design.proofs.rule_part.Goals as goal

pub returns : goal.returns
unfolding rule_part
returns c = c.of.ensures ∙ S.part_is c.rule_span.ensures
