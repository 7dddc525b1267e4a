-- `method_part` meets its contract. Assumes nothing.
use mathlib.Core.Path.{◌∙◌}
use Rattle.design.specs.Parts.{method_part}
use Rattle.design.proofs.Spans as S
use Rattle.design.proofs.method_part.Goals as goal

pub returns : goal.returns
unfolding method_part
returns c = c.of.ensures ∙ S.part_is c.method_span.ensures
