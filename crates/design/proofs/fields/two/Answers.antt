-- `two` meets its contract. Assumes nothing.
use mathlib.Core.Path.{◌∙◌}
use Rattle.std.proofs.Common.{arith}
use Rattle.std.proofs.lemmas.Grind.{common_steps}
use Rattle.design.proofs.Rows as F
use Rattle.design.proofs.fields.two.Goals as goal

pub returns-in_default : goal.returns-in_default
returns-in_default c = F.two_cut (grind (arith, common_steps))

pub returns-in_default-2 : goal.returns-in_default-2
returns-in_default-2 c = F.two_cut (grind (arith, common_steps))

pub returns : goal.returns
returns c =
    let h = c.in-Some-len2-up.ensures.lookup.0 in
    F.two_done h.2 h.3 c.in-Some-len2-up.len_at_least (c.from.ensures ∙ c.from_le_bytes.ensures)
