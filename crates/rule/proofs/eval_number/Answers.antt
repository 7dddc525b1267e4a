-- `eval_number` meets its contract. Assumes nothing.
use Rattle.std.proofs.Common.{arith}
use Rattle.std.proofs.lemmas.Grind.{common_steps}
use Rattle.rule.proofs.Leaves as L
use Rattle.rule.proofs.eval_number.Goals as goal

pub returns-in_default : goal.returns-in_default
returns-in_default c = L.number_cut (grind (arith, common_steps))

pub returns-in_default-2 : goal.returns-in_default-2
returns-in_default-2 c = L.number_cut (grind (arith, common_steps))

pub returns : goal.returns
returns c =
    let h = c.in-Some-len4-up.ensures.lookup.0 in
    L.number_done h.2 h.3 c.in-Some-len4-up.len_at_least c.from_le_bytes-word.ensures
