-- `ranged` meets its contract. Assumes nothing.
use Rattle.std.proofs.Common.{◌≤◌, ◌<◌, arith}
use Rattle.std.proofs.lemmas.Grind.{common_steps}
use mathlib.Core.Logic.{◌⊎◌}
use Rattle.design.proofs.Rows as F
use Rattle.design.proofs.fields.ranged.Goals as goal

pub returns-in_err-b : goal.returns-in_err-b
returns-in_err-b c = rw (F.is_err _ c.from_residual.ensures.1) (F.ranged_cut c.in_err-b.ensures)

pub returns-then-contains : goal.returns-then-contains
returns-then-contains c =
    let least : c.args.low ≤ c.wide-value.result = grind (arith, common_steps) in
    let most : c.wide-value.result ≤ c.args.high = grind (arith, common_steps) in
    F.ranged_done c.in_ok-b.ensures c.wide-value.ensures least most

pub returns-else-contains : goal.returns-else-contains
returns-else-contains c =
    let out : (c.wide-value.result < c.args.low) ⊎ (c.args.high < c.wide-value.result) = grind (arith, common_steps) in
    F.ranged_out c.in_ok-b.ensures c.wide-value.ensures out
