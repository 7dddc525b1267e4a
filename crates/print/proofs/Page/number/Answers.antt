-- `number` meets its contract. However the sign is tested, the test has to come to whether the number is below 0. Assumes nothing.
use Rattle.print.proofs.Page.number.Goals as goal
use Rattle.print.proofs.Page.number.Goals.{then-negative, else-negative}
use Rattle.print.proofs.Filling as F
use Rattle.std.proofs.Common.{rules}

pub returns-clause-page : goal.returns-clause-page
returns-clause-page c =
    elim c.if-negative.branch [
      | then-negative w ↦
          F.dashed c.ranges.x (search rules) (search rules) w.put.ensures.page (rw w.self-is at c.decimal.ensures.page)
      | else-negative w ↦ F.plain c.ranges.x (search rules) (search rules) (rw w.self-is at c.decimal.ensures.page)
    ]
