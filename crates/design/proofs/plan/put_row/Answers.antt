-- `put_row` meets its contract. Assumes nothing.
use Rattle.std.proofs.Common.{arith, ◌∷◌, []}
use Rattle.design.proofs.Table as T
use Rattle.design.proofs.plan.put_row.Goals as goal

pub returns : goal.returns
returns c = T.run_laid (c.args.a ∷ c.args.b ∷ c.args.c ∷ c.args.d ∷ []) c.args.plan.now c.args.at _ c.copy_from_slice.ensures.after c.requires.0 (omega arith)
