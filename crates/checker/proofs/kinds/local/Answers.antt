-- `local` meets its contract. Assumes nothing.
use Rattle.std.proofs.Common.{◌≡◌, ◌<◌, ◌≤◌, get_or, length, arith}
use Rattle.design.specs.declared.kinds.Kind as DK
use Rattle.checker.proofs.Parts as M
use Rattle.checker.proofs.Walking as W
use Rattle.checker.proofs.kinds.local.Goals as goal

pub returns-in_err-b : goal.returns-in_err-b
returns-in_err-b c = rw (M.handed c.from_residual.ensures.1) (search (W.local_cut, c.in_err-b.ensures))

pub returns-in-Some : goal.returns-in-Some
returns-in-Some c =
    let l : c.in_ok-b.b < length c.args.locals.kinds.now = grind arith in
    let e : c.in-Some.field-0.now ≡ get_or c.args.locals.kinds.now c.in_ok-b.b DK.Kind.Void = grind arith in
    search (W.local_done, c.in_ok-b.ensures)

pub returns-in-None : goal.returns-in-None
returns-in-None c = let l : length c.args.locals.kinds.now ≤ c.in_ok-b.b = grind arith in search (W.local_missing, c.in_ok-b.ensures)
