-- `param` meets its contract. Assumes nothing.
use Rattle.std.proofs.Common.{◌≡◌, ◌<◌, ◌≤◌, get_or, length, arith}
use Rattle.checker.proofs.Calling as C
use Rattle.checker.proofs.kinds.param.Goals as goal

pub returns-in_default : goal.returns-in_default
returns-in_default c = search (C.plain_param, C.plain)

pub returns-in-Some : goal.returns-in-Some
returns-in-Some c =
    let l : c.args.j < length c.kinds.result.now = grind arith in
    let e : c.in-Some.field-0.now ≡ get_or c.kinds.result.now c.args.j 0 = grind arith in
    search C.user_param

pub returns-in-None : goal.returns-in-None
returns-in-None c = let l : length c.kinds.result.now ≤ c.args.j = grind arith in search C.param_past
