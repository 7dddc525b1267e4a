-- `callee` meets its contract. Assumes nothing.
use Rattle.std.proofs.Common.{◌≡◌, get_or, arith, rules}
use Rattle.checker.proofs.Below as B
use Rattle.checker.proofs.calls.Tally.callee.Goals as goal

pub returns-then-self-i : goal.returns-then-self-i
returns-then-self-i c = B.not_below _ (search rules)

pub returns-in_default : goal.returns-in_default
returns-in_default c = search B.nowhere

pub returns : goal.returns
returns c =
    let e : c.unwrap_or.result ≡ get_or c.args.self.counts.now c.in-Some.k 0 = grind arith in
    search (rules, B.counted_there)
