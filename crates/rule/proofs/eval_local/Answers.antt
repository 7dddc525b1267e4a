-- `eval_local` meets its contract. Assumes nothing.
use Rattle.rule.proofs.Leaves as L
use Rattle.rule.proofs.eval_local.Goals as goal

pub returns-in_default : goal.returns-in_default
returns-in_default c log = L.local_cut c.byte.ensures c.in_default.is _ _ log _

pub returns-in_default-get : goal.returns-in_default-get
returns-in_default-get c log = L.local_missing c.byte.ensures c.in-Some.is c.wide.ensures (rw c.in_default-get.is at c.get.ensures.lookup).3 _ _ log _

pub returns : goal.returns
returns c log =
    let u = rw c.in-Some-get.is at c.get.ensures.lookup in
    L.local_done c.byte.ensures c.in-Some.is c.wide.ensures u.3.0 u.1 c.requires _ _ log _
