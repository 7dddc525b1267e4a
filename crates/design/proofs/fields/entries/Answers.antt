-- `entries` meets its contract. The invariant: the entries that are left, after those passed, decide. Assumes nothing.
use native.Mathlib.Omega.{arith}
use Rattle.design.proofs.Rows as F
use Rattle.design.proofs.fields.entries.Goals as goal

pub returns-in_err-number : goal.returns-in_err-number
returns-in_err-number c = rw (F.is_err _ c.from_residual.ensures.1) (F.entries_cut c.loop.invariant.0 c.loop-test.true c.in_err-number.ensures)

pub returns-then-rules-wide : goal.returns-then-rules-wide
returns-then-rules-wide c = F.entries_missing c.loop.invariant.0 c.loop-test.true c.in_ok-number.ensures c.wide.ensures c.if-rules-wide.true

pub returns-then-contains : goal.returns-then-contains
returns-then-contains c = F.entries_twice c.loop.invariant.0 c.loop-test.true c.in_ok-number.ensures c.wide.ensures c.if-rules-wide.false c.contains.ensures.value c.if-contains.true

pub loop-preserved : goal.loop-preserved
loop-preserved c = (F.entries_go c.loop.invariant.0 c.loop-test.true c.in_ok-number.ensures c.wide.ensures c.if-rules-wide.false c.contains.ensures.value c.if-contains.false, F.next_within c.in_ok-number.ensures)

pub returns : goal.returns
returns c = F.entries_done c.loop.invariant.0 c.loop.invariant.1 (omega arith)
