-- `walk_rule` meets its contract. Assumes nothing.
use Rattle.std.specs.Prelude.{Ok, Err}
use Rattle.design.specs.declared.kinds.Kind as DK
use Rattle.rule.specs.declared.Reason.{Reason}
use Rattle.checker.specs.Walks.{Wants}
use Rattle.checker.proofs.Parts as M
use Rattle.checker.proofs.Recorded as R
use Rattle.checker.proofs.Wanting as W
use Rattle.checker.proofs.bodies.walk_rule.Goals as goal

pub returns-in_err-guard : goal.returns-in_err-guard
returns-in_err-guard c = rw (M.handed c.from_residual.ensures.1) (search (R.guard_no, c.in_err-guard.was))

pub returns-then-ne : goal.returns-then-ne
returns-then-ne c =
    let other : Wants DK.Kind.Bool c.in_ok-guard.guard (Err Reason.Kind) = W.differs c.ne.ensures c.if-ne.true in
    search (R.guard_kind, c.in_ok-guard.was, other)

pub returns-in_err-kind : goal.returns-in_err-kind
returns-in_err-kind c =
    let same : Wants DK.Kind.Bool c.in_ok-guard.guard (Ok tt) = W.is_same c.ne.ensures c.if-ne.false in
    rw (M.handed c.from_residual-in_err-kind.ensures.1) (search (R.body_no, c.in_ok-guard.was, same, c.in_err-kind.was))

pub returns : goal.returns
returns c =
    let same : Wants DK.Kind.Bool c.in_ok-guard.guard (Ok tt) = W.is_same c.ne.ensures c.if-ne.false in
    search (R.body_done, c.in_ok-guard.was, same, c.in_ok-kind.was)
