-- `begin` meets its contract. Assumes nothing.
use mathlib.Core.Path.{refl}
use Rattle.rule.proofs.Invoking as I
use Rattle.rule.proofs.calling.begin.Goals as goal

pub returns-in_err-a : goal.returns-in_err-a
returns-in_err-a c = rw c.from_residual.ensures (I.head_cut c.in_err-a.ensures refl)

pub returns-in_err-b : goal.returns-in_err-b
returns-in_err-b c = rw c.from_residual-in_err-b.ensures (I.head_cut_2 c.in_ok-a.ensures refl c.in_err-b.ensures refl)

pub returns-in_err-c : goal.returns-in_err-c
returns-in_err-c c = rw c.from_residual-in_err-c.ensures (I.head_cut_3 c.in_ok-a.ensures refl c.in_ok-b.ensures refl c.in_err-c.ensures refl)

pub returns-then-count-gt-MOST_ARGUMENTS : goal.returns-then-count-gt-MOST_ARGUMENTS
returns-then-count-gt-MOST_ARGUMENTS c = I.head_many c.in_ok-a.ensures refl c.in_ok-b.ensures refl c.in_ok-c.ensures refl c.wide-count.ensures c.if-count-gt-MOST_ARGUMENTS.true

pub returns : goal.returns
returns c = I.head_done c.in_ok-a.ensures refl c.in_ok-b.ensures refl c.in_ok-c.ensures refl c.wide-count.ensures _ refl refl c.wide.ensures c.wide-2.ensures
