-- `call_head` meets its contract. Assumes nothing.
use Rattle.design.proofs.Heads as H
use Rattle.design.proofs.text.call_head.Goals as goal

pub returns-in_err-method : goal.returns-in_err-method
returns-in_err-method c = search (H.call_cut, c.in_err-method.ensures)

pub returns-in_err-arguments : goal.returns-in_err-arguments
returns-in_err-arguments c = search (H.call_cut_2, c.in_ok-method.ensures, c.in_err-arguments.ensures)

pub returns-in_err-b : goal.returns-in_err-b
returns-in_err-b c = search (H.call_cut_3, c.in_ok-method.ensures, c.in_ok-arguments.ensures, c.in_err-b.ensures)

pub returns-then-count-le4 : goal.returns-then-count-le4
returns-then-count-le4 c = search (H.call_done, c.in_ok-method.ensures, c.in_ok-arguments.ensures, c.in_ok-b.ensures)

pub returns-else-count-le4 : goal.returns-else-count-le4
returns-else-count-le4 c = search (H.call_bad, c.in_ok-method.ensures, c.in_ok-arguments.ensures, c.in_ok-b.ensures)
