-- `number_head` meets its contract. Assumes nothing.
use Rattle.design.proofs.Heads as H
use Rattle.design.proofs.text.number_head.Goals as goal

pub returns-in_err-next : goal.returns-in_err-next
returns-in_err-next c = search (H.number_cut, c.in_err-next.ensures)

pub returns : goal.returns
returns c = search (H.number_done, c.in_ok-next.ensures)
