-- `local_head` meets its contract. Assumes nothing.
use Rattle.design.proofs.Heads as H
use Rattle.design.proofs.text.local_head.Goals as goal

pub returns-in_err-next : goal.returns-in_err-next
returns-in_err-next c = search (H.local_cut, c.in_err-next.ensures)
