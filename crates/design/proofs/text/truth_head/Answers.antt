-- `truth_head` meets its contract. Assumes nothing.
use Rattle.design.proofs.Heads as H
use Rattle.design.proofs.text.truth_head.Goals as goal

pub returns-in_err-b : goal.returns-in_err-b
returns-in_err-b c = search (H.truth_cut, c.in_err-b.ensures)
