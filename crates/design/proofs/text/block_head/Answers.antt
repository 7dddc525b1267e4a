-- `block_head` meets its contract. Assumes nothing.
use Rattle.design.proofs.Heads as H
use Rattle.design.proofs.text.block_head.Goals as goal

pub returns-in_err-b : goal.returns-in_err-b
returns-in_err-b c = search (H.block_cut, c.in_err-b.ensures)

pub returns-then-count-lt1 : goal.returns-then-count-lt1
returns-then-count-lt1 c = search (H.block_few, c.in_ok-b.ensures)

pub returns-then-count-gt32 : goal.returns-then-count-gt32
returns-then-count-gt32 c = search (H.block_many, c.in_ok-b.ensures)

pub returns : goal.returns
returns c = search (H.block_done, c.in_ok-b.ensures)
