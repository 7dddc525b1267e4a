-- `begin` meets its contract. Assumes nothing.
use Rattle.std.proofs.Common.{sym}
use Rattle.design.specs.Kinds.{tag}
use Rattle.checker.proofs.Tallying as T
use Rattle.checker.proofs.calls.Tally.begin.Goals as goal

pub returns-in-Ok-Number : goal.returns-in-Ok-Number
unfolding tag
returns-in-Ok-Number c = T.tagged c.byte.ensures c.beyond-next.ensures (sym (rw c.in-Ok-Number.field-0-is at c.in-Ok-Number.ensures)) (search T.number_head)

pub returns-in-Ok-Truth : goal.returns-in-Ok-Truth
unfolding tag
returns-in-Ok-Truth c = T.tagged c.byte.ensures c.beyond-next.ensures (sym (rw c.in-Ok-Truth.field-0-is at c.in-Ok-Truth.ensures)) (search T.truth_head)

pub returns-in-Ok-Local : goal.returns-in-Ok-Local
unfolding tag
returns-in-Ok-Local c = T.tagged c.byte.ensures c.beyond-next.ensures (sym (rw c.in-Ok-Local.field-0-is at c.in-Ok-Local.ensures)) (search T.local_head)

pub returns-in-Ok-Operator : goal.returns-in-Ok-Operator
unfolding tag
returns-in-Ok-Operator c = T.tagged c.byte.ensures c.beyond-next.ensures (sym (rw c.in-Ok-Operator.field-0-is at c.in-Ok-Operator.ensures)) (search T.operator_head)

pub returns-in-Ok-Choice : goal.returns-in-Ok-Choice
unfolding tag
returns-in-Ok-Choice c = T.tagged c.byte.ensures c.beyond-next.ensures (sym (rw c.in-Ok-Choice.field-0-is at c.in-Ok-Choice.ensures)) T.choice_head

pub returns-in-Ok-Guarded : goal.returns-in-Ok-Guarded
unfolding tag
returns-in-Ok-Guarded c = T.tagged c.byte.ensures c.beyond-next.ensures (sym (rw c.in-Ok-Guarded.field-0-is at c.in-Ok-Guarded.ensures)) (search T.guarded_head)

pub returns-in-Ok-Block : goal.returns-in-Ok-Block
unfolding tag
returns-in-Ok-Block c = T.tagged c.byte.ensures c.beyond-next.ensures (sym (rw c.in-Ok-Block.field-0-is at c.in-Ok-Block.ensures)) (search T.block_head)

pub returns-in-Ok-Call : goal.returns-in-Ok-Call
unfolding tag
returns-in-Ok-Call c = T.tagged c.byte.ensures c.beyond-next.ensures (sym (rw c.in-Ok-Call.field-0-is at c.in-Ok-Call.ensures)) c.call_head.ensures

pub returns-in-Ok-Display : goal.returns-in-Ok-Display
unfolding tag
returns-in-Ok-Display c = T.tagged c.byte.ensures c.beyond-next.ensures (sym (rw c.in-Ok-Display.field-0-is at c.in-Ok-Display.ensures)) (search T.display_head)

pub returns-in-Err : goal.returns-in-Err
unfolding tag
returns-in-Err c = T.tagged c.byte.ensures c.beyond-next.ensures (sym c.in-Err.ensures) T.unknown_head
