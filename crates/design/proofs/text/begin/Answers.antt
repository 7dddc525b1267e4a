-- `begin` meets its contract. Assumes nothing.
use Rattle.std.proofs.Common.{sym}
use Rattle.design.specs.Kinds.{tag}
use Rattle.design.proofs.Heads as H
use Rattle.design.proofs.text.begin.Goals as goal

pub returns-in_err-b : goal.returns-in_err-b
returns-in_err-b c = search (H.begin_cut, c.in_err-b.ensures)

pub returns-in-Err : goal.returns-in-Err
unfolding tag
returns-in-Err c = H.tagged c.in_ok-b.ensures (sym c.in-Err.ensures) H.unknown

pub returns-in-Ok-Number : goal.returns-in-Ok-Number
unfolding tag
returns-in-Ok-Number c = H.tagged c.in_ok-b.ensures (sym (rw c.in-Ok-Number.field-0-is at c.in-Ok-Number.ensures)) c.number_head.ensures

pub returns-in-Ok-Truth : goal.returns-in-Ok-Truth
unfolding tag
returns-in-Ok-Truth c = H.tagged c.in_ok-b.ensures (sym (rw c.in-Ok-Truth.field-0-is at c.in-Ok-Truth.ensures)) c.truth_head.ensures

pub returns-in-Ok-Local : goal.returns-in-Ok-Local
unfolding tag
returns-in-Ok-Local c = H.tagged c.in_ok-b.ensures (sym (rw c.in-Ok-Local.field-0-is at c.in-Ok-Local.ensures)) c.local_head.ensures

pub returns-in-Ok-Operator : goal.returns-in-Ok-Operator
unfolding tag
returns-in-Ok-Operator c = H.tagged c.in_ok-b.ensures (sym (rw c.in-Ok-Operator.field-0-is at c.in-Ok-Operator.ensures)) c.operator_head.ensures

pub returns-in-Ok-Choice : goal.returns-in-Ok-Choice
unfolding tag
returns-in-Ok-Choice c = H.tagged c.in_ok-b.ensures (sym (rw c.in-Ok-Choice.field-0-is at c.in-Ok-Choice.ensures)) (H.choice (H.within c.in_ok-b.ensures))

pub returns-in-Ok-Guarded : goal.returns-in-Ok-Guarded
unfolding tag
returns-in-Ok-Guarded c = H.tagged c.in_ok-b.ensures (sym (rw c.in-Ok-Guarded.field-0-is at c.in-Ok-Guarded.ensures)) (H.guarded (H.within c.in_ok-b.ensures))

pub returns-in-Ok-Block : goal.returns-in-Ok-Block
unfolding tag
returns-in-Ok-Block c = H.tagged c.in_ok-b.ensures (sym (rw c.in-Ok-Block.field-0-is at c.in-Ok-Block.ensures)) c.block_head.ensures

pub returns-in-Ok-Call : goal.returns-in-Ok-Call
unfolding tag
returns-in-Ok-Call c = H.tagged c.in_ok-b.ensures (sym (rw c.in-Ok-Call.field-0-is at c.in-Ok-Call.ensures)) c.call_head.ensures

pub returns-in-Ok-Display : goal.returns-in-Ok-Display
unfolding tag
returns-in-Ok-Display c = H.tagged c.in_ok-b.ensures (sym (rw c.in-Ok-Display.field-0-is at c.in-Ok-Display.ensures)) (H.display (H.within c.in_ok-b.ensures))
