-- The cycle of the walk over kinds: its members' answers, by the measure t of the call. Assumes nothing.
use Rattle.std.proofs.Common.{refl, rules, sym}
use Rattle.design.specs.Kinds.{tag}
use Rattle.design.proofs.Heads as H
use Rattle.checker.proofs.Blocks as B
use Rattle.checker.proofs.Calling as C
use Rattle.checker.proofs.Falling as F
use Rattle.checker.proofs.Parts as M
use Rattle.checker.proofs.Walking as W
use Rattle.checker.proofs.kinds.Body.+walking.Goals as goal
use Rattle.checker.proofs.kinds.Body.+walking.Goals.{arguments-then-ne, arguments-else-ne, statements-then-eq+else-live-ge-MOST_LOCALS, statements-else-eq}

pub arguments-loop-j-init : goal.arguments-loop-j-init
arguments-loop-j-init t c = search (rules, C.row_starts)

pub arguments-kind_of-requires : goal.arguments-kind_of-requires
arguments-kind_of-requires t c = search (rules, F.argument_less)

pub arguments-returns-in_err-kind : goal.arguments-returns-in_err-kind
arguments-returns-in_err-kind t c = rw (M.handed c.from_residual.ensures.1) (search (C.row_no, c.in_err-kind.ensures))

pub arguments-loop-j-preserved : goal.arguments-loop-j-preserved
arguments-loop-j-preserved t c = elim c.if-ne.branch [
  | arguments-then-ne w ↦ search (C.row_misfits, c.in_ok-kind.ensures)
  | arguments-else-ne w ↦ search (C.row_fits, c.in_ok-kind.ensures)
]

pub arguments-returns : goal.arguments-returns
arguments-returns t c = search (C.row_done)

pub block-returns-in_err-b : goal.block-returns-in_err-b
block-returns-in_err-b t c = rw (M.handed c.from_residual.ensures.1) (search (W.block_cut, c.in_err-b.ensures))

pub block-returns-then-count-lt1 : goal.block-returns-then-count-lt1
block-returns-then-count-lt1 t c = search (W.block_empty, c.in_ok-b.ensures)

pub block-statements-requires : goal.block-statements-requires
block-statements-requires t c = search (rules, F.byte_less, c.in_ok-b.ensures)

pub block-returns : goal.block-returns
block-returns t c = search (W.block_done, c.in_ok-b.ensures)

pub call-returns-in_err-i : goal.call-returns-in_err-i
call-returns-in_err-i t c = rw (M.handed c.from_residual.ensures.1) (search (C.call_cut, c.in_err-i.ensures))

pub call-returns-in_err-m : goal.call-returns-in_err-m
call-returns-in_err-m t c = rw (M.handed c.from_residual-in_err-m.ensures.1) (search (C.call_cut_2, c.in_ok-i.ensures, c.in_err-m.ensures))

pub call-returns-in_err-n : goal.call-returns-in_err-n
call-returns-in_err-n t c = rw (M.handed c.from_residual-in_err-n.ensures.1) (search (C.call_cut_3, c.in_ok-i.ensures, c.in_ok-m.ensures, c.in_err-n.ensures))

pub call-invoke-requires : goal.call-invoke-requires
call-invoke-requires t c = search (rules, F.head_less, c.in_ok-i.ensures, c.in_ok-m.ensures, c.in_ok-n.ensures)

pub call-returns : goal.call-returns
call-returns t c = search (C.call_done, c.in_ok-i.ensures, c.in_ok-m.ensures, c.in_ok-n.ensures)

pub choice-kind_of-requires : goal.choice-kind_of-requires
choice-kind_of-requires t c = search (rules, F.rank_less)

pub choice-returns-in_err-c : goal.choice-returns-in_err-c
choice-returns-in_err-c t c = rw (M.handed c.from_residual.ensures.1) (search (W.if_no, c.in_err-c.ensures))

pub choice-returns-in_err-wants : goal.choice-returns-in_err-wants
choice-returns-in_err-wants t c = rw (M.handed c.from_residual-in_err-wants.ensures.1) (search (W.if_kind, c.in_ok-c.ensures, c.in_err-wants.ensures))

pub choice-kind_of-requires-2 : goal.choice-kind_of-requires-2
choice-kind_of-requires-2 t c = search (rules, F.value_less, c.in_ok-c.ensures)

pub choice-returns-in_err-a : goal.choice-returns-in_err-a
choice-returns-in_err-a t c = rw (M.handed c.from_residual-in_err-a.ensures.1) (search (W.then_no, c.in_ok-c.ensures, c.in_ok-wants.ensures, c.in_err-a.ensures))

pub choice-kind_of-requires-3 : goal.choice-kind_of-requires-3
choice-kind_of-requires-3 t c = search (rules, F.values_less, c.in_ok-c.ensures, c.in_ok-a.ensures)

pub choice-returns-in_err-b : goal.choice-returns-in_err-b
choice-returns-in_err-b t c = rw (M.handed c.from_residual-in_err-b.ensures.1) (search (W.else_no, c.in_ok-c.ensures, c.in_ok-wants.ensures, c.in_ok-a.ensures, c.in_err-b.ensures))

pub choice-returns-in_err-wants-2 : goal.choice-returns-in_err-wants-2
choice-returns-in_err-wants-2 t c = rw (M.handed c.from_residual-in_err-wants-2.ensures.1) (search (W.arms_differ, c.in_ok-c.ensures, c.in_ok-wants.ensures, c.in_ok-a.ensures, c.in_ok-b.ensures, c.in_err-wants-2.ensures))

pub choice-returns : goal.choice-returns
choice-returns t c = search (W.arms_agree, c.in_ok-c.ensures, c.in_ok-wants.ensures, c.in_ok-a.ensures, c.in_ok-b.ensures, c.in_ok-wants-2.ensures)

pub display-returns-then-pure : goal.display-returns-then-pure
display-returns-then-pure t c = search (W.display_pure)

pub display-kind_of-requires : goal.display-kind_of-requires
display-kind_of-requires t c = search (rules, F.rank_less)

pub display-returns-in_err-k : goal.display-returns-in_err-k
display-returns-in_err-k t c = rw (M.handed c.from_residual.ensures.1) (search (W.display_no, c.in_err-k.ensures))

pub display-returns-in_err-wants : goal.display-returns-in_err-wants
display-returns-in_err-wants t c = rw (M.handed c.from_residual-in_err-wants.ensures.1) (search (W.display_kind, c.in_ok-k.ensures, c.in_err-wants.ensures))

pub display-returns : goal.display-returns
display-returns t c = search (W.display_done, c.in_ok-k.ensures, c.in_ok-wants.ensures)

pub guarded-kind_of-requires : goal.guarded-kind_of-requires
guarded-kind_of-requires t c = search (rules, F.rank_less)

pub guarded-returns-in_err-g : goal.guarded-returns-in_err-g
guarded-returns-in_err-g t c = rw (M.handed c.from_residual.ensures.1) (search (W.when_no, c.in_err-g.ensures))

pub guarded-returns-in_err-wants : goal.guarded-returns-in_err-wants
guarded-returns-in_err-wants t c = rw (M.handed c.from_residual-in_err-wants.ensures.1) (search (W.when_kind, c.in_ok-g.ensures, c.in_err-wants.ensures))

pub guarded-kind_of-requires-2 : goal.guarded-kind_of-requires-2
guarded-kind_of-requires-2 t c = search (rules, F.value_less, c.in_ok-g.ensures)

pub guarded-returns : goal.guarded-returns
guarded-returns t c = W.when_done c.in_ok-g.ensures c.in_ok-wants.ensures c.kind_of-2.ensures

pub invoke-returns-in_err-callee : goal.invoke-returns-in_err-callee
invoke-returns-in_err-callee t c = rw (M.handed c.from_residual.ensures.1) (search (C.unnamed, c.in_err-callee.ensures))

pub invoke-arguments-requires : goal.invoke-arguments-requires
invoke-arguments-requires t c = search (rules, F.rank_less)

pub invoke-returns-in_err-fit : goal.invoke-returns-in_err-fit
invoke-returns-in_err-fit t c = rw (M.handed c.from_residual-in_err-fit.ensures.1) (search (C.arguments_no, c.in_ok-callee.ensures, c.in_err-fit.was))

pub invoke-returns-then-not-fit : goal.invoke-returns-then-not-fit
invoke-returns-then-not-fit t c = search (C.misfits, c.in_ok-callee.ensures, c.in_ok-fit.was)

pub invoke-returns : goal.invoke-returns
invoke-returns t c = search (C.gives, c.in_ok-callee.ensures, c.in_ok-fit.was)

pub kind_of-operator-requires : goal.kind_of-operator-requires
kind_of-operator-requires t c = search (rules, F.byte_less, c.in_ok-b.ensures)

pub kind_of-choice-requires : goal.kind_of-choice-requires
kind_of-choice-requires t c = search (rules, F.byte_less, c.in_ok-b.ensures)

pub kind_of-guarded-requires : goal.kind_of-guarded-requires
kind_of-guarded-requires t c = search (rules, F.byte_less, c.in_ok-b.ensures)

pub kind_of-block-requires : goal.kind_of-block-requires
kind_of-block-requires t c = search (rules, F.byte_less, c.in_ok-b.ensures)

pub kind_of-call-requires : goal.kind_of-call-requires
kind_of-call-requires t c = search (rules, F.byte_less, c.in_ok-b.ensures)

pub kind_of-display-requires : goal.kind_of-display-requires
kind_of-display-requires t c = search (rules, F.byte_less, c.in_ok-b.ensures)

pub statements-loop-init : goal.statements-loop-init
statements-loop-init t c = B.starts _ c.copy_from_slice.ensures.after (search rules) refl (search rules)

pub statements-kind_of-requires : goal.statements-kind_of-requires
statements-kind_of-requires t c = search (rules, F.statement_less, c.in_ok-b.ensures)

pub statements-returns-in_err-k : goal.statements-returns-in_err-k
statements-returns-in_err-k t c = rw (M.handed c.from_residual-in_err-k.ensures.1) (search (B.no_kind, c.in_ok-b.ensures, c.in_err-k.ensures))

pub statements-returns : goal.statements-returns
statements-returns t c = search (B.done)

pub statements-invariant_of-lent : goal.statements-invariant_of-lent
statements-invariant_of-lent t c = let q = B.few c.loop.invariant c.loop-test.true in search rules

pub statements-slice_bounds-own-end-in-loop : goal.statements-slice_bounds-own-end-in-loop
statements-slice_bounds-own-end-in-loop t c = let q = B.few c.loop.invariant c.loop-test.true in search rules

pub statements-slice_bounds-lent-end : goal.statements-slice_bounds-lent-end
statements-slice_bounds-lent-end t c = let q = B.few c.loop.invariant c.loop-test.true in search rules

pub kind_of-returns-in_err-b : goal.kind_of-returns-in_err-b
kind_of-returns-in_err-b t c = rw (M.handed c.from_residual.ensures.1) (search (W.over, c.in_err-b.ensures))

pub kind_of-returns-in-Ok-Number : goal.kind_of-returns-in-Ok-Number
unfolding tag
kind_of-returns-in-Ok-Number t c = W.tagged c.in_ok-b.ensures (sym (rw c.in-Ok-Number.field-0-is at c.in-Ok-Number.ensures)) (W.leaf c.number.ensures)

pub kind_of-returns-in-Ok-Truth : goal.kind_of-returns-in-Ok-Truth
unfolding tag
kind_of-returns-in-Ok-Truth t c = W.tagged c.in_ok-b.ensures (sym (rw c.in-Ok-Truth.field-0-is at c.in-Ok-Truth.ensures)) (W.leaf c.truth.ensures)

pub kind_of-returns-in-Ok-Local : goal.kind_of-returns-in-Ok-Local
unfolding tag
kind_of-returns-in-Ok-Local t c = W.tagged c.in_ok-b.ensures (sym (rw c.in-Ok-Local.field-0-is at c.in-Ok-Local.ensures)) (W.local c.local.ensures)

pub kind_of-returns-in-Ok-Operator : goal.kind_of-returns-in-Ok-Operator
unfolding tag
kind_of-returns-in-Ok-Operator t c = W.tagged c.in_ok-b.ensures (sym (rw c.in-Ok-Operator.field-0-is at c.in-Ok-Operator.ensures)) c.operator.ensures

pub kind_of-returns-in-Ok-Choice : goal.kind_of-returns-in-Ok-Choice
unfolding tag
kind_of-returns-in-Ok-Choice t c = W.tagged c.in_ok-b.ensures (sym (rw c.in-Ok-Choice.field-0-is at c.in-Ok-Choice.ensures)) c.choice.ensures

pub kind_of-returns-in-Ok-Guarded : goal.kind_of-returns-in-Ok-Guarded
unfolding tag
kind_of-returns-in-Ok-Guarded t c = W.tagged c.in_ok-b.ensures (sym (rw c.in-Ok-Guarded.field-0-is at c.in-Ok-Guarded.ensures)) c.guarded.ensures

pub kind_of-returns-in-Ok-Block : goal.kind_of-returns-in-Ok-Block
unfolding tag
kind_of-returns-in-Ok-Block t c = W.tagged c.in_ok-b.ensures (sym (rw c.in-Ok-Block.field-0-is at c.in-Ok-Block.ensures)) c.block.ensures

pub kind_of-returns-in-Ok-Call : goal.kind_of-returns-in-Ok-Call
unfolding tag
kind_of-returns-in-Ok-Call t c = W.tagged c.in_ok-b.ensures (sym (rw c.in-Ok-Call.field-0-is at c.in-Ok-Call.ensures)) c.call.ensures

pub kind_of-returns-in-Ok-Display : goal.kind_of-returns-in-Ok-Display
unfolding tag
kind_of-returns-in-Ok-Display t c = W.tagged c.in_ok-b.ensures (sym (rw c.in-Ok-Display.field-0-is at c.in-Ok-Display.ensures)) c.display.ensures

pub kind_of-returns-in-Err : goal.kind_of-returns-in-Err
unfolding tag
kind_of-returns-in-Err t c = W.tagged c.in_ok-b.ensures (sym c.in-Err.ensures) W.unknown

pub operator-returns-in_err-b : goal.operator-returns-in_err-b
operator-returns-in_err-b t c = rw (M.handed c.from_residual.ensures.1) (search (W.operator_cut, c.in_err-b.ensures))

pub operator-returns-in_err-c : goal.operator-returns-in_err-c
operator-returns-in_err-c t c = rw (M.handed c.from_residual-in_err-c.ensures.1) (W.second_no c.in_ok-b.ensures c.in_ok-a.ensures _ c.in-Ok.ensures c.eq.ensures c.if-eq.false c.in_err-c.ensures)

pub operator-returns-in_default : goal.operator-returns-in_default
operator-returns-in_default t c = W.operator_bad c.in_ok-b.ensures (H.no_operator _ _ c.try_from.ensures c.in_default.not-Ok)

pub operator-kind_of-requires : goal.operator-kind_of-requires
operator-kind_of-requires t c = search (rules, F.byte_less, c.in_ok-b.ensures)

pub operator-returns-in_err-a : goal.operator-returns-in_err-a
operator-returns-in_err-a t c = rw (M.handed c.from_residual-in_err-a.ensures.1) (search (W.operator_no, c.in_ok-b.ensures, c.in_err-a.ensures))

pub operator-returns-then-eq : goal.operator-returns-then-eq
operator-returns-then-eq t c = W.not_done c.in_ok-b.ensures c.in_ok-a.ensures _ c.in-Ok.ensures c.eq.ensures c.if-eq.true c.negated.ensures

pub operator-kind_of-requires-2 : goal.operator-kind_of-requires-2
operator-kind_of-requires-2 t c = search (rules, F.second_less, c.in_ok-b.ensures, c.in_ok-a.ensures)

pub operator-returns : goal.operator-returns
operator-returns t c = W.operated c.in_ok-b.ensures c.in_ok-a.ensures _ c.in-Ok.ensures c.eq.ensures c.if-eq.false c.in_ok-c.ensures c.operated.ensures

pub statements-returns-in_err-b : goal.statements-returns-in_err-b
statements-returns-in_err-b t c = rw (M.handed c.from_residual.ensures.1) (search (B.no_statement, c.in_err-b.ensures))

pub statements-returns-in_default : goal.statements-returns-in_default
statements-returns-in_default t c = B.no_such c.loop.invariant c.loop-test.true c.in_ok-b.ensures c.in_default.ensures.0 c.in_default.ensures.1

pub statements-returns-then-live-ge-MOST_LOCALS : goal.statements-returns-then-live-ge-MOST_LOCALS
statements-returns-then-live-ge-MOST_LOCALS t c = search (B.no_room, B.is_let _ c.in-Ok.ensures c.eq.ensures c.if-eq.true, c.in_ok-b.ensures, c.in_ok-k.ensures)

pub statements-loop-preserved : goal.statements-loop-preserved
statements-loop-preserved t c = elim c.if-eq.branch [
  | statements-then-eq+else-live-ge-MOST_LOCALS w ↦
      search (B.after_let, B.is_let _ c.in-Ok.ensures c.eq.ensures w.if-eq.true, c.in_ok-b.ensures, c.in_ok-k.ensures)
  | statements-else-eq w ↦ search (B.after_do, B.is_do _ c.in-Ok.ensures c.eq.ensures w.if-eq.false, c.in_ok-b.ensures, c.in_ok-k.ensures)
]
