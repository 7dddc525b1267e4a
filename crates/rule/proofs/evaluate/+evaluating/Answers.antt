-- The cycle of one rule's evaluation: its members' answers, by the measure t of the call. Assumes nothing.
use Rattle.std.proofs.Common.{rules, arith, sym}
use Rattle.design.specs.Kinds.{tag, operation}
use Rattle.rule.proofs.Meaning as M
use Rattle.rule.proofs.Invoking as I
use Rattle.rule.proofs.Falling as F
use Rattle.rule.proofs.Constructs as C
use Rattle.rule.proofs.Walking as W
use Rattle.rule.proofs.Operating as O
use mathlib.Core.Path.{refl}
use mathlib.Core.Logic.{⊎_elim}
use Rattle.rule.proofs.evaluate.+evaluating.Goals.{walk-in-Some, walk-in_default-bound}
use Rattle.rule.proofs.evaluate.+evaluating.Goals as goal

pub enter-returns-then-not-fits : goal.enter-returns-then-not-fits
enter-returns-then-not-fits t c = search I.enter_kinds

pub enter-returns-in_default : goal.enter-returns-in_default
enter-returns-in_default t c = search I.enter_full

pub enter-eval-answer-requires : goal.enter-eval-answer-requires
enter-eval-answer-requires t c = (search F.enter_less, F.ready_enter c.requires.0 c.note.ensures c.in-Some.is)

pub enter-returns-in_default-answer : goal.enter-returns-in_default-answer
enter-returns-in_default-answer t c = I.enter_halts c.kinds-kinds.ensures c.fits.ensures c.if-not-fits.false c.requires.0.room c.note.ensures c.in-Some.is c.requires.1 c.args.body.now.small c.args.call.method_byte c.packed.ensures c.signature_of-s.ensures c.eq.ensures c.method_text.ensures c.eval-answer.ensures (M.halts _ c.in_default-answer.not-Value)

pub enter-returns-then-not-has_kind : goal.enter-returns-then-not-has_kind
enter-returns-then-not-has_kind t c = I.enter_result c.kinds-kinds.ensures c.fits.ensures c.if-not-fits.false c.requires.0.room c.note.ensures c.in-Some.is c.requires.1 c.args.body.now.small c.args.call.method_byte c.packed.ensures c.signature_of-s.ensures c.eq.ensures c.method_text.ensures c.eval-answer.ensures c.in-Value.is c.has_kind.ensures c.if-not-has_kind.true

pub enter-returns : goal.enter-returns
enter-returns t c = I.enter_done c.kinds-kinds.ensures c.fits.ensures c.if-not-fits.false c.requires.0.room c.note.ensures c.in-Some.is c.requires.1 c.args.body.now.small c.args.call.method_byte c.packed.ensures c.signature_of-s.ensures c.eq.ensures c.method_text.ensures c.eval-answer.ensures c.in-Value.is c.has_kind.ensures c.if-not-has_kind.false

pub eval-returns-in_default : goal.eval-returns-in_default
eval-returns-in_default t c = search C.over

pub eval-eval_operator-requires : goal.eval-eval_operator-requires
eval-eval_operator-requires t c = search (rules, F.byte_less, F.ready_in)

pub eval-eval_if-requires : goal.eval-eval_if-requires
eval-eval_if-requires t c = search (rules, F.byte_less, F.ready_in)

pub eval-eval_when-requires : goal.eval-eval_when-requires
eval-eval_when-requires t c = search (rules, F.byte_less, F.ready_in)

pub eval-eval_block-requires : goal.eval-eval_block-requires
eval-eval_block-requires t c = search (rules, F.byte_less, F.ready_in)

pub eval-eval_call-requires : goal.eval-eval_call-requires
eval-eval_call-requires t c = search (rules, F.byte_less, F.ready_in)

pub eval-eval_display-requires : goal.eval-eval_display-requires
eval-eval_display-requires t c = search (rules, F.byte_less, F.ready_in)

pub eval-returns-in-Ok-Number : goal.eval-returns-in-Ok-Number
unfolding tag
eval-returns-in-Ok-Number t c = C.begun c.byte.ensures c.in-Some.is c.in-Ok-Number.ensures c.in-Ok-Number.field-0-is (C.leaf c.eval_number.ensures c.requires.recorded)

pub eval-returns-in-Ok-Truth : goal.eval-returns-in-Ok-Truth
unfolding tag
eval-returns-in-Ok-Truth t c = C.begun c.byte.ensures c.in-Some.is c.in-Ok-Truth.ensures c.in-Ok-Truth.field-0-is (C.leaf c.eval_truth.ensures c.requires.recorded)

pub eval-returns-in-Ok-Local : goal.eval-returns-in-Ok-Local
unfolding tag
eval-returns-in-Ok-Local t c = C.begun c.byte.ensures c.in-Some.is c.in-Ok-Local.ensures c.in-Ok-Local.field-0-is (c.eval_local.ensures _)

pub eval-returns-in-Ok-Operator : goal.eval-returns-in-Ok-Operator
unfolding tag
eval-returns-in-Ok-Operator t c = C.begun c.byte.ensures c.in-Some.is c.in-Ok-Operator.ensures c.in-Ok-Operator.field-0-is c.eval_operator.ensures

pub eval-returns-in-Ok-Choice : goal.eval-returns-in-Ok-Choice
unfolding tag
eval-returns-in-Ok-Choice t c = C.begun c.byte.ensures c.in-Some.is c.in-Ok-Choice.ensures c.in-Ok-Choice.field-0-is c.eval_if.ensures

pub eval-returns-in-Ok-Guarded : goal.eval-returns-in-Ok-Guarded
unfolding tag
eval-returns-in-Ok-Guarded t c = C.begun c.byte.ensures c.in-Some.is c.in-Ok-Guarded.ensures c.in-Ok-Guarded.field-0-is c.eval_when.ensures

pub eval-returns-in-Ok-Block : goal.eval-returns-in-Ok-Block
unfolding tag
eval-returns-in-Ok-Block t c = C.begun c.byte.ensures c.in-Some.is c.in-Ok-Block.ensures c.in-Ok-Block.field-0-is c.eval_block.ensures

pub eval-returns-in-Ok-Call : goal.eval-returns-in-Ok-Call
unfolding tag
eval-returns-in-Ok-Call t c = C.begun c.byte.ensures c.in-Some.is c.in-Ok-Call.ensures c.in-Ok-Call.field-0-is c.eval_call.ensures

pub eval-returns-in-Ok-Display : goal.eval-returns-in-Ok-Display
unfolding tag
eval-returns-in-Ok-Display t c = C.begun c.byte.ensures c.in-Some.is c.in-Ok-Display.ensures c.in-Ok-Display.field-0-is c.eval_display.ensures

pub eval-returns-in-Err : goal.eval-returns-in-Err
unfolding tag
eval-returns-in-Err t c = C.tagged c.byte.ensures c.in-Some.is (sym c.in-Err.ensures) C.unknown

pub eval_args-loop-made-init : goal.eval_args-loop-made-init
eval_args-loop-made-init t c = search (rules, W.list_starts)

pub eval_args-eval-answer-requires : goal.eval_args-eval-answer-requires
eval_args-eval-answer-requires t c = search (rules, F.listing_less)

pub eval_args-returns-in_default : goal.eval_args-returns-in_default
eval_args-returns-in_default t c = search (W.list_halts, M.halts)

pub eval_args-loop-made-preserved : goal.eval_args-loop-made-preserved
eval_args-loop-made-preserved t c = search (rules, W.list_goes)

pub eval_args-returns : goal.eval_args-returns
eval_args-returns t c = search W.list_done

pub eval_block-returns-in_default : goal.eval_block-returns-in_default
eval_block-returns-in_default t c = search W.block_cut

pub eval_block-returns-then-count-lt1 : goal.eval_block-returns-then-count-lt1
eval_block-returns-then-count-lt1 t c = ⊎_elim (λ w. search W.block_low) (λ w. search W.block_high) c.then-count-lt1.either

pub eval_block-walk-requires : goal.eval_block-walk-requires
eval_block-walk-requires t c = search (rules, F.byte_less, F.ready_in)

pub eval_block-returns : goal.eval_block-returns
eval_block-returns t c = search W.block_done

pub eval_call-returns-in_default : goal.eval_call-returns-in_default
eval_call-returns-in_default t c = search I.call_cut

pub eval_call-returns-then-body-call : goal.eval_call-returns-then-body-call
eval_call-returns-then-body-call t c = search I.call_below

pub eval_call-returns-in-Err : goal.eval_call-returns-in-Err
eval_call-returns-in-Err t c = search I.call_no

pub eval_call-read_port-requires : goal.eval_call-read_port-requires
eval_call-read_port-requires t c = (c.requires.room, omega (arith, c.args.body.now.below), omega (arith, c.args.body.now.small))

pub eval_call-returns-in-Read : goal.eval_call-returns-in-Read
eval_call-returns-in-Read t c = I.call_read c.begin.ensures c.in-Some.is c.named.ensures (search rules) c.read_port.ensures

pub eval_call-eval_args-answer-requires : goal.eval_call-eval_args-answer-requires
eval_call-eval_args-answer-requires t c = (search (rules, F.head_less, c.begin.ensures, c.in-Some.is), (F.ready_in c.requires refl, c.in-Some.call.few, search (F.head_inside, c.begin.ensures, c.in-Some.is)))

pub eval_call-returns-in_default-answer : goal.eval_call-returns-in_default-answer
eval_call-returns-in_default-answer t c = search (I.call_halts, M.halts, c.begin.ensures, c.in-Some.is, c.in-Ok.is)

pub eval_call-finish-requires : goal.eval_call-finish-requires
eval_call-finish-requires t c = (search (F.call_less, c.decreases, c.begin.ensures, c.in-Some.is), (F.ready_list c.requires c.eval_args-answer.ensures c.in-Value.is, search rules))

pub eval_call-returns : goal.eval_call-returns
eval_call-returns t c = I.call_done c.begin.ensures c.in-Some.is c.named.ensures c.in-Ok.is c.eval_args-answer.ensures c.in-Value.is (search rules) c.finish.ensures

pub eval_display-returns-then-f : goal.eval_display-returns-then-f
eval_display-returns-then-f t c = search I.display_pure

pub eval_display-eval-answer-requires : goal.eval_display-eval-answer-requires
eval_display-eval-answer-requires t c = search (rules, F.rank_less)

pub eval_display-returns-in_default : goal.eval_display-returns-in_default
eval_display-returns-in_default t c = search (I.display_halts, M.halts)

pub eval_display-returns-in_default-v : goal.eval_display-returns-in_default-v
eval_display-returns-in_default-v t c = search (I.display_kind, O.not_num)

pub eval_display-returns-in_default-note : goal.eval_display-returns-in_default-note
eval_display-returns-in_default-note t c = search I.display_full

pub eval_display-returns : goal.eval_display-returns
eval_display-returns t c = search I.display_done

pub eval_if-eval-condition-requires : goal.eval_if-eval-condition-requires
eval_if-eval-condition-requires t c = search (rules, F.rank_less, F.ready_in)

pub eval_if-returns-in_default : goal.eval_if-returns-in_default
eval_if-returns-in_default t c = search (C.if_halts, M.halts)

pub eval_if-returns-in_default-c : goal.eval_if-returns-in_default-c
eval_if-returns-in_default-c t c = search (C.if_kind, O.not_bool)

pub eval_if-eval-taken-requires : goal.eval_if-eval-taken-requires
eval_if-eval-taken-requires t c = (search F.value_less, search F.ready_then)

pub eval_if-returns-in_default-taken : goal.eval_if-returns-in_default-taken
eval_if-returns-in_default-taken t c = search (C.then_halts, M.halts)

pub eval_if-returns-in_default-skip_expr : goal.eval_if-returns-in_default-skip_expr
eval_if-returns-in_default-skip_expr t c = search C.then_bad

pub eval_if-returns-then-holds : goal.eval_if-returns-then-holds
eval_if-returns-then-holds t c = search C.then_done

pub eval_if-returns-in_default-skip_expr-2 : goal.eval_if-returns-in_default-skip_expr-2
eval_if-returns-in_default-skip_expr-2 t c = search C.else_bad

pub eval_if-eval-requires : goal.eval_if-eval-requires
eval_if-eval-requires t c = (search F.skip_less, F.ready_in (F.ready_then c.requires c.eval-condition.ensures c.in-Value.is) refl)

pub eval_if-returns : goal.eval_if-returns
eval_if-returns t c = search C.else_done

pub eval_operator-returns-in_default : goal.eval_operator-returns-in_default
eval_operator-returns-in_default t c = search C.operator_cut

pub eval_operator-returns-in_default-try_from : goal.eval_operator-returns-in_default-try_from
unfolding operation
eval_operator-returns-in_default-try_from t c = C.operator_bad c.byte.ensures c.in-Some.is (sym c.in_default-try_from.ensures)

pub eval_operator-eval-first-requires : goal.eval_operator-eval-first-requires
eval_operator-eval-first-requires t c = search (rules, F.byte_less, F.ready_in)

pub eval_operator-returns-in_default-first : goal.eval_operator-returns-in_default-first
eval_operator-returns-in_default-first t c = search (C.operator_halts, M.halts)

pub eval_operator-returns-in-Not : goal.eval_operator-returns-in-Not
unfolding operation
eval_operator-returns-in-Not t c = C.not_done c.byte.ensures c.in-Some.is (sym (rw c.in-Not.is at c.in-Ok.ensures)) c.eval-first.ensures c.in-Value.is c.negate.ensures

pub eval_operator-eval-second-requires : goal.eval_operator-eval-second-requires
eval_operator-eval-second-requires t c = (search F.second_less, search F.ready_then)

pub eval_operator-returns-in_default-second : goal.eval_operator-returns-in_default-second
eval_operator-returns-in_default-second t c = C.second_halts c.byte.ensures c.in-Some.is (sym c.in-Ok.ensures) c.in_default-op.not-Not c.eval-first.ensures c.in-Value.is c.eval-second.ensures (M.halts _ c.in_default-second.not-Value)

pub eval_operator-returns : goal.eval_operator-returns
eval_operator-returns t c = C.operated c.byte.ensures c.in-Some.is (sym c.in-Ok.ensures) c.in_default-op.not-Not c.eval-first.ensures c.in-Value.is c.eval-second.ensures c.in-Value-second.is c.operate.ensures

pub eval_when-eval-condition-requires : goal.eval_when-eval-condition-requires
eval_when-eval-condition-requires t c = search (rules, F.rank_less, F.ready_in)

pub eval_when-returns-in_default : goal.eval_when-returns-in_default
eval_when-returns-in_default t c = search (C.when_halts, M.halts)

pub eval_when-returns-in_default-c : goal.eval_when-returns-in_default-c
eval_when-returns-in_default-c t c = search (C.when_kind, O.not_bool)

pub eval_when-eval-requires : goal.eval_when-eval-requires
eval_when-eval-requires t c = (search F.value_less, search F.ready_then)

pub eval_when-returns-then-holds : goal.eval_when-returns-then-holds
eval_when-returns-then-holds t c = search C.when_done

pub eval_when-returns : goal.eval_when-returns
eval_when-returns t c = search C.when_shut

pub finish-read_port-requires : goal.finish-read_port-requires
finish-read_port-requires t c = (c.requires.0.room, omega (arith, c.args.body.now.below, c.requires.1), omega (arith, c.args.body.now.small, c.requires.1))

pub finish-write_port-requires : goal.finish-write_port-requires
finish-write_port-requires t c = (c.requires.0.room, omega (arith, c.args.body.now.below, c.requires.1), omega (arith, c.args.body.now.small, c.requires.1))

pub finish-enter-requires : goal.finish-enter-requires
finish-enter-requires t c = search (rules, F.finish_less)

pub finish-returns-in-Read : goal.finish-returns-in-Read
finish-returns-in-Read t c = search I.finish_read

pub finish-returns-in-Write : goal.finish-returns-in-Write
finish-returns-in-Write t c = search I.finish_write

pub finish-returns-in-User : goal.finish-returns-in-User
finish-returns-in-User t c = search I.finish_body

pub step-returns-in_default : goal.step-returns-in_default
step-returns-in_default t c = search W.step_cut

pub step-returns-in_default-try_from : goal.step-returns-in_default-try_from
step-returns-in_default-try_from t c = W.step_bad c.args.f.few c.byte.ensures c.in-Some.is c.in_default-try_from.ensures

pub step-eval-answer-requires : goal.step-eval-answer-requires
step-eval-answer-requires t c = search (rules, F.byte_less, F.ready_in)

pub step-returns-in_default-answer : goal.step-returns-in_default-answer
step-returns-in_default-answer t c = W.step_halts c.args.f.few c.byte.ensures c.in-Some.is _ c.in-Ok.ensures c.eval-answer.ensures (M.halts _ c.in_default-answer.not-Value)

pub step-returns-in-Do : goal.step-returns-in-Do
step-returns-in-Do t c = W.step_do c.args.f.few c.byte.ensures c.in-Some.is _ c.in-Ok.ensures c.eval-answer.ensures c.in-Value.is c.in-Do.is

pub step-returns-then-f-ge-MOST_LOCALS : goal.step-returns-then-f-ge-MOST_LOCALS
step-returns-then-f-ge-MOST_LOCALS t c = W.step_full c.args.f.few c.byte.ensures c.in-Some.is _ c.in-Ok.ensures c.eval-answer.ensures c.in-Value.is c.in_default-statement.not-Do (search rules)

pub step-returns : goal.step-returns
step-returns t c = W.step_let c.args.f.few c.byte.ensures c.in-Some.is _ c.in-Ok.ensures c.eval-answer.ensures c.in-Value.is c.in_default-statement.not-Do (search rules)

pub walk-loop-init : goal.walk-loop-init
walk-loop-init t c = W.starts c.requires c.put_in_front.ensures c.args.f.few

pub walk-bounds-own-live : goal.walk-bounds-own-live
walk-bounds-own-live t c = W.walk_room c.loop.invariant c.step-s.ensures c.in-Some.is c.loop-test.array_long

pub walk-step-s-requires : goal.walk-step-s-requires
walk-step-s-requires t c = search (rules, F.goes_less)

pub walk-returns-in_default : goal.walk-returns-in_default
walk-returns-in_default t c = search (W.walk_halts, M.halts)

pub walk-loop-preserved : goal.walk-loop-preserved
walk-loop-preserved t c = elim c.match-s.branch [
  | walk-in-Some w ↦ search (rules, W.walk_lets)
  | walk-in_default-bound w ↦ search (rules, W.walk_does)
]

pub walk-step-s-requires-2 : goal.walk-step-s-requires-2
walk-step-s-requires-2 t c = search (rules, F.goes_less)

pub walk-returns : goal.walk-returns
walk-returns t c = search W.walk_done
