-- What falls along the cycle: the weight of the frame and the mark, with the member's rank. And the invariants of its loops.
use Prim.Native.Nat.{◌-◌}
use lib.ListN.{length}
use Rattle.rule.proofs.Falling.{weight}
use Rattle.rule.specs.Post as P
use Rattle.rule.proofs.Walking as W
use Rattle.rule.proofs.evaluate.+evaluating.Given as goal

abbrev pub decreases-enter : goal.decreases-enter
decreases-enter l = weight (P.place l.body.now l.f) 0 1

abbrev pub decreases-eval : goal.decreases-eval
decreases-eval l = weight (P.place l.body.now l.f) (length l.body.now.text.now - l.m.at) 0

abbrev pub decreases-eval_args : goal.decreases-eval_args
decreases-eval_args l = weight (P.place l.body.now l.f) (length l.body.now.text.now - l.m.at) 1

abbrev pub decreases-eval_block : goal.decreases-eval_block
decreases-eval_block l = weight (P.place l.body.now l.f) (length l.body.now.text.now - l.m.at) 1

abbrev pub decreases-eval_call : goal.decreases-eval_call
decreases-eval_call l = weight (P.place l.body.now l.f) (length l.body.now.text.now - l.m.at) 1

abbrev pub decreases-eval_display : goal.decreases-eval_display
decreases-eval_display l = weight (P.place l.body.now l.f) (length l.body.now.text.now - l.m.at) 1

abbrev pub decreases-eval_if : goal.decreases-eval_if
decreases-eval_if l = weight (P.place l.body.now l.f) (length l.body.now.text.now - l.m.at) 1

abbrev pub decreases-eval_operator : goal.decreases-eval_operator
decreases-eval_operator l = weight (P.place l.body.now l.f) (length l.body.now.text.now - l.m.at) 1

abbrev pub decreases-eval_when : goal.decreases-eval_when
decreases-eval_when l = weight (P.place l.body.now l.f) (length l.body.now.text.now - l.m.at) 1

abbrev pub decreases-finish : goal.decreases-finish
decreases-finish l = weight (P.place l.body.now l.f) 0 2

abbrev pub decreases-step : goal.decreases-step
decreases-step l = weight (P.place l.body.now l.f) (length l.body.now.text.now - l.m.at) 1

abbrev pub decreases-walk : goal.decreases-walk
decreases-walk l = weight (P.place l.body.now l.f) (length l.body.now.text.now - l.m.at) 2

abbrev pub invariant-eval_args-loop-made : goal.invariant-eval_args-loop-made
invariant-eval_args-loop-made l = W.Listing l.count l.body.text.now l.body.design.file.now l.body.design.plan.now l.body.state.now l.f.locals.now l.initial.log (P.place l.body l.f) l.initial.here l.args l.log l.here l.made

abbrev pub invariant-walk-loop : goal.invariant-walk-loop
invariant-walk-loop l = W.Goes l.more l.body.text.now l.body.design.file.now l.body.design.plan.now l.body.state.now l.f.locals.now l.initial.log (P.place l.body l.f) l.initial.here l.own l.log l.live l.here l.counter
