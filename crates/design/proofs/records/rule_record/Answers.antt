-- `rule_record` meets its contract. Assumes nothing.
use mathlib.Core.Path.{refl}
use Rattle.design.specs.Steps.{with_rule}
use Rattle.design.proofs.Rows as F
use Rattle.design.proofs.Returning as N
use Rattle.design.proofs.records.rule_record.Goals as goal

pub returns-in_err-owner : goal.returns-in_err-owner
returns-in_err-owner c = rw (F.is_err _ c.from_residual.ensures.1) (N.rule_misplaced c.in_err-owner.ensures.value)

pub returns-then-t-ge64 : goal.returns-then-t-ge64
returns-then-t-ge64 c = N.rule_limit c.in_ok-owner.ensures.value c.if-t-ge64.true

pub returns-in_err-next : goal.returns-in_err-next
returns-in_err-next c = rw (F.is_err _ c.from_residual-in_err-next.ensures.1) (N.rule_no c.in_ok-owner.ensures.value c.if-t-ge64.false c.in_err-next.ensures)

pub put_rule-requires : goal.put_rule-requires
put_rule-requires c = (c.if-t-ge64.false, N.owner_small c.requires c.in_ok-owner.ensures.value, c.requires.place, N.end_small c.in_ok-next.ensures c.args.file.short)

pub returns : goal.returns
unfolding with_rule
returns c = N.rule_next c.in_ok-owner.ensures.value c.if-t-ge64.false c.in_ok-next.ensures (refl, c.put_rule.ensures)
