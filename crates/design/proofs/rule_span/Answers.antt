-- `rule_span` meets its contract. Assumes nothing.
use Rattle.design.proofs.Spans as S
use Rattle.design.proofs.rule_span.Goals as goal

pub returns-in_default : goal.returns-in_default
returns-in_default c = S.rule_refused c.args.number c.in_default.ensures

pub returns-then-p-number : goal.returns-then-p-number
returns-then-p-number c = S.rule_missing c.args.number c.in-Ok.ensures c.if-p-number.true

pub returns : goal.returns
returns c = S.rule_lies c.args.number c.in-Ok.ensures c.if-p-number.false c.rule_span.ensures
