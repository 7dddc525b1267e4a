-- `method_span` meets its contract. Assumes nothing.
use Rattle.design.proofs.Spans as S
use Rattle.design.proofs.method_span.Goals as goal

pub returns-in_default : goal.returns-in_default
returns-in_default c = S.method_refused c.args.instance c.args.method c.in_default.ensures

pub returns-in-Some : goal.returns-in-Some
returns-in-Some c = S.method_lies c.args.instance c.args.method c.in-Ok.ensures c.in-Some.ensures c.method_span.ensures

pub returns-in-None : goal.returns-in-None
returns-in-None c = S.method_missing c.args.instance c.args.method c.in-Ok.ensures c.in-None.ensures
