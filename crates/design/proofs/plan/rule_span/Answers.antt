-- `rule_span` meets its contract. Assumes nothing.
use Rattle.design.proofs.Lookups as L
use Rattle.design.proofs.plan.rule_span.Goals as goal

pub returns : goal.returns
returns c = search L.rule_span_is
