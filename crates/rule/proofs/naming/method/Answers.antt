-- `method` meets its contract. Assumes nothing.
use mathlib.Core.Logic.{⊎_elim}
use Rattle.rule.proofs.Callees as C
use Rattle.rule.proofs.naming.method.Goals as goal

pub returns-in_default : goal.returns-in_default
returns-in_default c = search C.no_method

pub returns-then-n-s : goal.returns-then-n-s
returns-then-n-s c = search C.method_count

pub returns-then-not-value : goal.returns-then-not-value
returns-then-not-value c = search C.method_pure

pub returns : goal.returns
returns c = ⊎_elim (λ w. search (C.method_user, C.allowed_value)) (λ w. search (C.method_user, C.allowed_place)) c.else-pure.either
