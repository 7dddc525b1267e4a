-- `turn` meets its contract. Assumes nothing.
use mathlib.Core.Logic.{⊎_elim}
use Rattle.rule.proofs.Turning as T
use Rattle.rule.proofs.turn.Goals as goal

pub returns-then-log-lt-MOST_CALLS : goal.returns-then-log-lt-MOST_CALLS
returns-then-log-lt-MOST_CALLS c = search T.no_log

pub returns-then-state-me : goal.returns-then-state-me
returns-then-state-me c = ⊎_elim (λ w. search T.no_word) (λ w. search T.no_owner) c.then-state-me.either

pub returns : goal.returns
returns c = T.turned c.rule_owner-me.ensures c.rule_text.ensures c.act.ensures c.ended.ensures
