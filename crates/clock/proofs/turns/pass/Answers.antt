-- `pass` meets its contract. Assumes nothing.
use Rattle.clock.proofs.Settling as S
use Rattle.clock.proofs.turns.pass.Goals as goal

pub returns : goal.returns
returns c = S.passed c.requires c.from.ensures (c.fill.ensures.after (λ y e. e))
