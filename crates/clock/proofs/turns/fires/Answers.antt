-- `fires` meets its contract. Assumes nothing.
use mathlib.Core.Path.{◌∙◌}
use Rattle.clock.proofs.Settling as S
use Rattle.clock.proofs.turns.fires.Goals as goal

pub returns : goal.returns
returns c = c.eq.ensures ∙ S.fires_are c.args.fate
