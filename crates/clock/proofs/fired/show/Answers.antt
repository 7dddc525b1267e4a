-- `show` meets its contract. Assumes nothing.
use Rattle.clock.proofs.Firing as F
use Rattle.clock.proofs.fired.show.Goals as goal

pub returns-then-not-is_display : goal.returns-then-not-is_display
returns-then-not-is_display c = search F.show_none

pub returns : goal.returns
returns c = search F.show_one
