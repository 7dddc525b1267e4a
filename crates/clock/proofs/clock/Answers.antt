-- `clock` meets its contract. Assumes nothing.
use Rattle.std.proofs.Common.{rules}
use Rattle.clock.proofs.Replying as R
use Rattle.clock.proofs.clock.Goals as goal

pub returns-in_err-p : goal.returns-in_err-p
returns-in_err-p c = R.clock_away _ c.in_err-p.ensures c.from_residual.ensures.1

pub returns-then-fates-lt-MOST_ENTRIES : goal.returns-then-fates-lt-MOST_ENTRIES
returns-then-fates-lt-MOST_ENTRIES c = R.clock_fates c.in_ok-p.ensures (search rules)

pub returns-then-displays-lt-MOST_DISPLAYS : goal.returns-then-displays-lt-MOST_DISPLAYS
returns-then-displays-lt-MOST_DISPLAYS c = R.clock_displays c.in_ok-p.ensures (search rules) (search rules)

pub returns : goal.returns
returns c = R.clock_done c.in_ok-p.ensures (search rules) (search rules) c.tick_alone.ensures
