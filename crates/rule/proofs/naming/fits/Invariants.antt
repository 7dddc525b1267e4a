-- `fits` meets its contract. The invariant: the values from j on decide. Assumes nothing.
use Rattle.std.proofs.Common.{length}
use Rattle.rule.proofs.Kinded as K
use Rattle.rule.proofs.naming.fits.Given as goal

abbrev pub invariant-loop-kind : goal.invariant-loop-kind
invariant-loop-kind l = K.Decides l.kinds l.locals (length l.yielded)
