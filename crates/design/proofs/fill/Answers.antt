-- `fill` meets its contract. The invariant is `Fares`; what is left of the file falls with each record. Assumes nothing.
use Rattle.design.proofs.Filling as L
use Rattle.design.proofs.Recording.{ready}
use Rattle.design.proofs.fill.Goals as goal

pub record-requires : goal.record-requires
record-requires c = ready c.loop-t.invariant.holds

pub loop-t-init : goal.loop-t-init
loop-t-init c = L.starts c.args.file.short c.requires

pub loop-t-smaller : goal.loop-t-smaller
loop-t-smaller c = L.falls c.loop-t.invariant c.loop-t-test.true c.in-Ok.ensures

pub loop-t-preserved : goal.loop-t-preserved
loop-t-preserved c = (L.steps c.loop-t.invariant c.loop-t-test.true c.in-Ok.ensures).0

pub returns-in-Err : goal.returns-in-Err
returns-in-Err c = L.stops c.loop-t.invariant c.loop-t-test.true c.in-Err.ensures

pub returns : goal.returns
returns c = L.ends c.loop-t.invariant c.loop-t-test.false
