-- `set_all` meets its contract. Assumes nothing.
use Rattle.clock.proofs.Starting as S
use Rattle.clock.proofs.starts.set_all.Goals as goal

pub loop-i-init : goal.loop-i-init
loop-i-init c = search S.setting_start

pub loop-i-preserved : goal.loop-i-preserved
loop-i-preserved c = search S.setting_on

pub returns : goal.returns
returns c = search S.setting_done
