use Rattle.host.proofs.Covering as K
use Rattle.host.proofs.cantaribol_check.Goals as goal

pub returns-in-Err-Refused-clause-unstuck : goal.returns-in-Err-Refused-clause-unstuck
returns-in-Err-Refused-clause-unstuck c = search K.refused_unstuck

pub returns-in-Err-Fails-clause-unstuck : goal.returns-in-Err-Fails-clause-unstuck
returns-in-Err-Fails-clause-unstuck c = search K.fails_unstuck
