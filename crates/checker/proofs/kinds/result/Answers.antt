-- `result` meets its contract. Assumes nothing.
use Rattle.checker.proofs.Calling as C
use Rattle.checker.proofs.kinds.result.Goals as goal

pub returns-in-Read : goal.returns-in-Read
returns-in-Read c = search C.read_result

pub returns-in-Write : goal.returns-in-Write
returns-in-Write c = search C.write_result

pub returns-in-User : goal.returns-in-User
returns-in-User c = search C.user_result
