-- `inside_ports` meets its contract. Assumes nothing.
use Rattle.meaning.specs.Conflict.{inside_ports}
use Rattle.conflict.proofs.Ports as P
use Rattle.conflict.proofs.inside_ports.Goals as goal

pub returns-in-Write-Read : goal.returns-in-Write-Read
returns-in-Write-Read c = search (P.ruled inside_ports, P.a_write, P.a_read)

pub returns-in-Write-Write : goal.returns-in-Write-Write
returns-in-Write-Write c = search (P.ruled inside_ports, P.a_write)

pub returns-in-Read-Write : goal.returns-in-Read-Write
returns-in-Read-Write c = search (P.ruled inside_ports, P.a_write, P.a_read, P.either_order)

pub returns-in-Read-Read : goal.returns-in-Read-Read
returns-in-Read-Read c = search (P.two_reads inside_ports P.never_inside)
