-- `within` meets its contract. Assumes nothing.
use Rattle.std.proofs.Common.{rules}
use Rattle.conflict.proofs.Searching as S
use Rattle.conflict.proofs.within.Goals as goal

pub loop-b-init : goal.loop-b-init
loop-b-init c = (search S.two_turn, search rules)

pub loop-b-preserved : goal.loop-b-preserved
loop-b-preserved c = (search S.two_on, search rules)

pub search-preserved : goal.search-preserved
search-preserved c = (search S.two_next, search rules)

pub returns-after-search : goal.returns-after-search
returns-after-search c = search S.two_done

pub returns-then-clashes : goal.returns-then-clashes
returns-then-clashes c = search S.two_found
