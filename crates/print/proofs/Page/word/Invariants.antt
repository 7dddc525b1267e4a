use Rattle.std.proofs.Common.{◌≡◌}
use Rattle.print.specs.Page.{page}
use Rattle.print.proofs.Filling as F
use Rattle.print.proofs.Page.word.Given as goal

abbrev pub invariant-loop-k : goal.invariant-loop-k
invariant-loop-k l =
    F.Filling l.w (page l.initial.self) (page l.self) l.k × (l.self.out.ghost_name ≡ l.initial.self.out.ghost_name)
