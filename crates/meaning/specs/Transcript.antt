-- What the clocks of a run show one after the other, with which the examples are written.
use Rattle.std.specs.Prelude.{ℕ, zero, suc, List, [], ◌∷◌, ℤ}
use Rattle.design.specs.Syntax.{Design}
use Rattle.design.specs.Take as Take
use Rattle.design.specs.Grammar as Grammar
use Rattle.design.specs.Records as Records
use Rattle.meaning.specs.Conflict.{Fate}
use Rattle.meaning.specs.ConflictExamples as Conflicts
use Rattle.meaning.specs.Clock as Clock
use Rattle.meaning.specs.Clock.{Tick, clock}
use Rattle.meaning.specs.Run as Run
use Rattle.meaning.specs.Buffers as Buffers

pub record Line : Type 0 where
  pub fates : List Fate
  pub displays : List ℤ

-- n clocks, each with its fates and its displays
unfoldable pub transcript : Design → (n : ℕ) → List ℤ → List Line
transcript D zero state = []
transcript D (suc n) state =
    let t : Tick = clock D state in
    record { fates = t.fates; displays = t.displays } ∷ transcript D n t.state

-- all that a clock, a run and a reply unfold to
unfoldable pub computing : Unit {0}
unfolding Conflicts.computing Clock.perform Clock.displayed Clock.first_turn Clock.fire Clock.hold Clock.is_fired Clock.settle Clock.ended Clock.broken Clock.turn_of Clock.turns Clock.clock Run.stop Run.one_more Run.run Buffers.reply Buffers.refuse Buffers.with_design Buffers.with_room Buffers.state_fits Buffers.buffers_fit Buffers.over Buffers.filled Buffers.clock_on Buffers.clock_reply Buffers.counted Buffers.run_on Buffers.run_reply Buffers.starts Buffers.started Buffers.start_on Buffers.start_reply transcript
computing = tt

-- all that the reading of a file unfolds to
unfoldable pub reading : Unit {0}
unfolding Take.bind Take.needs Take.pick Take.byte Take.two_bytes Take.four_bytes Grammar.tag_of Grammar.operation_of Grammar.last Grammar.then Grammar.exprs Grammar.statement Grammar.statements Grammar.operands Grammar.after Grammar.expr Records.empty Records.methods Records.rules Records.is_user Records.latest_is_user Records.with_instance Records.with_body Records.with_schedule Records.is_closed Records.is_empty Records.among Records.mark_of Records.role_of Records.kind_of Records.agree Records.field Records.params Records.part Records.outermost Records.register_fields Records.concurrent_fields Records.method_fields Records.rule_fields Records.entries Records.schedule_fields Records.instance_fields Records.instance_record Records.method_record Records.rule_record Records.schedule_record Records.after_mark Records.one_record Records.closed Records.records Records.reading
reading = tt
