-- Answers as numbers, worked out by hand from the bits that the C header names. Each is proved by computing it.
use Rattle.std.specs.Prelude.{◌≡◌, refl}
use Rattle.design.specs.Answers.{counts, refused}
use Rattle.meaning.specs.Clock.{Outcome}
use Rattle.meaning.specs.Run.{Ending}
use Rattle.meaning.specs.Check.{passes, fails}
use Rattle.host.specs.Packed.{refusal_of, counts_of, part_number, placed, packed, outcome_number, prepared_number, ending_number, verdict_number}

-- 2 at offset 8: 2 + 256 * 8
cut : refusal_of (refused 2 8) ≡ 2050
unfolding refusal_of
cut = refl

reads : refusal_of (counts 6 2 4 4) ≡ 0
unfolding refusal_of
reads = refl

-- bytes 06 02 04 04, the lowest first
held : counts_of (counts 6 2 4 4) ≡ 67371526
unfolding counts_of
held = refl

-- P10's rule: 17 bytes from offset 12 on, 000C 0011 in hex
part : part_number (record { start = 12; size = 17 }) ≡ 786449
unfolding part_number
part = refl

-- a rule fired and displayed 2 numbers: 0002 01 00 in hex
fired : outcome_number Outcome.fired 2 ≡ 131328
unfolding outcome_number packed
fired = refl

-- rule 3 is stuck with 21 after 1 display: 0001 03 15 in hex
stuck : outcome_number (Outcome.stuck 3 21) 1 ≡ 66325
unfolding outcome_number packed
stuck = refl

-- quiet after 7 clocks: 0007 00 64 in hex
quiet : ending_number Ending.quiet 7 ≡ 458852
unfolding ending_number packed
quiet = refl

-- 27 at offset 8
crowded : verdict_number (fails (record { number = 27; place = 8 })) ≡ 2075
unfolding verdict_number placed
crowded = refl

passed : verdict_number passes ≡ 0
unfolding verdict_number
passed = refl

-- a plan has 1,092 numbers
prepared : prepared_number (counts 6 2 4 4) 1092 ≡ 0
unfolding prepared_number
prepared = refl

too_short : prepared_number (counts 6 2 4 4) 1091 ≡ 13
unfolding prepared_number
too_short = refl

-- 2 at offset 8, whatever the room
unprepared : prepared_number (refused 2 8) 0 ≡ 2050
unfolding prepared_number placed
unprepared = refl
