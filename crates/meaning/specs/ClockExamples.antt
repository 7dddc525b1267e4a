-- P1 to P10, stuck clocks, endings of runs, and buffers. Each is proved by computing it.
use Rattle.std.specs.Prelude.{ℕ, true, false, List, [], ◌∷◌, ◌≡◌, refl, ℤ, pos, negsuc, replicate}
use Rattle.words.specs.Words as Words
use Rattle.design.specs.Syntax.{Expr, Body, Design}
use Rattle.design.specs.Records.{Reading}
use Rattle.design.specs.Records as Records
use Rattle.meaning.specs.Build.{num, holds, local, plus, less, equal, when, show, call0, call1, read, write, block, RG, CR, UM, rule}
use Rattle.meaning.specs.Conflict.{Fate}
use Rattle.meaning.specs.Clock.{Outcome, Tick, clock}
use Rattle.meaning.specs.Run.{Ending, run}
use Rattle.meaning.specs.Buffers.{Answer, Buffers, run_reply, start_reply, clock_on, start_on}
use Rattle.meaning.specs.Transcript.{computing, reading}

-- Instance 0 is a register of one port, 1 of two, and 2 has the rules, all scheduled in order; the registers hold 0.
abbrev D : List Body → (schedule : List ℕ) → Design
D bs ns = record { instances = RG 0 ∷ CR 2 0 ∷ UM ∷ []; bodies = bs; schedule = ns }

abbrev zeros : List ℤ
zeros = pos 0 ∷ pos 0 ∷ pos 0 ∷ []

-- a rule of instance 2 with the guard true
abbrev does : Expr → Body
does e = rule 2 0 holds e

abbrev one : Body → Tick
one r = clock (D (r ∷ []) (0 ∷ [])) zeros

abbrev two : Body → Body → Tick
two r s = clock (D (r ∷ s ∷ []) (0 ∷ 1 ∷ [])) zeros

-- read 1, write 0 and write 1 of instance 1
abbrev read1 : Expr
read1 = call0 1 2

abbrev write0 : Expr
write0 = call1 1 1 (num 4)

abbrev write1 : Expr
write1 = call1 1 3 (num 4)

abbrev least : ℤ
least = negsuc 2147483647

abbrev P10 : List ℕ
P10 =
    0x52 ∷ 0x47 ∷ 0x05 ∷ 0x00 ∷ 0x00 ∷ 0x00 ∷ 0x55 ∷ 0x4D ∷ 0x52 ∷ 0x4C ∷ 0x11 ∷ 0x00 ∷ 0x02 ∷ 0x01 ∷ 0x0A ∷ 0x00 ∷ 0x01
    ∷ 0x01 ∷ 0x04 ∷ 0x00 ∷ 0x0A ∷ 0x00 ∷ 0x00 ∷ 0x00 ∷ 0x01 ∷ 0x01 ∷ 0x00 ∷ 0x00 ∷ 0x00 ∷ 0x53 ∷ 0x43 ∷ 0x01 ∷ 0x00 ∷ []

cases :
    -- P1 to P4
    (Words.plus (pos 2147483647) (pos 1) ≡ least)
    × (Words.minus least (pos 1) ≡ pos 2147483647)
    × (Words.less (pos 3) (pos 5) ≡ true)
    × (Words.less (pos 5) (pos 5) ≡ false)
    × (Words.less least (pos 1) ≡ true)
    -- P5: write 0 then read 1, no conflict; read 1 after write 1, fate 3
    × (two (does write0) (does (show read1)) ≡ record { outcome = Outcome.fired; state = pos 0 ∷ pos 4 ∷ pos 0 ∷ []; fates = Fate.fired ∷ Fate.fired ∷ []; displays = pos 4 ∷ [] })
    × (two (does write1) (does (show read1)) ≡ record { outcome = Outcome.fired; state = pos 0 ∷ pos 4 ∷ pos 0 ∷ []; fates = Fate.fired ∷ Fate.earlier ∷ []; displays = [] })
    -- P6: one rule writing an RG twice, fate 4
    × (one (does (block (write 0 (num 1)) (write 0 (num 2) ∷ []))) ≡ record { outcome = Outcome.quiet; state = zeros; fates = Fate.hardware ∷ []; displays = [] })
    -- P7: one rule with write 0 and read 1 of a CR, fate 2
    × (one (does (block write0 (show read1 ∷ []))) ≡ record { outcome = Outcome.quiet; state = zeros; fates = Fate.inside ∷ []; displays = [] })
    -- P8: a Num as a rule guard, 21
    × (one (rule 2 0 (num 1) write0) ≡ record { outcome = Outcome.stuck 0 21; state = zeros; fates = Fate.stuck ∷ []; displays = [] })
    -- P9: empty file, 9 at 0
    × (Records.reading [] ≡ Reading.refusal (record { number = 9; place = 0 }))
    -- P10: the start values, and three clocks
    × (start_reply P10 (pos 1 ∷ pos 2 ∷ []) ≡ record { answer = Answer.answered tt; after = pos 5 ∷ pos 2 ∷ [] })
    × (run_reply P10 3 (pos 5 ∷ pos 2 ∷ []) ≡ record { answer = Answer.answered (record { ending = Ending.limit; count = 3 }); after = pos 8 ∷ pos 2 ∷ [] })
unfolding computing reading
cases = (refl, refl, refl, refl, refl, refl, refl, refl, refl, refl, refl, refl, refl)

-- below 2, instance 0 is displayed and counts up
abbrev tally : Body
tally = rule 2 0 (less (read 0) (num 2)) (block (show (read 0)) (write 0 (plus (read 0) (num 1)) ∷ []))

-- unavailable, and stuck where instance 0 is 1
abbrev picky : Body
picky = rule 2 0 holds (block (when (equal (read 0) (num 1)) (show (local 7))) [])

abbrev halting : Design
halting = D (tally ∷ does (block (show (num 9)) (write 0 (num 3) ∷ [])) ∷ does (block (show (num 8)) (local 0 ∷ [])) ∷ []) (1 ∷ 2 ∷ 0 ∷ [])

stuck_clocks :
    -- rules 1, 2 and 0 by schedule: their fates are 0, 5 and 6, rule 2 is named, the state is restored and the display stands
    (clock halting zeros
    ≡ record { outcome = Outcome.stuck 2 22; state = zeros; fates = Fate.fired ∷ Fate.stuck ∷ Fate.not_reached ∷ []; displays = pos 9 ∷ [] })
    × (run halting 9 zeros ≡ record { ending = Ending.stuck 2 22; count = 0; state = zeros })
    -- a rule sees what the rules before it wrote; the run keeps its earlier clocks
    × (run (D (tally ∷ picky ∷ []) (1 ∷ 0 ∷ [])) 9 zeros ≡ record { ending = Ending.stuck 1 22; count = 1; state = pos 1 ∷ pos 0 ∷ pos 0 ∷ [] })
unfolding computing
stuck_clocks = (refl, refl, refl)

forgotten :
    -- rule 0 is held back by itself, so its calls hold back none
    two (does (block write0 (show read1 ∷ []))) (does (show read1))
    ≡ record { outcome = Outcome.fired; state = zeros; fates = Fate.inside ∷ Fate.fired ∷ []; displays = pos 0 ∷ [] }
unfolding computing
forgotten = refl

forgotten_calls :
    -- a read 1 that stood would hold back the write 0 of rule 1
    two (does (block write0 (show read1 ∷ []))) (does write0)
    ≡ record { outcome = Outcome.fired; state = pos 0 ∷ pos 4 ∷ pos 0 ∷ []; fates = Fate.inside ∷ Fate.fired ∷ []; displays = [] }
unfolding computing
forgotten_calls = refl

endings :
    (run (D (tally ∷ []) (0 ∷ [])) 0 zeros ≡ record { ending = Ending.limit; count = 0; state = zeros })
    × (run (D (tally ∷ []) (0 ∷ [])) 2 zeros ≡ record { ending = Ending.limit; count = 2; state = pos 2 ∷ pos 0 ∷ pos 0 ∷ [] })
    -- the third and last clock is quiet, and a clock count of 32 bits
    × (run (D (tally ∷ []) (0 ∷ [])) 3 zeros ≡ record { ending = Ending.quiet; count = 2; state = pos 2 ∷ pos 0 ∷ pos 0 ∷ [] })
    × (run (D (tally ∷ []) (0 ∷ [])) 4294967295 zeros ≡ record { ending = Ending.quiet; count = 2; state = pos 2 ∷ pos 0 ∷ pos 0 ∷ [] })
    -- an empty schedule; a rule that is absent from the schedule
    × (run (D (tally ∷ []) []) 1 zeros ≡ record { ending = Ending.quiet; count = 0; state = zeros })
unfolding computing
endings = (refl, refl, refl, refl, refl)

-- buffers of so many fates and displays, all 7
abbrev lent : List ℤ → ℕ → ℕ → Buffers
lent state f d = record { state = state; fates = replicate f 7; displays = replicate d (pos 7) }

abbrev shows : Design
shows = D (does (show (num 1)) ∷ []) (0 ∷ [])

buffers :
    (clock_on shows (lent zeros 64 4096)
    ≡ record {
      answer = Answer.answered (record { outcome = Outcome.fired; displays = 1 });
      after = record { state = zeros; fates = 0 ∷ replicate 63 7; displays = pos 1 ∷ replicate 4095 (pos 7) };
    })
    -- 10, 11 and 12, in this order
    × (clock_on shows (lent (pos 0 ∷ []) 63 4095) ≡ record { answer = Answer.refused (record { number = 10; place = 0 }); after = lent (pos 0 ∷ []) 63 4095 })
    × (clock_on shows (lent zeros 63 4095) ≡ record { answer = Answer.refused (record { number = 11; place = 0 }); after = lent zeros 63 4095 })
    × (clock_on shows (lent zeros 64 4095) ≡ record { answer = Answer.refused (record { number = 12; place = 0 }); after = lent zeros 64 4095 })
    × (start_on shows (pos 3 ∷ pos 3 ∷ pos 3 ∷ []) ≡ record { answer = Answer.answered tt; after = pos 0 ∷ pos 0 ∷ pos 3 ∷ [] })
    × (start_on shows [] ≡ record { answer = Answer.refused (record { number = 10; place = 0 }); after = [] })
    -- a refused file comes before the buffers
    × (run_reply [] 3 zeros ≡ record { answer = Answer.refused (record { number = 9; place = 0 }); after = zeros })
unfolding computing reading
buffers = (refl, refl, refl, refl, refl, refl, refl)
