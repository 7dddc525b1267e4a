-- The one-place queues of document 000, sections 8.2 and 8.3, without their display of a text, and with drain's guard compared with 1.
use Rattle.std.specs.Prelude.{ℕ, ◌+◌, ◌*◌, List, [], ◌∷◌, ◌≡◌, refl, ℤ, pos}
use Rattle.design.specs.Syntax.{Expr, Kind, Role, Body, Design}
use Rattle.meaning.specs.Build.{num, holds, local, plus, equal, when, show, call0, call1, read, write, block, RG, CR, UM, method, rule}
use Rattle.meaning.specs.Conflict.{Fate}
use Rattle.meaning.specs.Run.{Ending, run}
use Rattle.meaning.specs.Transcript.{Line, transcript, computing}

-- as document 000 numbers them: 0 x, 1 full, 2 data, 3 f, 4 main; enq goes by port `into`, the others by port `out`
abbrev read_by : ℕ → ℕ → Expr
read_by port i = call0 i (2 * port)

abbrev write_by : ℕ → ℕ → Expr → Expr
write_by port i e = call1 i (2 * port + 1) e

abbrev enq : ℕ → Body
enq into =
    method 3 0 Role.action Kind.void (Kind.num ∷ []) (when (equal (read_by into 1) (num 0))
    (block (write_by into 2 (local 0)) (write_by into 1 (num 1) ∷ [])))

abbrev not_empty : ℕ → Body
not_empty out = method 3 0 Role.value Kind.num [] (read_by out 1)

abbrev first : ℕ → Body
first out = method 3 0 Role.value Kind.num [] (when (equal (read_by out 1) (num 1)) (read_by out 2))

abbrev deq : ℕ → Body
deq out = method 3 0 Role.action Kind.void [] (when (equal (read_by out 1) (num 1)) (write_by out 1 (num 0)))

abbrev feed : Body
feed = rule 4 0 holds (block (call1 3 0 (read 0)) (write 0 (plus (read 0) (num 1)) ∷ []))

abbrev drain : Body
drain = rule 4 0 (equal (call0 3 1) (num 1)) (block (show (call0 3 2)) (call0 3 3 ∷ []))

-- rules 0 feed, 1 drain
abbrev queue : (into out : ℕ) → (schedule : List ℕ) → Design
queue into out rules = record {
  instances = RG 0 ∷ CR 2 0 ∷ CR 2 0 ∷ UM ∷ UM ∷ [];
  bodies = enq into ∷ not_empty out ∷ first out ∷ deq out ∷ feed ∷ drain ∷ [];
  schedule = rules;
}

-- "Sched 1" is drain, feed, and "Sched 2" is feed, drain
abbrev pub pipeline_1 : Design
pipeline_1 = queue 1 0 (1 ∷ 0 ∷ [])

abbrev pub pipeline_2 : Design
pipeline_2 = queue 1 0 (0 ∷ 1 ∷ [])

abbrev pub bypass_1 : Design
bypass_1 = queue 0 1 (1 ∷ 0 ∷ [])

abbrev pub bypass_2 : Design
bypass_2 = queue 0 1 (0 ∷ 1 ∷ [])

-- the entries of f and main hold anything
abbrev begin : List ℤ
begin = pos 0 ∷ pos 0 ∷ pos 0 ∷ pos 7 ∷ pos 7 ∷ []

abbrev line : Fate → Fate → List ℤ → Line
line a b zs = record { fates = a ∷ b ∷ []; displays = zs }

pipeline :
    -- both fire once the queue is full
    (transcript pipeline_1 4 begin
    ≡ line Fate.unavailable Fate.fired []
    ∷ line Fate.fired Fate.fired (pos 0 ∷ [])
    ∷ line Fate.fired Fate.fired (pos 1 ∷ [])
    ∷ line Fate.fired Fate.fired (pos 2 ∷ [])
    ∷ [])
    -- they take turns
    × (transcript pipeline_2 6 begin
    ≡ line Fate.fired Fate.earlier []
    ∷ line Fate.unavailable Fate.fired (pos 0 ∷ [])
    ∷ line Fate.fired Fate.earlier []
    ∷ line Fate.unavailable Fate.fired (pos 1 ∷ [])
    ∷ line Fate.fired Fate.earlier []
    ∷ line Fate.unavailable Fate.fired (pos 2 ∷ [])
    ∷ [])
unfolding computing
pipeline = (refl, refl)

bypass :
    -- they take turns: feed may not follow drain
    (transcript bypass_1 5 begin
    ≡ line Fate.unavailable Fate.fired []
    ∷ line Fate.fired Fate.earlier (pos 0 ∷ [])
    ∷ line Fate.unavailable Fate.fired []
    ∷ line Fate.fired Fate.earlier (pos 1 ∷ [])
    ∷ line Fate.unavailable Fate.fired []
    ∷ [])
    -- both fire on every clock
    × (transcript bypass_2 4 begin
    ≡ line Fate.fired Fate.fired (pos 0 ∷ [])
    ∷ line Fate.fired Fate.fired (pos 1 ∷ [])
    ∷ line Fate.fired Fate.fired (pos 2 ∷ [])
    ∷ line Fate.fired Fate.fired (pos 3 ∷ [])
    ∷ [])
unfolding computing
bypass = (refl, refl)

-- "Cycle limit reached: 100", which is 101 clocks: x 101 or 51, full 1, data 100 or 50
ends :
    (run pipeline_1 101 begin ≡ record { ending = Ending.limit; count = 101; state = pos 101 ∷ pos 1 ∷ pos 100 ∷ pos 7 ∷ pos 7 ∷ [] })
    × (run pipeline_2 101 begin ≡ record { ending = Ending.limit; count = 101; state = pos 51 ∷ pos 1 ∷ pos 50 ∷ pos 7 ∷ pos 7 ∷ [] })
unfolding computing
ends = (refl, refl)
