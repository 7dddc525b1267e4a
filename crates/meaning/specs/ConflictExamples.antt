-- Fates worked by the definitions, from recorded calls. Each is proved by computing it.
use Rattle.std.specs.Prelude.{ℕ, ◌+◌, ◌*◌, List, [], ◌∷◌, ◌≡◌, refl, pos}
use Rattle.design.specs.Syntax.{Kind, Role, Design}
use Rattle.meaning.specs.Values.{Event}
use Rattle.meaning.specs.Build.{num, local, block, RG, CR, UM, method}
use Rattle.meaning.specs.RuleExamples as Rules
use Rattle.meaning.specs.Conflict as Conflict
use Rattle.meaning.specs.Conflict.{Fate, judge}

-- all that a judgement unfolds to
unfoldable pub computing : Unit {0}
unfolding Rules.computing Conflict.fate_number Conflict.inside_ports Conflict.earlier_ports Conflict.on_ports Conflict.clash_inside Conflict.clash_earlier Conflict.is_plain Conflict.clash_hardware Conflict.any Conflict.any_two Conflict.any_pair Conflict.judge
computing = tt

-- Instance 0 is a register of one port, 1 of four. Instance 2 has the methods 0 V, 1 V of a Num, 2 A, 3 AV.
abbrev D : Design
D = record {
  instances = RG 0 ∷ CR 4 0 ∷ UM ∷ UM ∷ [];
  bodies =
      method 2 0 Role.value Kind.num [] (num 1)
      ∷ method 2 0 Role.value Kind.num (Kind.num ∷ []) (local 0)
      ∷ method 2 0 Role.action Kind.void [] (block (num 1) [])
      ∷ method 2 0 Role.action_value Kind.num [] (num 1)
      ∷ [];
  schedule = [];
}

-- read p and write p of instance i; a call of method m of instance 2
abbrev r : ℕ → ℕ → Event
r i p = Event.call i (2 * p) (pos 0)

abbrev w : ℕ → ℕ → Event
w i p = Event.call i (2 * p + 1) (pos 5)

abbrev u : ℕ → Event
u m = Event.call 2 m (pos 0)

abbrev show : Event
show = Event.display (pos 5)

-- what one rule records; what an earlier one and then a later one records
abbrev alone : List Event → Fate
alone mine = judge D [] mine

abbrev after : Event → Event → Fate
after a b = judge D (a ∷ []) (b ∷ [])

within_a_rule :
    (alone [] ≡ Fate.fired)
    -- P6: a register of one port written twice
    × (alone (w 0 0 ∷ w 0 0 ∷ []) ≡ Fate.hardware)
    -- P7: write 0 and read 1, in any order
    × (alone (w 1 0 ∷ r 1 1 ∷ []) ≡ Fate.inside)
    × (alone (r 1 1 ∷ w 1 0 ∷ []) ≡ Fate.inside)
    × (alone (w 1 1 ∷ r 1 1 ∷ []) ≡ Fate.fired)
    × (alone (r 1 0 ∷ w 1 1 ∷ []) ≡ Fate.fired)
    × (alone (w 1 2 ∷ w 1 1 ∷ []) ≡ Fate.inside)
    × (alone (r 1 3 ∷ r 1 0 ∷ r 1 3 ∷ []) ≡ Fate.fired)
    -- other instances
    × (alone (w 0 0 ∷ r 1 1 ∷ w 1 1 ∷ []) ≡ Fate.fired)
    × (alone (w 0 0 ∷ w 1 0 ∷ []) ≡ Fate.fired)
    -- the first fate that applies, not the first pair: 2 before 4
    × (alone (w 1 0 ∷ w 1 0 ∷ r 1 1 ∷ []) ≡ Fate.inside)
    -- user methods, and displays
    × (alone (u 0 ∷ u 0 ∷ []) ≡ Fate.fired)
    × (alone (u 1 ∷ u 1 ∷ []) ≡ Fate.hardware)
    × (alone (u 2 ∷ r 0 0 ∷ u 2 ∷ []) ≡ Fate.hardware)
    × (alone (u 3 ∷ u 3 ∷ []) ≡ Fate.hardware)
    × (alone (u 1 ∷ u 2 ∷ []) ≡ Fate.fired)
    × (alone (show ∷ show ∷ []) ≡ Fate.fired)
unfolding computing
within_a_rule = (refl, refl, refl, refl, refl, refl, refl, refl, refl, refl, refl, refl, refl, refl, refl, refl, refl)

against_an_earlier_rule :
    -- P5: write 0 then read 1, no conflict; read 1 after write 1
    (after (w 1 0) (r 1 1) ≡ Fate.fired)
    × (after (w 1 1) (r 1 1) ≡ Fate.earlier)
    × (after (w 1 1) (r 1 0) ≡ Fate.earlier)
    × (after (w 1 0) (w 1 1) ≡ Fate.fired)
    × (after (w 1 1) (w 1 0) ≡ Fate.earlier)
    -- write i then write i is a hardware conflict
    × (after (w 1 1) (w 1 1) ≡ Fate.hardware)
    × (after (r 1 1) (w 1 0) ≡ Fate.earlier)
    × (after (r 1 1) (w 1 1) ≡ Fate.fired)
    × (after (r 1 1) (r 1 0) ≡ Fate.fired)
    × (after (w 1 1) (r 0 0) ≡ Fate.fired)
    × (after (u 0) (u 0) ≡ Fate.fired)
    × (after (u 1) (u 1) ≡ Fate.hardware)
    × (after (u 3) (u 2) ≡ Fate.fired)
    × (after show show ≡ Fate.fired)
    -- 2 before 3 before 4
    × (judge D (w 1 1 ∷ []) (r 1 0 ∷ w 1 0 ∷ r 1 1 ∷ []) ≡ Fate.inside)
    × (judge D (w 0 0 ∷ []) (w 0 0 ∷ r 0 0 ∷ []) ≡ Fate.earlier)
unfolding computing
against_an_earlier_rule = (refl, refl, refl, refl, refl, refl, refl, refl, refl, refl, refl, refl, refl, refl, refl, refl)

-- ---- every two methods of the register of four ports: a row for each first call, and in it the second calls in the order read 0, write 0,
-- read 1, .. write 3

abbrev F : Fate
F = Fate.fired

abbrev A : Fate
A = Fate.inside

abbrev E : Fate
E = Fate.earlier

abbrev H : Fate
H = Fate.hardware

abbrev p : ℕ → Event
p m = Event.call 1 m (pos 0)

abbrev row : (ℕ → Fate) → List Fate
row f = f 0 ∷ f 1 ∷ f 2 ∷ f 3 ∷ f 4 ∷ f 5 ∷ f 6 ∷ f 7 ∷ []

abbrev inside : ℕ → List Fate
inside a = row (λ b. alone (p a ∷ p b ∷ []))

abbrev across : ℕ → List Fate
across a = row (λ b. after (p a) (p b))

every_two_inside :
    (inside 0 ≡ F ∷ F ∷ F ∷ F ∷ F ∷ F ∷ F ∷ F ∷ [])
    × (inside 1 ≡ F ∷ H ∷ A ∷ A ∷ A ∷ A ∷ A ∷ A ∷ [])
    × (inside 2 ≡ F ∷ A ∷ F ∷ F ∷ F ∷ F ∷ F ∷ F ∷ [])
    × (inside 3 ≡ F ∷ A ∷ F ∷ H ∷ A ∷ A ∷ A ∷ A ∷ [])
    × (inside 4 ≡ F ∷ A ∷ F ∷ A ∷ F ∷ F ∷ F ∷ F ∷ [])
    × (inside 5 ≡ F ∷ A ∷ F ∷ A ∷ F ∷ H ∷ A ∷ A ∷ [])
    × (inside 6 ≡ F ∷ A ∷ F ∷ A ∷ F ∷ A ∷ F ∷ F ∷ [])
    × (inside 7 ≡ F ∷ A ∷ F ∷ A ∷ F ∷ A ∷ F ∷ H ∷ [])
unfolding computing
every_two_inside = (refl, refl, refl, refl, refl, refl, refl, refl)

every_two_across :
    (across 0 ≡ F ∷ F ∷ F ∷ F ∷ F ∷ F ∷ F ∷ F ∷ [])
    × (across 1 ≡ E ∷ H ∷ F ∷ F ∷ F ∷ F ∷ F ∷ F ∷ [])
    × (across 2 ≡ F ∷ E ∷ F ∷ F ∷ F ∷ F ∷ F ∷ F ∷ [])
    × (across 3 ≡ E ∷ E ∷ E ∷ H ∷ F ∷ F ∷ F ∷ F ∷ [])
    × (across 4 ≡ F ∷ E ∷ F ∷ E ∷ F ∷ F ∷ F ∷ F ∷ [])
    × (across 5 ≡ E ∷ E ∷ E ∷ E ∷ E ∷ H ∷ F ∷ F ∷ [])
    × (across 6 ≡ F ∷ E ∷ F ∷ E ∷ F ∷ E ∷ F ∷ F ∷ [])
    × (across 7 ≡ E ∷ E ∷ E ∷ E ∷ E ∷ E ∷ E ∷ H ∷ [])
unfolding computing
every_two_across = (refl, refl, refl, refl, refl, refl, refl, refl)
