-- What a caller of one clock, of a run and of the setting of start values is answered, and what its buffers hold afterwards.
use Rattle.std.specs.Prelude.{ℕ, suc, List, [], ◌∷◌, ◌++◌, map, leb, eqb, ℤ, length, drop}
use Rattle.design.specs.Syntax.{Instance, Design}
use Rattle.design.specs.Take.{Refusal}
use Rattle.design.specs.Records.{Reading, reading}
use Rattle.meaning.specs.Lookup.{with_word}
use Rattle.meaning.specs.Naming.{Test, passed, failed, if_passed, test}
use Rattle.meaning.specs.Conflict.{fate_number}
use Rattle.meaning.specs.Clock.{Outcome, Tick, clock}
use Rattle.meaning.specs.Run.{Ending, Ran, run}

-- ---- refusals

pub data Answer (A : Type 0) : Type 0 where
  refused : Refusal → Answer A
  answered : A → Answer A

-- an answer, and the buffers B afterwards
pub record Reply (A B : Type 0) : Type 0 where
  pub answer : Answer A
  pub after : B

unfoldable pub reply : {A B : Type 0} → A → B → Reply A B
reply a b = record { answer = answered a; after = b }

-- "Numbers 1 to 12 change no buffer."
unfoldable pub refuse : {A B : Type 0} → Refusal → B → Reply A B
refuse why b = record { answer = refused why; after = b }

-- 1 to 9 come from reading the file, "Then 10, 11, 12", whose place is 0
unfoldable pub with_design : {A B : Type 0} → (file : List ℕ) → B → (Design → Reply A B) → Reply A B
with_design file b f =
    elim (reading file) [
      | Reading.refusal why ↦ refuse why b
      | Reading.design D ↦ f D
    ]

unfoldable pub with_room : {A B : Type 0} → Test (Unit {0}) → B → (Unit {0} → Reply A B) → Reply A B
with_room (passed ok) b f = f ok
with_room (failed n) b f = refuse (record { number = n; place = 0 }) b

-- "10: state length is not the instance count"
unfoldable pub state_fits : Design → List ℤ → Test (Unit {0})
state_fits D state = test (eqb (length state) (length D.instances)) 10 (passed tt)

-- ---- one clock

pub record Buffers : Type 0 where
  pub state : List ℤ
  pub fates : List ℕ
  pub displays : List ℤ

-- "11: fate buffer under 64 entries"; "12: display buffer under 4,096 entries"
unfoldable pub buffers_fit : Design → Buffers → Test (Unit {0})
buffers_fit D b =
    if_passed (state_fits D b.state) (λ ok.
    test (leb 64 (length b.fates)) 11 (
    test (leb 4096 (length b.displays)) 12 (
    passed tt)))

-- "One clock also answers how many displays it made"
pub record Clocked : Type 0 where
  pub outcome : Outcome
  pub displays : ℕ

-- New entries from the front; the old ones past them stay. At most 64 rules display at most 64 times each, so there is room.
unfoldable pub over : {A : Type 0} → (new old : List A) → List A
over new old = new ++ drop (length new) old

-- "Fates past the schedule, and displays past those made, stay."
unfoldable pub filled : Buffers → Tick → Reply Clocked Buffers
filled b t =
    reply (record { outcome = t.outcome; displays = length t.displays }) (record {
      state = t.state;
      fates = over (map fate_number t.fates) b.fates;
      displays = over t.displays b.displays;
    })

-- "One clock tests all three"
unfoldable pub clock_on : Design → Buffers → Reply Clocked Buffers
clock_on D b = with_room (buffers_fit D b) b (λ ok. filled b (clock D b.state))

unfoldable pub clock_reply : (file : List ℕ) → Buffers → Reply Clocked Buffers
clock_reply file b = with_design file b (λ D. clock_on D b)

-- ---- "a run and the setting of start values test 10 only"

pub record Counted : Type 0 where
  pub ending : Ending
  pub count : ℕ

unfoldable pub counted : Ran → Reply Counted (List ℤ)
counted r = reply (record { ending = r.ending; count = r.count }) r.state

unfoldable pub run_on : Design → (clocks : ℕ) → List ℤ → Reply Counted (List ℤ)
run_on D n state = with_room (state_fits D state) state (λ ok. counted (run D n state))

unfoldable pub run_reply : (file : List ℕ) → (clocks : ℕ) → List ℤ → Reply Counted (List ℤ)
run_reply file n state = with_design file state (λ D. run_on D n state)

-- The start values of the instances from number i on. "A user instance's state entry is neither read nor written."
unfoldable pub starts : Design → (i : ℕ) → List Instance → List ℤ → List ℤ
starts D i [] state = state
starts D i (Instance.register p z ∷ xs) state = starts D (suc i) xs (with_word D state i z)
starts D i (Instance.concurrent p n z ∷ xs) state = starts D (suc i) xs (with_word D state i z)
starts D i (Instance.user p ∷ xs) state = starts D (suc i) xs state

unfoldable pub started : Design → List ℤ → List ℤ
started D state = starts D 0 D.instances state

unfoldable pub start_on : Design → List ℤ → Reply (Unit {0}) (List ℤ)
start_on D state = with_room (state_fits D state) state (λ ok. reply tt (started D state))

unfoldable pub start_reply : (file : List ℕ) → List ℤ → Reply (Unit {0}) (List ℤ)
start_reply file state = with_design file state (λ D. start_on D state)
