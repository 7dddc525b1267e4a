-- What a rule recorded, as the code keeps it: a number for each event. The low byte is the instance, 255 for a display (no file has that
-- many), the next byte the method, and above them stands the word of the number that was given or displayed.
use Rattle.std.specs.Prelude.{ℕ, ◌/◌, ◌%◌, ◌<◌, ◌≡◌, true, cond, List, map, eqb, ℤ}
use Rattle.std.proofs.Math.Option.{some}
use Rattle.std.proofs.Math.ListN.{get_elem?}
use Rattle.words.specs.Words.{number}
use Rattle.design.specs.Syntax.{Design}
use Rattle.meaning.specs.Values.{Event}
use Rattle.meaning.specs.Lookup.{is_register}

unfoldable pub event_of : ℕ → Event
event_of n =
    cond (eqb (n % 256) 255)
    (Event.display (number (n / 65536 % 4294967296)))
    (Event.call (n % 256) (n / 256 % 256) (number (n / 65536 % 4294967296)))

abbrev pub events : List ℕ → List Event
events log = map event_of log

-- the calls of registers name ports that there are: a CR has at most four
pub record Ported (D : Design) (es : List Event) : Type 0 where
  pub ported : (k i m : ℕ) (z : ℤ) → get_elem? es k ≡ some (Event.call i m z) → is_register D i ≡ true → m < 8
