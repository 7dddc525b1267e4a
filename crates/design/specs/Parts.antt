-- "The body of a rule or method is handed out as its part of the file (a rule's with its guard), never as a copy; a number that names
-- none, or a refused file, gets the empty part."
use Rattle.std.specs.Prelude.{ℕ, List, [], ◌∷◌, eqb, take, drop}
use Rattle.std.proofs.Math.Option.{Option, some, none}
use Rattle.std.proofs.Math.ListN.{get_elem?}
use Rattle.design.specs.Syntax.{Method, Rule, Body}
use Rattle.design.specs.Take.{pick}
use Rattle.design.specs.Records.{Reading, design, refusal, reading, methods, rules}

-- "Methods are numbered from 0 within their instance"
unfoldable pub of_owner : ℕ → List Method → List Method
of_owner i [] = []
of_owner i (x ∷ xs) = pick (eqb x.owner i) (x ∷ of_owner i xs) (of_owner i xs)

unfoldable pub method_of : List Body → (instance method : ℕ) → Option Method
method_of bs i m = get_elem? (of_owner i (methods bs)) m

-- a part of the file: where it starts, and how many bytes it has
pub record Part : Type 0 where
  pub start : ℕ
  pub size : ℕ

unfoldable pub nowhere : Part
nowhere = record { start = 0; size = 0 }

unfoldable pub part_of_rule : Option Rule → Part
part_of_rule none = nowhere
part_of_rule (some r) = record { start = r.start; size = r.size }

unfoldable pub part_of_method : Option Method → Part
part_of_method none = nowhere
part_of_method (some x) = record { start = x.start; size = x.size }

unfoldable pub rule_in : Reading → ℕ → Part
rule_in (design D) n = part_of_rule (get_elem? (rules D.bodies) n)
rule_in (refusal why) n = nowhere

unfoldable pub method_in : Reading → (instance method : ℕ) → Part
method_in (design D) i m = part_of_method (method_of D.bodies i m)
method_in (refusal why) i m = nowhere

abbrev pub bytes_of : List ℕ → Part → List ℕ
bytes_of file p = take p.size (drop p.start file)

unfoldable pub rule_part : List ℕ → ℕ → List ℕ
rule_part file n = bytes_of file (rule_in (reading file) n)

unfoldable pub method_part : List ℕ → (instance method : ℕ) → List ℕ
method_part file i m = bytes_of file (method_in (reading file) i m)
