-- The promise of `judge` settles its answer: a fate's number leads back to it.
use Prim.Native.Nat.{ℕ}
use mathlib.Core.Path.{◌≡◌, refl, ap, sym, ◌∙◌}
use mathlib.Core.List.{List, [], ◌∷◌}
use lib.ListN.{get_or}
use Rattle.design.specs.Syntax.{Design}
use Rattle.design.specs.Plan.{Plans}
use Rattle.rule.specs.Log.{events, Ported}
use Rattle.conflict.specs.declared.Fate.{Fate}
use Rattle.meaning.specs.Conflict as C
use Rattle.meaning.specs.Conflict.{fate_number}
use Rattle.conflict.specs.Promises.{fate_of, Judges}

answer_of : C.Fate → Fate
answer_of f = get_or (Fate.Fired ∷ Fate.Unavailable ∷ Fate.Inside ∷ Fate.Earlier ∷ Fate.Hardware ∷ Fate.Stuck ∷ Fate.NotReached ∷ []) (fate_number f) Fate.Fired

back : (r : Fate) → answer_of (fate_of r) ≡ r
unfolding answer_of fate_of fate_number
back Fate.Fired = refl
back Fate.Unavailable = refl
back Fate.Inside = refl
back Fate.Earlier = refl
back Fate.Hardware = refl
back Fate.Stuck = refl
back Fate.NotReached = refl

-- what `judge` ensures of a design and what its rules can record, of two answers
pub judge_settled : (plan before mine : List ℕ) (D : Design) → Plans plan D → Ported D (events before) → Ported D (events mine) →
    (a b : Fate) → Judges plan before mine a → Judges plan before mine b → a ≡ b
judge_settled plan before mine D w pb pm a b p q = sym (back a) ∙ ap answer_of (p.judges D w pb pm ∙ sym (q.judges D w pb pm)) ∙ back b
