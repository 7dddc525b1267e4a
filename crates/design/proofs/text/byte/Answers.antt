-- `byte` meets its contract. Assumes nothing.
use Prim.Native.Nat.{ℕ}
use native.Mathlib.Numerals.{add-one}
use mathlib.Core.Path.{refl}
use native.Mathlib.Omega.{arith}
use lib.ListN.{drop_of_length-le}
use lib.Seq.{drop-cons}
use Rattle.design.specs.Take.{byte}
use Rattle.design.specs.Text.{Seen, Follows}
use Rattle.design.proofs.text.byte.Goals as goal

pub returns-then-at-text : goal.returns-then-at-text
unfolding Seen Follows byte
returns-then-at-text c = record {
  seen = λ why. rw (add-one, drop-cons {A = ℕ} _ _ 0 c.if-at-text.true);
  follows =
      let g = c.type_inv.text c.args.at in
      (refl, omega arith, omega (arith, g), refl);
}

pub returns-else-at-text : goal.returns-else-at-text
unfolding Seen Follows byte
returns-else-at-text c = record { seen = λ why. rw (drop_of_length-le _ c.if-at-text.false); follows = c.if-at-text.false }
