-- A text goes into a buffer byte by byte: what is left of it decides the page that comes of the whole. A number's sign is the dash before its size.
use Prim.Native.Nat.{ℕ, ◌+◌, ◌<◌, ◌≤◌}
use mathlib.Core.Path.{◌≡◌, refl, ap, ◌∙◌}
use mathlib.Core.List.{List, [], ◌∷◌}
use native.Mathlib.Omega.{arith}
use native.Mathlib.Numerals.{add-one}
use borrow.Author.Tests.{lt-ltb, le-ltb}
use lib.IntN.{ℤ, pos, negsuc}
use lib.Signed.{lt_z}
use Rattle.std.proofs.Common.{unsigned_abs, true, false, true≢false, ltb-true}
use lib.ListN.{length, set, get_or, drop, drop_of_length-le}
use lib.Seq.{drop-cons}
use mir.Syntax.{w32}
use mir.Val.{SFits, of_z, to_z}
use mir.ValLaws.{to_z-of_z}
use Rattle.print.specs.Page.{Page, put, puts, Puts, Signed, Spells, Writes}

abbrev held : List ℕ → ℕ → Page
held b n = record { buffer = b; end = n }

module _ {out : List ℕ} {at b : ℕ} where
  pub put_room : at < length out → Puts (b ∷ []) (held out at) (held (set out at b) (at + 1))
  unfolding put puts
  put_room h = record { all = rw (lt-ltb at (length out) h) }

  pub put_full : length out ≤ at → Puts (b ∷ []) (held out at) (held out at)
  unfolding put puts
  put_full h = record { all = rw (le-ltb at (length out) h) }

-- so far the first k bytes of w went in
pub record Filling (w : List ℕ) (before now : Page) (k : ℕ) : Type 0 where
  pub left : puts now (drop k w) ≡ puts before w

module _ {w : List ℕ} {before : Page} where
  pub filling_start : Filling w before before 0
  filling_start = record { left = refl }

  pub filling_on : {now after : Page} {k : ℕ} → Filling w before now k → k < length w → Puts (get_or w k 0 ∷ []) now after → Filling w before after (k + 1)
  unfolding puts
  filling_on {now} {after} {k} f h p = record { left = rw (add-one k, p.all) (rw (drop-cons w k 0 h) at f.left) }

  pub filling_done : {now : Page} {k : ℕ} → Filling w before now k → length w ≤ k → Puts w before now
  unfolding puts
  filling_done {now} {k} f h = record { all = rw (drop_of_length-le w h) at f.left }

-- what the machine reads back from the bits of x
abbrev read : ℤ → ℤ
read x = to_z w32 (of_z w32 x)

-- a number is the dash where it is negative, and the digits of its distance from 0
module _ {x : ℤ} {size : ℕ} {before after : Page} where
  pub plain : SFits w32 x → lt_z (read x) (pos 0) ≡ false → size ≡ unsigned_abs (read x) → Spells size before after → Writes x before after
  unfolding Signed
  plain f h e s = go x (rw (to_z-of_z w32 x f) at h) (rw (to_z-of_z w32 x f) at e)
    where
      go : (x : ℤ) → lt_z x (pos 0) ≡ false → size ≡ unsigned_abs x → Writes x before after
      go (pos n) h e = record { text = s.text; signed = rw e at s.decimal; puts = s.puts }
      go (negsuc n) h e = absurd (true≢false h)

  pub dashed : {mid : Page} → SFits w32 x → lt_z (read x) (pos 0) ≡ true → size ≡ unsigned_abs (read x) → Puts (45 ∷ []) before mid → Spells size mid after → Writes x before after
  unfolding Signed puts
  dashed {mid} f h e p s = go x (rw (to_z-of_z w32 x f) at h) (rw (to_z-of_z w32 x f) at e)
    where
      go : (x : ℤ) → lt_z x (pos 0) ≡ true → size ≡ unsigned_abs x → Writes x before after
      go (pos n) h e = absurd (omega (arith, ltb-true n 0 h))
      go (negsuc n) h e =
          let q : size ≡ n + 1 = omega (arith, e) in
          record { text = 45 ∷ s.text; signed = (s.text, rw q at s.decimal, refl); puts = record { all = s.puts.all ∙ ap (λ (g : Page). puts g s.text) p.all } }
