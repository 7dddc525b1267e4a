-- A number has one decimal, and one text with its sign: two answers that the promises allow are the same.
use Prim.Native.Nat.{ℕ, ◌-◌, ◌^◌, ◌<◌, ◌≤◌}
use mathlib.Core.Path.{◌≡◌, sym, ap, ◌∙◌}
use mathlib.Core.List.{List, ◌∷◌}
use native.Mathlib.Omega.{arith}
use native.Mathlib.Nat.{pow-le-pow_right}
use lib.IntN.{ℤ, pos, negsuc}
use Rattle.io.specs.Digits.{last_digits, IsDigitCount}
use Rattle.print.specs.Page.{Page, Puts, Decimal, Signed, Spells, Writes}

-- with more digits than k, which hold n, the number would be larger
fewer : {n : ℕ} (k m : ℕ) → IsDigitCount 10 1 n k → IsDigitCount 10 1 n m → k < m → ⊥
fewer {n} k m f g h =
    let a : 1 < m = omega (arith, f.0) in
    let p : 10 ^ (m - 1) ≤ n = g.2 a in
    let q : 10 ^ k ≤ 10 ^ (m - 1) = pow-le-pow_right (omega arith) (omega arith) in
    omega (arith, f.1, p, q)

pub same_decimal : {n : ℕ} {t u : List ℕ} → Decimal n t → Decimal n u → t ≡ u
same_decimal {n} {t} {u} d e = d.spelt ∙ ap (λ (k : ℕ). last_digits 10 k n) same ∙ sym e.spelt
  where
    low : d.size < e.size → ⊥
    low h = fewer d.size e.size d.fewest e.fewest h

    high : e.size < d.size → ⊥
    high h = fewer e.size d.size e.fewest d.fewest h

    same : d.size ≡ e.size
    same = omega (arith, low, high)

pub same_signed : (x : ℤ) {t u : List ℕ} → Signed x t → Signed x u → t ≡ u
unfolding Signed
same_signed (pos n) d e = same_decimal d e
same_signed (negsuc n) d e = d.2 ∙ ap (λ (bs : List ℕ). 45 ∷ bs) (same_decimal d.1 e.1) ∙ sym e.2

module _ {before after after' : Page} where
  both : {t u : List ℕ} → Puts t before after → Puts u before after' → t ≡ u → after ≡ after'
  both p q e = rw (p.all, e, sym q.all)

  pub same_spelt : {n : ℕ} → Spells n before after → Spells n before after' → after ≡ after'
  same_spelt s z = both s.puts z.puts (same_decimal s.decimal z.decimal)

  pub same_written : {x : ℤ} → Writes x before after → Writes x before after' → after ≡ after'
  same_written {x} s z = both s.puts z.puts (same_signed x s.signed z.signed)
