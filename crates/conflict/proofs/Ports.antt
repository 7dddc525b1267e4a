-- Two methods of a register: what each is, a read or a write, picks the comparison of their ports.
use Prim.Native.Nat.{ℕ, ◌/◌, ◌%◌}
use mathlib.Core.Path.{◌≡◌, refl, sym, ◌∙◌}
use mathlib.Core.Bool.{Bool, false}
use native.Mathlib.Omega.{arith}
use borrow.Author.Tests.{eq-eqb, ne_eqb}
use Rattle.meaning.specs.Lookup.{Access, access}
use Rattle.meaning.specs.Conflict.{inside_ports, earlier_ports}
use Rattle.conflict.specs.declared.Access as Code
use Rattle.conflict.specs.Post.{access_of, Ruled}

-- ---- one method

pub reads : (m : ℕ) → m % 2 ≡ 0 → access_of (Code.Access.Read (m % 8 / 2)) ≡ access (m % 8)
unfolding access access_of
reads m e = rw (eq-eqb (m % 8 % 2) 0 (omega arith))

pub writes : (m : ℕ) → (m % 2 ≡ 0 → ⊥) → access_of (Code.Access.Write (m % 8 / 2)) ≡ access (m % 8)
unfolding access access_of
writes m ne = rw (ne_eqb (m % 8 % 2) 0 (omega arith))

-- what a match on it found
module _ (m i : ℕ) {x : Code.Access} where
  pub a_read : x ≡ Code.Access.Read i → access_of x ≡ access (m % 8) → access (m % 8) ≡ Access.read i
  unfolding access_of
  a_read e h = sym h ∙ rw e

  pub a_write : x ≡ Code.Access.Write i → access_of x ≡ access (m % 8) → access (m % 8) ≡ Access.write i
  unfolding access_of
  a_write e h = sym h ∙ rw e

-- ---- two methods

pub ruled : (rule : Access → Access → Bool) {a b : ℕ} {p q : Access} {r : Bool} → access (a % 8) ≡ p → access (b % 8) ≡ q → r ≡ rule p q → Ruled rule a b r
ruled rule {a} {b} p q e = record {
  ruled = λ k l.
      let m : a % 8 ≡ a = omega arith in
      let n : b % 8 ≡ b = omega arith in
      e ∙ rw (sym p, sym q, m, n);
}

-- "any order"
pub either_order : (i j : ℕ) {r : Bool} → r ≡ inside_ports (Access.write i) (Access.read j) → r ≡ inside_ports (Access.read j) (Access.write i)
unfolding inside_ports
either_order i j e = e

-- two reads, where no comparison is made
pub two_reads : (rule : Access → Access → Bool) → ((i j : ℕ) → false ≡ rule (Access.read i) (Access.read j)) → {a b i j : ℕ} {x y : Code.Access} →
    x ≡ Code.Access.Read i → access_of x ≡ access (a % 8) → y ≡ Code.Access.Read j → access_of y ≡ access (b % 8) → Ruled rule a b false
two_reads rule never {a} {b} {i} {j} e h f k = ruled rule (a_read a i e h) (a_read b j f k) (never i j)

pub never_inside : (i j : ℕ) → false ≡ inside_ports (Access.read i) (Access.read j)
unfolding inside_ports
never_inside i j = refl

pub never_earlier : (i j : ℕ) → false ≡ earlier_ports (Access.read i) (Access.read j)
unfolding earlier_ports
never_earlier i j = refl
