-- Laws of the words and the numbers of specs/Words.antt. A word below 2^32 and a number of 32 bits determine each other, as the kit's `to_z` and `of_z` do.
-- The residue of a sum is that of the sum of the residues, by cases on the signs. From this and that a difference and what was taken away make up the
-- first number again follows the law of differences. The order of two numbers is the sign of their difference before it wraps.
use Rattle.std.proofs.Common.{add_comm, ◌≡◌, ℕ, zero, suc, ◌+◌, ◌-◌, ◌*◌, ◌/◌, ◌%◌, ◌^◌, ◌<◌, ◌≤◌, true, false, ltb, ℤ, pos, negsuc, ◌+ℤ◌, ◌-ℤ◌, ◌*ℤ◌, neg_ℤ, sym, refl, ap, ◌∙◌, true≢false, arith, w32, SFits, to_z, of_z, le-ltb, lt-ltb, eq-eqb, eqb-true}
use native.Mathlib.Decide.{dec_lt}
use lib.IntN.{sub_ℕ, -ℤ-+ℤ_cancel}
use mir.ValLaws.{to_z-Fits, to_z-of_z, of_z-to_z}
use Rattle.words.specs.Words.{word, number, wrap, plus, minus, less, equal}

-- ---- a word and its number

pub word_below : (z : ℤ) → word z < 2 ^ 32
unfolding word
word_below (pos n) = omega arith
word_below (negsuc n) = omega arith

pub number_low : (w : ℕ) → w < 2 ^ 31 → number w ≡ pos w
unfolding number
number_low w h = rw (lt-ltb w (2 ^ 31) h)

pub number_high : (w : ℕ) → 2 ^ 31 ≤ w → w < 2 ^ 32 → number w ≡ negsuc (2 ^ 32 - suc w)
unfolding number
number_high w h k = rw (le-ltb w (2 ^ 31) h, lt-ltb w (2 ^ 32) k)

pub word_of_z : (z : ℤ) → SFits w32 z → word z ≡ of_z w32 z
unfolding word
word_of_z (pos n) f = omega arith
word_of_z (negsuc n) f = omega arith

pub number_to_z : (w : ℕ) → w < 2 ^ 32 → number w ≡ to_z w32 w
unfolding number
number_to_z w k = go (dec_lt w (2 ^ 31))
  where
    go : Dec (w < 2 ^ 31) → number w ≡ to_z w32 w
    go (yes h) = rw (lt-ltb w (2 ^ 31) h)
    go (no h) = let l : 2 ^ 31 ≤ w = omega arith in rw (le-ltb w (2 ^ 31) l, lt-ltb w (2 ^ 32) k)

pub number_fits : (w : ℕ) → w < 2 ^ 32 → SFits w32 (number w)
number_fits w k = rw (number_to_z w k) (to_z-Fits w32 w (record { fits = k }))

pub wrap_fits : (z : ℤ) → SFits w32 (wrap z)
unfolding wrap
wrap_fits z = number_fits (word z) (word_below z)

pub number_word : (z : ℤ) → SFits w32 z → number (word z) ≡ z
number_word z f = number_to_z (word z) (word_below z) ∙ ap (to_z w32) (word_of_z z f) ∙ to_z-of_z w32 z f

pub word_number : (w : ℕ) → w < 2 ^ 32 → word (number w) ≡ w
word_number w k = word_of_z (number w) (number_fits w k) ∙ ap (of_z w32) (number_to_z w k) ∙ of_z-to_z w32 w (record { fits = k })

pub wrap_same : (z : ℤ) → SFits w32 z → wrap z ≡ z
unfolding wrap
wrap_same = number_word

pub word_wrap : (z : ℤ) → word (wrap z) ≡ word z
unfolding wrap
word_wrap z = word_number (word z) (word_below z)

-- ---- sums and differences

word_sub_ℕ : (a b : ℕ) → word (sub_ℕ a (suc b)) ≡ (a % 2 ^ 32 + (2 ^ 32 - 1 - b % 2 ^ 32)) % 2 ^ 32
unfolding word
word_sub_ℕ a b = go (dec_lt a (suc b))
  where
    go : Dec (a < suc b) → word (sub_ℕ a (suc b)) ≡ (a % 2 ^ 32 + (2 ^ 32 - 1 - b % 2 ^ 32)) % 2 ^ 32
    go (yes h) = rw (lt-ltb a (suc b) h) (omega arith)
    go (no h) = let l : suc b ≤ a = omega arith in rw (le-ltb a (suc b) l) (omega arith)

pub word_sum : (a b : ℤ) → word (a +ℤ b) ≡ (word a + word b) % 2 ^ 32
unfolding word
word_sum (pos a) (pos b) = omega arith
word_sum (pos a) (negsuc b) = word_sub_ℕ a b
word_sum (negsuc a) (pos b) = word_sub_ℕ b a ∙ omega arith
word_sum (negsuc a) (negsuc b) = omega arith

cancel : (r s x : ℕ) → r < 2 ^ 32 → s < 2 ^ 32 → (r + x) % 2 ^ 32 ≡ (s + x) % 2 ^ 32 → r ≡ s
cancel r s x h k e = omega arith

pub word_difference : (a b : ℤ) (r : ℕ) → r < 2 ^ 32 → (r + word b) % 2 ^ 32 ≡ word a → word (a -ℤ b) ≡ r
word_difference a b r h e =
    cancel (word (a -ℤ b)) r (word b) (word_below (a -ℤ b)) h
    (sym (word_sum (a -ℤ b) b) ∙ ap word (-ℤ-+ℤ_cancel a b) ∙ sym e)

-- the wrapping sum and difference of two numbers' bits, read as a number
pub summed : (a b : ℤ) → SFits w32 a → SFits w32 b → to_z w32 ((of_z w32 a + of_z w32 b) % 2 ^ 32) ≡ plus a b
unfolding plus wrap
summed a b f g =
    sym (number_to_z ((of_z w32 a + of_z w32 b) % 2 ^ 32) (omega arith))
    ∙ ap number (rw (← word_of_z a f, ← word_of_z b g) (sym (word_sum a b)))

-- the same with the operands changed round: a sum is the same either way
pub summed_round : (a b : ℤ) → SFits w32 a → SFits w32 b → to_z w32 ((of_z w32 b + of_z w32 a) % 2 ^ 32) ≡ plus a b
summed_round a b f g = rw (add_comm (of_z w32 b) (of_z w32 a)) (summed a b f g)

pub subtracted : (a b : ℤ) → SFits w32 a → SFits w32 b → to_z w32 ((of_z w32 a + (2 ^ 32 - of_z w32 b)) % 2 ^ 32) ≡ minus a b
unfolding minus wrap
subtracted a b f g =
    sym (number_to_z ((of_z w32 a + (2 ^ 32 - of_z w32 b)) % 2 ^ 32) (omega arith))
    ∙ ap number (sym (word_difference a b ((of_z w32 a + (2 ^ 32 - of_z w32 b)) % 2 ^ 32) (omega arith)
    (rw (← word_of_z a f, ← word_of_z b g) (omega (arith, word_below a, word_below b)))))

pub plus_congruent : (a b : ℤ) → word (plus a b) ≡ (word a + word b) % 2 ^ 32
unfolding plus
plus_congruent a b = word_wrap (a +ℤ b) ∙ word_sum a b

pub minus_congruent : (a b : ℤ) → (word (minus a b) + word b) % 2 ^ 32 ≡ word a
unfolding minus
minus_congruent a b =
    ap (λ (n : ℕ). (n + word b) % 2 ^ 32) (word_wrap (a -ℤ b)) ∙ sym (word_sum (a -ℤ b) b) ∙ ap word (-ℤ-+ℤ_cancel a b)

pub plus_fits : (a b : ℤ) → SFits w32 (plus a b)
unfolding plus
plus_fits a b = wrap_fits (a +ℤ b)

pub minus_fits : (a b : ℤ) → SFits w32 (minus a b)
unfolding minus
minus_fits a b = wrap_fits (a -ℤ b)

pub plus_same : (a b : ℤ) → SFits w32 (a +ℤ b) → plus a b ≡ a +ℤ b
unfolding plus
plus_same a b = wrap_same (a +ℤ b)

pub minus_same : (a b : ℤ) → SFits w32 (a -ℤ b) → minus a b ≡ a -ℤ b
unfolding minus
minus_same a b = wrap_same (a -ℤ b)

-- ---- `wrap z` is the one number of 32 bits that differs from z by a multiple of 2^32

word_multiple : (k : ℤ) → word (k *ℤ pos (2 ^ 32)) ≡ 0
unfolding word
word_multiple (pos n) = omega arith
word_multiple (negsuc n) = let e : suc n * 2 ^ 32 ≡ suc (n * 2 ^ 32 + 4294967295) = omega arith in rw e (omega arith)

pub wrap_only : (y z k : ℤ) → SFits w32 y → z ≡ y +ℤ k *ℤ pos (2 ^ 32) → wrap z ≡ y
unfolding wrap
wrap_only y z k f e =
    ap number (ap word e ∙ word_sum y (k *ℤ pos (2 ^ 32)) ∙ rw (word_multiple k) (omega (arith, word_below y))) ∙ number_word y f

-- -m, taken from a negative number
less_more : (r m : ℕ) → negsuc r +ℤ neg_ℤ (pos m) ≡ negsuc (r + m)
less_more r zero = rw (lt-ltb 0 (suc r) (omega arith)) (ap negsuc (omega arith))
less_more r (suc m) = ap negsuc (omega arith)

times_negated : (q : ℕ) → neg_ℤ (pos q) *ℤ pos (2 ^ 32) ≡ neg_ℤ (pos (q * 2 ^ 32))
times_negated zero = refl
times_negated (suc q) = refl

pub wrap_multiple : (z : ℤ) → (k : ℤ) × (z ≡ wrap z +ℤ k *ℤ pos (2 ^ 32))
unfolding wrap word
wrap_multiple (pos n) = go (dec_lt (n % 2 ^ 32) (2 ^ 31))
  where
    go : Dec (n % 2 ^ 32 < 2 ^ 31) → (k : ℤ) × (pos n ≡ wrap (pos n) +ℤ k *ℤ pos (2 ^ 32))
    go (yes h) = (pos (n / 2 ^ 32), rw (number_low (n % 2 ^ 32) h) (ap pos (omega arith)))
    go (no h) = (
      pos (suc (n / 2 ^ 32)),
      rw (number_high (n % 2 ^ 32) (omega arith) (omega arith), le-ltb (suc (n / 2 ^ 32) * 2 ^ 32) (suc (2 ^ 32 - suc (n % 2 ^ 32))) (omega arith))
          (ap pos (omega arith)),
    )
wrap_multiple (negsuc n) = go (dec_lt (2 ^ 32 - 1 - n % 2 ^ 32) (2 ^ 31))
  where
    go : Dec (2 ^ 32 - 1 - n % 2 ^ 32 < 2 ^ 31) → (k : ℤ) × (negsuc n ≡ wrap (negsuc n) +ℤ k *ℤ pos (2 ^ 32))
    go (yes h) = (
      negsuc (n / 2 ^ 32),
      let e : suc (n / 2 ^ 32) * 2 ^ 32 ≡ suc (n / 2 ^ 32 * 2 ^ 32 + 4294967295) = omega arith in
          rw (number_low (2 ^ 32 - 1 - n % 2 ^ 32) h, e, lt-ltb (2 ^ 32 - 1 - n % 2 ^ 32) (suc (n / 2 ^ 32 * 2 ^ 32 + 4294967295)) (omega arith))
          (ap negsuc (omega arith)),
    )
    go (no h) = (
      neg_ℤ (pos (n / 2 ^ 32)),
      rw (number_high (2 ^ 32 - 1 - n % 2 ^ 32) (omega arith) (omega arith), times_negated (n / 2 ^ 32), less_more) (ap negsuc (omega arith)),
    )

-- ---- the order

stepped : (m n : ℕ) → ltb (suc m) (suc n) ≡ ltb m n
stepped m n = go (dec_lt m n)
  where
    go : Dec (m < n) → ltb (suc m) (suc n) ≡ ltb m n
    go (yes h) = lt-ltb (suc m) (suc n) (omega arith) ∙ sym (lt-ltb m n h)
    go (no h) = le-ltb (suc m) (suc n) (omega arith) ∙ sym (le-ltb m n (omega arith))

below_zero : (m n : ℕ) → less (sub_ℕ m (suc n)) (pos 0) ≡ ltb m (suc n)
unfolding less
below_zero m n = go (dec_lt m (suc n))
  where
    go : Dec (m < suc n) → less (sub_ℕ m (suc n)) (pos 0) ≡ ltb m (suc n)
    go (yes h) = rw (lt-ltb m (suc n) h)
    go (no h) = rw (le-ltb m (suc n) (omega arith)) (le-ltb (m - suc n) 0 (omega arith))

-- a number is below another where their difference is below 0
less_difference : (a b : ℤ) → less (a -ℤ b) (pos 0) ≡ less a b
unfolding less
less_difference (pos m) (pos zero) = let e : m + 0 ≡ m = omega arith in rw e
less_difference (pos m) (pos (suc n)) = below_zero m n
less_difference (pos m) (negsuc n) = le-ltb (m + suc n) 0 (omega arith)
less_difference (negsuc m) (pos n) = ap (λ (z : ℤ). less z (pos 0)) (less_more m n)
less_difference (negsuc m) (negsuc n) = below_zero (suc n) m ∙ stepped n m

-- where the difference fits 32 bits, a bare subtracter has the same answer
pub less_fits : (a b : ℤ) → SFits w32 (a -ℤ b) → less (minus a b) (pos 0) ≡ less a b
less_fits a b f = rw (minus_same a b f) (less_difference a b)

-- ---- equality

pub equal_true : (a b : ℤ) → equal a b ≡ true → a ≡ b
unfolding equal
equal_true (pos m) (pos n) e = ap pos (eqb-true m n e)
equal_true (negsuc m) (negsuc n) e = ap negsuc (eqb-true m n e)
equal_true (pos m) (negsuc n) e = let z : ◌≡◌ {A = ℕ} 0 1 = cc in absurd (omega arith)
equal_true (negsuc m) (pos n) e = let z : ◌≡◌ {A = ℕ} 0 1 = cc in absurd (omega arith)

pub equal_same : (a : ℤ) → equal a a ≡ true
unfolding equal
equal_same (pos n) = eq-eqb n n refl
equal_same (negsuc n) = eq-eqb n n refl

pub equal_false : (a b : ℤ) → equal a b ≡ false → a ≡ b → ⊥
equal_false a b e p = true≢false (sym (equal_same a) ∙ (rw (← p) at e))
