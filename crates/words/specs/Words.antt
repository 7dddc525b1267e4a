-- The board's numbers: 32 bits with a sign, whose sums and differences wrap, and their ordinary order.
-- `pos n` is the integer n, and `negsuc n` the integer -(n + 1).
use Rattle.std.specs.Prelude.{ℕ, ◌-◌, ◌%◌, ◌^◌, Bool, true, false, cond, ℤ, pos, negsuc, ◌+ℤ◌, ◌-ℤ◌, ◌==◌, nat_lt}

-- "modulo 2^32": the word of an integer is its residue, the one natural below 2^32 that differs from it by a multiple of 2^32.
unfoldable pub word : ℤ → ℕ
word (pos n) = n % 2 ^ 32
word (negsuc n) = 2 ^ 32 - 1 - n % 2 ^ 32

-- "Numbers are signed, 32 bits": a word below 2^31 stands for itself, and any other for itself less 2^32.
unfoldable pub number : ℕ → ℤ
number w = cond (nat_lt w (2 ^ 31)) (pos w) (pos w -ℤ pos (2 ^ 32))

-- The number of 32 bits that differs from an integer by a multiple of 2^32.
unfoldable pub wrap : ℤ → ℤ
wrap z = number (word z)

-- "Plus and minus wrap modulo 2^32."
unfoldable pub plus : ℤ → ℤ → ℤ
plus a b = wrap (a +ℤ b)

-- "Plus and minus wrap modulo 2^32."
unfoldable pub minus : ℤ → ℤ → ℤ
minus a b = wrap (a -ℤ b)

-- Request 02, in the place of document 01's sentence: "less is the ordinary signed order, at the rails too". A number that is not
-- negative is never below a negative one, whatever the two differ by; -(m + 1) is below -(n + 1) where n is below m.
unfoldable pub less : ℤ → ℤ → Bool
less (pos m) (pos n) = nat_lt m n
less (pos m) (negsuc n) = false
less (negsuc m) (pos n) = true
less (negsuc m) (negsuc n) = nat_lt n m

-- Whether two numbers are the same.
unfoldable pub equal : ℤ → ℤ → Bool
equal (pos m) (pos n) = m == n
equal (pos m) (negsuc n) = false
equal (negsuc m) (pos n) = false
equal (negsuc m) (negsuc n) = m == n
