-- Sums, differences and comparisons, worked by the definitions. Each is proved by computing it.
use Rattle.std.specs.Prelude.{◌≡◌, true, false, ℤ, pos, negsuc, refl}
use Rattle.words.specs.Words.{word, number, wrap, plus, minus, less, equal}

-- -1, and the least and the greatest number
abbrev minus_one : ℤ
minus_one = negsuc 0

abbrev least : ℤ
least = negsuc 2147483647

abbrev greatest : ℤ
greatest = pos 2147483647

words :
    (word (pos 5) ≡ 5)
    × (word minus_one ≡ 4294967295)
    × (word least ≡ 2147483648)
    -- 2^32, -2^32 and -2^32 - 1
    × (word (pos 4294967296) ≡ 0)
    × (word (negsuc 4294967295) ≡ 0)
    × (word (negsuc 4294967296) ≡ 4294967295)
    × (number 0 ≡ pos 0)
    × (number 2147483647 ≡ greatest)
    × (number 2147483648 ≡ least)
    × (number 4294967295 ≡ minus_one)
    -- 2^31 and -2^31 - 1
    × (wrap (pos 2147483648) ≡ least)
    × (wrap (negsuc 2147483648) ≡ greatest)
unfolding word number wrap
words = (refl, refl, refl, refl, refl, refl, refl, refl, refl, refl, refl, refl)

sums :
    (plus (pos 3) (pos 5) ≡ pos 8)
    × (plus (pos 3) (negsuc 4) ≡ negsuc 1)
    × (plus greatest (pos 1) ≡ least)
    × (plus least least ≡ pos 0)
    × (plus minus_one minus_one ≡ negsuc 1)
    × (plus minus_one (pos 1) ≡ pos 0)
    × (minus (pos 0) (pos 1) ≡ minus_one)
    × (minus least (pos 1) ≡ greatest)
    × (minus greatest minus_one ≡ least)
    × (minus (pos 0) least ≡ least)
    × (minus least least ≡ pos 0)
unfolding word number wrap plus minus
sums = (refl, refl, refl, refl, refl, refl, refl, refl, refl, refl, refl)

comparisons :
    (less (pos 3) (pos 5) ≡ true)
    × (less (pos 5) (pos 3) ≡ false)
    × (less (pos 5) (pos 5) ≡ false)
    × (less minus_one (pos 0) ≡ true)
    × (less (negsuc 1) minus_one ≡ true)
    × (less minus_one (negsuc 1) ≡ false)
    -- at the rails, where the wrapped difference has the other sign
    × (less least (pos 1) ≡ true)
    × (less least greatest ≡ true)
    × (less (negsuc 1) greatest ≡ true)
    × (less greatest least ≡ false)
    × (less greatest minus_one ≡ false)
    × (less (pos 0) least ≡ false)
    -- at the rails, where it has not
    × (less least (pos 0) ≡ true)
    × (less minus_one greatest ≡ true)
    -- a difference still wraps, and so says another thing than the order
    × (less (minus least (pos 1)) (pos 0) ≡ false)
    × (equal (pos 5) (pos 5) ≡ true)
    × (equal (pos 5) (pos 6) ≡ false)
    × (equal least least ≡ true)
    × (equal (pos 0) minus_one ≡ false)
    × (equal minus_one (pos 0) ≡ false)
unfolding word number wrap plus minus less equal
comparisons =
    (refl, refl, refl, refl, refl, refl, refl, refl, refl, refl, refl, refl, refl, refl, refl, refl, refl, refl, refl, refl)
