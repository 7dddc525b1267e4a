-- A buffer that fills: text goes behind what it holds, byte by byte, and what finds no room is left out.
use Rattle.std.specs.Prelude.{ℕ, ◌+◌, ◌≡◌, cond, List, [], ◌∷◌, ltb, ℤ, pos, negsuc, length, set}
use Rattle.io.specs.Digits.{last_digits, IsDigitCount}
use Rattle.print.specs.declared.Page as Declared

-- the whole buffer, and where its text ends
pub record Page : Type 0 where
  pub buffer : List ℕ
  pub end : ℕ

-- what the code's page holds
abbrev pub page : Declared.Page → Page
page p = record { buffer = p.out.now; end = p.end }

unfoldable pub put : Page → ℕ → Page
put p b = cond (ltb p.end (length p.buffer)) (record { buffer = set p.buffer p.end b; end = p.end + 1 }) p

unfoldable pub puts : Page → List ℕ → Page
puts p [] = p
puts p (b ∷ bs) = puts (put p b) bs

-- text goes behind what the page held
pub record Puts (text : List ℕ) (before after : Page) : Type 0 where
  pub all : after ≡ puts before text

-- a number in decimal, with the fewest digits
pub record Decimal (n : ℕ) (text : List ℕ) : Type 0 where
  pub size : ℕ
  pub fewest : IsDigitCount 10 1 n size
  pub spelt : text ≡ last_digits 10 size n

-- a number with its sign: 45 is the dash
unfoldable pub Signed : ℤ → List ℕ → Type 0
Signed (pos n) text = Decimal n text
Signed (negsuc n) text = (bs : List ℕ) × Decimal (n + 1) bs × (text ≡ 45 ∷ bs)

pub record Spells (n : ℕ) (before after : Page) : Type 0 where
  pub text : List ℕ
  pub decimal : Decimal n text
  pub puts : Puts text before after

pub record Writes (x : ℤ) (before after : Page) : Type 0 where
  pub text : List ℕ
  pub signed : Signed x text
  pub puts : Puts text before after
