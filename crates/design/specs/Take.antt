-- How bytes are taken from the front of what is left, and how the first refusal ends it.
use Rattle.std.specs.Prelude.{ℕ, ◌+◌, ◌*◌, Bool, true, false, List, [], ◌∷◌}

-- a number of "Numbers handed back", with its place
pub record Refusal : Type 0 where
  pub number : ℕ
  pub place : ℕ

-- what was read and the bytes that are left, or a refusal
pub data Read (A : Type 0) : Type 0 where
  got : A → List ℕ → Read A
  refused : Refusal → Read A

-- the first refusal decides
unfoldable pub bind : {A B : Type 0} → Read A → (A → List ℕ → Read B) → Read B
bind (got a s) f = f a s
bind (refused r) f = refused r

-- what has to hold, or the refusal
unfoldable pub needs : {A : Type 0} → Bool → Refusal → Read A → Read A
needs true why x = x
needs false why x = refused why

unfoldable pub pick : {A : Type 0} → Bool → A → A → A
pick true a b = a
pick false a b = b

unfoldable pub byte : Refusal → List ℕ → Read ℕ
byte cut [] = refused cut
byte cut (b ∷ s) = got b s

-- "Multi-byte numbers are little-endian"
unfoldable pub two_bytes : Refusal → List ℕ → Read ℕ
two_bytes cut s = bind (byte cut s) (λ a s1. bind (byte cut s1) (λ b s2. got (a + 256 * b) s2))

unfoldable pub four_bytes : Refusal → List ℕ → Read ℕ
four_bytes cut s =
    bind (byte cut s) (λ a s1. bind (byte cut s1) (λ b s2. bind (byte cut s2) (λ c s3. bind (byte cut s3) (λ d s4.
    got (a + 256 * b + 65536 * c + 16777216 * d) s4))))
