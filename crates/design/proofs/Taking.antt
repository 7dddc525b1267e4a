-- How bytes are taken from the front of a list: a byte that was found or not, and two and four of them by where they stand.
-- The laws speak of a text and a place in it, as the code does, and of the list behind that place, as the definitions do.
use Prim.Native.Nat.{ℕ, suc, ◌+◌, ◌*◌, ◌≤◌, ◌<◌}
use mathlib.Core.Path.{◌≡◌, refl}
use mathlib.Core.List.{List, [], ◌∷◌}
use Rattle.std.specs.Prelude.{Option, Some, None}
use native.Mathlib.Numerals.{add-one, add-two, add-three, add-four}
use native.Mathlib.Omega.{arith}
use lib.ListN.{length, drop, get_or, length-drop}
use lib.Seq.{drop-cons}
use Rattle.design.specs.Take.{Refusal, got, refused, bind, byte, two_bytes, four_bytes}
use Rattle.design.specs.Text.{Seen, Follows, Sees, Room, Bytes}

-- what `byte` found
module _ {text : List ℕ} {at : ℕ} {x : Option (ℕ × ℕ)} where
  pub found : {b n : ℕ} → Sees text at x → x ≡ Some (b, n) → (why : Refusal) → byte why (drop at text) ≡ got b (drop n text)
  unfolding Seen
  found h e = rw e at h.seen

  pub ended : Sees text at x → x ≡ None → (why : Refusal) → byte why (drop at text) ≡ refused why
  unfolding Seen
  ended h e = rw e at h.seen

  pub follows : {b n : ℕ} → Sees text at x → x ≡ Some (b, n) → (n ≡ at + 1) × (n ≤ length text) × (b < 256) × (b ≡ get_or text at 0)
  unfolding Follows
  follows h e = rw e at h.follows

  pub past : Sees text at x → x ≡ None → length text ≤ at
  unfolding Follows
  past h e = rw e at h.follows

-- what `skip_bytes` found
module _ {text : List ℕ} {at count : ℕ} {x : Option ℕ} where
  pub room : {n : ℕ} → Bytes text at count x → x ≡ Some n → (n ≡ at + count) × (n ≤ length text)
  unfolding Room
  room h e = rw e at h.room

  pub no_room : Bytes text at count x → x ≡ None → length text < at + count
  unfolding Room
  no_room h e = rw e at h.room

-- four bytes, and two
pub four_short : (why : Refusal) (s : List ℕ) → length s < 4 → four_bytes why s ≡ refused why
unfolding four_bytes bind byte
four_short why [] h = refl
four_short why (a ∷ []) h = refl
four_short why (a ∷ b ∷ []) h = refl
four_short why (a ∷ b ∷ c ∷ []) h = refl
four_short why (a ∷ b ∷ c ∷ d ∷ s) h = absurd (omega arith)

pub two_short : (why : Refusal) (s : List ℕ) → length s < 2 → two_bytes why s ≡ refused why
unfolding two_bytes bind byte
two_short why [] h = refl
two_short why (a ∷ []) h = refl
two_short why (a ∷ b ∷ s) h = absurd (omega arith)

-- the numbers that they make
abbrev pub four : List ℕ → ℕ → ℕ
four text at = get_or text at 0 + 256 * get_or text (at + 1) 0 + 65536 * get_or text (at + 2) 0 + 16777216 * get_or text (at + 3) 0

abbrev pub two : List ℕ → ℕ → ℕ
two text at = get_or text at 0 + 256 * get_or text (at + 1) 0

module _ (why : Refusal) (text : List ℕ) (at : ℕ) where
  pub four_cut : length text < at + 4 → four_bytes why (drop at text) ≡ refused why
  four_cut h = four_short why (drop at text) (simp length-drop (omega arith))

  pub two_cut : length text < at + 2 → two_bytes why (drop at text) ≡ refused why
  two_cut h = two_short why (drop at text) (simp length-drop (omega arith))

  pub four_at : at + 4 ≤ length text → four_bytes why (drop at text) ≡ got (four text at) (drop (at + 4) text)
  unfolding four_bytes bind byte
  four_at h =
      rw (drop-cons text at 0 (omega arith), drop-cons text (suc at) 0 (omega arith), drop-cons text (suc (suc at)) 0 (omega arith), drop-cons text (suc (suc (suc at))) 0 (omega arith), add-one at, add-two at, add-three at, add-four at)

  pub two_at : at + 2 ≤ length text → two_bytes why (drop at text) ≡ got (two text at) (drop (at + 2) text)
  unfolding two_bytes bind byte
  two_at h = rw (drop-cons text at 0 (omega arith), drop-cons text (suc at) 0 (omega arith), add-one at, add-two at)
