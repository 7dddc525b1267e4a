-- Whether values have kinds: one law for each way in which a test returns.
use Prim.Native.Nat.{ℕ, zero, suc, min, ◌+◌, ◌≤◌, ◌<◌}
use mathlib.Core.Path.{◌≡◌, refl, ap, sym, ◌∙◌}
use mathlib.Core.Bool.{Bool, true, false, ◌&&◌}
use mathlib.Core.List.{List, map}
use native.Mathlib.Numerals.{add-one}
use native.Mathlib.Omega.{arith}
use lib.ListN.{length, drop, get_or}
use lib.Seq.{drop-cons}
use Rattle.std.proofs.lemmas.Bool.{ne_eqb}
use Rattle.std.proofs.lemmas.List.{drop_all}
use Rattle.std.proofs.Math.Nat.{min-eq_right}
use denote.Enum.Bare.{sameb}
use Rattle.design.specs.Records as R
use Rattle.design.specs.Kinds as K
use Rattle.design.specs.Take.{pick}
use Rattle.design.specs.declared.kinds.Kind as DK
use Rattle.design.specs.contracts.kinds.Kind.{the_type}
use Rattle.rule.specs.declared.Value as DV
use Rattle.meaning.specs.Values.{kind_of, same_kind, same_kinds}
use Rattle.rule.specs.Answers.{value, env_of}
use Rattle.rule.specs.Named.{Fitting}

-- ---- one value

-- the code finds two of its kinds equal where the kinds that they stand for are
same_is : (a b : DK.Kind) → sameb the_type a b ≡ same_kind (K.kind a) (K.kind b)
unfolding K.kind same_kind
same_is DK.Kind.Void DK.Kind.Void = refl
same_is DK.Kind.Void DK.Kind.Num = refl
same_is DK.Kind.Void DK.Kind.Bool = refl
same_is DK.Kind.Num DK.Kind.Void = refl
same_is DK.Kind.Num DK.Kind.Num = refl
same_is DK.Kind.Num DK.Kind.Bool = refl
same_is DK.Kind.Bool DK.Kind.Void = refl
same_is DK.Kind.Bool DK.Kind.Num = refl
same_is DK.Kind.Bool DK.Kind.Bool = refl

module _ (k : DK.Kind) {v : DV.Value} {t : Bool} where
  pub num_kind : {w : ℕ} → v ≡ DV.Value.Num w → t ≡ sameb the_type k DK.Kind.Num → t ≡ same_kind (K.kind k) (kind_of (value v))
  unfolding value kind_of K.kind
  num_kind e h = rw e (h ∙ same_is k DK.Kind.Num)

  pub bool_kind : {b : Bool} → v ≡ DV.Value.Bool b → t ≡ sameb the_type k DK.Kind.Bool → t ≡ same_kind (K.kind k) (kind_of (value v))
  unfolding value kind_of K.kind
  bool_kind e h = rw e (h ∙ same_is k DK.Kind.Bool)

  pub void_kind : v ≡ DV.Value.Void → t ≡ sameb the_type k DK.Kind.Void → t ≡ same_kind (K.kind k) (kind_of (value v))
  unfolding value kind_of K.kind
  void_kind e h = rw e (h ∙ same_is k DK.Kind.Void)

-- every number from 2 on is Bool's
at_most_two : (n : ℕ) → R.kind_of (min n 2) ≡ R.kind_of n
unfolding R.kind_of pick
at_most_two zero = refl
at_most_two (suc zero) = refl
at_most_two (suc (suc n)) =
    let two : min (suc (suc n)) 2 ≡ 2 = min-eq_right (omega arith) in
    rw (two, ne_eqb (suc (suc n)) 0 (omega arith), ne_eqb (suc (suc n)) 1 (omega arith)) refl

pub numbered : (n : ℕ) (k : DK.Kind) (v : DV.Value) {c : ℕ} {t : Bool} → c ≡ min n 2 → K.kind k ≡ R.kind_of c → t ≡ same_kind (K.kind k) (kind_of (value v)) →
    t ≡ same_kind (R.kind_of n) (kind_of (value v))
numbered n k v c r h = h ∙ ap (λ x. same_kind x (kind_of (value v))) (r ∙ ap R.kind_of c ∙ at_most_two n)

-- ---- a row of values

-- the values from j on have the kinds from j on
abbrev from : (kinds : List ℕ) (locals : List DV.Value) (j : ℕ) → Bool
from kinds locals j = same_kinds (map R.kind_of (drop j kinds)) (map kind_of (env_of (drop j locals)))

-- the values from j on decide
pub record Decides (kinds : List ℕ) (locals : List DV.Value) (j : ℕ) : Type 0 where
  pub whole : length kinds ≡ length locals → from kinds locals 0 ≡ from kinds locals j

-- the next value, and those behind it
next : (kinds : List ℕ) (locals : List DV.Value) {j b : ℕ} → j < length kinds → length kinds ≡ length locals → b ≡ get_or kinds j 0 →
    from kinds locals j ≡ same_kind (R.kind_of b) (kind_of (value (get_or locals j (DV.Value.Num 0)))) && from kinds locals (j + 1)
unfolding same_kinds env_of
next kinds locals {j} {b} l n h = rw (drop-cons kinds j 0 l, drop-cons locals j (DV.Value.Num 0) (omega arith), add-one j, h)

module _ {kinds : List ℕ} {locals : List DV.Value} where
  pub starts : Decides kinds locals 0
  starts = record { whole = λ n. refl }

  whole_is : {r : Bool} → (length kinds ≡ length locals → r ≡ from kinds locals 0) → Fitting kinds locals r
  whole_is e = record { fits = e }

  module _ (k : DK.Kind) {j b : ℕ} {t : Bool} {v : DV.Value} (d : Decides kinds locals j) (l : j < length kinds)
      (read : K.kind k ≡ R.kind_of b) (same : t ≡ same_kind (K.kind k) (kind_of (value v))) (is : v ≡ get_or locals j (DV.Value.Num 0)) (h : b ≡ get_or kinds j 0) where
    pub other_kind : t ≡ false → Fitting kinds locals false
    other_kind z = whole_is (λ n. sym (d.whole n ∙ next kinds locals l n h ∙ ap (λ s. s && from kinds locals (j + 1)) (sym (rw (read, is) at same) ∙ z)))

    pub goes : t ≡ true → Decides kinds locals (j + 1)
    goes z = record { whole = λ n. d.whole n ∙ next kinds locals l n h ∙ ap (λ s. s && from kinds locals (j + 1)) (sym (rw (read, is) at same) ∙ z) }

  pub all : {j : ℕ} → Decides kinds locals j → (length kinds ≡ length locals → length kinds ≤ j) → Fitting kinds locals true
  unfolding same_kinds env_of
  all {j} d l =
      whole_is (λ n. sym (d.whole n ∙ rw (drop_all j kinds (l n), drop_all j locals (omega (arith, l n))) refl))
