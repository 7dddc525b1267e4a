-- New entries over old ones: what a store or a part right behind the new ones does, and where they stand over the first old ones.
use Prim.Native.Nat.{ℕ, suc, ◌+◌, ◌≤◌, ◌<◌}
use mathlib.Core.Path.{◌≡◌, refl, sym, ap, ◌∙◌}
use mathlib.Core.List.{List, [], ◌∷◌, ◌++◌, append_assoc}
use native.Mathlib.Omega.{arith}
use lib.ListN.{length, take, drop, get_or, set, length-append, length-drop}
use lib.Seq.{drop-cons, set-append_seam, length-take-le, take-append_seam, drop-append_seam}
use Rattle.std.proofs.lemmas.List.{drop-drop, drop-append-le, take-append-drop}
use borrow.Rule.Slice.PartMut.{put_mid}
use Rattle.meaning.specs.Buffers.{over}

pub over_none : {A : Type 0} (old : List A) → over [] old ≡ old
unfolding over
over_none old = refl

-- where a buffer is longer than what is new in it, so were the old entries
pub longer : {A : Type 0} (new old : List A) → length new < length (over new old) → length new < length old
unfolding over
longer new old h = omega (arith, length-append new (drop (length new) old), length-drop (length new) old)

pub over_one : {A : Type 0} (new old : List A) (a d : A) → length new < length old → set (over new old) (length new) a ≡ over (new ++ (a ∷ [])) old
unfolding over
over_one new old a d h =
    let n : length (new ++ (a ∷ [])) ≡ suc (length new) = length-append new (a ∷ []) ∙ omega arith in
    rw (drop-cons old (length new) d h, n) (set-append_seam new (get_or old (length new) d) (drop (suc (length new)) old) a ∙ sym (append_assoc new (a ∷ []) (drop (suc (length new)) old)))

-- a part that is written right behind the new entries
pub over_more : {A : Type 0} (new more old : List A) → put_mid (length new) (length more) (over new old) more ≡ over (new ++ more) old
unfolding over
over_more new more old =
    let k = drop (length new) old in
    rw (take-append_seam new k, drop-append_seam new k, drop-drop (length more) (length new) old, length-append new more)
    (sym (append_assoc new more (drop (length new + length more) old)))

-- where a buffer is as long as the old entries, there are no more new ones
pub within : {A : Type 0} (new old : List A) → length (over new old) ≡ length old → length new ≤ length old
unfolding over
within new old h = omega (arith, length-append new (drop (length new) old), length-drop (length new) old)

-- new entries over the first n old ones, with the others behind
pub over_part : {A : Type 0} (new old : List A) (n : ℕ) → length new ≤ n → n ≤ length old → over new (take n old) ++ drop n old ≡ over new old
unfolding over
over_part new old n h l =
    let k : length new ≤ length (take n old) = omega (arith, length-take-le n old l) in
    append_assoc new (drop (length new) (take n old)) (drop n old)
    ∙ ap (λ x. new ++ x) (sym (drop-append-le (length new) (take n old) (drop n old) k) ∙ ap (drop (length new)) (take-append-drop n old))
