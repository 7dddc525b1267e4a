-- Text that fits, and text that does not.
use Rattle.std.specs.Prelude.{◌≡◌, refl, [], ◌∷◌}
use Rattle.print.specs.Page.{put, puts}

pages :
    (puts (record { buffer = 1 ∷ 0 ∷ 0 ∷ 9 ∷ []; end = 1 }) (7 ∷ 8 ∷ []) ≡ record { buffer = 1 ∷ 7 ∷ 8 ∷ 9 ∷ []; end = 3 })
    × (puts (record { buffer = 1 ∷ 0 ∷ 0 ∷ []; end = 2 }) (7 ∷ 8 ∷ 9 ∷ []) ≡ record { buffer = 1 ∷ 0 ∷ 7 ∷ []; end = 3 })
    × (puts (record { buffer = 1 ∷ []; end = 5 }) (7 ∷ []) ≡ record { buffer = 1 ∷ []; end = 5 })
unfolding put puts
pages = (refl, refl, refl)
