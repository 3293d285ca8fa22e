-- The families' numbers in a row, six a family, as a sheet's records hold them. No function lays them out: a layout's array is lent as it stands
-- (`Layout::siblings`). Assumes nothing: these are definitions.
use Rattle.std.specs.Prelude.{List, [], ◌∷◌, ℕ, ◌+◌, ◌*◌, get_or}
use Rattle.families.specs.declared.Family.{Family}

-- n stands last: a family that has a segment stands whole
unfoldable pub row_of : List Family → List ℕ
row_of [] = []
row_of (f ∷ fs) = f.children ∷ f.span ∷ f.l ∷ f.r ∷ f.s ∷ f.n ∷ row_of fs

abbrev pub family_at : List ℕ → ℕ → Family
family_at row i =
    record { children = get_or row (6 * i) 0; span = get_or row (6 * i + 1) 0; l = get_or row (6 * i + 2) 0; r = get_or row (6 * i + 3) 0; s = get_or row (6 * i + 4) 0; n = get_or row (6 * i + 5) 0 }
