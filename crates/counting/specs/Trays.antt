-- Trays, and what moves bytes between them, for the window of the n numbers from a on. Assumes nothing: these are definitions.
use Rattle.std.specs.Prelude.{◌&&◌, cond, ℕ, ◌+◌, ◌-◌, ◌<◌, length, get_or}
use mathlib.Core.List.{List, [], ◌∷◌, ◌++◌, foldl, Memᴰ}
use Rattle.counting.specs.Count.{count_in}
use Rattle.counting.specs.Gather.{gathered, scattered}
use Rattle.counting.specs.Elements.{Elements, element}

-- how many numbers of the window the elements have together
unfoldable pub counts : Elements → (a n : ℕ) → ℕ
counts [] a n = 0
counts (p ∷ L) a n = count_in p a n + counts L a n

-- THE TRAY of the bytes f: element 0's of the window in order, then element 1's, to the last
unfoldable pub tray : Elements → (a n : ℕ) → (f : ℕ → ℕ) → List ℕ
tray [] a n f = []
tray (p ∷ L) a n f = gathered p a n f ++ tray L a n f

-- where x stands in the tray: after all that the earlier elements have of the window, and what its own has from a on before x
unfoldable pub tray_place : Elements → (a n x : ℕ) → ℕ
tray_place [] a n x = 0
tray_place (p ∷ L) a n x = cond (p x) (count_in p a (x - a)) (count_in p a n + tray_place L a n x)

-- the byte of x in the tray t
abbrev pub in_tray : Elements → (a n : ℕ) → (t : List ℕ) → (x : ℕ) → ℕ
in_tray L a n t x = get_or t (tray_place L a n x) 0

-- ---- moves
-- THE MOVE: the tray of M with the bytes of t, a tray of L
unfoldable pub moved : (L M : Elements) → (a n : ℕ) → (t : List ℕ) → List ℕ
moved L M a n t = tray M a n (in_tray L a n t)

-- THE PAIR MOVE: u, a tray of M, with t's bytes at what element i of L and element j of M share
unfoldable pub pair_moved : (L M : Elements) → (a n : ℕ) → (t : List ℕ) → (i j : ℕ) → (u : List ℕ) → List ℕ
pair_moved L M a n t i j u = tray M a n (λ x. cond (element L i x && element M j x) (in_tray L a n t x) (in_tray M a n u x))

-- the pair moves of a list, in its order
unfoldable pub pair_moves : (L M : Elements) → (a n : ℕ) → (t : List ℕ) → List (ℕ × ℕ) → (u : List ℕ) → List ℕ
pair_moves L M a n t pairs u = foldl (λ v q. pair_moved L M a n t q.0 q.1 v) u pairs

-- the list has each pair of an element of L and one of M, at least once
abbrev pub EachPair : (L M : Elements) → List (ℕ × ℕ) → Type 0
EachPair L M pairs = (i j : ℕ) → i < length L → j < length M → Memᴰ (i, j) pairs

-- ---- scatters
-- a file buffer after the bytes f of each element of a list are packed and put back, in the list's order
unfoldable pub scattered_all : (L : Elements) → (a n : ℕ) → (f : ℕ → ℕ) → List ℕ → (file : List ℕ) → List ℕ
scattered_all L a n f elements file = foldl (λ v i. scattered (element L i) a n (gathered (element L i) a n f) v) file elements

-- the list has each element of L, at least once
abbrev pub EachElement : (L : Elements) → List ℕ → Type 0
EachElement L elements = (i : ℕ) → i < length L → Memᴰ i elements
