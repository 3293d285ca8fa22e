-- CALLS ONE AFTER THE OTHER, each of which met its contract. A step's `later` is what its buffer holds afterwards; what it answered, and where things lay, is
-- left open. Assumes nothing: these are definitions.
use mathlib.Core.Path.{◌≡◌}
use mathlib.Core.List.{List, [], ◌∷◌, ◌++◌}
use Prim.Native.Nat.{ℕ}
use Rattle.astrephon.specs.Sequences.{Stop}
use Rattle.astrephon.proofs.Contracts.{Carried, Made, Gather, Scatter, MoveTray, MovePair}

-- one call
abbrev pub Moved : (xs ys : List ℕ) → (a b : ℕ) → (t held later : List ℕ) → Type 0
Moved xs ys a b t held later = (m : Made 4) × (r : Carried) × MoveTray m xs ys a b t held r later

abbrev pub PairMoved : (xs ys : List ℕ) → (i j a b : ℕ) → (t held later : List ℕ) → Type 0
PairMoved xs ys i j a b t held later = (m : Made 4) × (r : Carried) × MovePair m xs ys i j a b t held r later

abbrev pub Gathered : (xs : List ℕ) → (e a b : ℕ) → (file held later : List ℕ) → Type 0
Gathered xs e a b file held later = (m : Made 3) × (r : Carried) × Gather m xs e a b file held r later

abbrev pub Scattered : (xs : List ℕ) → (e a b : ℕ) → (packed held later : List ℕ) → Type 0
Scattered xs e a b packed held later = (m : Made 3) × (r : Carried) × Scatter m xs e a b packed held r later

-- MOVES from t, a tray of xs, to the first stop of a list, and from each to the next; `last` is what the last buffer holds
unfoldable pub Chain : (xs : List ℕ) → List Stop → (a b : ℕ) → (t last : List ℕ) → Type 0
Chain xs [] a b t last = last ≡ t
Chain xs (s ∷ rest) a b t last = (later : List ℕ) × Moved xs s.0 a b t s.1 later × Chain s.0 rest a b later last

-- PAIR MOVES of a list of pairs, all from t and into one buffer
unfoldable pub Pairs : (xs ys : List ℕ) → List (ℕ × ℕ) → (a b : ℕ) → (t held last : List ℕ) → Type 0
Pairs xs ys [] a b t held last = last ≡ held
Pairs xs ys (q ∷ rest) a b t held last = (later : List ℕ) × PairMoved xs ys q.0 q.1 a b t held later × Pairs xs ys rest a b t later last

-- GATHERS of a list of elements, each into the buffer that `packs` gives; `all` is the packed buffers one behind the other
unfoldable pub Gathers : (xs : List ℕ) → (packs : ℕ → List ℕ) → List ℕ → (a b : ℕ) → (file all : List ℕ) → Type 0
Gathers xs packs [] a b file all = all ≡ []
Gathers xs packs (e ∷ rest) a b file all =
    (packed more : List ℕ) × Gathered xs e a b file (packs e) packed × Gathers xs packs rest a b file more × (all ≡ packed ++ more)

-- EACH ELEMENT of a list gathered from `file`, and scattered from there into one buffer
unfoldable pub Scatters : (xs : List ℕ) → (packs : ℕ → List ℕ) → List ℕ → (a b : ℕ) → (file held last : List ℕ) → Type 0
Scatters xs packs [] a b file held last = last ≡ held
Scatters xs packs (e ∷ rest) a b file held last =
    (packed later : List ℕ) × Gathered xs e a b file (packs e) packed × Scattered xs e a b packed held later × Scatters xs packs rest a b file later last
