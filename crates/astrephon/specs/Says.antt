-- WHAT EACH ANSWER SAYS: 01's number and values. The promises of the calls are said of this. Assumes nothing: these are definitions.
use Rattle.std.specs.Prelude.{Result, Ok, Err, List, [], ◌∷◌, ℕ}
use Rattle.families.specs.declared.FileOffset.{FileOffset}
use Rattle.families.specs.declared.SubfileOffset.{SubfileOffset}
use Rattle.openings.specs.declared.Refusal.{Refusal}
use Rattle.openings.specs.Said.{Said, done}
use Rattle.openings.specs.Refusals.{refusal_says}
use Rattle.astrephon.specs.declared.Facts.{Facts}
use Rattle.astrephon.specs.declared.Interval.{Interval}

-- a call did its work and gives the values of its answer, or it is refused
abbrev pub says : {A : Type 0} → (values : A → List ℕ) → Result A Refusal → Said
says values (Ok answer) = done (values answer)
says values (Err f) = refusal_says f

-- an accepted sheet: its pattern's size, how many elements share it, and the displacement
abbrev pub fact_values : Facts → List ℕ
fact_values f = f.size ∷ f.elements ∷ f.displacement ∷ []

-- a subfile offset, a file offset, the first and the last of a span
abbrev pub subfile_value : SubfileOffset → List ℕ
subfile_value y = y.0 ∷ []

abbrev pub file_value : FileOffset → List ℕ
file_value x = x.0 ∷ []

abbrev pub interval_values : Interval → List ℕ
interval_values s = s.first.0 ∷ s.last.0 ∷ []

-- how many runs were listed, how many bytes there are, and how many were written
abbrev pub number_value : ℕ → List ℕ
number_value n = n ∷ []

-- a call that moves bytes gives no value
abbrev pub no_values : Unit {0} → List ℕ
no_values u = []
