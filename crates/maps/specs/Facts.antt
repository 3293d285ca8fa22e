-- What the code asks of a selection has one proof at most, so a struct may hold it as a ghost field. Assumes nothing.
use mathlib.Core.List.{List}
use native.Mathlib.Nat.{ℕ_set}
use native.Mathlib.Bridge.{le_prop}
use Rattle.families.specs.declared.Family.{Family}
use Rattle.families.specs.Props.{WF-prop}
use Rattle.maps.specs.declared.Selection.{Selection}
use Rattle.maps.specs.Selected.{families_of, SelectionOk}

pub selection_prop : (s : Selection) (families : List Family) → IsProp (SelectionOk s families)
selection_prop s families x y = λ i. record {
  sound = WF-prop _ _ (families_of s families) x.sound y.sound i;
  size = ℕ_set _ _ x.size y.size i;
  some = le_prop x.some y.some i;
  short = le_prop x.short y.short i;
}
