-- DEMAND 2, of the contract of `check`: a list of bytes is accepted exactly when it is the sheet of trees that meet the rules and share the pattern out, and the
-- answer has their numbers. Assumes nothing.
use mathlib.Core.Path.{◌≡◌, refl, sym, ap, ◌∙◌}
use mathlib.Core.List.{List}
use Prim.Native.Nat.{ℕ}
use lib.ListN.{length}
use Rattle.std.specs.Prelude.{Ok}
use Rattle.families.specs.Flat.{layout_of}
use Rattle.sheets.specs.Bytes.{Bytes}
use Rattle.sheets.specs.Sheet.{accepted, read_sheet}
use Rattle.sheets.specs.Pattern.{sizes}
use Rattle.sheets.specs.Encode.{Good}
use Rattle.sheets.proofs.Exactly.{good_accepted, accepted_good}
use Rattle.openings.proofs.Orders.{sheet_passed, sheet_through}
use Rattle.astrephon.specs.declared.Facts.{Facts}
use Rattle.astrephon.specs.Says.{says, fact_values}
use Rattle.astrephon.specs.Check.{check_of, check_call}
use Rattle.astrephon.proofs.Contracts.{Answer, Made, Check}
use Rattle.astrephon.proofs.Saying.{checked_same}

module _ (m : Made 1) (xs : List ℕ) where
  -- what is known of a good sheet
  abbrev facts_of : Good xs → Facts
  facts_of G = record { displacement = G.displacement; size = sizes G.elements; elements = length G.elements }

  good_says : (G : Good xs) → says fact_values (Ok (facts_of G)) ≡ check_call xs
  unfolding check_of accepted layout_of
  good_says G = sheet_passed _ 1 (accepted G.displacement G.elements) refl ∙ ap check_of (sym (good_accepted xs G))

  pub good_is_accepted : (G : Good xs) (r : Answer Facts) → Check m xs r → r ≡ Ok (facts_of G)
  good_is_accepted G r p = checked_same r (Ok (facts_of G)) (p ∙ sym (good_says G))

  pub accepted_is_good : Bytes xs → (f : Facts) → Check m xs (Ok f) → Good xs
  unfolding check_of
  accepted_is_good B f p = accepted_good xs B (sheet_through 1 (read_sheet xs) (sym p)).0
