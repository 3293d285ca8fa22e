-- Steps taken one after the other: what every step keeps and some step brings about holds at the end. Assumes nothing.
use mathlib.Core.List.Memᴰ
use mathlib.Core.List.{List, [], ◌∷◌, foldl, Memᴰ}
use mathlib.Core.Logic.{⊎_elim}
use mathlib.Core.Path.{subst}

module _ {A B : Type 0} (step : B → A → B) (Done : B → Type 0) (keeps : (u : B) (q : A) → Done u → Done (step u q)) where
  pub kept : (qs : List A) (u : B) → Done u → Done (foldl step u qs)
  kept [] u d = d
  kept (q ∷ qs) u d = kept qs (step u q) (keeps u q d)

  pub reached : (q : A) → ((u : B) → Done (step u q)) → (qs : List A) (u : B) → Memᴰ q qs → Done (foldl step u qs)
  reached q does [] u m = absurd (Memᴰ.not-nil m)
  reached q does (r ∷ qs) u m = ⊎_elim
      (λ e. kept qs (step u r) (subst (λ (s : A). Done (step u s)) e (does u)))
      (λ later. reached q does qs (step u r) later)
      (Memᴰ.cases_cons m)
