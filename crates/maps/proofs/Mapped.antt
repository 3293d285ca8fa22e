-- What the code asks and answers: a file offset is some whole periods and a place in one, and so is a byte of the subfile. Assumes nothing.
use mathlib.Core.Path.{◌≡◌, sym, ap, ◌∙◌}
use mathlib.Core.Bool.{Bool, false}
use mathlib.Core.List.{List}
use mathlib.Core.Logic.{⊎_elim}
use Prim.Native.Nat.{ℕ, ◌+◌, ◌-◌, ◌*◌, ◌/◌, ◌%◌, ◌^◌, ◌≤◌, ◌<◌}
use native.Mathlib.Nat.{mod-lt, mod-eq_of_lt, div-eq_of_lt, div-le_self, div-add-mod', add-sub_cancel_left, mul-le-mul_left}
use native.Mathlib.Omega.{arith}
use lib.Arith.{digits_div, digits_mod}
use borrow.Author.Tests.{le-leb}
use Rattle.counting.specs.Count.{count_below, nth}
use Rattle.counting.proofs.Cases.{lt_or_le}
use Rattle.counting.proofs.Counts.{count_zero, count_none, count_le, count_mono}
use Rattle.counting.proofs.Nths.{Found, nth_found}
use Rattle.counting.proofs.Periods.{owns_none, owns_at, rank_owns}
use Rattle.families.specs.declared.Family.{Family}
use Rattle.families.specs.Forest.{has, end_of, size_of, RulesKept}
use Rattle.families.proofs.Forests.{wf_wider, count_most}
use Rattle.maps.specs.declared.Selection.{Selection}
use Rattle.maps.specs.Selected.{families_of, belongs, Byte, SelectionOk}

module _ {s : Selection} {families : List Family} (ok : SelectionOk s families) where
  -- ---- the families meet the rules with the wider bound of those that are lent
  pub families_ruled : RulesKept (families_of s families)
  families_ruled = wf_wider (families_of s families) (omega arith) (omega arith) ok.sound

  -- ---- there is a period, and 32 bits hold a place in it
  pub period_some : 1 ≤ s.period
  period_some = omega (arith, count_le (has (families_of s families)) s.period, ok.size, ok.some)

  pub place_small : (x : ℕ) → x % s.period < 2 ^ 32
  place_small x = omega (arith, mod-lt x period_some, ok.short)

  -- ---- before the selection starts
  pub none_before : (x : ℕ) → x < s.from → false ≡ belongs s families x
  unfolding belongs
  none_before x h = sym (owns_none s.from s.period (has (families_of s families)) x h)

  pub rank_before : (x : ℕ) → x < s.from → 0 ≡ count_below (belongs s families) x
  rank_before x h = sym (count_none (belongs s families) x (λ y l. sym (none_before y (omega arith))))

  -- ---- and from there on, by the place in the period
  module _ (x : ℕ) (h : s.from ≤ x) where
    pub belongs_by_place : (b : Bool) → b ≡ has (families_of s families) ((x - s.from) % s.period) → b ≡ belongs s families x
    unfolding belongs
    belongs_by_place b e = rw (le-leb s.from x h) e

  -- ---- the rank of any x; what lies before the selection is no whole period, and place 0
  module _ (x : ℕ) (part : ℕ) (e : part ≡ count_below (has (families_of s families)) ((x - s.from) % s.period)) where
    none_counted : x < s.from → (x - s.from) / s.period * s.size + part ≡ 0
    none_counted l =
        let none : x - s.from ≡ 0 = omega arith in
        let whole : (x - s.from) / s.period ≡ 0 = rw none (div-eq_of_lt period_some) in
        let place : (x - s.from) % s.period ≡ 0 = rw none (mod-eq_of_lt period_some) in
        let first : part ≡ 0 = e ∙ ap (count_below (has (families_of s families))) place ∙ count_zero (has (families_of s families)) in
        rw (whole, first) (omega arith)

    by_periods : s.from ≤ x → (x - s.from) / s.period * s.size + part ≡ count_below (belongs s families) x
    unfolding belongs
    by_periods h = rw (ok.size, e) (sym (rank_owns s.from s.period (has (families_of s families)) x period_some h))

    pub rank_by_periods : (x - s.from) / s.period * s.size + part ≡ count_below (belongs s families) x
    rank_by_periods = ⊎_elim (λ l. none_counted l ∙ rank_before x l) by_periods (lt_or_le x s.from)

    -- the rank is at most x, and so is what whole periods count
    pub rank_small : (x - s.from) / s.period * s.size + part ≤ x
    rank_small = omega (arith, rank_by_periods, count_le (belongs s families) x)

  -- ---- byte y of the selection
  module _ (y : ℕ) where
    pub rest_inside : y % s.size < size_of (families_of s families)
    rest_inside = omega (arith, mod-lt y ok.some, ok.size, count_most (families_of s families) s.period)

    -- NOTHING WRAPS: 32 bits hold the displacement and the place, so their sum with the whole periods fits 64 bits
    pub turns_small : y < 2 ^ 40 → y / s.size * s.period < 2 ^ 63
    turns_small l = omega (arith, div-le_self y s.size, mul-le-mul_left (y / s.size) ok.short)

    module _ (place : ℕ) (e : place ≡ nth (has (families_of s families)) (end_of (families_of s families)) (y % s.size)) where
      place_found : Found (has (families_of s families)) (end_of (families_of s families)) (y % s.size) place
      unfolding size_of
      place_found = rw e (nth_found (has (families_of s families)) (end_of (families_of s families)) (y % s.size) rest_inside)

      -- the families may end past the period, but with fewer than `size` offsets before it the place is inside
      place_inside : place < s.period
      place_inside = ⊎_elim (λ l. l)
          (λ l. absurd (omega (arith, count_mono (has (families_of s families)) s.period place l, place_found.rank, mod-lt y ok.some, ok.size)))
          (lt_or_le place s.period)

      pub byte_by_periods : Byte (belongs s families) y (s.from + (y / s.size * s.period + place))
      unfolding belongs
      byte_by_periods =
          let q = has (families_of s families) in
          let k = y / s.size in
          let at = k * s.period + place in (
            owns_at s.from s.period q at ∙ ap q (digits_mod k place_inside) ∙ place_found.passes,
            rank_owns s.from s.period q (s.from + at) period_some (omega arith)
                ∙ rw (add-sub_cancel_left s.from at, digits_div k place_inside, digits_mod k place_inside, ← ok.size, place_found.rank) (div-add-mod' y s.size),
          )
