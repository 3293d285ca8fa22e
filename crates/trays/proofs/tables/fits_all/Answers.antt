-- `fits_all` meets its contract: where `all` says yes, `fits` said so of every element. Assumes nothing.
use mathlib.Core.Path.{refl}
use native.Mathlib.Nat.{zero-add}
use native.Mathlib.Omega.{arith}
use Rattle.std.proofs.Common.{rules, ℕ, ◌<◌, length}
use Rattle.std.specs.List.{Contains, range_with_len}
use Rattle.std.proofs.lemmas.Bool.{MatchBool-at_true}
use Rattle.std.proofs.lemmas.Iterator.{cases_from_all, YieldsList-from_range}
use Rattle.std.proofs.lemmas.List.Elements.{All-contains, All-from_all_within, Contains-get_or}
use Rattle.std.proofs.lemmas.List.FromFn.{length-range_with_len, get_or-range_with_len}
use Rattle.trays.proofs.Rooming.{Fitting, rooming_all}
use Rattle.trays.proofs.tables.fits_all.Goals as goal

counted : (n e : ℕ) → e < n → Contains (range_with_len 0 n) e
counted n e h =
    let there : e < length (range_with_len 0 n) = omega (arith, h, length-range_with_len 0 n) in
    rw (get_or-range_with_len 0 n e 0 h, zero-add) at (Contains-get_or (range_with_len 0 n) e 0 there)

pub returns : goal.returns
returns c =
    let t = c.args.pattern.now.layout.now in
    let fit = Fitting t c.args.pattern.now.size c.args.room in
    let each = range_with_len 0 t.elements in
    let r = cases_from_all _ _ _ fit (λ e. Unit) c.all.ensures.ran (YieldsList-from_range 0 t.elements t.elements refl (omega arith))
    (λ x q k. search rules) (λ x q k. search rules) in
    λ yes. rooming_all c.args.pattern.now.ok
    (λ e h. All-contains fit each e (All-from_all_within fit each (MatchBool-at_true _ _ yes r)) (counted t.elements e h))
