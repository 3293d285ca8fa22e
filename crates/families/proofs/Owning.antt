-- What an entry of the table of owners means, and the loop that paints the elements one after the other. Assumes nothing.
use mathlib.Core.Path.{◌≡◌, refl, sym, ap, ap₂, ◌∙◌}
use mathlib.Core.Bool.{Bool, true, false}
use mathlib.Core.List.{List, [], ◌∷◌, ◌++◌}
use mathlib.Core.Logic.{◌↔◌, ⊎_elim}
use Prim.Native.Nat.{ℕ, suc, ◌+◌, ◌-◌, ◌≤◌, ◌<◌}
use native.Mathlib.Nat.{zero-add, add-zero}
use native.Mathlib.Numerals.{add-one}
use native.Mathlib.Omega.{arith}
use lib.ListN.{length, get_or, replicate, length-replicate, get_or-replicate}
use lib.Seq.{ext_get_or}
use borrow.Author.Tests.{eq-eqb, ne_eqb}
use Rattle.counting.specs.Count.{bit}
use Rattle.counting.specs.Gather.{tabulated}
use Rattle.counting.specs.Elements.{element, times, first_of}
use Rattle.counting.proofs.Cases.{by_test, lt_or_le}
use Rattle.counting.proofs.Gathers.{length_tabulated, get_or_tabulated, tabulated_more}
use Rattle.counting.proofs.Elements.{first_lt, first_has, first_only, times_append}
use Rattle.families.specs.declared.Layout.{Layout}
use Rattle.families.specs.Forest.{Forest, has, inner, WF, FARTHEST, RulesKept}
use Rattle.families.specs.Decoded.{family_in, tree_of, selections, LayoutOk}
use Rattle.families.specs.Owners.{owner, mark, painted}
use Rattle.families.proofs.Forests.{wf_wider}
use Rattle.families.proofs.Marks.{painted_is}
use Rattle.families.proofs.Turns.{inner_has}

-- ---- the three kinds of entry: t elements have the offset, f is the first of the n elements that has it, and o is the entry
data Owned (t f n o : ℕ) : Type 0 where
  none : t ≡ 0 → o ≡ 0 → Owned t f n o
  one : t ≡ 1 → f < n → o ≡ f + 1 → Owned t f n o
  many : 2 ≤ t → o ≡ 255 → Owned t f n o

module _ (L : List (ℕ → Bool)) (x : ℕ) where
  at_none : times L x ≡ 0 → owner L x ≡ 0
  unfolding owner
  at_none e = rw (eq-eqb (times L x) 0 e) refl

  at_one : times L x ≡ 1 → owner L x ≡ first_of L x + 1
  unfolding owner
  at_one e = rw (ne_eqb (times L x) 0 (λ q. omega arith), eq-eqb (times L x) 1 e) refl

  at_many : 2 ≤ times L x → owner L x ≡ 255
  unfolding owner
  at_many h = rw (ne_eqb (times L x) 0 (λ q. omega arith), ne_eqb (times L x) 1 (λ q. omega arith)) refl

owned : (L : List (ℕ → Bool)) (x : ℕ) → Owned (times L x) (first_of L x) (length L) (owner L x)
owned L x = ⊎_elim
    (λ h. ⊎_elim
    (λ g. none (omega arith) (at_none L x (omega arith)))
    (λ g. one (omega arith) (first_lt L x g) (at_one L x (omega arith)))
    (lt_or_le (times L x) 1))
    (λ h. many h (at_many L x h))
    (lt_or_le (times L x) 2)

-- ---- WHAT AN ENTRY MEANS: 0 in no element, 255 in two or more, e + 1 in element e and in no other
pub owner_none : (L : List (ℕ → Bool)) (x : ℕ) → (owner L x ≡ 0) ↔ (times L x ≡ 0)
owner_none L x = go (owned L x)
  where
    go : {t f n o : ℕ} → Owned t f n o → (o ≡ 0) ↔ (t ≡ 0)
    go (none a b) = (λ e. a, λ e. b)
    go (one a b c) = (λ e. omega arith, λ e. omega arith)
    go (many a b) = (λ e. omega arith, λ e. omega arith)

pub owner_many : (L : List (ℕ → Bool)) (x : ℕ) → length L ≤ 254 → (owner L x ≡ 255) ↔ (2 ≤ times L x)
owner_many L x room = go (owned L x) room
  where
    go : {t f n o : ℕ} → Owned t f n o → n ≤ 254 → (o ≡ 255) ↔ (2 ≤ t)
    go (none a b) r = (λ e. omega arith, λ e. omega arith)
    go (one a b c) r = (λ e. omega arith, λ e. omega arith)
    go (many a b) r = (λ e. a, λ e. b)

pub owner_one : (L : List (ℕ → Bool)) (x e : ℕ) → length L ≤ 254 → e < length L → (owner L x ≡ e + 1) ↔ ((times L x ≡ 1) × (element L e x ≡ true))
owner_one L x e room h = (go (owned L x), λ p. at_one L x p.0 ∙ ap (λ (f : ℕ). f + 1) (first_only L x e p.0 p.1))
  where
    go : Owned (times L x) (first_of L x) (length L) (owner L x) → owner L x ≡ e + 1 → (times L x ≡ 1) × (element L e x ≡ true)
    go (none a b) q = absurd (omega arith)
    go (one a b c) q = let z : first_of L x ≡ e = omega arith in (a, rw z at (first_has L x (omega arith)))
    go (many a b) q = absurd (omega arith)

-- ---- one element more
module _ (p : ℕ → Bool) (x : ℕ) where
  first_old : (L : List (ℕ → Bool)) → 1 ≤ times L x → first_of (L ++ (p ∷ [])) x ≡ first_of L x
  unfolding times first_of
  first_old [] h = absurd (omega arith)
  first_old (q ∷ L) h = by_test (q x) (λ e. rw e refl) (λ e. rw e (ap suc (first_old L (omega (arith, rw e at h)))))

  first_new : (L : List (ℕ → Bool)) → times L x ≡ 0 → p x ≡ true → first_of (L ++ (p ∷ [])) x ≡ length L
  unfolding times first_of
  first_new [] t h = rw h refl
  first_new (q ∷ L) t h = by_test (q x) (λ e. absurd (omega (arith, rw e at t))) (λ e. rw e (ap suc (first_new L (omega (arith, rw e at t)) h)))

marked_both : (me v : ℕ) → (v ≡ 0 → ⊥) → (v ≡ me → ⊥) → mark me true v ≡ 255
marked_both me v a b = rw (ne_eqb v 0 a, ne_eqb v me b) refl

owner_more : (L : List (ℕ → Bool)) (p : ℕ → Bool) (x : ℕ) → length L ≤ 253 → mark (length L + 1) (p x) (owner L x) ≡ owner (L ++ (p ∷ [])) x
unfolding times
owner_more L p x room = go (p x) refl (times_append L (p ∷ []) x ∙ rw add-zero) (owned L x)
  where
    go : (b : Bool) → p x ≡ b → times (L ++ (p ∷ [])) x ≡ times L x + bit b → Owned (times L x) (first_of L x) (length L) (owner L x)
        → mark (length L + 1) b (owner L x) ≡ owner (L ++ (p ∷ [])) x
    go true e t (none a b) = rw b (sym (at_one _ x (omega arith) ∙ ap (λ (f : ℕ). f + 1) (first_new p x L a e)))
    go true e t (one a b c) = marked_both (length L + 1) (owner L x) (λ q. omega arith) (λ q. omega arith) ∙ sym (at_many _ x (omega arith))
    go true e t (many a b) = marked_both (length L + 1) (owner L x) (λ q. omega arith) (λ q. omega arith) ∙ sym (at_many _ x (omega arith))
    go false e t (none a b) = b ∙ sym (at_none _ x (omega arith))
    go false e t (one a b c) = c ∙ sym (at_one _ x (omega arith) ∙ ap (λ (f : ℕ). f + 1) (first_old p x L (omega arith)))
    go false e t (many a b) = b ∙ sym (at_many _ x (omega arith))

painted_more : (L : List (ℕ → Bool)) (p : ℕ → Bool) (m e : ℕ) → length L ≡ e → e ≤ 253 → painted p (e + 1) (tabulated 0 m (owner L)) ≡ tabulated 0 m (owner (L ++ (p ∷ [])))
painted_more L p m e l room =
    let long : length (tabulated 0 m (owner L)) ≡ m = length_tabulated 0 m (owner L) in
    sym (painted_is p (e + 1) (tabulated 0 m (owner L)) (tabulated 0 m (owner (L ++ (p ∷ [])))) (length_tabulated 0 m _ ∙ sym long) (λ x h.
    get_or_tabulated 0 m (owner (L ++ (p ∷ []))) x 0 (omega arith)
    ∙ rw (get_or_tabulated 0 m (owner L) x 0 (omega arith), zero-add, ← l) (sym (owner_more L p x (omega arith)))))

-- ---- the loop of `owners`: the table has the owners among the first e elements
abbrev elements_to : (levels : ℕ) → Layout → ℕ → List (ℕ → Bool)
elements_to levels t e = tabulated 0 e (λ d. has (tree_of levels t d))

pub record Going (levels : ℕ) (t : Layout) (m e : ℕ) (table : List ℕ) : Type 0 where
  pub some : 0 < m
  pub ok : LayoutOk levels (m - 1) t
  pub upto : e ≤ t.elements
  pub same : length table ≡ m
  pub is : table ≡ tabulated 0 m (owner (elements_to levels t e))

pub going_start : (levels : ℕ) (t : Layout) (m : ℕ) (table : List ℕ) → table ≡ replicate m 0 → 0 < m → LayoutOk levels (m - 1) t → Going levels t m 0 table
unfolding tabulated owner times
going_start levels t m table e some ok =
    let l : length table ≡ m = ap length e ∙ length-replicate {A = ℕ} m 0 in
    record {
      some = some;
      ok = ok;
      upto = omega arith;
      same = l;
      is = ext_get_or 0 table (tabulated 0 m (owner [])) (l ∙ sym (length_tabulated 0 m _)) (λ x h.
          ap (λ (r : List ℕ). get_or r x 0) e ∙ get_or-replicate {A = ℕ} m x 0 0 (omega arith) ∙ sym (get_or_tabulated 0 m (owner []) x 0 (omega arith)));
    }

-- .. and what is asked to paint element e, whose families F are
module _ {levels : ℕ} {t : Layout} {m e : ℕ} {table : List ℕ} (G : Going levels t m e table) (h : e < t.elements) where
  pub going_ruled : m ≤ FARTHEST → RulesKept (tree_of levels t e)
  going_ruled near = wf_wider (tree_of levels t e) (omega arith) (omega arith) (G.ok.ruled e h)

  module _ (F : Forest) (lent : F ≡ tree_of levels t e) where
    pub going_asks : WF 0 (length table - 1) F
    going_asks = rw (G.same, lent) (G.ok.ruled e h)

    pub going_next : (table' : List ℕ) → table' ≡ painted (inner F) (e + 1) table → Going levels t m (e + 1) table'
    unfolding tabulated
    going_next table' q = record { some = G.some; ok = G.ok; upto = omega arith; same = ap length now ∙ length_tabulated 0 m _; is = now }
      where
        selects : inner F ≡ has (tree_of levels t e)
        selects = ap inner lent ∙ inner_has levels (family_in t.family) _ _ (λ z. omega (arith, G.ok.some e h))

        now : table' ≡ tabulated 0 m (owner (elements_to levels t (e + 1)))
        now =
            q
            ∙ ap₂ (λ (p : ℕ → Bool) (r : List ℕ). painted p (e + 1) r) selects G.is
            ∙ painted_more (elements_to levels t e) (has (tree_of levels t e)) m e (length_tabulated 0 e _) (omega (arith, G.ok.room))
            ∙ rw (add-one e, tabulated_more 0 e, zero-add) refl

pub going_end : {levels : ℕ} {t : Layout} {m e : ℕ} {table : List ℕ} → Going levels t m e table → t.elements ≤ e → table ≡ tabulated 0 m (owner (selections levels t))
unfolding selections
going_end {levels} {t} {m} {e} {table} G h = let z : e ≡ t.elements = omega arith in rw z at G.is
