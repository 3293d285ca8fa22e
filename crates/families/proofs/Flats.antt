-- The layout of a list of trees is read back as those trees, and meets what a layout must. Assumes nothing.
use mathlib.Core.Path.{◌≡◌, refl, sym, ap, ap₂, ◌∙◌}
use mathlib.Core.List.{List, [], ◌∷◌, ◌++◌, map, append_assoc}
use Prim.Native.Nat.{ℕ, zero, suc, ◌+◌, ◌-◌, ◌^◌, ◌≤◌, ◌<◌}
use native.Mathlib.Nat.{zero-add}
use native.Mathlib.Omega.{arith}
use lib.ListN.{length, get_or, replicate, length-append}
use lib.Seq.{get_or_at, get_or-append-add}
use Rattle.counting.specs.Gather.{tabulated}
use Rattle.counting.proofs.Gathers.{length_tabulated, get_or_tabulated, tabulated_map}
use Rattle.families.specs.declared.Family.{Family}
use Rattle.families.specs.declared.Element.{Element}
use Rattle.families.specs.declared.Layout.{Layout}
use Rattle.families.specs.Forest.{Forest, nil, node, has, size_of, WF, Sound, FARTHEST, RulesKept}
use Rattle.families.specs.Decoded.{no_family, no_element, family_in, InUse, siblings, forest_at, element_of, tree_of, trees_of, selections, LayoutOk}
use Rattle.families.specs.Flat.{All, width, total, depth, flat, totals, flats, elements_at, layout_of}
use Rattle.families.proofs.Forests.{wf_wider, size_le, size_some}
use Rattle.families.proofs.Steps.{none_left, step}

-- ---- how long the lists are
pub length_flat : (F : Forest) → length (flat F) ≡ total F
unfolding flat total
length_flat nil = refl
length_flat (node l r s n kids rest) = omega (arith, length-append (flat kids) (flat rest), length_flat kids, length_flat rest)

pub length_flats : (Fs : List Forest) → length (flats Fs) ≡ totals Fs
unfolding flats totals
length_flats [] = refl
length_flats (F ∷ Fs) = omega (arith, length-append (flat F) (flats Fs), length_flat F, length_flats Fs)

pub length_elements : (i : ℕ) (Fs : List Forest) → length (elements_at i Fs) ≡ length Fs
unfolding elements_at
length_elements i [] = refl
length_elements i (F ∷ Fs) = ap suc (length_elements (i + total F) Fs)

-- ---- a fact of every tree of a list
abbrev pub Shallow : (levels : ℕ) → List Forest → Type 0
Shallow levels Fs = All (λ F. depth F ≤ levels) Fs

-- the rules of an element
abbrev pub ElementOk : (bound : ℕ) → Forest → Type 0
ElementOk bound F = (1 ≤ width F) × WF 0 bound F

pub all_at : (P : Forest → Type 0) (Fs : List Forest) (e : ℕ) → All P Fs → e < length Fs → P (get_or Fs e nil)
unfolding All
all_at P [] e a h = absurd (omega arith)
all_at P (F ∷ Fs) zero a h = a.0
all_at P (F ∷ Fs) (suc e) a h = all_at P Fs e a.1 (omega arith)

pub all_if : (P Q : Forest → Type 0) → ((F : Forest) → P F → Q F) → (Fs : List Forest) → All P Fs → All Q Fs
unfolding All
all_if P Q h [] a = tt
all_if P Q h (F ∷ Fs) a = (h F a.0, all_if P Q h Fs a.1)

pub all_tabulated : (P : Forest → Type 0) (f : ℕ → Forest) (a n : ℕ) → ((x : ℕ) → a ≤ x → x < a + n → P (f x)) → All P (tabulated a n f)
unfolding All tabulated
all_tabulated P f a zero h = tt
all_tabulated P f a (suc n) h = (h a (omega arith) (omega arith), all_tabulated P f (suc a) n (λ x u v. h x (omega arith) (omega arith)))

-- ---- A TREE READ BACK, wherever its families stand
node_is : (levels : ℕ) (look : ℕ → Family) (i k : ℕ) (f : Family) (kids rest : Forest)
    → look i ≡ f → forest_at levels look (i + 1) f.children ≡ kids → forest_at (suc levels) look (i + f.span) k ≡ rest
    → forest_at (suc levels) look i (suc k) ≡ node f.l f.r f.s f.n kids rest
unfolding forest_at siblings
node_is levels look i k f kids rest e g h = rw (e, g, h) refl

pub flat_tree : (F : Forest) (levels : ℕ) (L pre post : List Family) (i : ℕ) → L ≡ pre ++ (flat F ++ post) → i ≡ length pre → depth F ≤ levels
    → forest_at levels (family_in L) i (width F) ≡ F
unfolding width depth flat
flat_tree nil levels L pre post i e at h = none_left levels (family_in L) i 0 refl
flat_tree (node l r s n kids rest) zero L pre post i e at h = absurd (omega arith)
flat_tree (node l r s n kids rest) (suc levels) L pre post i e at h =
    let f : Family = record { l = l; r = r; s = s; n = n; children = width kids; span = suc (total kids) } in
    node_is levels (family_in L) i (width rest) f kids rest
    (rw e (get_or_at pre f ((flat kids ++ flat rest) ++ post) no_family i (sym at)))
    (flat_tree kids levels L (pre ++ (f ∷ [])) (flat rest ++ post) (i + 1) (e ∙ simp append_assoc) (omega (arith, length-append pre (f ∷ []))) (omega arith))
    (flat_tree rest (suc levels) L (pre ++ (f ∷ flat kids)) post (i + suc (total kids)) (e ∙ simp append_assoc)
    (omega (arith, length-append pre (f ∷ flat kids), length_flat kids)) (omega arith))

-- ---- THE TREES READ BACK
-- .. those of the last elements, the first of them element e with its families from i on
trees_from : (Fs : List Forest) (levels : ℕ) (t : Layout) (e i : ℕ) (pre post : List Element) (front back : List Family)
    → t.element ≡ pre ++ (elements_at i Fs ++ post) → length pre ≡ e → t.family ≡ front ++ (flats Fs ++ back) → i ≡ length front → Shallow levels Fs
    → tabulated e (length Fs) (tree_of levels t) ≡ Fs
unfolding All elements_at flats tabulated
trees_from [] levels t e i pre post front back p z q y s = refl
trees_from (F ∷ Fs) levels t e i pre post front back p z q y s =
    let el : Element = record { first = i; tops = width F; span = total F } in
    let here : element_of t e ≡ el = rw p (get_or_at pre el (elements_at (i + total F) Fs ++ post) no_element e z) in
    ap₂ (λ (G : Forest) (Gs : List Forest). G ∷ Gs)
    (rw here (flat_tree F levels t.family front (flats Fs ++ back) i (q ∙ simp append_assoc) y s.0))
    (trees_from Fs levels t (suc e) (i + total F) (pre ++ (el ∷ [])) post (front ++ flat F) back (p ∙ simp append_assoc) (omega (arith, length-append pre (el ∷ [])))
    (q ∙ simp append_assoc) (omega (arith, length-append front (flat F), length_flat F)) s.1)

pub trees_back : (levels d : ℕ) (Fs : List Forest) → Shallow levels Fs → trees_of levels (layout_of d Fs) ≡ Fs
unfolding trees_of layout_of
trees_back levels d Fs s =
    trees_from Fs levels (layout_of d Fs) 0 0 [] (replicate (16 - length Fs) no_element) [] (replicate (256 - totals Fs) no_family) refl refl refl refl s

-- ---- element e of a layout: its tree is the e-th, and its span counts the families of all levels there
tree_at : (levels : ℕ) (t : Layout) (e : ℕ) → e < t.elements → get_or (trees_of levels t) e nil ≡ tree_of levels t e
unfolding trees_of
tree_at levels t e h = get_or_tabulated 0 t.elements (tree_of levels t) e nil h ∙ rw zero-add refl

span_at : (Fs : List Forest) (i e : ℕ) (post : List Element) → e < length Fs → (get_or (elements_at i Fs ++ post) e no_element).span ≡ total (get_or Fs e nil)
unfolding elements_at
span_at [] i e post h = absurd (omega arith)
span_at (F ∷ Fs) i zero post h = refl
span_at (F ∷ Fs) i (suc e) post h = span_at Fs (i + total F) e post (omega arith)

pub element_span : (levels d : ℕ) (Fs : List Forest) → Shallow levels Fs → (e : ℕ) → e < length Fs
    → (element_of (layout_of d Fs) e).span ≡ total (tree_of levels (layout_of d Fs) e)
unfolding layout_of
element_span levels d Fs s e h =
    span_at Fs 0 e (replicate (16 - length Fs) no_element) h ∙ ap (λ (Gs : List Forest). total (get_or Gs e nil)) (sym (trees_back levels d Fs s))
    ∙ ap total (tree_at levels (layout_of d Fs) e h)

-- ---- what a layout selects is what its trees select
pub selections_trees : (levels : ℕ) (t : Layout) → selections levels t ≡ map has (trees_of levels t)
unfolding selections trees_of
selections_trees levels t = sym (tabulated_map has 0 t.elements (tree_of levels t))

-- ---- the rules of a layout: with a wider bound, and as the rules of its trees
pub ok_wider : (levels a b : ℕ) (t : Layout) → a ≤ b → LayoutOk levels a t → LayoutOk levels b t
ok_wider levels a b t h ok = record { room = ok.room; used = ok.used; some = ok.some; ruled = λ e l. wf_wider (tree_of levels t e) (omega arith) h (ok.ruled e l) }

pub trees_ok : (levels bound : ℕ) (t : Layout) → LayoutOk levels bound t → All (WF 0 bound) (trees_of levels t)
unfolding trees_of
trees_ok levels bound t ok = all_tabulated (WF 0 bound) (tree_of levels t) 0 t.elements (λ e _ h. ok.ruled e (omega arith))

-- a tree that is not empty was read from some families
tops_some : (levels : ℕ) (look : ℕ → Family) (i k : ℕ) → 1 ≤ width (forest_at levels look i k) → 1 ≤ k
unfolding width
tops_some levels look i zero h = absurd (omega (arith, rw (none_left levels look i 0 refl) at h))
tops_some levels look i (suc k) h = omega arith

-- ---- an element selects some offset
pub element_some : (levels bound : ℕ) (t : Layout) → LayoutOk levels bound t → (e : ℕ) → e < t.elements → 1 ≤ size_of (tree_of levels t e)
element_some levels bound t ok e h =
    let S = step levels (family_in t.family) (element_of t e).first (element_of t e).tops bound _ (ok.some e h) (ok.ruled e h) refl in
    rw S.is (size_some 0 bound _ _ _ _ _ _ S.ok)

-- ---- what is asked to lend an element's families, and to seek in them; and what `size` answers of them
module _ (levels bound : ℕ) (t : Layout) (ok : LayoutOk levels bound t) (e : ℕ) (h : e < t.elements) where
  pub element_ruled : bound ≤ FARTHEST → RulesKept (tree_of levels t e)
  element_ruled near = wf_wider (tree_of levels t e) (omega arith) near (ok.ruled e h)

  pub element_sound : bound < 2 ^ 32 → Sound (tree_of levels t e)
  element_sound small = wf_wider (tree_of levels t e) (omega arith) (omega arith) (ok.ruled e h)

  module _ (F : Forest) (lent : F ≡ tree_of levels t e) (size : ℕ) (is : size ≡ size_of F) where
    pub element_size : size ≡ size_of (tree_of levels t e)
    element_size = is ∙ ap size_of lent

    pub element_small : size ≤ bound + 1
    element_small = omega (arith, element_size, size_le 0 bound (tree_of levels t e) (ok.ruled e h))

pub ok_trees : (levels bound : ℕ) (t : Layout) → t.elements ≤ 16 → InUse t.families (family_in t.family) → All (ElementOk bound) (trees_of levels t)
    → LayoutOk levels bound t
unfolding trees_of
ok_trees levels bound t room used a = record { room = room; used = used; some = λ e h. tops_some levels (family_in t.family) _ _ (each e h).0; ruled = λ e h. (each e h).1 }
  where
    each : (e : ℕ) → e < t.elements → ElementOk bound (tree_of levels t e)
    each e h =
        rw (tree_at levels t e h) at (all_at (ElementOk bound) (trees_of levels t) e a (omega (arith, length_tabulated 0 t.elements (tree_of levels t))))

-- ---- room that is not in use
none_there : (m i : ℕ) → family_in (replicate m no_family) i ≡ no_family
none_there zero i = refl
none_there (suc m) zero = refl
none_there (suc m) (suc i) = none_there m i

-- ---- THE LAYOUT OF TREES: as many families are in use as there are, and it meets the rules
pub layout_used : (d : ℕ) (Fs : List Forest) → totals Fs ≤ 256 → InUse (totals Fs) (family_in (layout_of d Fs).family)
unfolding layout_of
layout_used d Fs few = record {
  most = few;
  none = λ i h.
      let behind : length (flats Fs) + (i - totals Fs) ≡ i = omega (arith, length_flats Fs) in
      rw (← behind) (get_or-append-add (flats Fs) (replicate (256 - totals Fs) no_family) (i - totals Fs) no_family ∙ none_there (256 - totals Fs) (i - totals Fs));
}

pub layout_ok : (levels bound d : ℕ) (Fs : List Forest) → Shallow levels Fs → All (ElementOk bound) Fs → length Fs ≤ 16 → totals Fs ≤ 256
    → LayoutOk levels bound (layout_of d Fs)
unfolding layout_of
layout_ok levels bound d Fs s a room few = ok_trees levels bound (layout_of d Fs) room (layout_used d Fs few) (rw (trees_back levels d Fs s) a)
