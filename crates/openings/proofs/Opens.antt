-- Opening an element: what a call knows of an element that was opened, for a window, and for two buffers. Assumes nothing.
use mathlib.Core.Path.{◌≡◌, refl, sym, ap, ◌∙◌}
use mathlib.Core.Bool.{Bool}
use mathlib.Core.List.{List, [], ◌∷◌}
use Prim.Native.Nat.{ℕ, ◌-◌, ◌≤◌, ◌<◌}
use native.Mathlib.Omega.{arith}
use Rattle.counting.specs.Count.{count_below}
use Rattle.families.specs.declared.Family.{Family}
use Rattle.families.specs.Forest.{WF}
use Rattle.sheets.specs.Refusals.{Test}
use Rattle.sheets.specs.Sheet.{read_sheet, Reading}
use Rattle.sheets.proofs.Accepted.{accepted_law}
use Rattle.maps.specs.declared.Selection.{Selection}
use Rattle.maps.specs.Selected.{families_of, belongs, SelectionOk, selection_of, PatternOk}
use Rattle.maps.proofs.Chosen.{families_tree, accepted_pattern, belongs_tree}
use Rattle.openings.specs.declared.Opening.{Opening}
use Rattle.openings.specs.declared.Refusal.{Refusal}
use Rattle.openings.specs.Said.{Said, done}
use Rattle.openings.specs.Refusals.{unless_sheet, unless_fault}
use Rattle.openings.specs.Offsets.{LIMIT, offsets_of, element_test, offset_tests, window_tests, unless_element, unless_offset, unless_window}
use Rattle.openings.specs.Buffers.{packed_length, buffer_tests, unless_buffers}
use Rattle.openings.specs.Openings.{Passes, Refuses, Chosen}
use Rattle.openings.proofs.Orders.{sheet_passed, sheet_through, fault_through}
use Rattle.openings.proofs.Faults.{element_there, element_known, offset_within, offset_known, range_within, range_known, buffer_long, buffer_known}

-- ---- an accepted sheet: its elements share its pattern out
pub accepted_shares : (xs : List ℕ) (r : Reading) → r ≡ read_sheet xs → (read_sheet xs).number ≡ 0 → PatternOk r.layout r.size
accepted_shares xs r read fine = rw read (accepted_pattern (read_sheet xs) (accepted_law xs fine))

-- .. so those of what `read` accepts do
pub read_shares : (xs : List ℕ) (k : ℕ) (r : Reading) → Passes (unless_sheet k (read_sheet xs)) × (r ≡ read_sheet xs) → PatternOk r.layout r.size
read_shares xs k r R = accepted_shares xs r R.1 (sheet_through k (read_sheet xs) (sym (R.0 (done [])))).0

-- ---- WHAT THE CHECKS LET THROUGH: where all is as they ask every call goes on, and a call that did its work had it so
-- an element of an accepted sheet
pub record ElementFine (r : Reading) (e : ℕ) : Type 0 where
  pub fine : r.number ≡ 0
  pub there : e < r.layout.elements

-- .. a file offset
pub record OffsetFine (r : Reading) (e x : ℕ) : Type 0 where
  pub element : ElementFine r e
  pub after : r.layout.displacement ≤ x
  pub near : x < LIMIT

-- .. a window
pub record WindowFine (r : Reading) (e a b : ℕ) : Type 0 where
  pub element : ElementFine r e
  pub forward : a ≤ b
  pub after : r.layout.displacement ≤ a
  pub near : b ≤ LIMIT

-- .. and two buffers of these lengths
pub record BuffersFine (r : Reading) (e a b file packed : ℕ) : Type 0 where
  pub window : WindowFine r e a b
  pub file_long : file ≡ b - a
  pub packed_long : packed ≡ packed_length r e a b

module _ (r : Reading) (e : ℕ) where
  abbrev d : ℕ
  d = r.layout.displacement

  pub element_on : ElementFine r e → Passes (unless_element r e)
  element_on E next = element_there r.layout.elements e E.there next ∙ sheet_passed _ 1 r E.fine

  pub element_through : {next : Said} {values : List ℕ} → unless_element r e next ≡ done values → ElementFine r e × (next ≡ done values)
  element_through q =
      let sheet = sheet_through 1 r q in
      let element = fault_through (element_test r.layout.elements e ∷ []) sheet.1 in
      (record { fine = sheet.0; there = element_known r.layout.elements e element.0 }, element.1)

  module _ (x : ℕ) where
    pub offset_on : OffsetFine r e x → Passes (unless_offset r e x)
    offset_on X next = offset_within d x X.after X.near next ∙ element_on X.element _

    pub offset_through : {next : Said} {values : List ℕ} → unless_offset r e x next ≡ done values → OffsetFine r e x × (next ≡ done values)
    offset_through q =
        let element = element_through q in
        let offset = fault_through (offset_tests d x) element.1 in
        let K = offset_known d x offset.0 in
        (record { element = element.0; after = K.0; near = K.1 }, offset.1)

module _ (r : Reading) (e a b : ℕ) where
  window_on : WindowFine r e a b → Passes (unless_window r e a b)
  window_on W next = range_within LIMIT r.layout.displacement a b W.forward W.after W.near next ∙ element_on r e W.element _

  pub window_through : {next : Said} {values : List ℕ} → unless_window r e a b next ≡ done values → WindowFine r e a b × (next ≡ done values)
  window_through q =
      let element = element_through r e q in
      let window = fault_through (window_tests r.layout.displacement a b) element.1 in
      let K = range_known LIMIT r.layout.displacement a b window.0 in
      (record { element = element.0; forward = K.0; after = K.1; near = K.2 }, window.1)

  module _ (file packed : ℕ) where
    abbrev count : ℕ
    count = packed_length r e a b

    pub buffers_on : BuffersFine r e a b file packed → Passes (unless_buffers r e a b file packed)
    buffers_on B next = buffer_long file (b - a) packed count B.file_long B.packed_long next ∙ window_on B.window _

    pub buffers_through : {next : Said} {values : List ℕ} → unless_buffers r e a b file packed next ≡ done values → BuffersFine r e a b file packed × (next ≡ done values)
    buffers_through q =
        let W = window_through q in
        let buffers = fault_through (buffer_tests file (b - a) packed count) W.1 in
        let K = buffer_known file (b - a) packed count buffers.0 in
        (record { window = W.0; file_long = K.0; packed_long = K.1 }, buffers.1)

-- ---- WHAT A CALL KNOWS of an element that was opened, with its selection s of these families
pub record Opened (r : Reading) (e : ℕ) (s : Selection) (families : List Family) : Type 0 where
  pub element : ElementFine r e
  pub ok : SelectionOk s families
  pub ruled : WF 0 65535 (families_of s families)
  pub short : s.period ≤ 65536
  pub from : s.from ≡ r.layout.displacement
  pub is : belongs s families ≡ offsets_of r e

from_displacement : (r : Reading) (e : ℕ) → (selection_of r.layout r.size e).from ≡ r.layout.displacement
unfolding selection_of
from_displacement r e = refl

period_short : (r : Reading) (e : ℕ) → r.size ≤ 65536 → (selection_of r.layout r.size e).period ≤ 65536
unfolding selection_of
period_short r e h = h

belongs_offsets : (r : Reading) (e : ℕ) → belongs (selection_of r.layout r.size e) r.layout.family ≡ offsets_of r e
unfolding offsets_of
belongs_offsets r e = belongs_tree r.layout e r.size

pub chosen_known : (xs : List ℕ) (e : ℕ) {o : Opening} → let r = read_sheet xs in Chosen r e o → ElementFine r e → Opened r e o.selection o.layout.family
chosen_known xs e {o} C E =
    let r = read_sheet xs in
    let A = accepted_law xs E.fine in
    record {
      element = E;
      ok = o.ok;
      ruled = rw (C.selection, C.layout) (rw (families_tree r.layout e r.size) (A.ok.ruled e E.there));
      short = rw C.selection (period_short r e A.most);
      from = ap (λ (t : Selection). t.from) C.selection ∙ from_displacement r e;
      is = rw (C.selection, C.layout) (belongs_offsets r e);
    }

-- .. and of its subfile
pub lent : {r : Reading} {e : ℕ} (o : Opening) {s : Selection} {families : List Family} → s ≡ o.selection → families ≡ o.layout.family
    → Opened r e o.selection o.layout.family → Opened r e s families
lent o p q K = rw (p, q) K

module _ (xs : List ℕ) (e : ℕ) {o : Opening} (C : Chosen (read_sheet xs) e o) where
  abbrev r : Reading
  r = read_sheet xs

  pub opened : Passes (unless_element r e) → Opened r e o.selection o.layout.family
  opened P = chosen_known xs e C (element_through r e (sym (P (done [])))).0

  -- tests of the displacement, after the element was opened: as the code has it
  module _ (P : Passes (unless_element r e)) (tests : ℕ → List Test) where
    abbrev checks : Said → Said
    checks next = unless_element r e (unless_fault (tests r.layout.displacement) next)

    pub tests_refused : (f : Refusal) → Refuses (unless_fault (tests o.selection.from)) f → Refuses checks f
    tests_refused f R next = rw (opened P).from at (R next) ∙ P _

    pub tests_passed : Passes (unless_fault (tests o.selection.from)) → Passes checks
    tests_passed Q next = rw (opened P).from at (Q next) ∙ P _

  -- .. for a file offset
  pub opened_offset : (x : ℕ) → Passes (unless_offset r e x) → Opened r e o.selection o.layout.family × OffsetFine r e x
  opened_offset x P = let X = (offset_through r e x (sym (P (done [])))).0 in (chosen_known xs e C X.element, X)

-- ---- WHAT A CALL KNOWS of a window that was opened
pub record Windowed (r : Reading) (e a b : ℕ) (o : Opening) : Type 0 where
  pub opened : Opened r e o.selection o.layout.family
  pub forward : a ≤ b
  pub after : o.selection.from ≤ a
  pub near : b ≤ LIMIT

window_known : (xs : List ℕ) {e a b : ℕ} {o : Opening} → let r = read_sheet xs in Chosen r e o → WindowFine r e a b → Windowed r e a b o
window_known xs {e} C W =
    let K = chosen_known xs e C W.element in
    record { opened = K; forward = W.forward; after = omega (arith, W.after, K.from); near = W.near }

pub windowed : (xs : List ℕ) (e a b : ℕ) {o : Opening} → let r = read_sheet xs in Passes (unless_window r e a b) → Chosen r e o → Windowed r e a b o
windowed xs e a b P C = window_known xs C (window_through (read_sheet xs) e a b (sym (P (done [])))).0

-- the count of its bytes is the packed length
pub count_is : {r : Reading} {e a b : ℕ} {o : Opening} → Windowed r e a b o → (c : ℕ)
    → c ≡ count_below (belongs o.selection o.layout.family) b - count_below (belongs o.selection o.layout.family) a → c ≡ packed_length r e a b
count_is {a} {b} W c counted = counted ∙ ap (λ (p : ℕ → Bool). count_below p b - count_below p a) W.opened.is

-- ---- .. and of two buffers, each of which has its length
pub buffered : (xs : List ℕ) (e a b file packed : ℕ) {o : Opening} → let r = read_sheet xs in Passes (unless_buffers r e a b file packed) → Chosen r e o
    → Windowed r e a b o × (file ≡ b - a) × (packed ≡ packed_length r e a b)
buffered xs e a b file packed P C =
    let B = (buffers_through (read_sheet xs) e a b file packed (sym (P (done [])))).0 in
    (window_known xs C B.window, B.file_long, B.packed_long)

-- ---- the lengths of two buffers, after a window was opened and its bytes counted: as the code has it
module _ (xs : List ℕ) (e a b file packed : ℕ) {o : Opening} (P : Passes (unless_window (read_sheet xs) e a b)) (C : Chosen (read_sheet xs) e o)
    (c : ℕ) (counted : c ≡ count_below (belongs o.selection o.layout.family) b - count_below (belongs o.selection o.layout.family) a) where
  is_length : c ≡ packed_length (read_sheet xs) e a b
  is_length = count_is (windowed xs e a b P C) c counted

  pub counted_refused : (f : Refusal) → Refuses (unless_fault (buffer_tests file (b - a) packed c)) f → Refuses (unless_buffers (read_sheet xs) e a b file packed) f
  counted_refused f R next = rw is_length at (R next) ∙ P _

  pub counted_passed : Passes (unless_fault (buffer_tests file (b - a) packed c)) → Passes (unless_buffers (read_sheet xs) e a b file packed)
  counted_passed Q next = rw is_length at (Q next) ∙ P _
