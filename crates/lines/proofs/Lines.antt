-- The pieces of each line, put one behind the other, are the line; and the lines are the listing. Assumes nothing.
use mathlib.Core.Path.{◌≡◌, sym, ap}
use mathlib.Core.List.{List, ◌++◌}
use Prim.Native.Nat.{ℕ, suc, ◌+◌, ◌*◌, ◌<◌}
use native.Mathlib.Numerals.{add-one}
use native.Mathlib.Omega.{arith}
use borrow.Author.Tests.{eq-eqb, ne_eqb}
use Rattle.families.specs.declared.Layout.{Layout}
use Rattle.families.specs.Forest.{Forest, size_of, Sound, RulesKept}
use Rattle.families.specs.Decoded.{tree_of}
use Rattle.families.specs.Flat.{total}
use Rattle.families.proofs.Flats.{element_some, element_sound, element_ruled}
use Rattle.std.specs.Prelude.{Ok, Err}
use Rattle.sheets.specs.declared.Sheet.{Sheet}
use Rattle.sheets.specs.declared.refusals.Refused.{Refused}
use Rattle.sheets.specs.Answered.{reading_of}
use Rattle.sheets.proofs.Answered.{number_some}
use Rattle.sheets.specs.Refusals.{NO_FLAG, HOLE, OVERLAP, fault_number, fault_flag}
use Rattle.sheets.specs.Sheet.{read_sheet, refusal, Reading}
use Rattle.sheets.proofs.Accepted.{Accepted, accepted_law}
use Rattle.words.specs.Texts.{word, decimal}
use Rattle.words.specs.Written.{HasRoom, Put}
use Rattle.words.specs.declared.Text.{Text}
use Rattle.words.proofs.Puts.{put_none, put_within, ◌then◌}
use Rattle.lines.specs.Listing.{layout_line, element_line, first_of, tree_line, element_lines, flag_word, refusal_line, accepted_lines, listing}
use Rattle.lines.specs.Listable.{Listable}

module _ {t0 t1 t2 t3 t4 : Text} where
  pub put_layout : (d size n : ℕ) → Put (word "layout displacement " ++ decimal d) 40 t0 t1 → Put (word " size " ++ decimal size) 26 t1 t2
      → Put (word " elements " ++ decimal n) 30 t2 t3 → Put (word "\n") 1 t3 t4 → Put (layout_line d size n) 97 t0 t4
  unfolding layout_line
  put_layout d size n p1 p2 p3 p4 = p1 then p2 then p3 then p4

  pub put_refusal : (number place flag : ℕ) → Put (word "refused " ++ decimal number) 28 t0 t1 → Put (word " at " ++ decimal place) 24 t1 t2
      → Put (flag_word flag) 8 t2 t3 → Put (word "\n") 1 t3 t4 → Put (refusal_line number place flag) 61 t0 t4
  unfolding refusal_line
  put_refusal number place flag p1 p2 p3 p4 = p1 then p2 then p3 then p4

  pub put_element : {t5 : Text} (e size families first : ℕ) → Put (decimal e) 20 t0 t1 → Put (word " size " ++ decimal size) 26 t1 t2
      → Put (word " families " ++ decimal families) 30 t2 t3 → Put (word " first " ++ decimal first) 27 t3 t4 → Put (word "\n") 1 t4 t5
      → Put (element_line e size families first) 104 t0 t5
  unfolding element_line
  put_element e size families first p1 p2 p3 p4 p5 = p1 then p2 then p3 then p4 then p5

-- an element's line is that of its families
pub put_tree : (F : Forest) (e size families first : ℕ) {before after : Text} → size ≡ size_of F → families ≡ total F → first ≡ first_of F
    → Put (element_line e size families first) 104 before after → Put (tree_line e F) 104 before after
put_tree F e size families first is spans begins x = rw (is, spans, begins) at x

-- .. which a listable layout lends
module _ {t : Layout} {e : ℕ} (ok : Listable t) (h : e < t.elements) where
  pub lent_ruled : RulesKept (tree_of 4 t e)
  lent_ruled = element_ruled 4 65535 t ok.ok e h (omega arith)

  pub lent_sound : Sound (tree_of 4 t e)
  lent_sound = element_sound 4 65535 t ok.ok e h (omega arith)

  pub lent_some : 0 < size_of (tree_of 4 t e)
  lent_some = omega (arith, element_some 4 65535 t ok.ok e h)

-- ---- the word of a flag
module _ (flag : ℕ) {before after : Text} where
  pub put_hole : flag ≡ HOLE → Put (word " hole") 5 before after → Put (flag_word flag) 8 before after
  unfolding flag_word
  put_hole is x = rw (eq-eqb flag HOLE is) (put_within 8 (omega arith) x)

  pub put_overlap : flag ≡ OVERLAP → Put (word " overlap") 8 before after → Put (flag_word flag) 8 before after
  unfolding flag_word
  put_overlap is x = rw is x

pub put_no_flag : (text : Text) → Put (flag_word NO_FLAG) 8 text text
unfolding flag_word
put_no_flag text = put_none 8 text

-- ---- the lines of elements: e of them are put
pub record Lined (t : Layout) (before text : Text) (e : ℕ) : Type 0 where
  pub put : Put (element_lines t e) (104 * e) before text

module _ (t : Layout) (before : Text) where
  pub lined_none : Lined t before before 0
  unfolding element_lines
  lined_none = record { put = put_none 0 before }

  module _ {text : Text} {e : ℕ} (ok : Listable t) (L : Lined t before text e) where
    module _ (left : e < t.elements) where
      pub lined_room : HasRoom 1664 before → HasRoom 104 text
      lined_room room = omega (arith, room, L.put.short, L.put.kept, ok.ok.room, left)

      pub lined_more : {after : Text} → Put (tree_line e (tree_of 4 t e)) 104 text after → Lined t before after (e + 1)
      unfolding element_lines
      lined_more x = record { put = rw add-one (put_within (104 * suc e) (omega arith) (L.put then x)) }

    pub lined_all : e ≡ t.elements → Put (element_lines t t.elements) 1664 before text
    lined_all all = rw all at (put_within 1664 (omega (arith, all, ok.ok.room)) L.put)

-- ---- a layout and its elements, and a refusal, are the listing
pub put_accepted : (size : ℕ) (t : Layout) {t0 t1 t2 : Text} → Put (layout_line t.displacement size t.elements) 97 t0 t1
    → Put (element_lines t t.elements) 1664 t1 t2 → Put (accepted_lines size t) 1761 t0 t2
unfolding accepted_lines
put_accepted size t x y = x then y

-- .. of a sheet that was refused
pub listed_refused : (f : Refused) (xs : List ℕ) → reading_of (Err f) ≡ read_sheet xs → {before after : Text}
    → Put (refusal_line (fault_number f.fault) f.place (fault_flag f.fault)) 61 before after → Put (listing (read_sheet xs)) 1761 before after
unfolding listing refusal
listed_refused f xs is x =
    rw (← is, ne_eqb (fault_number f.fault) 0 (λ none. omega (arith, number_some f.fault))) (put_within 1761 (omega arith) x)

-- .. and of one that was accepted
module _ (s : Sheet) (xs : List ℕ) (is : reading_of (Ok s) ≡ read_sheet xs) where
  pub listed_accepted : {before after : Text} → Put (accepted_lines s.size s.layout) 1761 before after → Put (listing (read_sheet xs)) 1761 before after
  unfolding listing
  listed_accepted x = rw (← is) x

  -- which has what the lines ask for
  pub accepted : Accepted (reading_of (Ok s))
  accepted = rw is (accepted_law xs (ap (λ (r : Reading). r.number) (sym is)))

  pub listable : Listable s.layout
  listable = let A = accepted in record { ok = A.ok; spans = A.spans }
