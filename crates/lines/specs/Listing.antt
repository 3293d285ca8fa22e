-- THE LISTING of a sheet, in 01's words. Each line ends in a line end. Assumes nothing: these are definitions.
use Rattle.std.specs.Prelude.{cond, List, [], ◌++◌, ℕ, zero, suc, ◌+◌, ◌*◌, eqb}
use Rattle.counting.specs.Count.{nth}
use Rattle.families.specs.declared.Layout.{Layout}
use Rattle.families.specs.Forest.{Forest, has, end_of, size_of}
use Rattle.families.specs.Decoded.{tree_of}
use Rattle.families.specs.Flat.{total}
use Rattle.sheets.specs.Sheet.{Reading}
use Rattle.sheets.specs.Refusals.{HOLE, OVERLAP}
use Rattle.words.specs.Texts.{word, decimal}

-- the first line: displacement, pattern size, element count
unfoldable pub layout_line : (displacement size elements : ℕ) → List ℕ
layout_line d size n =
    (word "layout displacement " ++ decimal d) ++ ((word " size " ++ decimal size) ++ ((word " elements " ++ decimal n) ++ word "\n"))

-- an element's line: index, bytes in a pattern, families of all levels, first pattern offset selected
unfoldable pub element_line : (index size families first : ℕ) → List ℕ
element_line e size families first =
    decimal e ++ ((word " size " ++ decimal size) ++ ((word " families " ++ decimal families) ++ ((word " first " ++ decimal first) ++ word "\n")))

-- the first offset that families select
abbrev pub first_of : Forest → ℕ
first_of F = nth (has F) (end_of F) 0

abbrev pub tree_line : (index : ℕ) → Forest → List ℕ
tree_line e F = element_line e (size_of F) (total F) (first_of F)

-- the lines of the first n elements
unfoldable pub element_lines : Layout → (n : ℕ) → List ℕ
element_lines t zero = []
element_lines t (suc e) = element_lines t e ++ tree_line e (tree_of 4 t e)

-- a refused sheet's one line; number 11 adds what stands at its place
unfoldable pub flag_word : (flag : ℕ) → List ℕ
flag_word flag = cond (eqb flag HOLE) (word " hole") (cond (eqb flag OVERLAP) (word " overlap") [])

unfoldable pub refusal_line : (number place flag : ℕ) → List ℕ
refusal_line number place flag = (word "refused " ++ decimal number) ++ ((word " at " ++ decimal place) ++ (flag_word flag ++ word "\n"))

unfoldable pub accepted_lines : (size : ℕ) → Layout → List ℕ
accepted_lines size t = layout_line t.displacement size t.elements ++ element_lines t t.elements

unfoldable pub listing : Reading → List ℕ
listing r = cond (eqb r.number 0) (accepted_lines r.size r.layout) (refusal_line r.number r.place r.flag)

-- no listing is longer: at most 97 bytes for the layout's line, and 104 for each of 16 elements
abbrev pub LONGEST_LISTING : ℕ
LONGEST_LISTING = 97 + 16 * 104
