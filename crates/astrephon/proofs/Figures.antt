-- THE FIGURES of 01 that are proved of the definitions: one table, what each call says and what 01 says, and one theorem over it. Assumes nothing.
use mathlib.Core.Path.{◌≡◌, refl, sym, ap, ap₂, ◌∙◌}
use mathlib.Core.List.{List, [], ◌∷◌, ◌++◌, map, map-append}
use Prim.Native.Nat.{ℕ, ◌+◌, ◌-◌, ◌*◌}
use native.Mathlib.Omega.{arith}
use lib.ListN.{length, replicate}
use Rattle.counting.specs.Count.{count_below, count_in, stretch, nth}
use Rattle.counting.specs.Gather.{gathered}
use Rattle.counting.specs.Runs.{glue, runs_of}
use Rattle.counting.specs.Elements.{Elements, times}
use Rattle.counting.specs.Trays.{tray, tray_place, moved}
use Rattle.families.specs.Forest.{any_below, in_segments, has, end_of, size_of}
use Rattle.families.specs.Decoded.{siblings, forest_at}
use Rattle.families.specs.Flat.{width, total, flat, totals, flats, elements_at, layout_of}
use Rattle.families.proofs.Figures.{pairs, singles}
use Rattle.sheets.specs.Refusals.{first_fault, unless, and_then, HOLE_OR_OVERLAP, NO_FLAG, HOLE, OVERLAP, SHORT}
use Rattle.sheets.specs.Bytes.{le16, le32, two, four}
use Rattle.sheets.specs.Records.{length_of, head_tests, family_record, bad_segment, family_tests, header_tests, element_tests, body_tests, fault}
use Rattle.sheets.specs.Sheet.{siblings_from, forest_from, elements_from, elements_of, refusal, accepted, judged, answer, read_sheet}
use Rattle.sheets.specs.Pattern.{sizes, first_uneven}
use Rattle.sheets.specs.Encode.{family_bytes, forest_bytes, element_bytes, elements_bytes, encode}
use Rattle.words.specs.Texts.{word, decimal_in}
use Rattle.lines.specs.Listing.{layout_line, element_line, element_lines, flag_word, refusal_line, accepted_lines, listing}
use Rattle.openings.specs.Said.{Said, done, refused, Outcome, afterwards}
use Rattle.openings.specs.Refusals.{BEFORE, FOREIGN, ROOM, unless_sheet, unless_fault}
use Rattle.openings.specs.Offsets.{offsets_of}
use Rattle.runs.specs.Listing.{list_of}
use Rattle.astrephon.specs.Check.{check_of, check_call}
use Rattle.astrephon.specs.Maps.{exact_of, next_of, exact_call, next_call, inverse_call}
use Rattle.astrephon.specs.Shares.{unless_room, shared_runs_call}
use Rattle.astrephon.specs.Moves.{elements_read, move_call}
use Rattle.astrephon.specs.Texts.{text_outcome, listing_call}
use Rattle.astrephon.proofs.Undoing.{inverse_of_lem}
use Rattle.astrephon.proofs.Panel.{sheet_c, panel_exact}
use Rattle.astrephon.proofs.TrayFigures.{layout_a, layout_b, layouts, a_to_b, b_to_a}
use Rattle.astrephon.proofs.Samples.{only, elements_a, sheet_a, sheet_b, sheet_pairs, sheet_singles, listed_of, shared_a_b, shared_pairs_singles}

-- the sheets of 01's layouts; F has A's elements, from 2 on
unfoldable pub sheet_f : List ℕ
sheet_f = encode 2 elements_a

unfoldable pub sheet_hole : List ℕ
sheet_hole = encode 0 (only 0 1 ∷ only 3 3 ∷ [])

unfoldable pub sheet_overlap : List ℕ
sheet_overlap = encode 0 (only 0 1 ∷ only 1 2 ∷ [])

-- F's sheet has 94 bytes
pub length_f : length sheet_f ≡ 94
unfolding sheet_f encode elements_bytes element_bytes forest_bytes family_bytes width two four
length_f = refl

-- a row: what a call says and what its buffer holds afterwards, or a tray that no call is asked for; and what 01 has there
pub record Figure : Type 0 where
  pub call : Outcome
  pub wanted : Outcome

-- of a call that writes nothing
abbrev saying : (call wanted : Said) → Figure
saying call wanted = record { call = record { says = call; later = [] }; wanted = record { says = wanted; later = [] } }

abbrev wrote : (call : Outcome) → (wanted : Said) → (later : List ℕ) → Figure
wrote call wanted later = record { call = call; wanted = record { says = wanted; later = later } }

abbrev refused_sheet : (number place flag : ℕ) → Said
refused_sheet number place flag = refused number 1 place flag

abbrev refused_call : (number place : ℕ) → Said
refused_call number place = refused number 0 place NO_FLAG

-- the listing of a sheet, into a buffer of nines that is two bytes longer
abbrev lists : (sheet text : List ℕ) → Figure
lists sheet text = wrote (listing_call sheet (replicate (length text + 2) 9)) (done (length text ∷ [])) (text ++ (9 ∷ 9 ∷ []))

-- the shared runs of the first element of each, from 0 to b
abbrev shares : (first second : List ℕ) → (b : ℕ) → (list : List ℕ) → Said → (later : List ℕ) → Figure
shares first second b list wanted later = wrote (shared_runs_call first second 0 0 0 b list) wanted later

-- the tray of a sheet, of bytes equal to their offsets; and a move from one to the other, into a buffer of nines
abbrev trays : List ℕ → (a b : ℕ) → (wanted : List ℕ) → Figure
trays sheet a b wanted = wrote (record { says = done []; later = tray (elements_read (read_sheet sheet)) a (b - a) (λ x. x) }) (done []) wanted

abbrev moves : (first second : List ℕ) → (a b : ℕ) → (tray1 tray2 : List ℕ) → Figure
moves first second a b tray1 tray2 = wrote (move_call first second a b tray1 (replicate (length tray1) 9)) (done []) tray2

-- lists whose slots all hold 9
abbrev seven_slots : List ℕ
seven_slots = 9 ∷ 9 ∷ 9 ∷ 9 ∷ 9 ∷ 9 ∷ 9 ∷ []

abbrev eight_slots : List ℕ
eight_slots = 9 ∷ seven_slots

-- the trays of A and B
abbrev long_a : List ℕ
long_a = 0 ∷ 1 ∷ 6 ∷ 7 ∷ 2 ∷ 3 ∷ 8 ∷ 9 ∷ 4 ∷ 5 ∷ 10 ∷ 11 ∷ []

abbrev long_b : List ℕ
long_b = 0 ∷ 2 ∷ 4 ∷ 6 ∷ 8 ∷ 10 ∷ 1 ∷ 3 ∷ 5 ∷ 7 ∷ 9 ∷ 11 ∷ []

abbrev short_a : List ℕ
short_a = 1 ∷ 2 ∷ 3 ∷ 4 ∷ []

abbrev short_b : List ℕ
short_b = 2 ∷ 4 ∷ 1 ∷ 3 ∷ []

-- those that the definitions compute
unfoldable pub computed : List Figure
computed =
    saying (check_call sheet_f) (done (6 ∷ 3 ∷ 2 ∷ []))
    ∷ saying (check_call sheet_hole) (refused_sheet HOLE_OR_OVERLAP 2 HOLE)
    ∷ saying (check_call sheet_overlap) (refused_sheet HOLE_OR_OVERLAP 1 OVERLAP)
    ∷ saying (check_call []) (refused_sheet SHORT 0 NO_FLAG)
    ∷ saying (exact_call sheet_f 1 10) (done (2 ∷ []))
    ∷ saying (exact_call sheet_f 1 6) (refused_call FOREIGN 0)
    ∷ saying (next_call sheet_f 1 6) (done (2 ∷ []))
    ∷ saying (exact_call sheet_f 1 1) (refused_call BEFORE 0)
    ∷ lists sheet_f (word "layout displacement 2 size 6 elements 3\n0 size 2 families 1 first 0\n1 size 2 families 1 first 2\n2 size 2 families 1 first 4\n")
    ∷ lists [] (word "refused 1 at 0\n")
    ∷ lists sheet_hole (word "refused 11 at 2 hole\n")
    ∷ lists sheet_overlap (word "refused 11 at 1 overlap\n")
    ∷ []

-- those that compute once a law has taken a step: a search up to 2^40, the panel, and shared runs, which would read the sheets once an offset
unfoldable pub reasoned : List Figure
reasoned =
    saying (inverse_call sheet_f 1 2) (done (10 ∷ []))
    ∷ saying (exact_call sheet_c 1 (5 * 1920 + 3 * 80 + 2 * 12)) (done (2464 ∷ []))
    ∷ saying (inverse_call sheet_c 1 2464) (done (9864 ∷ []))
    ∷ shares sheet_a sheet_b 12 seven_slots (refused_call ROOM 2) seven_slots
    ∷ shares sheet_a sheet_b 12 eight_slots (done (2 ∷ [])) (0 ∷ 1 ∷ 0 ∷ 0 ∷ 6 ∷ 1 ∷ 2 ∷ 3 ∷ [])
    ∷ shares sheet_pairs sheet_singles 32 eight_slots (done (2 ∷ [])) (0 ∷ 1 ∷ 0 ∷ 0 ∷ 16 ∷ 1 ∷ 4 ∷ 4 ∷ [])
    ∷ trays sheet_a 0 12 long_a
    ∷ trays sheet_b 0 12 long_b
    ∷ trays sheet_a 1 5 short_a
    ∷ trays sheet_b 1 5 short_b
    ∷ moves sheet_a sheet_b 0 12 long_a long_b
    ∷ moves sheet_b sheet_a 0 12 long_b long_a
    ∷ moves sheet_a sheet_b 1 5 short_a short_b
    ∷ moves sheet_b sheet_a 1 5 short_b short_a
    ∷ []

-- THE TABLE
abbrev pub all : List Figure
all = computed ++ reasoned

computed_hold : map (λ (f : Figure). f.call) computed ≡ map (λ (f : Figure). f.wanted) computed
unfolding computed sheet_f sheet_hole sheet_overlap encode elements_bytes element_bytes forest_bytes family_bytes two four width total flat totals flats
    elements_at layout_of check_of exact_of next_of text_outcome offsets_of unless_sheet unless_fault afterwards read_sheet answer judged accepted refusal
    first_uneven sizes elements_of elements_from forest_from siblings_from fault body_tests element_tests header_tests family_tests bad_segment family_record
    head_tests length_of le16 le32 and_then unless first_fault times forest_at siblings size_of end_of has in_segments any_below count_below stretch nth
    word decimal_in listing accepted_lines layout_line element_lines element_line refusal_line flag_word
computed_hold = refl

-- 10 is byte 2 of F's element 1, since its exact mapping is 2
exact_f : exact_call sheet_f 1 10 ≡ done (2 ∷ [])
unfolding sheet_f encode elements_bytes element_bytes forest_bytes family_bytes two four width total flat totals flats
    elements_at layout_of exact_of offsets_of unless_sheet unless_fault read_sheet answer judged accepted refusal
    first_uneven sizes elements_of elements_from forest_from siblings_from fault body_tests element_tests header_tests family_tests bad_segment family_record
    head_tests length_of le16 le32 and_then unless first_fault times forest_at siblings size_of end_of has in_segments any_below count_below stretch
exact_f = refl

inverse_f : inverse_call sheet_f 1 2 ≡ done (10 ∷ [])
inverse_f = inverse_of_lem sheet_f 1 10 2 exact_f

seven_a_b : shared_runs_call sheet_a sheet_b 0 0 0 12 seven_slots ≡ record { says = refused_call ROOM 2; later = seven_slots }
unfolding listed_of unless_room afterwards list_of runs_of glue has in_segments any_below count_below
seven_a_b = shared_a_b seven_slots

eight_a_b : shared_runs_call sheet_a sheet_b 0 0 0 12 eight_slots ≡ record { says = done (2 ∷ []); later = 0 ∷ 1 ∷ 0 ∷ 0 ∷ 6 ∷ 1 ∷ 2 ∷ 3 ∷ [] }
unfolding listed_of unless_room afterwards list_of runs_of glue has in_segments any_below count_below
eight_a_b = shared_a_b eight_slots

eight_pairs_singles : shared_runs_call sheet_pairs sheet_singles 0 0 0 32 eight_slots ≡ record { says = done (2 ∷ []); later = 0 ∷ 1 ∷ 0 ∷ 0 ∷ 16 ∷ 1 ∷ 4 ∷ 4 ∷ [] }
unfolding listed_of unless_room afterwards list_of runs_of glue pairs singles has in_segments any_below count_below
eight_pairs_singles = shared_pairs_singles eight_slots

-- the trays, by the families of A and B, and the moves between them
trays_a_b : (tray layout_a 0 12 (λ x. x) ≡ long_a) × (tray layout_b 0 12 (λ x. x) ≡ long_b) × (tray layout_a 1 4 (λ x. x) ≡ short_a) × (tray layout_b 1 4 (λ x. x) ≡ short_b)
unfolding tray gathered has in_segments any_below
trays_a_b = (refl, refl, refl, refl)

moves_a_b : (moved layout_a layout_b 0 12 long_a ≡ long_b) × (moved layout_b layout_a 0 12 long_b ≡ long_a) × (moved layout_a layout_b 1 4 short_a ≡ short_b) × (moved layout_b layout_a 1 4 short_b ≡ short_a)
unfolding moved tray gathered tray_place count_in count_below has in_segments any_below
moves_a_b = (refl, refl, refl, refl)

tray_says : (sheet : List ℕ) (L : Elements) → elements_read (read_sheet sheet) ≡ L → (a b : ℕ) (wanted : List ℕ) → tray L a (b - a) (λ x. x) ≡ wanted
    → (trays sheet a b wanted).call ≡ (trays sheet a b wanted).wanted
tray_says sheet L is a b wanted e = λ i. record { says = done []; later = (ap (λ (M : Elements). tray M a (b - a) (λ x. x)) is ∙ e) i }

move_says : (first second : List ℕ) (a b : ℕ) (tray1 tray2 later : List ℕ) → move_call first second a b tray1 (replicate (length tray1) 9) ≡ record { says = done []; later = later } → later ≡ tray2
    → (moves first second a b tray1 tray2).call ≡ (moves first second a b tray1 tray2).wanted
move_says first second a b tray1 tray2 later q e = q ∙ (λ i. record { says = done []; later = e i })

-- an outcome of a call that writes nothing
said : {call wanted : Said} → call ≡ wanted → (saying call wanted).call ≡ (saying call wanted).wanted
said q = λ i. record { says = q i; later = [] }

reasoned_hold : map (λ (f : Figure). f.call) reasoned ≡ map (λ (f : Figure). f.wanted) reasoned
unfolding reasoned
reasoned_hold =
    let a = tray_says sheet_a layout_a layouts.0 0 12 long_a trays_a_b.0 in
    let b = tray_says sheet_b layout_b layouts.1 0 12 long_b trays_a_b.1 in
    let c = tray_says sheet_a layout_a layouts.0 1 5 short_a trays_a_b.2 in
    let d = tray_says sheet_b layout_b layouts.1 1 5 short_b trays_a_b.3 in
    let e = move_says sheet_a sheet_b 0 12 long_a long_b _ (a_to_b 0 12 (omega arith) (omega arith) long_a _ refl refl) moves_a_b.0 in
    let f = move_says sheet_b sheet_a 0 12 long_b long_a _ (b_to_a 0 12 (omega arith) (omega arith) long_b _ refl refl) moves_a_b.1 in
    let g = move_says sheet_a sheet_b 1 5 short_a short_b _ (a_to_b 1 5 (omega arith) (omega arith) short_a _ refl refl) moves_a_b.2 in
    let h = move_says sheet_b sheet_a 1 5 short_b short_a _ (b_to_a 1 5 (omega arith) (omega arith) short_b _ refl refl) moves_a_b.3 in
    λ i. said inverse_f i ∷ said panel_exact i ∷ said (inverse_of_lem sheet_c 1 9864 2464 panel_exact) i ∷ seven_a_b i ∷ eight_a_b i ∷ eight_pairs_singles i ∷ a i ∷ b i ∷ c i ∷ d i ∷ e i ∷ f i ∷ g i ∷ h i ∷ []

pub figures : map (λ (f : Figure). f.call) all ≡ map (λ (f : Figure). f.wanted) all
figures = map-append (λ (f : Figure). f.call) computed reasoned ∙ ap₂ ◌++◌ computed_hold reasoned_hold ∙ sym (map-append (λ (f : Figure). f.wanted) computed reasoned)
