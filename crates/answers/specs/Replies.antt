-- What the program prints for a frame. Assumes nothing: these are definitions.
use Rattle.std.specs.Prelude.{◌≡◌, cond, List, [], ℕ, eqb, length, Option, Some, None}
use Rattle.openings.specs.Said.{Said, Outcome}
use Rattle.astrephon.specs.Check.{check_call}
use Rattle.astrephon.specs.Maps.{exact_call, next_call, inverse_call, span_call}
use Rattle.astrephon.specs.Shares.{shared_runs_call}
use Rattle.astrephon.specs.Carries.{packed_length_call, gather_call, scatter_call}
use Rattle.astrephon.specs.Moves.{move_call, pair_move_call}
use Rattle.astrephon.specs.Texts.{listing_call}
use Rattle.said.specs.declared.Answer.{Answer}
use Rattle.said.specs.Answers.{answer_of}
use Rattle.answers.specs.Calls.{CHECK, EXACT, NEXT, INVERSE, SPAN, GATHER, SCATTER, MOVE, PAIR_MOVE, SHARED_RUNS, LISTING, PACKED_LENGTH}
use Rattle.answers.specs.Frames.{call_of, i_of, j_of, a_of, b_of, end4, sheet1, sheet2, from_of, into_of}
use Rattle.answers.specs.Numbers.{slots_of, with_slots}
use Rattle.answers.specs.Lines.{line}

-- ---- what the calls that write nothing say of a frame
abbrev pub check_said : List ℕ → Said
check_said xs = check_call (sheet1 xs)

abbrev pub exact_said : List ℕ → Said
exact_said xs = exact_call (sheet1 xs) (i_of xs) (a_of xs)

abbrev pub next_said : List ℕ → Said
next_said xs = next_call (sheet1 xs) (i_of xs) (a_of xs)

abbrev pub inverse_said : List ℕ → Said
inverse_said xs = inverse_call (sheet1 xs) (i_of xs) (a_of xs)

abbrev pub span_said : List ℕ → Said
span_said xs = span_call (sheet1 xs) (i_of xs) (a_of xs) (b_of xs)

abbrev pub packed_said : List ℕ → Said
packed_said xs = packed_length_call (sheet1 xs) (i_of xs) (a_of xs) (b_of xs)

-- ---- and those that write say, and leave in the destination buffer: one element's bytes, from a file buffer into a packed one and back
abbrev pub gather_outcome : List ℕ → (into : List ℕ) → Outcome
gather_outcome xs into = gather_call (sheet1 xs) (i_of xs) (a_of xs) (b_of xs) (from_of xs) into

abbrev pub scatter_outcome : List ℕ → (into : List ℕ) → Outcome
scatter_outcome xs into = scatter_call (sheet1 xs) (i_of xs) (a_of xs) (b_of xs) (from_of xs) into

-- from a tray of sheet 1's layout into one of sheet 2's: all bytes, and those that two elements share
abbrev pub move_outcome : List ℕ → (into : List ℕ) → Outcome
move_outcome xs into = move_call (sheet1 xs) (sheet2 xs) (a_of xs) (b_of xs) (from_of xs) into

abbrev pub pair_move_outcome : List ℕ → (into : List ℕ) → Outcome
pair_move_outcome xs into = pair_move_call (sheet1 xs) (sheet2 xs) (i_of xs) (j_of xs) (a_of xs) (b_of xs) (from_of xs) into

-- shared runs: the list is the buffer's whole slots. What the call leaves in them is put back; bytes behind the last whole slot stay
abbrev pub sharing : List ℕ → (slots : List ℕ) → Outcome
sharing xs slots = shared_runs_call (sheet1 xs) (sheet2 xs) (i_of xs) (j_of xs) (a_of xs) (b_of xs) slots

unfoldable pub shared_outcome : List ℕ → (into : List ℕ) → Outcome
shared_outcome xs into = record { says = (sharing xs (slots_of into)).says; later = with_slots (sharing xs (slots_of into)).later into }

-- the listing of sheet 1
abbrev pub listing_outcome : List ℕ → (into : List ℕ) → Outcome
listing_outcome xs into = listing_call (sheet1 xs) into

-- an answer that says what an outcome says, and a buffer that it leaves
pub record Tells (o : Outcome) (answer : Answer) (later : List ℕ) : Type 0 where
  pub answered : answer ≡ answer_of o.says
  pub left : later ≡ o.later

-- ---- THE REPLY to a frame, by the number of its call: first of those that write nothing
unfoldable pub asked_of : (call : ℕ) → (frame : List ℕ) → Option Answer
asked_of call xs =
    cond (eqb call CHECK) (Some (answer_of (check_said xs)))
    (cond (eqb call EXACT) (Some (answer_of (exact_said xs)))
    (cond (eqb call NEXT) (Some (answer_of (next_said xs)))
    (cond (eqb call INVERSE) (Some (answer_of (inverse_said xs)))
    (cond (eqb call SPAN) (Some (answer_of (span_said xs)))
    (cond (eqb call PACKED_LENGTH) (Some (answer_of (packed_said xs)))
    None)))))

-- a reply, and what the destination buffer holds after the call
pub record Replied : Type 0 where
  pub reply : Option Answer
  pub later : List ℕ

abbrev pub leaving : Option Answer → (later : List ℕ) → Replied
leaving r later = record { reply = r; later = later }

abbrev pub telling : Outcome → Replied
telling o = leaving (Some (answer_of o.says)) o.later

-- where the destination buffer holds `into`
unfoldable pub reply_to : (call : ℕ) → (frame into : List ℕ) → Replied
reply_to call xs into =
    cond (eqb call GATHER) (telling (gather_outcome xs into))
    (cond (eqb call SCATTER) (telling (scatter_outcome xs into))
    (cond (eqb call MOVE) (telling (move_outcome xs into))
    (cond (eqb call PAIR_MOVE) (telling (pair_move_outcome xs into))
    (cond (eqb call SHARED_RUNS) (telling (shared_outcome xs into))
    (cond (eqb call LISTING) (telling (listing_outcome xs into))
    (leaving (asked_of call xs) into))))))

-- the line of what is replied and left, and nothing where there is no such call
unfoldable pub line_of : Option Answer → (into : List ℕ) → List ℕ
line_of (Some a) into = line a into
line_of None into = []

abbrev pub line_left : Replied → List ℕ
line_left r = line_of r.reply r.later

-- THE LINE that is printed for the bytes of a frame, its call made on its own destination buffer. It is nothing where the bytes are no frame or the call is
-- unknown: then `bad frame` is printed
unfoldable pub reply : List ℕ → List ℕ
reply xs = cond (eqb (end4 xs) (length xs)) (line_left (reply_to (call_of xs) xs (into_of xs))) []
