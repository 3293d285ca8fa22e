-- The calls and their numbers. Assumes nothing: these are definitions.
use Rattle.std.specs.Prelude.{◌≡◌, ℕ, Result, MatchResult}
use Rattle.answers.specs.declared.calls.Call.{Call}
use Rattle.answers.specs.declared.calls.Call.TheVariants.{Check, Exact, Next, Inverse, Span, Gather, Scatter, Move, PairMove, SharedRuns, Listing, PackedLength}
use Rattle.answers.specs.declared.calls.UnknownCall.{UnknownCall}

-- the calls' numbers
abbrev pub CHECK : ℕ
CHECK = 1

abbrev pub EXACT : ℕ
EXACT = 2

abbrev pub NEXT : ℕ
NEXT = 3

abbrev pub INVERSE : ℕ
INVERSE = 4

abbrev pub SPAN : ℕ
SPAN = 5

abbrev pub GATHER : ℕ
GATHER = 6

abbrev pub SCATTER : ℕ
SCATTER = 7

abbrev pub MOVE : ℕ
MOVE = 8

abbrev pub PAIR_MOVE : ℕ
PAIR_MOVE = 9

abbrev pub SHARED_RUNS : ℕ
SHARED_RUNS = 10

abbrev pub LISTING : ℕ
LISTING = 11

abbrev pub PACKED_LENGTH : ℕ
PACKED_LENGTH = 17

-- the number that stands for a call in a frame
abbrev pub number_of : Call → ℕ
number_of Check = CHECK
number_of Exact = EXACT
number_of Next = NEXT
number_of Inverse = INVERSE
number_of Span = SPAN
number_of Gather = GATHER
number_of Scatter = SCATTER
number_of Move = MOVE
number_of PairMove = PAIR_MOVE
number_of SharedRuns = SHARED_RUNS
number_of Listing = LISTING
number_of PackedLength = PACKED_LENGTH

-- no call has this number
abbrev pub NamesNone : ℕ → Type 0
NamesNone n = (call : Call) → ¬ (number_of call ≡ n)

-- the result is the call with this number, or an error with a number that no call has
abbrev pub Decodes : ℕ → Result Call UnknownCall → Type 0
Decodes n r = MatchResult r (λ call. number_of call ≡ n) (λ e. (e.0 ≡ n) × NamesNone n)
