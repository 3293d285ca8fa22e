-- An answer as a line of text. Assumes nothing: these are definitions.
use Rattle.std.specs.Prelude.{List, [], ◌∷◌, ◌++◌, ℕ, ◌+◌, ◌*◌, ◌/◌, ◌%◌, ◌≤◌}
use Rattle.io.specs.Digits.{hex_digit_ascii}
use Rattle.words.specs.Texts.{word, decimal}
use Rattle.said.specs.declared.Answer.{Answer}

-- a number and the space after it
unfoldable pub field : ℕ → List ℕ
field n = decimal n ++ word " "

-- the seven numbers of an answer
unfoldable pub fields : Answer → List ℕ
fields a =
    field a.number ++ (field a.sheet ++ (field a.place ++ (field a.flag ++ (field a.value ++ (field a.value2 ++ field a.value3)))))

-- bytes in lower-case hex, two digits a byte: `hex_digit_ascii` of `io` is a digit's character, 0 to 9 and then a to f
unfoldable pub hex : List ℕ → List ℕ
hex [] = []
hex (b ∷ bs) = hex_digit_ascii (b / 16) ∷ hex_digit_ascii (b % 16) ∷ hex bs

-- a buffer is its bytes in hex, and `-` where it has none
unfoldable pub buffer : List ℕ → List ℕ
buffer [] = word "-"
buffer (b ∷ bs) = hex (b ∷ bs)

-- THE LINE: `number sheet place flag value value2 value3 into` and a line end, where `into` is the destination buffer after the call
unfoldable pub line : Answer → (into : List ℕ) → List ℕ
line a into = fields a ++ (buffer into ++ word "\n")

-- there is room for the answer to a frame of some length: for its destination buffer, and for its line, which has seven numbers of at most 20 digits, a space
-- after each, the buffer or `-`, and the line end. No frame is longer than the longest
pub record Room (frame space text : ℕ) : Type 0 where
  pub most : frame ≤ 65532
  pub buffered : frame ≤ space
  pub lined : 149 + 2 * frame ≤ text
