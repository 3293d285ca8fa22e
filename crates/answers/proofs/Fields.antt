-- Pieces that are put one after the other: a number, an answer's seven, and the whole line. Assumes nothing.
use mathlib.Core.Path.{◌≡◌, sym, ap, ◌∙◌}
use mathlib.Core.List.{List, [], ◌∷◌, ◌++◌, append-nil, append_assoc}
use native.Mathlib.Omega.{arith}
use Prim.Native.Nat.{ℕ, ◌+◌, ◌*◌, ◌≤◌, ◌<◌}
use native.Mathlib.Numerals.{add-one}
use lib.ListN.{length, take, get_or, length-append, length-take}
use lib.Seq.{take-suc}
use Rattle.words.specs.Texts.{word, decimal}
use Rattle.words.specs.Written.{written, Put}
use Rattle.words.specs.declared.Text.{Text}
use Rattle.words.proofs.Puts.{put_none, ◌then◌}
use Rattle.said.specs.declared.Answer.{Answer}
use Rattle.answers.specs.Lines.{field, fields, buffer, line}

-- a number's digits and a space
pub put_field : (n : ℕ) {t0 t1 t2 : Text} → Put (decimal n) 20 t0 t1 → Put (word " ") 1 t1 t2 → Put (field n) 21 t0 t2
unfolding field
put_field n x y = x then y

-- numbers one after the other
unfoldable pub several : List ℕ → List ℕ
several [] = []
several (n ∷ ns) = field n ++ several ns

several_more : (ns : List ℕ) (n : ℕ) → several (ns ++ (n ∷ [])) ≡ several ns ++ field n
unfolding several
several_more [] n = append-nil (field n)
several_more (m ∷ ns) n = ap (λ (rest : List ℕ). field m ++ rest) (several_more ns n) ∙ sym (append_assoc (field m) (several ns) (field n))

-- the first i of them are put
abbrev pub Told : (numbers : List ℕ) (i : ℕ) (before here : Text) → Type 0
Told numbers i before here = Put (several (take i numbers)) (21 * i) before here

pub told_none : (text : Text) → Put (several []) 0 text text
unfolding several
told_none text = put_none 0 text

pub told_more : (numbers : List ℕ) {i : ℕ} {before here after : Text} → i < length numbers → Told numbers i before here
    → Put (field (get_or numbers i 0)) 21 here after → Told numbers (i + 1) before after
told_more numbers {i} h p q =
    let both = p then q in
    record {
      text = rw (add-one, take-suc numbers i 0 h, several_more) both.text;
      short = omega (arith, both.short);
      kept = both.kept;
      same_reference = both.same_reference;
    }

-- the seven numbers of an answer
pub told_all : (a : Answer) {i : ℕ} {before here : Text} → i ≤ 7 → 7 ≤ i
    → Told (a.number ∷ a.sheet ∷ a.place ∷ a.flag ∷ a.value ∷ a.value2 ∷ a.value3 ∷ []) i before here → Put (fields a) 147 before here
unfolding fields several
told_all a {i} h k p = let e : i ≡ 7 = omega arith in rw append-nil at (rw e at p)

-- with the buffer and the end of a line they are the line
module _ (a : Answer) (into : List ℕ) {most : ℕ} {t0 t1 t2 t3 : Text} (p : Put (fields a) 147 t0 t1) (q : Put (buffer into) most t1 t2)
    (r : Put (word "\n") 1 t2 t3) where
  pub put_line : Put (line a into) (147 + (most + 1)) t0 t3
  unfolding line
  put_line = p then q then r

-- what a byte was put behind is some
pub put_some : (b : ℕ) {most : ℕ} {before after : Text} → Put (b ∷ []) most before after → 0 < after.len
put_some b {before = before} {after = after} x =
    omega (arith, ap length x.text, length-append (written before) (b ∷ []), length-take after.len after.bytes.now)
