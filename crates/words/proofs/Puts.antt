-- Pieces put into a text one behind the other. Assumes nothing.
use mathlib.Core.Path.{◌≡◌, refl, sym, ap, ◌∙◌}
use mathlib.Core.List.{List, [], ◌++◌, append-nil, append_assoc}
use Prim.Native.Nat.{ℕ, ◌+◌, ◌%◌, ◌^◌, ◌≤◌, ◌<◌}
use native.Mathlib.Omega.{arith}
use borrow.Author.Tests.{lt-ltb, le-ltb}
use lib.ListN.{length}
use Rattle.std.specs.Fmt as Fmt
use Rattle.std.proofs.lemmas.Fmt.{AppendsLastDigit, decimal_from_appends, length-decimal-le}
use Rattle.words.specs.Texts.{decimal_in, decimal}
use Rattle.words.specs.Written.{written, Put}
use Rattle.words.specs.declared.Text.{Text}

-- nothing is put
pub put_none : (most : ℕ) (t : Text) → Put [] most t t
put_none most t = record { text = sym (append-nil (written t)); short = omega arith; kept = refl; same_reference = refl }

-- a piece, and a second behind it
infixr 20 ◌then◌
pub ◌then◌ : {p q : List ℕ} {j k : ℕ} {before between after : Text} → Put p j before between → Put q k between after → Put (p ++ q) (j + k) before after
◌then◌ {p} {q} {before = before} x y =
    record {
      text = y.text ∙ ap (λ (front : List ℕ). front ++ q) x.text ∙ append_assoc (written before) p q;
      short = omega (arith, x.short, y.short);
      kept = y.kept ∙ x.kept;
      same_reference = y.same_reference ∙ x.same_reference;
    }

-- a piece that takes no more than it may
pub put_within : {p : List ℕ} {j : ℕ} {before after : Text} (k : ℕ) → j ≤ k → Put p j before after → Put p k before after
put_within k h x = record { text = x.text; short = omega (arith, x.short); kept = x.kept; same_reference = x.same_reference }

-- ---- a number
one_more : AppendsLastDigit decimal_in
unfolding decimal_in
one_more =
    record {
      one = λ k n small. let e : n % 10 ≡ n = omega arith in rw (lt-ltb n 10 small, e) refl;
      more = λ k n large. rw (le-ltb n 10 large) refl;
    }

-- what the library writes for a number of 64 bits is its decimal
pub printed : (n : ℕ) → n < 2 ^ 64 → decimal n ≡ Fmt.decimal n
printed n small = decimal_from_appends decimal_in one_more 20 n small (length-decimal-le 20 n (omega arith) (omega arith) small)

pub put_printed : (n : ℕ) {before after : Text} → n < 2 ^ 64
    → Put (Fmt.decimal n) (length (Fmt.decimal n)) before after → Put (decimal n) 20 before after
put_printed n small x = rw (printed n small) (put_within 20 (length-decimal-le 20 n (omega arith) (omega arith) small) x)
