-- THE CONTRACTS of the calls, as the checker has them. `Post` of a function is what its `ensures` asks of the arguments, the answer and what is left of what
-- was lent; here it is said of contents, wherever they lie in memory. What is proved of these holds of every program that meets the contracts, and is
-- checked anew against whatever an `ensures` says. Assumes nothing: these are definitions.
use mathlib.Core.List.{List}
use Prim.Native.Nat.{ℕ}
use base.Fml.{GName}
use contract.Lifetimes.{Lfts}
use denote.Bor.{Bor}
use denote.MutBor.{MutBor}
use Rattle.std.specs.Prelude.{Result, Ok}
use Rattle.families.specs.declared.FileOffset.{FileOffset}
use Rattle.families.specs.declared.SubfileOffset.{SubfileOffset}
use Rattle.openings.specs.declared.Refusal.{Refusal}
use Rattle.astrephon.specs.declared.Facts.{Facts}
use Rattle.astrephon.specs.declared.Interval.{Interval}
use Rattle.astrephon.proofs.checking.check.Reads as check
use Rattle.astrephon.proofs.mapping.exact.Reads as exact
use Rattle.astrephon.proofs.mapping.next.Reads as next
use Rattle.astrephon.proofs.mapping.inverse.Reads as inverse
use Rattle.astrephon.proofs.mapping.span.Reads as span
use Rattle.astrephon.proofs.sharing.shared_runs.Reads as shared-runs
use Rattle.astrephon.proofs.carrying.packed_len.Reads as packed-len
use Rattle.astrephon.proofs.carrying.gather.Reads as gather
use Rattle.astrephon.proofs.carrying.scatter.Reads as scatter
use Rattle.astrephon.proofs.moving.move_tray.Reads as move-tray
use Rattle.astrephon.proofs.moving.move_pair.Reads as move-pair
use Rattle.astrephon.proofs.listing.list_sheet.Reads as list-sheet

-- what a call answers; and a call that moves bytes, where it did its work
abbrev pub Answer : Type 0 → Type 0
Answer A = Result A Refusal

abbrev pub Carried : Type 0
Carried = Answer (Unit {0})

abbrev pub Done : Carried
Done = Ok tt

-- how a call was made: its n lifetimes, and where each thing lies that it was lent
pub record Made (n : ℕ) : Type 0 where
  pub lifetimes : Lfts n
  pub pointer : ℕ → ℕ × ℕ
  pub name : ℕ → GName

-- the k-th thing that was lent, with these contents: to be read
abbrev shown : {n : ℕ} → Made n → (k : ℕ) → List ℕ → Bor (List ℕ)
shown m k xs = record { ref_ptr = m.pointer k; now = xs }

-- .. and to be written
abbrev lent : {n : ℕ} → Made n → (k : ℕ) → List ℕ → MutBor (List ℕ)
lent m k xs = record { ref_ptr = m.pointer k; ghost_name = m.name k; now = xs }

abbrev in_file : ℕ → FileOffset
in_file x = record { 0 = x }

abbrev in_subfile : ℕ → SubfileOffset
in_subfile y = record { 0 = y }

-- ---- calls that write nothing: what they were given, and the answer
abbrev pub Check : Made 1 → (xs : List ℕ) → Answer Facts → Type 0
Check m xs answer = check.Post m.lifetimes (shown m 0 xs, tt) answer (shown m 0 xs, tt)

abbrev pub Exact : Made 1 → (xs : List ℕ) → (e x : ℕ) → Answer SubfileOffset → Type 0
Exact m xs e x answer = exact.Post m.lifetimes (shown m 0 xs, (e, (in_file x, tt))) answer (shown m 0 xs, (e, (in_file x, tt)))

abbrev pub Next : Made 1 → (xs : List ℕ) → (e x : ℕ) → Answer SubfileOffset → Type 0
Next m xs e x answer = next.Post m.lifetimes (shown m 0 xs, (e, (in_file x, tt))) answer (shown m 0 xs, (e, (in_file x, tt)))

abbrev pub Inverse : Made 1 → (xs : List ℕ) → (e y : ℕ) → Answer FileOffset → Type 0
Inverse m xs e y answer = inverse.Post m.lifetimes (shown m 0 xs, (e, (in_subfile y, tt))) answer (shown m 0 xs, (e, (in_subfile y, tt)))

abbrev pub Span : Made 1 → (xs : List ℕ) → (e a z : ℕ) → Answer Interval → Type 0
Span m xs e a z answer = span.Post m.lifetimes (shown m 0 xs, (e, (in_file a, (in_file z, tt)))) answer (shown m 0 xs, (e, (in_file a, (in_file z, tt))))

abbrev pub PackedLen : Made 1 → (xs : List ℕ) → (e a b : ℕ) → Answer ℕ → Type 0
PackedLen m xs e a b answer = packed-len.Post m.lifetimes (shown m 0 xs, (e, (in_file a, (in_file b, tt)))) answer (shown m 0 xs, (e, (in_file a, (in_file b, tt))))

-- ---- calls that write: also what the buffer held, and what it holds afterwards
abbrev pub SharedRuns : Made 3 → (xs ys : List ℕ) → (i j a b : ℕ) → (held : List ℕ) → Answer ℕ → (later : List ℕ) → Type 0
SharedRuns m xs ys i j a b held answer later =
    shared-runs.Post m.lifetimes
    (shown m 0 xs, (shown m 1 ys, (i, (j, (in_file a, (in_file b, (lent m 2 held, tt)))))))
    answer
    (shown m 0 xs, (shown m 1 ys, (i, (j, (in_file a, (in_file b, (lent m 2 later, tt)))))))

abbrev pub Gather : Made 3 → (xs : List ℕ) → (e a b : ℕ) → (file held : List ℕ) → Carried → (later : List ℕ) → Type 0
Gather m xs e a b file held answer later =
    gather.Post m.lifetimes
    (shown m 0 xs, (e, (in_file a, (in_file b, (shown m 1 file, (lent m 2 held, tt))))))
    answer
    (shown m 0 xs, (e, (in_file a, (in_file b, (shown m 1 file, (lent m 2 later, tt))))))

abbrev pub Scatter : Made 3 → (xs : List ℕ) → (e a b : ℕ) → (packed held : List ℕ) → Carried → (later : List ℕ) → Type 0
Scatter m xs e a b packed held answer later =
    scatter.Post m.lifetimes
    (shown m 0 xs, (e, (in_file a, (in_file b, (shown m 1 packed, (lent m 2 held, tt))))))
    answer
    (shown m 0 xs, (e, (in_file a, (in_file b, (shown m 1 packed, (lent m 2 later, tt))))))

abbrev pub MoveTray : Made 4 → (xs ys : List ℕ) → (a b : ℕ) → (t held : List ℕ) → Carried → (later : List ℕ) → Type 0
MoveTray m xs ys a b t held answer later =
    move-tray.Post m.lifetimes
    (shown m 0 xs, (shown m 1 ys, (in_file a, (in_file b, (shown m 2 t, (lent m 3 held, tt))))))
    answer
    (shown m 0 xs, (shown m 1 ys, (in_file a, (in_file b, (shown m 2 t, (lent m 3 later, tt))))))

abbrev pub MovePair : Made 4 → (xs ys : List ℕ) → (i j a b : ℕ) → (t held : List ℕ) → Carried → (later : List ℕ) → Type 0
MovePair m xs ys i j a b t held answer later =
    move-pair.Post m.lifetimes
    (shown m 0 xs, (shown m 1 ys, (i, (j, (in_file a, (in_file b, (shown m 2 t, (lent m 3 held, tt))))))))
    answer
    (shown m 0 xs, (shown m 1 ys, (i, (j, (in_file a, (in_file b, (shown m 2 t, (lent m 3 later, tt))))))))

abbrev pub ListSheet : Made 2 → (xs held : List ℕ) → Answer ℕ → (later : List ℕ) → Type 0
ListSheet m xs held answer later = list-sheet.Post m.lifetimes (shown m 0 xs, (lent m 1 held, tt)) answer (shown m 0 xs, (lent m 1 later, tt))
