-- WHERE THE LINE TELLS A REFUSAL, `into` is as it was before the call, whatever the call. Assumes nothing.
use mathlib.Core.Path.{◌≡◌, refl, sym, ap, ◌∙◌}
use mathlib.Core.Bool.{Bool, true, false, cond}
use mathlib.Core.List.{List}
use Prim.Native.Nat.{ℕ}
use lib.Dec.{eqb}
use Rattle.std.specs.Prelude.{Option, Some, None}
use Rattle.sheets.specs.Bytes.{Bytes}
use Rattle.openings.specs.Said.{Said, done, refused, Outcome}
use Rattle.openings.proofs.Orders.{left_held}
use Rattle.astrephon.specs.Shares.{shared_runs_of}
use Rattle.astrephon.specs.Carries.{gather_of, scatter_of}
use Rattle.astrephon.specs.Moves.{move_of, pair_move_of}
use Rattle.astrephon.specs.Texts.{text_outcome}
use Rattle.said.specs.declared.Answer.{Answer}
use Rattle.said.specs.Answers.{answer_of}
use Rattle.answers.specs.Calls.{GATHER, SCATTER, MOVE, PAIR_MOVE, SHARED_RUNS, LISTING}
use Rattle.answers.specs.Numbers.{slots_of, with_slots}
use Rattle.answers.specs.Replies.{gather_outcome, scatter_outcome, move_outcome, pair_move_outcome, shared_outcome, listing_outcome, Replied, telling, reply_to}
use Rattle.answers.proofs.Unwritten.{unwritten}

number_in : Option Answer → ℕ
number_in (Some a) = a.number
number_in None = 0

module _ (xs into : List ℕ) where
  -- a reply that tells a number other than 0 leaves the buffer
  abbrev pub Keeps : Replied → Type 0
  Keeps r = (a : Answer) → r.reply ≡ Some a → (a.number ≡ 0 → ⊥) → r.later ≡ into

  -- ---- of an outcome it is enough that the call does
  abbrev KeepsRefused : (says : Said) → (later : List ℕ) → Type 0
  KeepsRefused says later = (n s p f : ℕ) → says ≡ refused n s p f → later ≡ into

  told_keeps : (says : Said) (later : List ℕ) → KeepsRefused says later → (a : Answer) → Some (answer_of says) ≡ Some a → (a.number ≡ 0 → ⊥) → later ≡ into
  unfolding number_in
  told_keeps (done values) later keep a e d = absurd (d (sym (ap number_in e)))
  told_keeps (refused n s p f) later keep a e d = keep n s p f refl

  keeps : (o : Outcome) → KeepsRefused o.says o.later → Keeps (telling o)
  keeps o = told_keeps o.says o.later

  either : (b : Bool) {r s : Replied} → Keeps r → Keeps s → Keeps (cond b r s)
  either true one two = one
  either false one two = two

  -- ---- shared runs are written slot by slot, and slots that stay give their bytes back
  shared_keeps : Bytes into → KeepsRefused (shared_outcome xs into).says (shared_outcome xs into).later
  unfolding shared_outcome shared_runs_of
  shared_keeps B n s p f e = ap (λ (l : List ℕ). with_slots l into) (left_held (slots_of into) _ (sym e)) ∙ unwritten into B

  pub refused_keeps : Bytes into → (call : ℕ) → Keeps (reply_to call xs into)
  unfolding reply_to gather_of scatter_of move_of pair_move_of text_outcome
  refused_keeps B call =
      either (eqb call GATHER) (keeps (gather_outcome xs into) (λ n s p f e. left_held into _ (sym e)))
      (either (eqb call SCATTER) (keeps (scatter_outcome xs into) (λ n s p f e. left_held into _ (sym e)))
      (either (eqb call MOVE) (keeps (move_outcome xs into) (λ n s p f e. left_held into _ (sym e)))
      (either (eqb call PAIR_MOVE) (keeps (pair_move_outcome xs into) (λ n s p f e. left_held into _ (sym e)))
      (either (eqb call SHARED_RUNS) (keeps (shared_outcome xs into) (shared_keeps B))
      (either (eqb call LISTING) (keeps (listing_outcome xs into) (λ n s p f e. left_held into _ (sym e)))
      (λ a e d. refl))))))
