-- What the reply to a frame is, case by case. Assumes nothing.
use mathlib.Core.Path.{◌≡◌, refl, sym, ap, ◌∙◌}
use mathlib.Core.List.{List, []}
use Prim.Native.Nat.{ℕ}
use borrow.Author.Tests.{eq-eqb, ne_eqb}
use lib.ListN.{length}
use Rattle.std.specs.Prelude.{Option, Some, None}
use Rattle.openings.specs.Said.{Outcome}
use Rattle.said.specs.declared.Answer.{Answer}
use Rattle.answers.specs.declared.calls.Call.TheVariants.{Check, Exact, Next, Inverse, Span, Gather, Scatter, Move, PairMove, SharedRuns, Listing, PackedLength}
use Rattle.answers.specs.Calls.{NamesNone}
use Rattle.answers.specs.Frames.{call_of, end4, Whole, into_of}
use Rattle.answers.specs.Lines.{line}
use Rattle.answers.specs.Replies.{Tells, asked_of, leaving, telling, reply_to, line_of, line_left, reply}

-- ---- by the number of the call
pub asked_told : (xs : List ℕ) {a b : Answer} {k call : ℕ} → a ≡ b → call ≡ k → asked_of k xs ≡ Some b → ◌≡◌ {A = Option Answer} (Some a) (asked_of call xs)
asked_told xs e is to = ap Some e ∙ sym to ∙ ap (λ (n : ℕ). asked_of n xs) (sym is)

pub asked_unknown : (call : ℕ) (xs : List ℕ) → (call ≡ 1 → ⊥) → (call ≡ 2 → ⊥) → (call ≡ 3 → ⊥) → (call ≡ 4 → ⊥) → (call ≡ 5 → ⊥) → (call ≡ 17 → ⊥) → ◌≡◌ {A = Option Answer} None (asked_of call xs)
unfolding asked_of
asked_unknown call xs n1 n2 n3 n4 n5 n17 = rw (ne_eqb call 1 n1, ne_eqb call 2 n2, ne_eqb call 3 n3, ne_eqb call 4 n4, ne_eqb call 5 n5, ne_eqb call 17 n17) refl

pub replied_told : (xs into : List ℕ) {o : Outcome} {a : Answer} {later : List ℕ} {k call : ℕ} → Tells o a later → call ≡ k → reply_to k xs into ≡ telling o
    → leaving (Some a) later ≡ reply_to call xs into
replied_told xs into T is to = (λ t. leaving (Some (T.answered t)) (T.left t)) ∙ sym to ∙ ap (λ (n : ℕ). reply_to n xs into) (sym is)

pub replied_asked : (call : ℕ) (xs into : List ℕ) {r : Option Answer} → r ≡ asked_of call xs
    → (call ≡ 6 → ⊥) → (call ≡ 7 → ⊥) → (call ≡ 8 → ⊥) → (call ≡ 9 → ⊥) → (call ≡ 10 → ⊥) → (call ≡ 11 → ⊥) → leaving r into ≡ reply_to call xs into
unfolding reply_to
replied_asked call xs into is n6 n7 n8 n9 n10 n11 =
    rw (ne_eqb call 6 n6, ne_eqb call 7 n7, ne_eqb call 8 n8, ne_eqb call 9 n9, ne_eqb call 10 n10, ne_eqb call 11 n11) (ap (λ (s : Option Answer). leaving s into) is)

-- no call has the number: nothing is replied
pub unreplied : (n : ℕ) (xs into : List ℕ) → NamesNone n → (reply_to n xs into).reply ≡ None
unfolding reply_to asked_of
unreplied n xs into none =
    rw (
      ne_eqb n 1 (λ e. none Check (sym e)),
      ne_eqb n 2 (λ e. none Exact (sym e)),
      ne_eqb n 3 (λ e. none Next (sym e)),
      ne_eqb n 4 (λ e. none Inverse (sym e)),
      ne_eqb n 5 (λ e. none Span (sym e)),
      ne_eqb n 6 (λ e. none Gather (sym e)),
      ne_eqb n 7 (λ e. none Scatter (sym e)),
      ne_eqb n 8 (λ e. none Move (sym e)),
      ne_eqb n 9 (λ e. none PairMove (sym e)),
      ne_eqb n 10 (λ e. none SharedRuns (sym e)),
      ne_eqb n 11 (λ e. none Listing (sym e)),
      ne_eqb n 17 (λ e. none PackedLength (sym e)),
    ) refl

-- ---- the line
module _ (xs : List ℕ) where
  pub reply_cut : (Whole xs → ⊥) → reply xs ≡ []
  unfolding reply
  reply_cut h = rw (ne_eqb (end4 xs) (length xs) h) refl

  -- of a whole frame
  module _ (whole : Whole xs) where
    reply_whole : reply xs ≡ line_left (reply_to (call_of xs) xs (into_of xs))
    unfolding reply
    reply_whole = rw (eq-eqb (end4 xs) (length xs) whole) refl

    pub reply_unknown : NamesNone (call_of xs) → reply xs ≡ []
    unfolding line_of
    reply_unknown none = reply_whole ∙ ap (λ (r : Option Answer). line_of r (reply_to (call_of xs) xs (into_of xs)).later) (unreplied (call_of xs) xs (into_of xs) none)

    pub reply_told : {n : ℕ} {into later : List ℕ} (a : Answer) → n ≡ call_of xs → into ≡ into_of xs → leaving (Some a) later ≡ reply_to n xs into → line a later ≡ reply xs
    unfolding line_of
    reply_told a named is left = ap line_left (left ∙ (λ t. reply_to (named t) xs (is t))) ∙ sym reply_whole
