-- GATHER AND SCATTER, AS LAWS: 02's W11. Of calls on one sheet and window that met their contracts and answered Done, whatever the sheet, the elements, the
-- window and the buffers. A call that is then bound to be accepted is said to be. What they come to for bytes stands in counting. Assumes nothing.
use mathlib.Core.Path.{◌≡◌, sym, ap, ◌∙◌}
use mathlib.Core.List.{List}
use Prim.Native.Nat.{ℕ, ◌-◌}
use lib.ListN.{length}
use Rattle.counting.specs.Gather.{in_file, gathered, scattered}
use Rattle.counting.proofs.Scatters.{length_scattered, scatter_gather, gather_scatter, scatter_scatter, scatter_comm}
use Rattle.sheets.specs.Sheet.{read_sheet, Reading}
use Rattle.openings.specs.Offsets.{offsets_of}
use Rattle.astrephon.specs.Sequences.{Takes}
use Rattle.astrephon.proofs.Contracts.{Carried, Done, Made, Gather, Scatter}
use Rattle.astrephon.proofs.Accepting.{gather_left, scatter_left, scatter_made, window_count, gathered_long}
use Rattle.astrephon.proofs.Trays.{offsets_apart}

module _ (xs : List ℕ) (a b : ℕ) (m m' : Made 3) where
  abbrev r : Reading
  r = read_sheet xs

  -- what a scatter to element e leaves
  abbrev put : (e : ℕ) → (packed file : List ℕ) → List ℕ
  put e packed file = scattered (offsets_of r e) a (b - a) packed file

  module _ (e : ℕ) where
    -- SCATTERING WHAT WAS JUST GATHERED changes nothing
    pub gather_then_scatter : (file held packed later : List ℕ) (answer : Carried)
        → Gather m xs e a b file held Done packed → Scatter m' xs e a b packed file answer later → (answer ≡ Done) × (later ≡ file)
    gather_then_scatter file held packed later answer p q =
        let G = gather_left xs e a b file held packed m p in
        let window = G.0.window in
        let S = scatter_made xs e a b packed file later m' answer window G.0.file_long (ap length G.1 ∙ gathered_long window (in_file a file)) q in
        (S.0, S.1 ∙ ap (λ (u : List ℕ). put e u file) G.1 ∙ scatter_gather (offsets_of r e) a (b - a) file G.0.file_long)

    -- GATHERING WHAT WAS JUST SCATTERED gives the packed bytes back
    pub scatter_then_gather : (packed held file before later : List ℕ)
        → Scatter m xs e a b packed held Done file → Gather m' xs e a b file before Done later → later ≡ packed
    scatter_then_gather packed held file before later p q =
        let S = scatter_left xs e a b packed held file m p in
        (gather_left xs e a b file before later m' q).1
        ∙ ap (λ (u : List ℕ). gathered (offsets_of r e) a (b - a) (in_file a u)) S.1
        ∙ gather_scatter (offsets_of r e) a (b - a) packed held (S.0.packed_long ∙ window_count S.0.window)

    -- OF TWO SCATTERS to the same element the later alone counts
    pub scatter_then_scatter : (m'' : Made 3) (first second held between later alone : List ℕ) (answer : Carried)
        → Scatter m xs e a b first held Done between → Scatter m' xs e a b second between Done later
        → Scatter m'' xs e a b second held answer alone → (answer ≡ Done) × (later ≡ alone)
    scatter_then_scatter m'' first second held between later alone answer p q s =
        let F = scatter_left xs e a b first held between m p in
        let S = scatter_left xs e a b second between later m' q in
        let A = scatter_made xs e a b second held alone m'' answer S.0.window F.0.file_long S.0.packed_long s in
        (A.0, S.1 ∙ ap (put e second) F.1 ∙ scatter_scatter (offsets_of r e) a (b - a) first second held ∙ sym A.1)

  -- SCATTERS TO TWO DIFFERENT ELEMENTS give the same file buffer in either order
  pub scatters_in_either_order : (n n' : Made 3) (i j : ℕ) → (i ≡ j → ⊥) → (of-i of-j held one both other turned : List ℕ) (answer answer' : Carried)
      → Scatter m xs i a b of-i held Done one → Scatter m' xs j a b of-j one Done both
      → Scatter n xs j a b of-j held answer other → Scatter n' xs i a b of-i other answer' turned
      → (answer ≡ Done) × (answer' ≡ Done) × (both ≡ turned)
  scatters_in_either_order n n' i j differ of-i of-j held one both other turned answer answer' p q s t =
      let I = scatter_left xs i a b of-i held one m p in
      let J = scatter_left xs j a b of-j one both m' q in
      let S = scatter_made xs j a b of-j held other n answer J.0.window I.0.file_long J.0.packed_long s in
      let long = ap length S.1 ∙ length_scattered (offsets_of r j) a (b - a) of-j held in
      let T = scatter_made xs i a b of-i other turned n' answer' I.0.window long I.0.packed_long t in
      let takes : Takes xs a = record { fine = I.0.window.element.fine; after = I.0.window.after } in
      let apart = offsets_apart takes i j I.0.window.element.there J.0.window.element.there differ in
      let turn = scatter_comm (offsets_of r i) (offsets_of r j) a (b - a) of-i of-j held (λ x h k. apart x h) in
      (S.0, T.0, J.1 ∙ ap (put j of-j) I.1 ∙ sym turn ∙ ap (put i of-i) (sym S.1) ∙ sym T.1)
