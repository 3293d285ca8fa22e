-- What is written down of every place of a layout's pattern, and the room for it. Assumes nothing: these are definitions.
use Rattle.std.specs.Prelude.{◌≡◌, List, ℕ, suc, ◌-◌, ◌^◌, ◌≤◌, ◌<◌, length, get_or, replicate}
use Rattle.families.specs.declared.Layout.{Layout}
use Rattle.families.specs.Forest.{has}
use Rattle.families.specs.Decoded.{tree_of, LayoutOk}
use Rattle.maps.specs.Selected.{elements_of}
use Rattle.moves.specs.declared.ahead.Stride.{Stride}
use Rattle.moves.specs.Strides.{First, Filled, Room}
use Rattle.moves.specs.Owning.{held_by}
use Rattle.parts.specs.Tabled.{tabled, Owned}

-- by owner, the first place that it has in the second of two periods: element e's stands at e + 1
pub record NextsOf (t : Layout) (size : ℕ) (nexts : List ℕ) : Type 0 where
  pub long : length nexts ≡ 17
  pub nobody : get_or nexts 0 0 ≡ size
  pub unused : (o : ℕ) → t.elements < o → o < 17 → get_or nexts o 0 ≡ size
  pub past : (e : ℕ) → e < t.elements → size ≤ get_or nexts (suc e) 0
  pub first : (e : ℕ) → e < t.elements → First (has (tree_of 4 t e)) size (get_or nexts (suc e) 0 - size)

-- what the code asks of a table for owners: zeros, with room for every offset of the families and every place of a period, and room in the other too
pub record RoomFor (t : Layout) (size : ℕ) (owners : List ℕ) (strides : List Stride) : Type 0 where
  pub zeros : owners ≡ replicate (length owners) 0
  pub some : 1 ≤ length owners
  pub ruled : LayoutOk 4 (length owners - 1) t
  pub held : size ≤ length owners
  pub room : Room size strides

-- .. as it has in tables of `room` places each
pub record FitsAll (t : Layout) (size room : ℕ) : Type 0 where
  pub ruled : LayoutOk 4 (room - 1) t
  pub held : size ≤ room

-- THE TABLES of a layout: who has each place, and what lies ahead of it for its owner
pub record Tables (t : Layout) (size : ℕ) (owners : List ℕ) (strides : List Stride) : Type 0 where
  pub owned : Owned t.elements size owners
  pub is : tabled t.elements t.displacement size owners ≡ elements_of t size
  pub each : (e : ℕ) → e < t.elements → Filled (held_by owners (suc e)) size strides

-- what the code asks to count how many places before each are its owner's
pub record CountedOk (owners : List ℕ) (period : ℕ) (ranks : List ℕ) : Type 0 where
  pub held : period ≤ length owners
  pub room : period ≤ length ranks
  pub short : period ≤ 2 ^ 16
  pub there : (u : ℕ) → u < period → get_or owners u 0 < 17
