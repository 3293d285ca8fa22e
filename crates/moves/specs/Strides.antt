-- What lies ahead of a selected offset, and the table that says so for every place of a period. Assumes nothing: these are definitions.
use Rattle.std.specs.Prelude.{◌≡◌, Bool, true, false, cond, List, ℕ, ◌+◌, ◌-◌, ◌%◌, ◌^◌, ◌≤◌, ◌<◌, leb, length, get_or}
use Rattle.maps.specs.declared.Selection.{Selection}
use Rattle.moves.specs.declared.ahead.Stride.{Stride}
use Rattle.moves.specs.declared.walks.Walk.{Walk}

-- from x on `run` offsets are selected without a gap, and `far` offsets from x the next one after them
pub record Ahead (p : ℕ → Bool) (x run far : ℕ) : Type 0 where
  pub some : 1 ≤ run
  pub within : run ≤ far
  pub all : (y : ℕ) → y < run → p (x + y) ≡ true
  pub none : (y : ℕ) → run ≤ y → y < far → p (x + y) ≡ false
  pub next : p (x + far) ≡ true

-- what a table says of place u
abbrev pub stride_at : List Stride → (u : ℕ) → Stride
stride_at strides u = get_or strides u (record { run = 0; hop = 0 })

-- a table says it of place u, each number less one, so that 16 bits hold the 65,536 of a period that is selected whole
pub record AheadBy (p : ℕ → Bool) (x period : ℕ) (strides : List Stride) (u : ℕ) : Type 0 where
  pub ahead : Ahead p x ((stride_at strides u).run + 1) ((stride_at strides u).hop + 1)
  pub short : (stride_at strides u).hop + 1 ≤ period

-- what q picks of one period, again and again
abbrev pub around : (q : ℕ → Bool) → (period : ℕ) → ℕ → Bool
around q period z = q (z % period)

-- the table has a place for each of a period, whose numbers 16 bits hold
pub record Room (period : ℕ) (strides : List Stride) : Type 0 where
  pub held : period ≤ length strides
  pub short : period ≤ 2 ^ 16

-- the first place that q picks
pub record First (q : ℕ → Bool) (period first : ℕ) : Type 0 where
  pub inside : first < period
  pub picked : q first ≡ true
  pub none : (y : ℕ) → y < first → q y ≡ false

-- every picked place of a period is looked ahead from
pub record Filled (q : ℕ → Bool) (period : ℕ) (strides : List Stride) : Type 0 where
  pub held : period ≤ length strides
  pub each : (u : ℕ) → u < period → q u ≡ true → AheadBy (around q period) u period strides u

-- THE TABLE of a selection: every selected offset is looked ahead from, by its place in the period
pub record Strides (s : Selection) (p : ℕ → Bool) (strides : List Stride) : Type 0 where
  pub some : 1 ≤ s.period
  pub held : s.period ≤ length strides
  pub each : (x : ℕ) → s.from ≤ x → p x ≡ true → AheadBy p x s.period strides ((x - s.from) % s.period)

-- ---- one step of a walk
pub record OnwardOk (s : Selection) (strides : List Stride) (w : Walk) (run : ℕ) : Type 0 where
  pub held : w.place < length strides
  pub inside : w.place < s.period
  pub short : (stride_at strides w.place).hop + 1 ≤ s.period
  pub near : w.at < 2 ^ 40
  pub few : w.packed + run < 2 ^ 63

abbrev pub onwards : (s : Selection) → (strides : List Stride) → (w : Walk) → (run : ℕ) → Walk
onwards s strides w run =
    let hop = (stride_at strides w.place).hop + 1 in
    record { at = w.at + hop; place = (w.place + hop) % s.period; packed = w.packed + run }

-- .. or to a later byte of the same run
unfoldable pub furthers : (s : Selection) → (strides : List Stride) → (w : Walk) → (run len : ℕ) → Walk
furthers s strides w run len =
    cond (leb run len) (onwards s strides w run) (record { at = w.at + len; place = (w.place + len) % s.period; packed = w.packed + len })
