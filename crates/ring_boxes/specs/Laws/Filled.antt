-- The boxes of a ring's runs, run by run. Assumes nothing.
use Rattle.std.specs.Prelude.{◌≡◌, List, [], ℕ, ◌+◌, ◌*◌, ◌<◌, ◌≤◌, length, get_or, set}
use Rattle.std.proofs.Common.{arith, get_or-set_same, get_or-set_other}
use Rattle.std.proofs.Math.Decide.{dec_lt}
use Rattle.rules.specs.Rings.{Corner, origin}
use Rattle.ring_boxes.specs.declared.reach.Reach.{Reach}
use Rattle.ring_boxes.specs.Boxes.{Holds, nowhere, Spans, RunEnd, Filled, Boxed}

pub filled_start : (r : List Corner) (boxes : List Reach) → Filled r boxes 0
filled_start r boxes = record { inside = λ i j h a b c. absurd (omega arith) }

pub filled_step : {r : List Corner} {boxes : List Reach} {m last end : ℕ} {b : Reach} → Filled r boxes m → RunEnd m last end
    → Spans r (16 * m) end b → last + 1 ≡ length r → m < length boxes → Filled r (set boxes m b) (m + 1)
filled_step {r} {boxes} {m} {last} {end} {b} f e s n p = record {
  inside = λ i j h a b c. elim (dec_lt i m) [ yes g ↦ old i j g a b c | no g ↦ new i j (omega arith) a b c ];
}
  where
    old : (i j : ℕ) → i < m → 16 * i ≤ j → j ≤ 16 * i + 16 → j < length r → Holds (get_or (set boxes m b) i nowhere) (get_or r j origin)
    old i j g a b c = rw (get_or-set_other boxes m i _ nowhere (λ e. omega arith)) (f.inside i j g a b c)

    here : (j : ℕ) → 16 * m ≤ j → j ≤ 16 * m + 16 → j < length r → Holds (get_or (set boxes m b) m nowhere) (get_or r j origin)
    here j a b c = rw (get_or-set_same boxes m _ nowhere p) (s.inside j a (e.whole j b (omega arith)))

    new : (i j : ℕ) → i ≡ m → 16 * i ≤ j → j ≤ 16 * i + 16 → j < length r → Holds (get_or (set boxes m b) i nowhere) (get_or r j origin)
    new i j g a b c = rw g (here j (omega arith) (omega arith) c)

pub filled_all : {r : List Corner} {boxes : List Reach} {m last : ℕ} → Filled r boxes m → last + 1 ≡ length r → last ≤ 16 * m → Boxed r boxes
filled_all f n h = record {
  inside = λ i j a b c d g. f.inside i j (omega arith) c d g;
}

-- no list of boxes is wrong that has none
pub no_boxes : (r : List Corner) → Boxed r []
no_boxes r = record { inside = λ m j h a b c d. absurd (omega arith) }
