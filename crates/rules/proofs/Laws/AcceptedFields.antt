-- A field that is accepted: it is read as it is accepted, so that where it was accepted before nothing need be judged again, and its inner rings are well placed. Assumes nothing.
use Rattle.std.proofs.Math.Path.{◌≡◌, refl, ap}
use Rattle.std.proofs.Common.{sym, ◌∙◌, subst, arith}
use Rattle.std.specs.Prelude.{Bool, true, false, List, [], ◌∷◌, ℕ, suc, T, ℤ, length}
use Rattle.rules.specs.Refusals.{Answer, answered, refused, CrossedPair, crossed_at, passed, ◌>>=◌, ◌>>◌, ◌if◌, in_ring, corner_count, badly_placed}
use Rattle.rules.specs.Rings.{Corner}
use Rattle.rules.specs.RingAnswers.{ring_checks, not_crossed}
use Rattle.rules.specs.Fields.{Field, WellPlaced, none, more, field_nozzle}
use Rattle.rules.specs.Placing.{misplaced}
use Rattle.rules.specs.FieldAnswers.{alone, with_ring, inner_checks, placed, outer_accepted, inner_accepted, rings_accepted, inner_read, rings_read, uneven, cut, field_accepted, field_read, accept_answer, field_nozzle_answer, field_position_answer}
use Rattle.rules.proofs.Laws.Placing.{misplaced_no}

-- ---- it is read as it is accepted
pub placed_is : (f : Field) (r : List Corner) (g : Field) → placed f r ≡ answered g → g ≡ with_ring f r
unfolding placed
placed_is f r g = go (in_ring (suc (length f.inner_rings)) (not_crossed r)) (misplaced f r)
  where
    go : (a : Answer ℕ) (b : Bool) → (a >> (badly_placed if b >> answered (with_ring f r))) ≡ answered g → g ≡ with_ring f r
    go (answered n) false e = cc e
    go (answered n) true e = absurd (let z : ◌≡◌ {A = ℕ} 0 1 = cc e in omega arith)
    go (refused n) b e = absurd (let z : ◌≡◌ {A = ℕ} 0 1 = cc e in omega arith)
    go (crossed_at pair) b e = absurd (let z : ◌≡◌ {A = ℕ} 0 1 = cc e in omega arith)

inner_one : (f : Field) (a : Answer (List Corner)) (rest : List (List ℤ)) (g : Field) → ((r : List Corner) → inner_accepted (with_ring f r) rest ≡ answered g → inner_read (with_ring f r) rest ≡ answered g)
    → (a >>= λ r. placed f r >>= λ h. inner_accepted h rest) ≡ answered g → (a >>= λ r. inner_read (with_ring f r) rest) ≡ answered g
inner_one f (answered r) rest g k = go (placed f r) refl
  where
    go : (b : Answer Field) → placed f r ≡ b → (b >>= λ h. inner_accepted h rest) ≡ answered g → inner_read (with_ring f r) rest ≡ answered g
    go (answered h) x e = k r (ap (λ (h : Field). inner_accepted h rest) (sym (placed_is f r h x)) ∙ e)
    go (refused n) x e = absurd (let z : ◌≡◌ {A = ℕ} 0 1 = cc e in omega arith)
    go (crossed_at pair) x e = absurd (let z : ◌≡◌ {A = ℕ} 0 1 = cc e in omega arith)
inner_one f (refused n) rest g k = λ e. e
inner_one f (crossed_at pair) rest g k = λ e. e

inner_as_read : (f : Field) (rest : List (List ℤ)) (g : Field) → inner_accepted f rest ≡ answered g → inner_read f rest ≡ answered g
unfolding inner_accepted inner_read
inner_as_read f [] g e = e
inner_as_read f (numbers ∷ rest) g e = inner_one f (inner_checks (length f.inner_rings) numbers) rest g (λ r. inner_as_read (with_ring f r) rest g) e

rings_as_read : (rings : List (List ℤ)) (g : Field) → rings_accepted rings ≡ answered g → rings_read rings ≡ answered g
unfolding rings_accepted outer_accepted rings_read
rings_as_read [] g e = e
rings_as_read (numbers ∷ rest) g e = go (ring_checks numbers) e
  where
    clean : (r : List Corner) (a : Answer ℕ) → ((a >> answered (alone r)) >>= λ f. inner_accepted f rest) ≡ answered g → inner_accepted (alone r) rest ≡ answered g
    clean r (answered n) e = e
    clean r (refused n) e = absurd (let z : ◌≡◌ {A = ℕ} 0 1 = cc e in omega arith)
    clean r (crossed_at pair) e = absurd (let z : ◌≡◌ {A = ℕ} 0 1 = cc e in omega arith)

    go : (a : Answer (List Corner)) → ((a >>= λ r. not_crossed r >> answered (alone r)) >>= λ f. inner_accepted f rest) ≡ answered g → (a >>= λ r. inner_read (alone r) rest) ≡ answered g
    go (answered r) e = inner_as_read (alone r) rest g (clean r (not_crossed r) e)
    go (refused n) e = e
    go (crossed_at pair) e = e

pub field_as_read : (counts : List ℕ) (numbers : List ℤ) (g : Field) → field_accepted counts numbers ≡ answered g → field_read counts numbers ≡ answered g
unfolding field_accepted field_read
field_as_read counts numbers g = go (uneven counts numbers)
  where
    go : (b : Bool) → (corner_count if b >> rings_accepted (cut counts numbers)) ≡ answered g → (corner_count if b >> rings_read (cut counts numbers)) ≡ answered g
    go true e = e
    go false e = rings_as_read (cut counts numbers) g e

-- the nozzle's answer: that of the position where the field is accepted, and otherwise its refusal
module _ (counts : List ℕ) (numbers : List ℤ) (p : Corner) where
  pub position_is_field_nozzle : accept_answer counts numbers ≡ answered passed → field_position_answer counts numbers p ≡ field_nozzle_answer counts numbers p
  unfolding accept_answer field_position_answer field_nozzle_answer
  position_is_field_nozzle = go (field_accepted counts numbers) refl
    where
      go : (a : Answer Field) → field_accepted counts numbers ≡ a → (a >> answered passed) ≡ answered passed
          → (field_read counts numbers >>= λ f. answered (field_nozzle f p)) ≡ (a >>= λ f. answered (field_nozzle f p))
      go (answered g) x e = ap (λ (a : Answer Field). a >>= λ f. answered (field_nozzle f p)) (field_as_read counts numbers g x)
      go (refused n) x e = absurd (let z : ◌≡◌ {A = ℕ} 0 1 = cc e in omega arith)
      go (crossed_at pair) x e = absurd (let z : ◌≡◌ {A = ℕ} 0 1 = cc e in omega arith)

  pub nozzle_refused : (n : ℕ) → accept_answer counts numbers ≡ refused n → field_nozzle_answer counts numbers p ≡ refused n
  unfolding accept_answer field_nozzle_answer
  nozzle_refused n = go (field_accepted counts numbers)
    where
      go : (a : Answer Field) → (a >> answered passed) ≡ refused n → (a >>= λ f. answered (field_nozzle f p)) ≡ refused n
      go (answered g) e = absurd (let z : ◌≡◌ {A = ℕ} 0 1 = cc e in omega arith)
      go (refused m) e = cc e
      go (crossed_at pair) e = absurd (let z : ◌≡◌ {A = ℕ} 0 1 = cc e in omega arith)

  pub nozzle_crossed : (pair : CrossedPair) → accept_answer counts numbers ≡ crossed_at pair → field_nozzle_answer counts numbers p ≡ crossed_at pair
  unfolding accept_answer field_nozzle_answer
  nozzle_crossed pair = go (field_accepted counts numbers)
    where
      go : (a : Answer Field) → (a >> answered passed) ≡ crossed_at pair → (a >>= λ f. answered (field_nozzle f p)) ≡ crossed_at pair
      go (answered g) e = absurd (let z : ◌≡◌ {A = ℕ} 0 1 = cc e in omega arith)
      go (refused m) e = absurd (let z : ◌≡◌ {A = ℕ} 0 1 = cc e in omega arith)
      go (crossed_at other) e = cc e

-- ---- the inner rings of a field that is accepted are well placed
abbrev Well : Field → Type 0
Well f = WellPlaced f.outer_ring f.inner_rings

placed_well : (f : Field) (r : List Corner) (g : Field) → Well f → placed f r ≡ answered g → Well g
unfolding placed
placed_well f r g w e = subst Well (sym (placed_is f r g e)) (more w (λ m. clear (in_ring (suc (length f.inner_rings)) (not_crossed r)) (misplaced f r) (misplaced_no f r m) e))
  where
    clear : (a : Answer ℕ) (b : Bool) → T b → (a >> (badly_placed if b >> answered (with_ring f r))) ≡ answered g → ⊥
    clear (answered n) true t e = let z : ◌≡◌ {A = ℕ} 0 1 = cc e in omega arith
    clear (answered n) false t e = t
    clear (refused n) b t e = let z : ◌≡◌ {A = ℕ} 0 1 = cc e in omega arith
    clear (crossed_at pair) b t e = let z : ◌≡◌ {A = ℕ} 0 1 = cc e in omega arith

well_and_rest : (f : Field) (a : Answer (List Corner)) (rest : List (List ℤ)) (g : Field) → Well f → ((h : Field) → Well h → inner_accepted h rest ≡ answered g → Well g)
    → (a >>= λ r. placed f r >>= λ h. inner_accepted h rest) ≡ answered g → Well g
well_and_rest f (answered r) rest g w k = go (placed f r) refl
  where
    go : (b : Answer Field) → placed f r ≡ b → (b >>= λ h. inner_accepted h rest) ≡ answered g → Well g
    go (answered h) x e = k h (placed_well f r h w x) e
    go (refused n) x e = absurd (let z : ◌≡◌ {A = ℕ} 0 1 = cc e in omega arith)
    go (crossed_at pair) x e = absurd (let z : ◌≡◌ {A = ℕ} 0 1 = cc e in omega arith)
well_and_rest f (refused n) rest g w k = λ e. absurd (let z : ◌≡◌ {A = ℕ} 0 1 = cc e in omega arith)
well_and_rest f (crossed_at pair) rest g w k = λ e. absurd (let z : ◌≡◌ {A = ℕ} 0 1 = cc e in omega arith)

inner_well : (f : Field) (rest : List (List ℤ)) (g : Field) → Well f → inner_accepted f rest ≡ answered g → Well g
unfolding inner_accepted
inner_well f [] g w e = let p : f ≡ g = cc e in subst Well p w
inner_well f (numbers ∷ rest) g w e = well_and_rest f (inner_checks (length f.inner_rings) numbers) rest g w (λ h v. inner_well h rest g v) e

pub accepted_well : (counts : List ℕ) (numbers : List ℤ) (g : Field) → field_accepted counts numbers ≡ answered g → WellPlaced g.outer_ring g.inner_rings
unfolding field_accepted rings_accepted outer_accepted
accepted_well counts numbers g = go (uneven counts numbers) (cut counts numbers)
  where
    first : (r : List Corner) (a : Answer ℕ) (rest : List (List ℤ)) → ((a >> answered (alone r)) >>= λ f. inner_accepted f rest) ≡ answered g → Well g
    first r (answered n) rest e = inner_well (alone r) rest g none e
    first r (refused n) rest e = absurd (let z : ◌≡◌ {A = ℕ} 0 1 = cc e in omega arith)
    first r (crossed_at pair) rest e = absurd (let z : ◌≡◌ {A = ℕ} 0 1 = cc e in omega arith)

    checked : (a : Answer (List Corner)) (rest : List (List ℤ)) → ((a >>= λ r. not_crossed r >> answered (alone r)) >>= λ f. inner_accepted f rest) ≡ answered g → Well g
    checked (answered r) rest e = first r (not_crossed r) rest e
    checked (refused n) rest e = absurd (let z : ◌≡◌ {A = ℕ} 0 1 = cc e in omega arith)
    checked (crossed_at pair) rest e = absurd (let z : ◌≡◌ {A = ℕ} 0 1 = cc e in omega arith)

    go : (b : Bool) (rings : List (List ℤ)) → (corner_count if b >> rings_accepted rings) ≡ answered g → Well g
    go true rings e = absurd (let z : ◌≡◌ {A = ℕ} 0 1 = cc e in omega arith)
    go false [] e = absurd (let z : ◌≡◌ {A = ℕ} 0 1 = cc e in omega arith)
    go false (numbers ∷ rest) e = checked (ring_checks numbers) rest e
