-- Where the first corner of a ring lies, and rings that are entangled, by the tests that the code makes. Assumes nothing.
use Rattle.std.specs.Prelude.{◌≡◌, refl, Bool, true, false, not, ◌||◌, List, [], ◌∷◌, ℕ, zero, suc, ◌-◌, ◌^◌, ◌<◌, eqb, ℤ, pos, negsuc, length, get_or}
use Rattle.std.proofs.Common.{sym, ap, ◌∙◌, arith, ne_eqb, w64, SFits, of_z}
use Rattle.std.proofs.Math.Dec.{leb-suc-zero}
use Rattle.std.proofs.Math.Path.{ap₂}
use Rattle.rules.specs.Rings.{Corner, origin, turning_number, is_zero}
use Rattle.rules.specs.Placing.{rings_meet, first_inside, first_outside, entangled}

-- a ring that has corners
pub first_at : (r s : List Corner) → 0 < length s → first_outside r s ≡ is_zero (turning_number r (get_or s 0 origin))
unfolding first_outside
first_at r [] h = absurd (omega arith)
first_at r (c ∷ s) h = refl

inside_not : (r s : List Corner) → 0 < length s → first_inside r s ≡ not (first_outside r s)
unfolding first_inside first_outside
inside_not r [] h = absurd (omega arith)
inside_not r (c ∷ s) h = refl

or_assoc : (a b c : Bool) → (a || (b || c)) ≡ ((a || b) || c)
or_assoc true b c = refl
or_assoc false b c = refl

module _ (r s : List Corner) (some_r : 0 < length r) (some_s : 0 < length s) where
  by_parts : entangled r s ≡ (rings_meet r s || (not (first_outside r s) || not (first_outside s r)))
  unfolding entangled
  by_parts = ap₂ (λ (x y : Bool). rings_meet r s || (x || y)) (inside_not r s some_s) (inside_not s r some_r)

  pub tangled_meeting : rings_meet r s ≡ true → entangled r s ≡ true
  tangled_meeting e = by_parts ∙ rw e refl

  module _ (e : rings_meet r s ≡ false) where
    pub tangled_inside : first_outside r s ≡ false → entangled r s ≡ true
    tangled_inside f = by_parts ∙ rw (e, f) refl

    pub tangled_around : first_outside r s ≡ true → first_outside s r ≡ false → entangled r s ≡ true
    tangled_around f g = by_parts ∙ rw (e, f, g) refl

  -- by the tests in turn: the first that is met is told
  pub tangled_first : {t : Bool} → t ≡ (rings_meet r s || not (first_outside r s)) → t ≡ true → t ≡ entangled r s
  tangled_first e f = f ∙ sym (by_parts ∙ or_assoc (rings_meet r s) _ _ ∙ ap (λ (b : Bool). b || not (first_outside s r)) (sym e ∙ f))

  pub tangled_second : {t u : Bool} → t ≡ (rings_meet r s || not (first_outside r s)) → t ≡ false → u ≡ first_outside s r → not u ≡ entangled r s
  tangled_second e f g = ap not g ∙ sym (by_parts ∙ or_assoc (rings_meet r s) _ _ ∙ ap (λ (b : Bool). b || not (first_outside s r)) (sym e ∙ f))

  pub not_tangled : rings_meet r s ≡ false → first_outside r s ≡ true → first_outside s r ≡ true → entangled r s ≡ false
  not_tangled e f g = by_parts ∙ rw (e, f, g) refl

-- a number of the code is 0 where its bits are
pub zero_bits : (z : ℤ) → SFits w64 z → eqb (of_z w64 z) 0 ≡ is_zero z
zero_bits (pos zero) f = refl
zero_bits (pos (suc n)) f = ne_eqb (suc n) 0 (λ e. omega arith) ∙ rw (leb-suc-zero n) refl
zero_bits (negsuc n) f = ne_eqb _ 0 (λ e. some n (f.sfits) e)
  where
    some : (n : ℕ) → n < 2 ^ 63 → 2 ^ 64 - suc n ≡ 0 → ⊥
    some n h e = omega arith
