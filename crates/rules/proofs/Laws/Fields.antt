-- The nozzle rule over a field's rings, ring by ring: a field of one ring answers as the ring does, and one inner ring more is looked at beside those before it. Assumes nothing.
use Rattle.std.specs.Prelude.{◌≡◌, refl, Bool, true, false, not, ◌||◌, List, [], ◌∷◌, ◌++◌}
use Rattle.std.proofs.Common.{sym, ◌∙◌, ap, ap₂}
use Rattle.rules.specs.Rings.{Corner, edges, turning_number, border, is_zero}
use Rattle.rules.specs.RingAnswers.{Nozzle, open_nozzle, border_nozzle, shut_nozzle, nozzle}
use Rattle.rules.specs.Fields.{Field, on_any, inside_any, field_nozzle}
use Rattle.rules.specs.FieldAnswers.{alone, with_ring}
use Rattle.rules.specs.Laws.Fields.{beside}

-- on an edge or not, and shut or not
told : Bool → Bool → Nozzle
told b s = elim b [ true ↦ border_nozzle | false ↦ elim s [ true ↦ shut_nozzle | false ↦ open_nozzle ] ]

or_none : (b : Bool) → (b || false) ≡ b
or_none true = refl
or_none false = refl

or_three : (a b c : Bool) → ((a || b) || c) ≡ (a || (b || c))
or_three true b c = refl
or_three false b c = refl

on_more : (rs : List (List Corner)) (r : List Corner) (p : Corner) → on_any (rs ++ (r ∷ [])) p ≡ (on_any rs p || border (edges r) p)
unfolding on_any
on_more [] r p = or_none (border (edges r) p)
on_more (q ∷ rs) r p = ap (λ b. border (edges q) p || b) (on_more rs r p) ∙ sym (or_three (border (edges q) p) (on_any rs p) (border (edges r) p))

inside_more : (rs : List (List Corner)) (r : List Corner) (p : Corner) → inside_any (rs ++ (r ∷ [])) p ≡ (inside_any rs p || not (is_zero (turning_number r p)))
unfolding inside_any
inside_more [] r p = or_none (not (is_zero (turning_number r p)))
inside_more (q ∷ rs) r p =
    ap (λ b. not (is_zero (turning_number q p)) || b) (inside_more rs r p) ∙ sym (or_three (not (is_zero (turning_number q p))) (inside_any rs p) (not (is_zero (turning_number r p))))

-- of a field that has no inner ring: the rule of document 01
pub alone_nozzle : (r : List Corner) (p : Corner) → field_nozzle (alone r) p ≡ nozzle r p
unfolding field_nozzle nozzle on_any inside_any told
alone_nozzle r p = ap (λ b. told b (is_zero (turning_number r p))) (or_none (border (edges r) p))

both : (b c i t z : Bool) → told (b || c) ((i || not t) || z) ≡ beside (told b (i || z)) (told c t)
unfolding told
both true true i t z = refl
both true false true true z = refl
both true false true false z = refl
both true false false true z = refl
both true false false false z = refl
both false true i t z = refl
both false false true true z = refl
both false false true false z = refl
both false false false true z = refl
both false false false false true = refl
both false false false false false = refl

pub more_nozzle : (f : Field) (r : List Corner) (p : Corner) → field_nozzle (with_ring f r) p ≡ beside (field_nozzle f p) (nozzle r p)
unfolding field_nozzle nozzle told
more_nozzle f r p =
    ap₂ (λ b i. told b (i || is_zero (turning_number f.outer_ring p))) (on_more (f.outer_ring ∷ f.inner_rings) r p) (inside_more f.inner_rings r p)
    ∙ both (on_any (f.outer_ring ∷ f.inner_rings) p) (border (edges r) p) (inside_any f.inner_rings p) (is_zero (turning_number r p)) (is_zero (turning_number f.outer_ring p))
