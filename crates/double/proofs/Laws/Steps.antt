-- What is not finite stays so: a sum, a difference or a product is finite only where both numbers are. So where a polynomial's value is finite, every double on the
-- way to it was; and in range it is, over any table. Assumes nothing.
use Rattle.std.specs.Prelude.{Bool, true, false, cond, List, [], ◌∷◌, ◌++◌, ℕ, ◌*◌, ◌^◌, T, eqb, ℤ, length, Float}
use Rattle.std.specs.Bool.{beq}
use Rattle.std.proofs.Common.{le_trans, mul-le-mul_right, lit<, lit≤}
use Rattle.std.specs.Float.{nan, inf, fin, binary64}
use Rattle.std.specs.Float.Ieee.{unlike, add, sub, mul, neg}
use Rattle.rules.specs.Scaled.{unit}
use Rattle.rules.specs.Polynomial.{double_unit}
use Rattle.double.specs.declared.Pair.{Pair}
use Rattle.double.specs.Value.{finite}
use Rattle.double.specs.Complex.{product, horner}
use Rattle.double.specs.Exact.{doubles}
use Rattle.double.specs.Bound.{LightTable, Inside}
use Rattle.double.specs.Steps.{AllFinite, step_doubles, horner_doubles, heaviest, NoOverflow}
use Rattle.double.proofs.Laws.Bound.{polynomial_near}

-- ---- the operations
abbrev Both : Float → Float → Type 0
Both x y = T (finite x) × T (finite y)

infinite : (b s : Bool) → T (finite (cond b (inf s) nan)) → ⊥
infinite true s h = h
infinite false s h = h

nothing : (b s : Bool) → T (finite (cond b nan (inf s))) → ⊥
nothing true s h = h
nothing false s h = h

sum_finite : (x y : Float) → T (finite (add binary64 x y)) → Both x y
unfolding add
sum_finite nan y h = absurd h
sum_finite (inf s) nan h = absurd h
sum_finite (inf s) (inf t) h = absurd (infinite (beq s t) s h)
sum_finite (inf s) (fin t n d) h = absurd h
sum_finite (fin s m e) nan h = absurd h
sum_finite (fin s m e) (inf t) h = absurd h
sum_finite (fin s m e) (fin t n d) h = (tt, tt)

turned_finite : (x : Float) → T (finite (neg x)) → T (finite x)
unfolding neg
turned_finite nan h = h
turned_finite (inf s) h = h
turned_finite (fin s m e) h = tt

difference_finite : (x y : Float) → T (finite (sub binary64 x y)) → Both x y
unfolding sub
difference_finite x y h = let b = sum_finite x (neg y) h in (b.0, turned_finite y b.1)

pub product_finite : (x y : Float) → T (finite (mul binary64 x y)) → Both x y
unfolding mul
product_finite nan y h = absurd h
product_finite (inf s) nan h = absurd h
product_finite (inf s) (inf t) h = absurd h
product_finite (inf s) (fin t n d) h = absurd (nothing (eqb n 0) (unlike s t) h)
product_finite (fin s m e) nan h = absurd h
product_finite (fin s m e) (inf t) h = absurd (nothing (eqb m 0) (unlike s t) h)
product_finite (fin s m e) (fin t n d) h = (tt, tt)

-- ---- one list after another
pub both_lists : (xs ys : List Float) → AllFinite xs → AllFinite ys → AllFinite (xs ++ ys)
both_lists [] ys f g = g
both_lists (x ∷ xs) ys f g = (f.0, both_lists xs ys f.1 g)

-- ---- Horner's rule, from its value back
pub throughout : (cs : List Float) (z : Pair) → Both (horner cs z).re (horner cs z).im → AllFinite (horner_doubles cs z)
unfolding horner horner_doubles
throughout [] z h = tt
throughout (c ∷ []) z h = (h.0, tt)
throughout (c ∷ d ∷ cs) z h =
    let r = horner (d ∷ cs) z in
    let first = sum_finite (product r z).re c h.0 in
    let parts = difference_finite (mul binary64 r.re z.re) (mul binary64 r.im z.im) first.0 in
    let second = sum_finite (mul binary64 r.re z.im) (mul binary64 r.im z.re) h.1 in
    both_lists (horner_doubles (d ∷ cs) z) (step_doubles r z c)
    (throughout (d ∷ cs) z ((product_finite r.re z.re parts.0).0, (product_finite r.im z.im parts.1).0))
    (parts.0, (parts.1, (first.0, (second.0, (second.1, (h.1, (first.1, (h.0, tt))))))))

-- ---- any table in range
pub no_overflow : NoOverflow
no_overflow D c cs z m light inside =
    let n = (polynomial_near D c cs z m heaviest (lit< tt) light inside).numbers in
    throughout (doubles D (c ∷ cs)) z (n.re.is_finite, n.im.is_finite)

-- as light as the tables of document 01
pub table_finite : (cs : List ℤ) (z : Pair) {m : ℕ} → LightTable unit cs m 8000000 → Inside z m → AllFinite (horner_doubles (doubles unit cs) z)
table_finite [] z light inside = absurd light
table_finite (c ∷ cs) z {m} light inside =
    no_overflow unit c cs z m
    (record { over = light.over; few = light.few; one = light.one; not_huge = light.not_huge; weighs = le_trans light.weighs (mul-le-mul_right (unit * double_unit ^ length cs) (lit≤ tt)) })
    inside
