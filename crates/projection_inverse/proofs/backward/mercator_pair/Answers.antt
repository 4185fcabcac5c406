-- The two lengths as they are passed on, and the polynomial of them. Assumes nothing.
use Rattle.std.proofs.Common.{ℤ, ◌≡◌, sym, ap, ap₂, ◌∙◌, subst, ℕ, ◌*◌, ◌^◌, ◌≤◌, ◌<◌, arith, pos, nat_abs, w64, to_z, of_z}
use Rattle.arith.specs.Machine.{Is}
use Rattle.arith.specs.Laws.Machine.{v_in}
use Rattle.rules.specs.Scaled.{unit}
use Rattle.rules.specs.Systems.{Ellipsoid, constants, b_coefficients}
use Rattle.double.specs.Complex.{horner}
use Rattle.double.specs.Exact.{doubles}
use Rattle.metres.specs.Metres.{arguments_of}
use Rattle.terms.specs.Papers.{ellipsoid_of}
use Rattle.projection_worked.specs.Inverse.{Boxed, undone30, centred30, mercator_pair}
use Rattle.projection_worked.proofs.Laws.InverseLengths.{lengths}
use Rattle.projection_worked.proofs.Laws.InverseUndone.{centred_small}
use Rattle.projection_worked.proofs.Laws.Undoing.{word}
use borrow.Author.Rules.{sfits_of}
use Rattle.projection_inverse.proofs.backward.mercator_pair.Goals as goal

below : {k : ℕ} → k ≤ 485000 * 2 ^ 30 → k < 2 ^ 53
below h = omega arith

-- the length north as it is passed on
north_is : (E : Ellipsoid) (M n m u : ℕ) (r : ℤ) → Boxed M n m → u ≡ undone30 M n → r ≡ centred30 E u → Is (to_z w64 (of_z w64 r)) (centred30 E (undone30 M n)) (485000 * 2 ^ 30)
north_is E M n m u r b e f =
    let l = lengths b in
    subst (λ z. Is (to_z w64 (of_z w64 z)) (centred30 E (undone30 M n)) (485000 * 2 ^ 30)) (sym (f ∙ ap (centred30 E) e)) (v_in w64 _ (centred_small E l.low l.high) tt)

east_high : (M n m v : ℕ) → Boxed M n m → v ≡ undone30 M m → v ≤ 420000 * 2 ^ 30
east_high M n m v b e = subst (λ n. n ≤ 420000 * 2 ^ 30) (sym e) (lengths b).side

pub centred-n-requires : goal.centred-n-requires
centred-n-requires c = subst (λ n. n ≤ 6250000 * 2 ^ 30) (sym c.undone.ensures) (lengths c.requires).high

pub overflow_cast-m : goal.overflow_cast-m
overflow_cast-m c = sfits_of (go (east_high _ _ _ _ c.requires c.undone-m.ensures))
  where
    go : {n : ℕ} → n ≤ 420000 * 2 ^ 30 → n < 2 ^ 63
    go h = omega arith

pub arguments-requires : goal.arguments-requires
arguments-requires c =
    let n = north_is (ellipsoid_of c.args.ellipsoid) _ _ _ _ _ c.requires c.undone.ensures c.centred-n.ensures in
    let m = word c.undone-m.result (420000 * 2 ^ 30) (east_high _ _ _ _ c.requires c.undone-m.ensures) tt in
    (subst (λ z. nat_abs z < 2 ^ 53) (sym n.is) (below n.size), subst (λ z. nat_abs z < 2 ^ 53) (sym m.is) (east m.size))
  where
    east : {k : ℕ} → k ≤ 420000 * 2 ^ 30 → k < 2 ^ 53
    east h = omega arith

pub returns : goal.returns
unfolding mercator_pair
returns c =
    let n = north_is (ellipsoid_of c.args.ellipsoid) _ _ _ _ _ c.requires c.undone.ensures c.centred-n.ensures in
    let m = word c.undone-m.result (420000 * 2 ^ 30) (east_high _ _ _ _ c.requires c.undone-m.ensures) tt in
    c.inverse.ensures
    ∙ ap (horner (doubles unit (b_coefficients (constants (ellipsoid_of c.args.ellipsoid))))) (c.arguments.ensures ∙ ap₂ arguments_of n.is (m.is ∙ ap pos c.undone-m.ensures))
