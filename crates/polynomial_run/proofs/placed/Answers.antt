-- A finite number is a `Number`. Assumes nothing.
use Rattle.std.proofs.Common.{rules, ◌≡◌, refl, subst, ◌∙◌, T, arith}
use Rattle.std.specs.Float.{Float, nan, inf, fin, float_is_finite}
use Rattle.double.specs.Value.{finite}
use Rattle.polynomial_run.proofs.placed.Goals as goal

finite_is : (x : Float) → float_is_finite x ≡ finite x
unfolding float_is_finite
finite_is nan = refl
finite_is (inf s) = refl
finite_is (fin s m e) = refl

pub placed_number-requires : goal.placed_number-requires
placed_number-requires c = (record { is_finite = subst T (c.if-is_finite.ensures.value ∙ finite_is c.args.x) tt; is_held = search rules }, omega (arith, c.requires))
