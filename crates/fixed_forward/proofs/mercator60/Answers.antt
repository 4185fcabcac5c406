-- `fixed_forward::mercator60`: each part is the worked one of its step. Assumes nothing.
use Rattle.std.proofs.Common.{rules, ◌∙◌}
use Rattle.terms.specs.Papers.{ellipsoid_of}
use Rattle.fixed_forward.specs.Mercator.{east_of}
use Rattle.fixed_forward.proofs.Laws.Points.{across_is, north_is}
use mir.Syntax.{w64}
use mir.ValLaws.{to_z-of_z}
use borrow.Author.Rules.{sfits_of}
use Rattle.fixed_forward.proofs.mercator60.Goals as goal

pub returns-clause-mercator : goal.returns-clause-mercator
unfolding east_of
returns-clause-mercator c =
    let E = ellipsoid_of c.args.ellipsoid in
    let s = c.sphere60-sphere.ensures.sphere in
    let k = c.ellipsoid60-k.ensures in
    let ea = across_is E c.args.n c.args.d s in
    let en = north_is E c.args.n c.args.d s in
    record {
      is_sphere = s;
      is_across = c.across60-across.ensures.value ∙ ea;
      is_north = to_z-of_z w64 c.north30-north.result (sfits_of c.north30-north.type_inv) ∙ cc;
      is_east = cc;
    }
