-- The length less the centre of each ellipsoid. Assumes nothing.
use Rattle.std.proofs.Common.{sym, ap, ◌∙◌, ℕ, ◌*◌, ◌^◌, w64, lit≤}
use Rattle.arith.specs.Laws.Machine.{v_sub}
use Rattle.terms.specs.Papers.{ellipsoid_of}
use Rattle.projection_worked.specs.Inverse.{centre30, centred30}
use Rattle.projection_worked.proofs.Laws.Undoing.{word}
use Rattle.projection_inverse.proofs.backward.centred.Goals as goal

abbrev most : ℕ
most = 6250000 * 2 ^ 30

pub returns-in-Krasovsky : goal.returns-in-Krasovsky
unfolding centred30 centre30
returns-in-Krasovsky c = (v_sub w64 (word c.args.north most c.requires tt) (word 6190315423164320 6190315423164320 (lit≤ tt) tt) tt).is ∙ ap (λ e. centred30 (ellipsoid_of e) c.args.north) (sym c.in-Krasovsky.is)

pub returns-in-Grs80 : goal.returns-in-Grs80
unfolding centred30 centre30
returns-in-Grs80 c = (v_sub w64 (word c.args.north most c.requires tt) (word 6190316082331924 6190316082331924 (lit≤ tt) tt) tt).is ∙ ap (λ e. centred30 (ellipsoid_of e) c.args.north) (sym c.in-Grs80.is)
