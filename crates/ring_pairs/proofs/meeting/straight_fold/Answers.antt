-- Equal corners make an edge of no length, and of others the product decides. Assumes nothing.
use Rattle.std.proofs.Common.{sym, ◌∙◌}
use Rattle.ring_corners.specs.Laws.Signed.{held}
use Rattle.ring_pairs.specs.Laws.Crossings.{same_is, straight_none, straight_back}
use Rattle.std.proofs.Common.{w64, ap}
use Rattle.std.specs.Prelude.{ℤ, pos}
use Rattle.std.specs.Int.Signed.{lt_z}
use Rattle.terms.specs.Papers.{corner_of}
use Rattle.ring_pairs.proofs.meeting.straight_fold.Goals as goal

pub returns-then-eq : goal.returns-then-eq
returns-then-eq c =
    let a = corner_of c.args.a in
    let b = corner_of c.args.b in
    c.if-eq.true ∙ sym (straight_none a b (corner_of c.args.c) (sym (same_is a b) ∙ sym c.eq.ensures ∙ c.if-eq.true))

pub returns-else-eq : goal.returns-else-eq
returns-else-eq c =
    let a = corner_of c.args.a in
    let b = corner_of c.args.b in
    ap (λ (z : ℤ). lt_z z (pos 0)) (held {w = w64} (record { sfits = c.onward.type_inv }) c.onward.ensures)
    ∙ sym (straight_back a b (corner_of c.args.c) (sym (same_is a b) ∙ sym c.eq.ensures ∙ c.if-eq.false))
