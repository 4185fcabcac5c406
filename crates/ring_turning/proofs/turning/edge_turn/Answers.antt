-- An edge that passes the point in X adds what it tells. Assumes nothing.
use Rattle.std.proofs.Common.{rules, ◌∙◌, ap, pos, negsuc, ℤ}
use Rattle.std.specs.Prelude.{Option}
use Rattle.std.specs.Int.{w64}
use Rattle.std.specs.Option.{unwrap_or}
use Rattle.terms.specs.Papers.{corner_of}
use Rattle.ring_corners.specs.Laws.Signed.{held}
use Rattle.ring_turning.specs.Touching.{touch_by}
use Rattle.ring_turning.specs.Laws.Touching.{turn_rise_told, turn_fall_told}
use Rattle.ring_turning.proofs.turning.edge_turn.Goals as goal

pub returns-then-p-b : goal.returns-then-p-b
returns-then-p-b c = held {w = w64} (record { sfits = c.unwrap_or.type_inv })
    (c.unwrap_or.ensures
    ∙ ap (λ (t : Option ℤ). unwrap_or t (pos 0)) (c.told.ensures ∙ ap (touch_by (pos 1)) c.passing_sign.ensures)
    ∙ turn_rise_told (corner_of c.args.a) (corner_of c.args.b) (corner_of c.args.p) (search rules) (search rules))

pub returns-then-b-p : goal.returns-then-b-p
returns-then-b-p c = held {w = w64} (record { sfits = c.unwrap_or-then-b-p.type_inv })
    (c.unwrap_or-then-b-p.ensures
    ∙ ap (λ (t : Option ℤ). unwrap_or t (pos 0)) (c.told-then-b-p.ensures ∙ ap (touch_by (negsuc 0)) c.passing_sign-then-b-p.ensures)
    ∙ turn_fall_told (corner_of c.args.a) (corner_of c.args.b) (corner_of c.args.p) (search rules) (search rules))
