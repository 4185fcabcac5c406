-- The refusal of the codes, or the ring moved. Assumes nothing.
use Rattle.std.proofs.Common.{sym, ◌∙◌}
use Rattle.std.proofs.lemmas.Result.{err_from_is_err_and}
use Rattle.rules.specs.Conversion.{verdict, held, RightConversion}
use Rattle.rules.proofs.Laws.Clauses.{both_shown}
use Rattle.rules.proofs.Laws.Legs.{conversion_right}
use Rattle.projection.specs.Laws.Right.{right}
use Rattle.ring_checks.proofs.Laws.Steps.{refused_then}
use Rattle.conversion.specs.Ring.{worked_conversion}
use Rattle.conversion.specs.Laws.Ring.{ring_moved, ring_steps, ring_codes_passed, on_stop, on_same}
use Rattle.conversion.proofs.convert_ring.Goals as goal

pub returns-in_err-check_codes : goal.returns-in_err-check_codes
returns-in_err-check_codes c =
    let s = c.args.source in
    let t = c.args.target in
    let l = c.args.corners.now in
    let o = c.args.output.now in
    let p = err_from_is_err_and c.from_residual.result c.from_residual.ensures.1 in
    let b = both_shown (RightConversion s t l o) verdict (λ a. held a o) (worked_conversion s t l o) (conversion_right right s t l o)
    (on_stop c.in_err-check_codes.field-0.0 o (refused_then c.in_err-check_codes.field-0.0 (ring_moved s t l o) c.in_err-check_codes.ensures ∙ sym (ring_steps s t l o))) in
    rw (p.1, p.2) (record { verdict = b.0; held = b.1.0; band = b.1.1 })

pub returns : goal.returns
returns c =
    let s = c.args.source in
    let t = c.args.target in
    let l = c.args.corners.now in
    let o = c.args.output.now in
    let b = both_shown (RightConversion s t l o) verdict (λ a. held a o) (worked_conversion s t l o) (conversion_right right s t l o)
    (on_same o _ (ring_codes_passed s t l o (sym c.in_ok-check_codes.ensures)) (c.move_ring.ensures.verdict, c.move_ring.ensures.held)) in
    record { verdict = b.0; held = b.1.0; band = b.1.1 }
