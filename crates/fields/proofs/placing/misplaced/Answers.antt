-- The outer ring, and then the inner ones. Assumes nothing.
use Rattle.std.proofs.Common.{sym, ◌∙◌}
use Rattle.fields.specs.Laws.Tangled.{misplaced_outer, misplaced_inner}
use Rattle.fields.proofs.placing.misplaced.Goals as goal

pub returns-then-not_inside : goal.returns-then-not_inside
returns-then-not_inside c = c.if-not_inside.true ∙ misplaced_outer _ _ _ c.requires.0.some _ c.requires.1 (sym c.if-not_inside.true ∙ c.not_inside.ensures)

pub returns-else-not_inside : goal.returns-else-not_inside
returns-else-not_inside c = c.entangled_any.ensures ∙ misplaced_inner _ _ _ c.requires.0.some _ c.requires.1 (sym c.if-not_inside.false ∙ c.not_inside.ensures)
