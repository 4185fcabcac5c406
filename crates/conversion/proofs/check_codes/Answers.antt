-- The refusal of either code, and else whether the rows lie on one ellipsoid. Assumes nothing.
use Rattle.std.proofs.Common.{◌≡◌, refl, sym, ◌∙◌, true, false}
use Rattle.std.proofs.lemmas.Result.{err_from_is_err_and}
use denote.Enum.Bare.{sameb}
use Rattle.rules.specs.Refusals.{answered, refused, passed}
use Rattle.terms.specs.declared.ellipsoids.Ellipsoid.{Ellipsoid}
use Rattle.terms.specs.declared.ellipsoids.Ellipsoid.TheVariants.{Grs80, Krasovsky}
use Rattle.terms.specs.contracts.ellipsoids.Ellipsoid.{the_type}
use Rattle.conversion.specs.Codes.{ellipsoid_check}
use Rattle.conversion.specs.Laws.Codes.{source_refused, target_refused, both}
use Rattle.conversion.proofs.check_codes.Goals as goal

pub returns-in_err-from : goal.returns-in_err-from
returns-in_err-from c = let p = err_from_is_err_and c.from_residual.result c.from_residual.ensures.1 in rw (p.1, p.2) (source_refused c.args.source c.args.target _ c.in_err-from.ensures)

pub returns-in_err-to : goal.returns-in_err-to
returns-in_err-to c =
    let f = c.in_ok-from.ensures in
    let p = err_from_is_err_and c.from_residual-in_err-to.result c.from_residual-in_err-to.ensures.1 in
    rw (p.1, p.2) (target_refused c.args.source c.args.target f.0 _ f.1 c.in_err-to.ensures)

-- what the comparison of two ellipsoids says
same : (e f : Ellipsoid) → true ≡ sameb the_type e f → answered passed ≡ ellipsoid_check e f
same Grs80 Grs80 h = refl
same Grs80 Krasovsky h = absurd (cc)
same Krasovsky Grs80 h = absurd (cc)
same Krasovsky Krasovsky h = refl

other : (e f : Ellipsoid) → false ≡ sameb the_type e f → refused 5 ≡ ellipsoid_check e f
other Grs80 Grs80 h = absurd (cc)
other Grs80 Krasovsky h = refl
other Krasovsky Grs80 h = refl
other Krasovsky Krasovsky h = absurd (cc)

pub returns-then-eq : goal.returns-then-eq
returns-then-eq c =
    let f = c.in_ok-from.ensures in
    let g = c.in_ok-to.ensures in
    same c.in_ok-from.from.ellipsoid c.in_ok-to.to.ellipsoid c.if-eq.ensures ∙ sym (both c.args.source c.args.target f.0 g.0 c.in_ok-from.from c.in_ok-to.to f.1 g.1 f.2 g.2)

pub returns-else-eq : goal.returns-else-eq
returns-else-eq c =
    let f = c.in_ok-from.ensures in
    let g = c.in_ok-to.ensures in
    other c.in_ok-from.from.ellipsoid c.in_ok-to.to.ellipsoid c.if-eq.ensures ∙ sym (both c.args.source c.args.target f.0 g.0 c.in_ok-from.from c.in_ok-to.to f.1 g.1 f.2 g.2)
