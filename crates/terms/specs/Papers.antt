-- The shared words as the rules have them: for each case of a call's answer, the paper's number and values. Assumes nothing.
use Rattle.std.specs.Prelude.{Result, Ok, Err}
use Rattle.rules.specs.Refusals.{Answer, answered, refused, crossed_at, Passed, passed}
use Rattle.rules.specs.Rings as Rings
use Rattle.rules.specs.RingAnswers.{Nozzle, open_nozzle, border_nozzle, shut_nozzle}
use Rattle.rules.specs.Systems as Systems
use Rattle.terms.specs.declared.corners.Corner.{Corner}
use Rattle.terms.specs.declared.ellipsoids.Ellipsoid.{Ellipsoid}
use Rattle.terms.specs.declared.ellipsoids.Ellipsoid.TheVariants.{Grs80, Krasovsky}
use Rattle.terms.specs.declared.positions.Position.{Position}
use Rattle.terms.specs.declared.positions.Position.TheVariants.{Open, Border, Shut}
use Rattle.terms.specs.declared.refusals.Refusal.{Refusal}
use Rattle.terms.specs.declared.refusals.Refusal.TheVariants.{RingCrossed}
use Rattle.terms.specs.Numbers.{number_of}

abbrev pub corner_of : Corner → Rings.Corner
corner_of c = record { x = c.x; y = c.y }

abbrev pub ellipsoid_of : Ellipsoid → Systems.Ellipsoid
ellipsoid_of Grs80 = Systems.GRS_80
ellipsoid_of Krasovsky = Systems.Krasovsky

abbrev pub nozzle_of : Position → Nozzle
nozzle_of Open = open_nozzle
nozzle_of Border = border_nozzle
nozzle_of Shut = shut_nozzle

-- a refusal as the answer that it is: of a crossed ring with the pair, and of any other with its number
abbrev pub refusal_paper : {A : Type 0} → Refusal → Answer A
refusal_paper (RingCrossed pair) = crossed_at (record { ring = pair.ring; low = pair.low; high = pair.high; looked_at = pair.looked_at })
refusal_paper refusal = refused (number_of refusal)

-- what a call answers, where `f` says what its value stands for
abbrev pub paper : {V A : Type 0} → (V → A) → Result V Refusal → Answer A
paper f (Ok value) = answered (f value)
paper f (Err refusal) = refusal_paper refusal

-- of a call that only judges
abbrev pub passed_paper : Result Unit Refusal → Answer Passed
passed_paper = paper (λ _. passed)
