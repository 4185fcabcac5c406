-- The nozzle rule over a field's rings, ring by ring: a field of one ring answers as the ring does, and one inner ring more is looked at beside those before it. Assumes nothing.
use Rattle.std.specs.Prelude.{◌≡◌, refl, Bool, true, false, not, ◌||◌, List, [], ◌∷◌, ◌++◌}
use Rattle.std.proofs.Common.{sym, ◌∙◌, ap, ap₂}
use Rattle.rules.specs.Rings.{Corner, edges, turning_number, border, is_zero}
use Rattle.rules.specs.RingAnswers.{Nozzle, open_nozzle, border_nozzle, shut_nozzle, nozzle}
use Rattle.rules.specs.Fields.{Field, on_any, inside_any, field_nozzle}
use Rattle.rules.specs.FieldAnswers.{alone, with_ring}

-- how a point stands to the rings before, and how to an inner ring: how to both
abbrev pub beside : Nozzle → Nozzle → Nozzle
beside x border_nozzle = border_nozzle
beside x shut_nozzle = x
beside border_nozzle open_nozzle = border_nozzle
beside open_nozzle open_nozzle = shut_nozzle
beside shut_nozzle open_nozzle = shut_nozzle
