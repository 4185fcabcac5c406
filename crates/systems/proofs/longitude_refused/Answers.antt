-- The band of the half-width to either side of the meridian. Assumes nothing.
use Rattle.std.proofs.Common.{sym, ◌∙◌, w64, to_z-of_z}
use Rattle.arith.specs.Laws.Machine.{v_in, v_add, v_sub}
use Rattle.systems.proofs.Laws.Limits.{same_beyond, longitude_limits}
use Rattle.systems.proofs.longitude_refused.Goals as goal

pub returns : goal.returns
returns c = λ s h.
    let m = v_in w64 c.args.zone.meridian c.requires.meridian tt in
    let r = v_in w64 c.args.zone.reach c.requires.reach tt in
    c.outside.ensures ∙ same_beyond (v_sub w64 m r tt).is (v_add w64 m r tt).is (to_z-of_z c.ranges.l) ∙ sym (longitude_limits c.args.zone s h c.args.l)
