-- Of one axis and then of the other. Assumes nothing.
use Rattle.std.proofs.Common.{rules, sym, ◌∙◌, w64, to_z-of_z}
use mir.Val.{SFits}
use Rattle.terms.specs.Papers.{corner_of}
use Rattle.ring_pairs.specs.Laws.Crossings.{away_x, away_y}
use Rattle.ring_pairs.proofs.meeting.away.Goals as goal

pub returns-then-beyond : goal.returns-then-beyond
returns-then-beyond c =
    let low = corner_of c.args.around.low in
    let high = corner_of c.args.around.high in
    let f : SFits w64 low.x = search rules in
    let g : SFits w64 high.x = search rules in
    let h : SFits w64 c.args.c.x = search rules in
    let i : SFits w64 c.args.d.x = search rules in
    let e = rw (to_z-of_z f, to_z-of_z g, to_z-of_z h, to_z-of_z i) at c.beyond.ensures in
    c.if-beyond.true ∙ sym (away_x low high (corner_of c.args.c) (corner_of c.args.d) (sym e ∙ c.if-beyond.true))

pub returns-else-beyond : goal.returns-else-beyond
returns-else-beyond c =
    let low = corner_of c.args.around.low in
    let high = corner_of c.args.around.high in
    let f : SFits w64 low.x = search rules in
    let g : SFits w64 high.x = search rules in
    let h : SFits w64 c.args.c.x = search rules in
    let i : SFits w64 c.args.d.x = search rules in
    let j : SFits w64 low.y = search rules in
    let k : SFits w64 high.y = search rules in
    let m : SFits w64 c.args.c.y = search rules in
    let n : SFits w64 c.args.d.y = search rules in
    let e = rw (to_z-of_z f, to_z-of_z g, to_z-of_z h, to_z-of_z i) at c.beyond.ensures in
    let o = rw (to_z-of_z j, to_z-of_z k, to_z-of_z m, to_z-of_z n) at c.beyond-else-beyond.ensures in
    o ∙ sym (away_y low high (corner_of c.args.c) (corner_of c.args.d) (sym e ∙ c.if-beyond.false))
