-- Where the boxes touch, the corners are near enough and the sides decide. Assumes nothing.
use Rattle.std.proofs.Common.{◌∙◌, sym}
use Rattle.terms.specs.Papers.{corner_of}
use Rattle.ring_pairs.specs.Laws.Crossings.{near_sides}
use Rattle.ring_pairs.specs.Laws.Nearness.{touching_near}
use Rattle.ring_placing.proofs.edge.meets_touching.Goals as goal

pub straddles-requires : goal.straddles-requires
straddles-requires c =
    let p = c.requires in
    let near = c.args.ring.now.accepted.near c.args.j c.args.i p.1 p.0 in
    rw (c.corner.ensures, c.corner-2.ensures) (touching_near (corner_of c.args.a) (corner_of c.args.b) _ _ p.2 near p.3)

pub returns : goal.returns
returns c = (rw (c.corner.ensures, c.corner-2.ensures) at c.straddles.ensures) ∙ sym (near_sides (corner_of c.args.a) (corner_of c.args.b) _ _ c.requires.3)
