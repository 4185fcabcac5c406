-- What the search found is the answer, with its count. Assumes nothing.
use Rattle.std.specs.Prelude.{ℕ, ◌/◌, ◌%◌}
use Rattle.std.proofs.Common.{ap, ◌∙◌, arith}
use Rattle.rules.specs.Refusals.{answered, crossed_at}
use Rattle.rules.proofs.Laws.Pairs.{crossed_some}
use Rattle.ring_corners.specs.Corners.{pairs}
use Rattle.rings.proofs.Laws.Crossed.{pair_found, hit_answer, clean_answer}
use Rattle.rings.proofs.crossed.first_pair.Goals as goal

pub place_of-place-requires : goal.place_of-place-requires
place_of-place-requires c =
    let r = pairs c.args.ring.now.corners.now in
    let f = crossed_some _ _ (pair_found r c.search_all-pair.result _ c.search_all-pair.ensures c.count-edges.ensures c.if-pair-lt1048576.true) in
    (f.order, omega (arith, f.inside), omega (arith, c.args.ring.now.accepted.at_most))

pub returns-then-pair-lt1048576 : goal.returns-then-pair-lt1048576
returns-then-pair-lt1048576 c =
    ap (λ (looked : ℕ). crossed_at (record { ring = 0; low = c.search_all-pair.result / 1024; high = c.search_all-pair.result % 1024; looked_at = looked })) c.place_of-place.ensures
    ∙ hit_answer (pairs c.args.ring.now.corners.now) c.search_all-pair.result _ c.search_all-pair.ensures c.count-edges.ensures c.if-pair-lt1048576.true

pub returns : goal.returns
returns c = ap answered c.pairs_of.ensures ∙ clean_answer (pairs c.args.ring.now.corners.now) c.search_all-pair.result _ c.search_all-pair.ensures c.count-edges.ensures c.if-pair-lt1048576.false
