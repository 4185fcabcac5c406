-- `job::run::Run::take_bytes` meets its contract. The loop's invariant is `Turns`; the measure is what is left of the chunk, and whether the corners are still to be
-- laid out. Assumes nothing.
use Rattle.std.proofs.Common.{◌≡◌, ℕ, refl, ap, arith, to_z-of_z, rules}
use Rattle.job.specs.declared.passage.Passage.{Passage}
use Rattle.job.proofs.Looping.{begins, inside, within, as_long, still, ends, handed_back, less_by, keeps, kept_less, corner_room, stores, stored_less, lays_out, laid_less, asked_room, takes, taken_less}
use Rattle.std.proofs.Common.{rules}
use Rattle.job.proofs.run.Run.take_bytes.Goals as goal

pub loop-counts-init : goal.loop-counts-init
loop-counts-init c =
    let st = c.before.before.before.before in
    record {
      along = begins st.args.self st.args.chunk.now st.args.out.now _ c.start-passage.ensures;
      long = record {
        corners_long = st.well_formed.0.1.1.0.1.1.0.1.0.1;
        counts_long = st.well_formed.0.1.1.0.1.1.1.0.1.0.1;
      };
      room = record { counts_room = refl; numbers_room = refl };
      laid = λ e. absurd (let z : ◌≡◌ {A = ℕ} 0 1 = cc (e, ap (λ (p : Passage). p.laid) c.start-passage.ensures) in omega arith);
    }

pub goes-requires : goal.goes-requires
goes-requires c = inside c.loop-counts.invariant.along

pub turn-passage-requires : goal.turn-passage-requires
turn-passage-requires c =
    let g = c.goes.ensures.0 c.loop-counts-test.true in
    (still c.loop-counts.invariant.along g.0, g.0, within c.loop-counts.invariant.along, g.1)

pub loop-counts-smaller-in-Nothing : goal.loop-counts-smaller-in-Nothing
loop-counts-smaller-in-Nothing c = less_by c.turn-passage.result.laid c.loop-counts.passage.laid (kept_less c.loop-counts.invariant (c.goes.ensures.0 c.loop-counts-test.true).0 (c.goes.ensures.0 c.loop-counts-test.true).1 c.counts_held-held.ensures c.numbers_held-end.ensures c.turn-passage.ensures c.in-Nothing.is)

pub loop-counts-preserved-in-Nothing : goal.loop-counts-preserved-in-Nothing
loop-counts-preserved-in-Nothing c = keeps c.loop-counts.invariant (c.goes.ensures.0 c.loop-counts-test.true).0 (c.goes.ensures.0 c.loop-counts-test.true).1 c.counts_held-held.ensures c.numbers_held-end.ensures c.turn-passage.ensures c.in-Nothing.is

pub corner_place-place-requires : goal.corner_place-place-requires
corner_place-place-requires c = corner_room c.loop-counts.invariant (c.goes.ensures.0 c.loop-counts-test.true).0 (c.goes.ensures.0 c.loop-counts-test.true).1 c.counts_held-held.ensures c.numbers_held-end.ensures c.turn-passage.ensures c.in-Store.is

pub offset_bounds-job-place : goal.offset_bounds-job-place
offset_bounds-job-place c = let r = c.corner_place-place.ensures.1 in search rules

pub bounds-job-place : goal.bounds-job-place
bounds-job-place c = c.corner_place-place.ensures.1

pub overflow_add-job : goal.overflow_add-job
overflow_add-job c = let r = c.corner_place-place.ensures.1 in let e = c.corner_place-place.ensures.0 in record { fits = omega arith }

pub loop-counts-smaller-in-Store : goal.loop-counts-smaller-in-Store
loop-counts-smaller-in-Store c = less_by c.turn-passage.result.laid c.loop-counts.passage.laid (stored_less c.loop-counts.invariant (c.goes.ensures.0 c.loop-counts-test.true).0 (c.goes.ensures.0 c.loop-counts-test.true).1 c.counts_held-held.ensures c.numbers_held-end.ensures c.turn-passage.ensures c.in-Store.is)

pub loop-counts-preserved-in-Store : goal.loop-counts-preserved-in-Store
loop-counts-preserved-in-Store c =
    rw (to_z-of_z (record { sfits = c.in-Store.known_told-1-own.given.0.1 }), to_z-of_z (record { sfits = c.in-Store.known_told-1-own.given.1.0.1 }), c.corner_place-place.ensures.0)
    (stores c.loop-counts.invariant (c.goes.ensures.0 c.loop-counts-test.true).0 (c.goes.ensures.0 c.loop-counts-test.true).1 c.counts_held-held.ensures c.numbers_held-end.ensures c.turn-passage.ensures c.in-Store.is)

pub loop-counts-smaller-in-LayOut : goal.loop-counts-smaller-in-LayOut
loop-counts-smaller-in-LayOut c = laid_less c.loop-counts.invariant (c.goes.ensures.0 c.loop-counts-test.true).0 (c.goes.ensures.0 c.loop-counts-test.true).1 c.counts_held-held.ensures c.numbers_held-end.ensures c.turn-passage.ensures c.in-LayOut.is

pub loop-counts-preserved-in-LayOut : goal.loop-counts-preserved-in-LayOut
loop-counts-preserved-in-LayOut c = lays_out c.loop-counts.invariant (c.goes.ensures.0 c.loop-counts-test.true).0 (c.goes.ensures.0 c.loop-counts-test.true).1 c.counts_held-held.ensures c.numbers_held-end.ensures c.turn-passage.ensures c.in-LayOut.is c.lay_out-numbers.ensures.0 c.lay_out-numbers.ensures.1

pub says-passage-requires : goal.says-passage-requires
says-passage-requires c = asked_room c.loop-counts.invariant (c.goes.ensures.0 c.loop-counts-test.true).0 (c.goes.ensures.0 c.loop-counts-test.true).1 c.counts_held-held.ensures c.numbers_held-end.ensures c.turn-passage.ensures c.in-Take.is

pub loop-counts-smaller : goal.loop-counts-smaller
loop-counts-smaller c = less_by c.says-passage.result.laid c.loop-counts.passage.laid (taken_less c.loop-counts.invariant (c.goes.ensures.0 c.loop-counts-test.true).0 (c.goes.ensures.0 c.loop-counts-test.true).1 c.counts_held-held.ensures c.numbers_held-end.ensures c.turn-passage.ensures c.in-Take.is c.take-taken.ensures.worked c.says-passage.ensures)

pub loop-counts-preserved : goal.loop-counts-preserved
loop-counts-preserved c = takes c.loop-counts.invariant (c.goes.ensures.0 c.loop-counts-test.true).0 (c.goes.ensures.0 c.loop-counts-test.true).1 c.counts_held-held.ensures c.numbers_held-end.ensures c.turn-passage.ensures c.in-Take.is c.take-taken.ensures.worked c.says-passage.ensures

pub handed-requires : goal.handed-requires
handed-requires c = within c.loop-counts.invariant.along

pub shape_of-out : goal.shape_of-out
shape_of-out c = as_long c.loop-counts.invariant.along

pub returns : goal.returns
returns c =
    handed_back c.args.self c.requires c.start-passage.ensures c.handed.ensures (ends c.loop-counts.invariant.along (c.goes.ensures.1 c.loop-counts-test.false))
