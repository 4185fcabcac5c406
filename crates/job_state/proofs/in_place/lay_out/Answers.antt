-- `job_state::in_place::lay_out` meets its contract. Assumes nothing.
use mathlib.Core.Path.{◌≡◌, ap, sym, ◌∙◌}
use Prim.Native.Nat.{ℕ, ◌*◌}
use native.Mathlib.Omega.{arith}
use lib.ListN.{length, take}
use Rattle.job_state.specs.Gathered.{flat, ring_of}
use Rattle.job_state.proofs.Limits.{few, same_ring}
use Rattle.std.proofs.Common.{rules}
use Rattle.job_state.proofs.in_place.lay_out.Goals as goal

pub flatten-requires : goal.flatten-requires
flatten-requires c = let f = few 3072 c.args.total in let e = c.at_most.ensures in omega arith

pub returns : goal.returns
returns c =
    let cs = c.args.corners in
    let l : length cs ≡ 3072 = search rules in
    let e = c.at_most.ensures in (
      c.flatten.ensures.0,
      ap (λ (k : ℕ). take (2 * k) c.flatten.result) (sym e) ∙ c.flatten.ensures.1 ∙ ap (λ (k : ℕ). flat (ring_of k cs)) e ∙ ap flat (same_ring cs 3072 c.args.total l),
    )
