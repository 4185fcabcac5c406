-- The pairs of the edges before edge k are all but those of the edges from k on. Assumes nothing.
use Rattle.std.specs.Prelude.{◌≡◌, ℕ, ◌+◌, ◌-◌, ◌≤◌, length}
use Rattle.std.proofs.Common.{ap, arith}
use Rattle.rules.specs.Rings.{edge_pairs}
use Rattle.rules.proofs.Laws.Looked.{grows, few, place_at}
use Rattle.rings.proofs.looked.place_of.Goals as goal

fewer : (n k : ℕ) → k ≤ n → length (edge_pairs (n - k)) ≤ length (edge_pairs n)
fewer n k h = let g = grows (n - k) k in let e : length (edge_pairs (n - k + k)) ≡ length (edge_pairs n) = ap (λ (t : ℕ). length (edge_pairs t)) (omega arith) in omega arith

pub overflow_sub-result : goal.overflow_sub-result
overflow_sub-result c = let h = fewer c.args.edges c.args.k (omega arith) in omega arith

pub overflow_add-result : goal.overflow_add-result
overflow_add-result c = let f = few c.args.edges (omega arith) in record { fits = omega arith }

pub returns : goal.returns
returns c = let h = fewer c.args.edges c.args.k (omega arith) in let p = place_at c.args.edges c.args.k c.args.l (omega arith) (omega arith) in omega arith
