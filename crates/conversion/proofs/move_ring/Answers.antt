-- Only a whole ring is written. Assumes nothing.
use Rattle.std.proofs.Common.{List, ◌≡◌, sym, ap, ◌∙◌, arith, ℕ, ℤ, ◌*◌, ◌≤◌, length, ◌++◌, length-take-le}
use Rattle.std.proofs.Math.ListN.{take, drop}
use Rattle.std.proofs.lemmas.Result.{err_from_is_err_and}
use Rattle.rules.specs.Refusals.{answered}
use Rattle.rules.specs.RingAnswers.{ring_checks}
use Rattle.ring_corners.specs.Corners.{pairs, Accepted}
use Rattle.ring_corners.specs.declared.rings.Ring.{Ring}
use Rattle.conversion.specs.Laws.Ring.{all_corners, on_stop, on_success}
use Rattle.conversion.proofs.move_ring.Goals as goal

-- the ring that passed is the numbers that were given
accepted : {numbers : List ℤ} (ring : Ring) → ring.corners.now ≡ numbers → answered (pairs ring.corners.now) ≡ ring_checks numbers
    → (ring_checks numbers ≡ answered (pairs numbers)) × Accepted numbers
accepted ring lent answer = (sym answer ∙ ap (λ l. answered (pairs l)) lent, rw lent at ring.accepted)

pub returns-in_err-numbers : goal.returns-in_err-numbers
returns-in_err-numbers c =
    let a = accepted c.in_ok-ring.ring c.in_ok-ring.ensures.lent c.in_ok-ring.ensures.answer in
    let p = err_from_is_err_and c.from_residual-in_err-numbers.result c.from_residual-in_err-numbers.ensures.1 in
    let b = on_stop c.in_err-numbers.field-0.0 c.args.output.now ((rw c.in_ok-ring.ensures.lent at c.in_err-numbers.ensures.numbers_value) ∙ sym (all_corners c.args.source c.args.target c.args.corners.now c.args.output.now _ a.0 c.if-output-corners.false)) in
    record { verdict = rw (p.1, p.2) b.0; held = b.1 }

-- an accepted ring is no longer than the numbers handed back
room : (n p k : ℕ) → n ≡ 2 * p → p ≤ 1024 → k ≡ 2048 → n ≤ k
room n p k e h f = omega arith

pub slice_bounds-numbers-end : goal.slice_bounds-numbers-end
slice_bounds-numbers-end c =
    let a = (accepted c.in_ok-ring.ring c.in_ok-ring.ensures.lent c.in_ok-ring.ensures.answer).1 in
    let e = a.even in
    let l = a.at_least in
    let m = a.at_most in
    let n = c.in_ok-numbers.ensures.size in
    omega arith

pub slice_bounds-copy_from_slice-end-3 : goal.slice_bounds-copy_from_slice-end-3
slice_bounds-copy_from_slice-end-3 c =
    let a = (accepted c.in_ok-ring.ring c.in_ok-ring.ensures.lent c.in_ok-ring.ensures.answer).1 in
    let e = a.even in
    let l = a.at_least in
    let m = a.at_most in
    let n = c.in_ok-numbers.ensures.size in
    sym (length-take-le _ c.in_ok-numbers.numbers (omega arith))

pub copy_from_slice-requires : goal.copy_from_slice-requires
copy_from_slice-requires c =
    let a = (accepted c.in_ok-ring.ring c.in_ok-ring.ensures.lent c.in_ok-ring.ensures.answer).1 in
    let e = a.even in
    let l = a.at_least in
    let m = a.at_most in
    let n = c.in_ok-numbers.ensures.size in
    let h = c.if-output-corners.false in
    length-take-le _ c.args.output.now (omega arith) ∙ sym (length-take-le _ c.in_ok-numbers.numbers (omega arith))

pub returns : goal.returns
returns c =
    let a = accepted c.in_ok-ring.ring c.in_ok-ring.ensures.lent c.in_ok-ring.ensures.answer in
    let n = length c.args.corners.now in
    let o = c.args.output.now in
    let t = take n c.in_ok-numbers.numbers in
    let z = length-take-le n c.in_ok-numbers.numbers (room _ _ _ a.1.even a.1.at_most c.in_ok-numbers.ensures.size) in
    let b = on_success t o (c.copy_from_slice.new.self ++ drop n o)
    (all_corners c.args.source c.args.target c.args.corners.now o _ a.0 c.if-output-corners.false ∙ sym (rw c.in_ok-ring.ensures.lent at c.in_ok-numbers.ensures.numbers_value))
    (ap (λ k. k ++ drop n o) c.copy_from_slice.ensures.after ∙ ap (λ k. t ++ drop k o) (sym z)) in
    record { verdict = b.0; held = b.1 }
