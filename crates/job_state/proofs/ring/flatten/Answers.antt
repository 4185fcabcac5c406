-- Each corner's numbers, limited, are laid behind those before it.
use Rattle.std.proofs.Common.{◌≡◌, ◌<◌, ◌∙◌, ap, refl, replicate, pos, arith, rules, length, length-take-le}
use Rattle.std.proofs.lemmas.List.{get_or-take}
use Rattle.terms.specs.declared.corners.Corner.{Corner}
use Rattle.job_state.specs.Gathered.{within}
use Rattle.job_state.proofs.Flat.{starts, turned, limited_back}
use Rattle.job_state.proofs.ring.flatten.Goals as goal

pub loop-i-init : goal.loop-i-init
loop-i-init c = starts c.args.corners (replicate 6144 (pos 0)) refl

pub loop-i-preserved : goal.loop-i-preserved
loop-i-preserved c =
    let cs = c.args.corners in
    let d : Corner = record { x = pos 0; y = pos 0 } in
    let long : length cs ≡ 3072 = search rules in
    let all = length-take-le c.args.count cs (omega arith) in
    let h : c.loop-i.i < c.args.count = omega arith in
    let e = get_or-take c.args.count cs c.loop-i.i d h in
    turned d _ _ c.loop-i.invariant (omega arith) long
    (limited_back _ c.limited.type_inv (search rules) c.limited.ensures ∙ ap (λ (c : Corner). within c.x) e)
    (limited_back _ c.limited-in-loop-i.type_inv (search rules) c.limited-in-loop-i.ensures ∙ ap (λ (c : Corner). within c.y) e)

pub returns : goal.returns
returns c =
    let long : length c.args.corners ≡ 3072 = search rules in
    let all = length-take-le c.args.count c.args.corners (omega arith) in
    let e : c.loop-i.i ≡ c.args.count = omega arith in
    (c.loop-i.invariant.long, rw e at c.loop-i.invariant.has)
