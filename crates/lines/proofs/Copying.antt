-- One text after another, behind a line. Assumes nothing.
use Rattle.std.proofs.Common.{◌≡◌, ℕ, ap, ◌∙◌, List, ◌++◌, append_assoc, length-append, arith, take}
use Rattle.lines.specs.declared.Line.{Line}
use Rattle.lines.specs.Said.{Longer}

pub then : {l m r : Line} {a b : List ℕ} → Longer l a m → Longer m b r → Longer l (a ++ b) r
then {l} {m} {r} {a} {b} f g = record {
  counted = let h = f.counted in let k = g.counted in let e = length-append a b in omega arith;
  says = g.says ∙ ap (λ (x : List ℕ). x ++ b) f.says ∙ append_assoc (take l.count l.bytes) a b;
}

pub longer_as : {l r : Line} {a b : List ℕ} → a ≡ b → Longer l a r → Longer l b r
longer_as e f = rw e at f
