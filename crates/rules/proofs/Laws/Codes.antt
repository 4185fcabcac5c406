-- 01, refusal 1: "code not 1-14". A code of 1 to 14 has its row of the table, and no other number has one. Assumes nothing.
use Rattle.std.specs.Prelude.{◌≡◌, Bool, true, false, ◌&&◌, List, [], ◌∷◌, ℕ, zero, suc, ◌≤◌, T, eqb, leb}
use Rattle.std.proofs.Math.Path.{refl}
use Rattle.std.proofs.Common.{◌∙◌, arith, leb→le, eqb→eq}
use Rattle.rules.specs.Refusals.{Answer, answered, refused, crossed_at}
use Rattle.rules.specs.Systems.{System, table, find, system}
use Rattle.rules.proofs.Laws.Meeting.{T_and}

pub known : (code : ℕ) → 1 ≤ code → code ≤ 14 → (s : System) × (system code ≡ answered s) × (s.code ≡ code)
unfolding system find table
known zero h g = absurd (omega arith)
known (suc zero) h g = (_, refl, refl)
known (suc (suc zero)) h g = (_, refl, refl)
known (suc (suc (suc zero))) h g = (_, refl, refl)
known (suc (suc (suc (suc zero)))) h g = (_, refl, refl)
known (suc (suc (suc (suc (suc zero))))) h g = (_, refl, refl)
known (suc (suc (suc (suc (suc (suc zero)))))) h g = (_, refl, refl)
known (suc (suc (suc (suc (suc (suc (suc zero))))))) h g = (_, refl, refl)
known (suc (suc (suc (suc (suc (suc (suc (suc zero)))))))) h g = (_, refl, refl)
known (suc (suc (suc (suc (suc (suc (suc (suc (suc zero))))))))) h g = (_, refl, refl)
known (suc (suc (suc (suc (suc (suc (suc (suc (suc (suc zero)))))))))) h g = (_, refl, refl)
known (suc (suc (suc (suc (suc (suc (suc (suc (suc (suc (suc zero))))))))))) h g = (_, refl, refl)
known (suc (suc (suc (suc (suc (suc (suc (suc (suc (suc (suc (suc zero)))))))))))) h g = (_, refl, refl)
known (suc (suc (suc (suc (suc (suc (suc (suc (suc (suc (suc (suc (suc zero))))))))))))) h g = (_, refl, refl)
known (suc (suc (suc (suc (suc (suc (suc (suc (suc (suc (suc (suc (suc (suc zero)))))))))))))) h g = (_, refl, refl)
known (suc (suc (suc (suc (suc (suc (suc (suc (suc (suc (suc (suc (suc (suc (suc n))))))))))))))) h g = absurd (omega arith)

skip : (code : ℕ) (s : System) (ss : List System) → ¬ (code ≡ s.code) → find code (s ∷ ss) ≡ find code ss
unfolding find
skip code s ss h = go (eqb code s.code) refl
  where
    go : (b : Bool) → eqb code s.code ≡ b → ◌≡◌ {A = Answer System} (elim b [ true ↦ answered s | false ↦ find code ss ]) (find code ss)
    go true x = absurd (h (eqb→eq code s.code (rw x tt)))
    go false x = refl

-- every row's code is one of 1 to 14
inside : List System → Bool
inside [] = true
inside (s ∷ ss) = (leb 1 s.code && leb s.code 14) && inside ss

absent : (code : ℕ) (ss : List System) → T (inside ss) → ¬ ((1 ≤ code) × (code ≤ 14)) → find code ss ≡ refused 1
unfolding inside
absent code [] t h = unfold find in refl
absent code (s ∷ ss) t h =
    let u = T_and (leb 1 s.code && leb s.code 14) (inside ss) t in
    let v = T_and (leb 1 s.code) (leb s.code 14) u.0 in
    skip code s ss (λ e. h (rw e (leb→le 1 s.code v.0), rw e (leb→le s.code 14 v.1))) ∙ absent code ss u.1 h

pub unknown : (code : ℕ) → ¬ ((1 ≤ code) × (code ≤ 14)) → system code ≡ refused 1
unfolding system inside table
unknown code h = absent code table tt h
