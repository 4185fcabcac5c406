-- The laws of the ring ℤ that lib.IntN does not have. Each is one on ℕ, by `diffs` and `omega`.
use Rattle.std.specs.Prelude.{◌≡◌, refl, List, [], ◌∷◌, ◌↔◌, ℕ, zero, suc, ◌+◌, ◌*◌, ◌-◌, ◌<◌, ◌≤◌, ℤ, pos, negsuc, neg_ℤ, ◌+ℤ◌, ◌-ℤ◌, ◌*ℤ◌, nat_abs}
use Rattle.std.proofs.Common.{sym, ◌∙◌, ap, ap₂, arith}
use Rattle.arith.specs.Laws.Diff.{◌⊖◌, Z·ℕ, diffs}

pub *ℤ_assoc : (a b c : ℤ) → (a *ℤ b) *ℤ c ≡ a *ℤ (b *ℤ c)
*ℤ_assoc a b c = diffs (a ∷ b ∷ c ∷ []) λ p n ea q m eb r l ec. simp (Z·ℕ, ea, eb, ec) (omega arith)

pub *ℤ_left_comm : (a b c : ℤ) → a *ℤ (b *ℤ c) ≡ b *ℤ (a *ℤ c)
*ℤ_left_comm a b c = diffs (a ∷ b ∷ c ∷ []) λ p n ea q m eb r l ec. simp (Z·ℕ, ea, eb, ec) (omega arith)

pub +ℤ_left_comm : (a b c : ℤ) → a +ℤ (b +ℤ c) ≡ b +ℤ (a +ℤ c)
+ℤ_left_comm a b c = diffs (a ∷ b ∷ c ∷ []) λ p n ea q m eb r l ec. simp (Z·ℕ, ea, eb, ec) (omega arith)

pub *ℤ-+ℤ : (a b c : ℤ) → a *ℤ (b +ℤ c) ≡ a *ℤ b +ℤ a *ℤ c
*ℤ-+ℤ a b c = diffs (a ∷ b ∷ c ∷ []) λ p n ea q m eb r l ec. simp (Z·ℕ, ea, eb, ec) (omega arith)

pub +ℤ-*ℤ : (a b c : ℤ) → (a +ℤ b) *ℤ c ≡ a *ℤ c +ℤ b *ℤ c
+ℤ-*ℤ a b c = diffs (a ∷ b ∷ c ∷ []) λ p n ea q m eb r l ec. simp (Z·ℕ, ea, eb, ec) (omega arith)

pub *ℤ--ℤ : (a b c : ℤ) → a *ℤ (b -ℤ c) ≡ a *ℤ b -ℤ a *ℤ c
*ℤ--ℤ a b c = diffs (a ∷ b ∷ c ∷ []) λ p n ea q m eb r l ec. simp (Z·ℕ, ea, eb, ec) (omega arith)

pub -ℤ-*ℤ : (a b c : ℤ) → (a -ℤ b) *ℤ c ≡ a *ℤ c -ℤ b *ℤ c
-ℤ-*ℤ a b c = diffs (a ∷ b ∷ c ∷ []) λ p n ea q m eb r l ec. simp (Z·ℕ, ea, eb, ec) (omega arith)

pub neg-*ℤ : (a b : ℤ) → neg_ℤ a *ℤ b ≡ neg_ℤ (a *ℤ b)
neg-*ℤ a b = diffs (a ∷ b ∷ []) λ p n ea q m eb. simp (Z·ℕ, ea, eb) (omega arith)

pub *ℤ_neg : (a b : ℤ) → a *ℤ neg_ℤ b ≡ neg_ℤ (a *ℤ b)
*ℤ_neg a b = diffs (a ∷ b ∷ []) λ p n ea q m eb. simp (Z·ℕ, ea, eb) (omega arith)

pub 1-*ℤ : (a : ℤ) → pos 1 *ℤ a ≡ a
1-*ℤ a = diffs (a ∷ []) λ p n ea. simp (Z·ℕ, ea) (omega arith)

pub *ℤ_1 : (a : ℤ) → a *ℤ pos 1 ≡ a
*ℤ_1 a = diffs (a ∷ []) λ p n ea. simp (Z·ℕ, ea) (omega arith)

pub neg_sub : (a b : ℤ) → neg_ℤ (a -ℤ b) ≡ b -ℤ a
neg_sub a b = diffs (a ∷ b ∷ []) λ p n ea q m eb. simp (Z·ℕ, ea, eb) (omega arith)

pub sub_zero_iff : (a b : ℤ) → (a -ℤ b ≡ pos 0) ↔ (a ≡ b)
sub_zero_iff a b = diffs (a ∷ b ∷ []) λ p n ea q m eb. simp (Z·ℕ, ea, eb) (omega arith)

pub +ℤ_cancel_left : (a b c : ℤ) → a +ℤ b ≡ a +ℤ c → b ≡ c
+ℤ_cancel_left a b c = diffs (a ∷ b ∷ c ∷ []) λ p n ea q m eb r l ec. simp (Z·ℕ, ea, eb, ec) (omega arith)

pub +ℤ_cancel_right : (a b c : ℤ) → b +ℤ a ≡ c +ℤ a → b ≡ c
+ℤ_cancel_right a b c = diffs (a ∷ b ∷ c ∷ []) λ p n ea q m eb r l ec. simp (Z·ℕ, ea, eb, ec) (omega arith)

pub sub_add : (a b c : ℤ) → (a -ℤ b) +ℤ (b -ℤ c) ≡ a -ℤ c
sub_add a b c = diffs (a ∷ b ∷ c ∷ []) λ p n ea q m eb r l ec. simp (Z·ℕ, ea, eb, ec) (omega arith)

pub pos_inj : {m n : ℕ} → pos m ≡ pos n → m ≡ n
pos_inj e = ap nat_abs e
