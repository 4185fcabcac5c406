-- Polynomials with whole coefficients, the lowest first: value, sum, product, and how large the value can be. Assumes nothing.
use Rattle.std.specs.Prelude.{◌≡◌, List, [], ◌∷◌, ℕ, zero, suc, ◌+◌, ◌*◌, ◌≤◌, ℤ, pos, neg_ℤ, ◌+ℤ◌, ◌-ℤ◌, ◌*ℤ◌, nat_abs}
use Rattle.std.proofs.Common.{◌∙◌}
use Rattle.arith.specs.Floor.{floor}

-- c₀ + c₁·h + c₂·h² + ..
unfoldable pub at : List ℤ → ℤ → ℤ
at [] h = pos 0
at (c ∷ cs) h = c +ℤ h *ℤ at cs h

-- at most this, for every h of up to H
unfoldable pub reach : ℕ → List ℤ → ℕ
reach H [] = 0
reach H (c ∷ cs) = nat_abs c + H * reach H cs

unfoldable pub plus : List ℤ → List ℤ → List ℤ
plus [] q = q
plus (c ∷ cs) [] = c ∷ cs
plus (c ∷ cs) (d ∷ ds) = (c +ℤ d) ∷ plus cs ds

unfoldable pub multiple : ℤ → List ℤ → List ℤ
multiple k [] = []
multiple k (c ∷ cs) = (k *ℤ c) ∷ multiple k cs

unfoldable pub times : List ℤ → List ℤ → List ℤ
times [] q = []
times (c ∷ cs) q = plus (multiple c q) (pos 0 ∷ times cs q)

unfoldable pub negated : List ℤ → List ℤ
negated [] = []
negated (c ∷ cs) = neg_ℤ c ∷ negated cs

unfoldable pub minus : List ℤ → List ℤ → List ℤ
minus p q = plus p (negated q)

-- the first coefficients, so many of them, divided by d: what is left out shows in `minus`
unfoldable pub cut : ℕ → ℕ → List ℤ → List ℤ
cut zero d p = []
cut (suc k) d [] = []
cut (suc k) d (c ∷ cs) = floor c d ∷ cut k d cs
