-- `fixed_inverse::difference60`: the sizes of sinh q, cos p and tan d. Assumes nothing.
use Rattle.std.proofs.Common.{◌≡◌, ℕ, ◌≤◌, arith, sym, subst, subst₂, le_trans, lit≤}
use Rattle.fixed.specs.Worked.{quot60, odd_ser60, even_alt60}
use Rattle.fixed.proofs.Laws.Words.{QuotPre}
use Rattle.fixed.specs.Tables.{small_sine_table, cosine_table}
use Rattle.fixed_inverse.specs.Laws.Radius.{p_low, p_high, q_high}
use Rattle.fixed_inverse.specs.Laws.Turns.{sinh_high, cosine_low, cosine_high, difference_high}
use Rattle.fixed_inverse.proofs.Laws.Turns.{sinh_size, cosine_size, tangent_size}
use Rattle.fixed_inverse.proofs.difference60.Goals as goal

abbrev Pre : ℕ → ℕ → Type 0
Pre p q = (p_low ≤ p) × (p ≤ p_high) × (q ≤ q_high)

module _ {p q s d : ℕ} (h : Pre p q) (es : s ≡ odd_ser60 q small_sine_table) (ed : d ≡ even_alt60 p cosine_table) where
  asked : QuotPre s d
  asked = go (subst (λ z. z ≤ sinh_high) (sym es) (sinh_size h.2)) (subst (λ z. (cosine_low ≤ z) × (z ≤ cosine_high)) (sym ed) (cosine_size h.0 h.1))
    where
      go : s ≤ sinh_high → (cosine_low ≤ d) × (d ≤ cosine_high) → QuotPre s d
      go a b = (omega arith, omega arith, omega arith)

  tangent : {t : ℕ} → t ≡ quot60 s d → t ≤ difference_high
  tangent {t} et = subst (λ z. z ≤ difference_high) (sym et) (subst₂ (λ x y. quot60 x y ≤ difference_high) (sym es) (sym ed) (tangent_size h.0 h.1 h.2))

pub quot60-t-requires : goal.quot60-t-requires
quot60-t-requires c = asked c.requires c.odd_ser60-s.ensures.value c.even_alt60-c.ensures.value

pub odd_alt60-requires : goal.odd_alt60-requires
odd_alt60-requires c = (tt, le_trans (tangent c.requires c.odd_ser60-s.ensures.value c.even_alt60-c.ensures.value c.quot60-t.ensures.value) (lit≤ tt))

pub returns-clause-size : goal.returns-clause-size
returns-clause-size c = le_trans c.odd_alt60.ensures.size (tangent c.requires c.odd_ser60-s.ensures.value c.even_alt60-c.ensures.value c.quot60-t.ensures.value)
