-- 6 before all else, where the counts and the numbers do not fit; otherwise a call is asked of the rings. Assumes nothing.
use Rattle.std.specs.Prelude.{◌≡◌, Bool, true, false, not, ◌⊎◌, List, [], ◌∷◌, ℕ, ◌*◌, eqb, ℤ, length}
use Rattle.std.proofs.Math.Path.{refl}
use Rattle.std.proofs.Common.{sym, ap, ⊎_elim, arith, eqb-true}
use Rattle.rules.specs.Refusals.{Answer, answered, refused, passed, ◌>>=◌, ◌>>◌, ◌if◌, corner_count}
use Rattle.rules.specs.Rings.{Corner}
use Rattle.rules.specs.Fields.{Field, field_nozzle}
use Rattle.rules.specs.FieldAnswers.{summed, cut, uneven, rings_accepted, rings_read, field_accepted, field_read, accept_answer, field_position_answer}
use Rattle.fields.specs.Walks.{rings_position}

-- counts that add up
pub even : (counts : List ℕ) (numbers : List ℤ) → uneven counts numbers ≡ false → 2 * summed counts ≡ length numbers
even counts numbers e = eqb-true (2 * summed counts) (length numbers) (not_no (eqb (2 * summed counts) (length numbers)) e)
  where
    not_no : (b : Bool) → not b ≡ false → b ≡ true
    not_no true f = refl
    not_no false f = sym f

-- counts that do not fit, or none
abbrev pub Unfit : List ℕ → List ℤ → Type 0
Unfit counts numbers = (uneven counts numbers ≡ true) ⊎ (length counts ≡ 0)

pub read_none : (counts : List ℕ) (numbers : List ℤ) → length counts ≡ 0 → refused corner_count ≡ rings_read (cut counts numbers)
unfolding rings_read cut
read_none [] numbers e = refl
read_none (n ∷ counts) numbers e = absurd (omega arith)

accept_none : (counts : List ℕ) (numbers : List ℤ) → length counts ≡ 0 → refused corner_count ≡ rings_accepted (cut counts numbers)
unfolding rings_accepted cut
accept_none [] numbers e = refl
accept_none (n ∷ counts) numbers e = absurd (omega arith)

module _ (counts : List ℕ) (numbers : List ℤ) where
  -- 6, whatever is asked
  unfit : {a : Answer Field} → (length counts ≡ 0 → refused corner_count ≡ a) → Unfit counts numbers → refused corner_count ≡ (corner_count if uneven counts numbers >> a)
  unfit {a} none h = go (uneven counts numbers) h
    where
      go : (b : Bool) → (b ≡ true) ⊎ (length counts ≡ 0) → refused corner_count ≡ (corner_count if b >> a)
      go true h = refl
      go false h = ⊎_elim (λ e. absurd (cc e)) none h

  pub read_unfit : Unfit counts numbers → refused corner_count ≡ field_read counts numbers
  unfolding field_read
  read_unfit h = unfit (read_none counts numbers) h

  pub accept_unfit : Unfit counts numbers → refused corner_count ≡ accept_answer counts numbers
  unfolding accept_answer field_accepted
  accept_unfit h = ap (λ (a : Answer Field). a >> answered passed) (unfit (accept_none counts numbers) h)

  pub read_even : uneven counts numbers ≡ false → rings_read (cut counts numbers) ≡ field_read counts numbers
  unfolding field_read
  read_even e = rw e refl

  pub accept_even : uneven counts numbers ≡ false → (rings_accepted (cut counts numbers) >> answered passed) ≡ accept_answer counts numbers
  unfolding accept_answer field_accepted
  accept_even e = rw e refl

  module _ (p : Corner) where
    pub position_unfit : Unfit counts numbers → refused corner_count ≡ field_position_answer counts numbers p
    unfolding field_position_answer
    position_unfit h = ap (λ (a : Answer Field). a >>= λ f. answered (field_nozzle f p)) (read_unfit h)

    pub position_even : uneven counts numbers ≡ false → rings_position (cut counts numbers) p ≡ field_position_answer counts numbers p
    unfolding field_position_answer rings_position
    position_even e = ap (λ (a : Answer Field). a >>= λ f. answered (field_nozzle f p)) (read_even e)

    -- counts that do not fit, and no counts
    pub position_uneven : uneven counts numbers ≡ true → field_position_answer counts numbers p ≡ refused corner_count
    unfolding field_position_answer field_read
    position_uneven e = rw e refl

pub position_none : (counts : List ℕ) (numbers : List ℤ) (p : Corner) → length counts ≡ 0 → rings_position (cut counts numbers) p ≡ refused corner_count
unfolding rings_position rings_read cut
position_none [] numbers p e = refl
position_none (n ∷ counts) numbers p e = absurd (omega arith)
