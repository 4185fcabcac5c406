-- Laws of Machine: bytes after bytes, chunks after chunks, and after a refusal nothing. Assumes nothing.
use Rattle.std.specs.Prelude.{◌≡◌, ℕ, suc, ◌-◌, ◌<◌, ◌≤◌, Bool, true, false, List, [], ◌∷◌, ◌++◌, length, ℤ}
use Rattle.std.proofs.Math.Path.{refl, sym, ap}
use Rattle.std.proofs.Common.{◌∙◌, arith, lt-ltb, le-ltb}
use mathlib.Core.List.{append_assoc, append-nil}
use Rattle.rules.specs.Refusals as rules
use Rattle.rules.specs.Points as points
use Rattle.rules.specs.JobFile.{State}
use Rattle.job.specs.Machine.{Progress, stopped, byte_taken, fed, used_in, joined, over, progress_by}

module _ (f : ℕ → ℤ → ℤ → rules.Answer points.Point) where
  -- bytes after bytes
  pub then_next : (p : Progress) (a b : List ℕ) → (fed f p (a ++ b)).next ≡ (fed f (fed f p a).next b).next
  unfolding fed
  then_next p [] b = refl
  then_next p (x ∷ a) b = then_next (byte_taken f p x).next a b

  pub then_printed : (p : Progress) (a b : List ℕ) → (fed f p (a ++ b)).printed ≡ (fed f p a).printed ++ (fed f (fed f p a).next b).printed
  unfolding fed
  then_printed p [] b = refl
  then_printed p (x ∷ a) b =
      ap (λ (l : List ℕ). (byte_taken f p x).printed ++ l) (then_printed (byte_taken f p x).next a b)
      ∙ sym (append_assoc (byte_taken f p x).printed (fed f (byte_taken f p x).next a).printed (fed f (fed f (byte_taken f p x).next a).next b).printed)

  pub one_next : (p : Progress) (b : ℕ) → (fed f p (b ∷ [])).next ≡ (byte_taken f p b).next
  unfolding fed
  one_next p b = refl

  pub one_printed : (p : Progress) (b : ℕ) → (fed f p (b ∷ [])).printed ≡ (byte_taken f p b).printed
  unfolding fed
  one_printed p b = append-nil (byte_taken f p b).printed

  -- after a refusal
  pub stopped_next : (l : List ℕ) → (fed f stopped l).next ≡ stopped
  unfolding fed
  stopped_next [] = refl
  stopped_next (b ∷ l) = stopped_next l

  pub stopped_printed : (l : List ℕ) → (fed f stopped l).printed ≡ []
  unfolding fed
  stopped_printed [] = refl
  stopped_printed (b ∷ l) = stopped_printed l

  pub stopped_used : (room : ℕ) (l : List ℕ) → used_in f room stopped l ≡ length l
  unfolding used_in
  stopped_used room [] = refl
  stopped_used room (b ∷ l) = refl

  -- a byte, where there is room for any line
  pub byte_used : (room : ℕ) (t : Bool) (s : State) (offset count : ℕ) (held : List ℕ) (b : ℕ) (l : List ℕ) → t ≡ false → 128 ≤ room
      → used_in f room (progress_by t s offset count held) (b ∷ l)
      ≡ suc (used_in f (room - length (byte_taken f (progress_by t s offset count held) b).printed) (byte_taken f (progress_by t s offset count held) b).next l)
  unfolding used_in
  byte_used room true s offset count held b l e h = absurd (let z : ◌≡◌ {A = ℕ} 0 1 = cc in omega arith)
  byte_used room false s offset count held b l e h = rw (le-ltb room 128 h) refl

  pub no_room : (room : ℕ) (t : Bool) (s : State) (offset count : ℕ) (held l : List ℕ) → t ≡ false → room < 128 → used_in f room (progress_by t s offset count held) l ≡ 0
  unfolding used_in
  no_room room t s offset count held [] e h = refl
  no_room room true s offset count held (b ∷ l) e h = absurd (let z : ◌≡◌ {A = ℕ} 0 1 = cc in omega arith)
  no_room room false s offset count held (b ∷ l) e h = rw (lt-ltb room 128 h) refl

  pub none_used : (room : ℕ) (p : Progress) → used_in f room p [] ≡ 0
  unfolding used_in
  none_used room p = refl

  -- chunks after chunks: however bytes are cut, they make the same
  pub over_next : (p : Progress) (cs : List (List ℕ)) → (over f p cs).next ≡ (fed f p (joined cs)).next
  unfolding over fed joined
  over_next p [] = refl
  over_next p (c ∷ cs) = over_next (fed f p c).next cs ∙ sym (then_next p c (joined cs))

  pub over_printed : (p : Progress) (cs : List (List ℕ)) → (over f p cs).printed ≡ (fed f p (joined cs)).printed
  unfolding over fed joined
  over_printed p [] = refl
  over_printed p (c ∷ cs) = ap (λ (l : List ℕ). (fed f p c).printed ++ l) (over_printed (fed f p c).next cs) ∙ sym (then_printed p c (joined cs))
