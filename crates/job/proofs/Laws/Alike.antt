-- 01: "Two results allowed for one input are shown equal." Runs that have come equally far take and write the same, and are then equally far again
-- (`feeds-alike`, `finishes-alike`); and of one run, chunk and buffer the contract of `feed` allows one result, every place of the struct (`feeds-one`). The
-- same of a job and a record is Alike of job_state. Assumes nothing.
use Rattle.std.specs.Prelude.{◌≡◌, ℕ, List, length, take, refl}
use Rattle.std.proofs.Common.{sym, ap, ◌∙◌}
use Rattle.lines.specs.Said.{pasted}
use Rattle.projection_worked.specs.Worked.{worked_forward}
use Rattle.job.specs.declared.run.Run.{Run}
use Rattle.job.specs.declared.run.Fed.{Fed}
use Rattle.job.specs.Machine.{Progress, Took, fed, used_in}
use Rattle.job.specs.Runs.{progress, run_fed, Feeding, last_text, Finishing}

pub feeds_alike : {a b : Run} {chunk out out₁ out₂ : List ℕ} {r s : Fed} → progress a ≡ progress b → Feeding a chunk out r out₁ → Feeding b chunk out s out₂
    → (r.used ≡ s.used) × (r.wrote ≡ s.wrote) × (out₁ ≡ out₂) × (progress r.run ≡ progress s.run)
feeds_alike {a} {b} {chunk} {out} {out₁} {out₂} {r} {s} e f g =
    let u : r.used ≡ s.used = f.used ∙ ap (λ (p : Progress). used_in worked_forward (length out) p chunk) e ∙ sym g.used in
    let t : fed worked_forward (progress a) (take r.used chunk) ≡ fed worked_forward (progress b) (take s.used chunk) =
    ap (λ (p : Progress). fed worked_forward p (take r.used chunk)) e ∙ ap (λ (n : ℕ). fed worked_forward (progress b) (take n chunk)) u in (
      u,
      f.wrote ∙ ap (λ (t : Took). length t.printed) t ∙ sym g.wrote,
      f.holds ∙ ap (λ (t : Took). pasted 0 t.printed out) t ∙ sym g.holds,
      f.next ∙ ap (λ (t : Took). t.next) t ∙ sym g.next,
    )

pub feeds_one : {a : Run} {chunk out out₁ out₂ : List ℕ} {r s : Fed} → Feeding a chunk out r out₁ → Feeding a chunk out s out₂ → (r ≡ s) × (out₁ ≡ out₂)
feeds_one {a} {chunk} {out} {out₁} {out₂} {r} {s} f g =
    let h = feeds_alike (refl {a = progress a}) f g in
    (one (f.run_is ∙ ap (λ (n : ℕ). run_fed a (take n chunk)) h.0 ∙ sym g.run_is) h.0 h.1, h.2)
  where
    one : {x y : Run} {u v m n : ℕ} → x ≡ y → u ≡ v → m ≡ n → ◌≡◌ {A = Fed} (record { run = x; used = u; wrote = m }) (record { run = y; used = v; wrote = n })
    one p q r = rw (p, q, r) refl

pub finishes_alike : {a b : Run} {out out₁ out₂ : List ℕ} {m n : ℕ} → progress a ≡ progress b → Finishing a out m out₁ → Finishing b out n out₂
    → (m ≡ n) × (out₁ ≡ out₂)
finishes_alike {out = out} e f g = (
  f.wrote_is ∙ ap (λ (p : Progress). length (last_text (length out) p)) e ∙ sym g.wrote_is,
  f.holds ∙ ap (λ (p : Progress). pasted 0 (last_text (length out) p) out) e ∙ sym g.holds,
)
