-- `job_state::in_place::check_corner` meets its contract. Assumes nothing.
use mathlib.Core.Logic.{⊎_elim}
use mathlib.Core.Path.{refl, ◌≡◌}
use Rattle.job_state.specs.declared.state.Phase.TheVariants.{Idle, Gathering, Accepted, Inner}
use Rattle.job_state.specs.Gathered.{corner_checked}
use Rattle.job_state.proofs.Steps.{read_back}
use Rattle.job_state.proofs.InPlace.{corner_out, corner_by}
use Rattle.job_state.proofs.in_place.check_corner.Goals as goal

pub returns-in-Idle : goal.returns-in-Idle
returns-in-Idle c = ⊎_elim (λ e. rw e (corner_out _ _ _ Idle refl)) (λ e. rw e (corner_out _ _ _ Accepted refl)) c.in-Idle.is

pub returns-in-Gathering : goal.returns-in-Gathering
returns-in-Gathering c =
    rw c.in-Gathering.is
    (corner_by _ _ _ Gathering refl c.check_gathered.result
    (read_back (λ X Y. c.check_gathered.result ≡ corner_checked 1024 c.args.count X Y) _ _ c.ranges.x c.ranges.y c.check_gathered.ensures))

pub returns-in-Inner : goal.returns-in-Inner
returns-in-Inner c =
    rw c.in-Inner.is
    (corner_by _ _ _ Inner refl c.check_gathered-in-Inner.result
    (read_back (λ X Y. c.check_gathered-in-Inner.result ≡ corner_checked 128 c.args.count X Y) _ _ c.ranges.x c.ranges.y c.check_gathered-in-Inner.ensures))
