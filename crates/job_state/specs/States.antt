-- The job's state as one of the rules' states, whatever the struct holds; the paper's number and values of each answer; what a record makes of a state, by the
-- rules; and what it makes of the struct. Assumes nothing.
use Rattle.std.specs.Prelude.{◌≡◌, Bool, true, false, List, [], ◌++◌, ℕ, ◌+◌, ℤ, pos, take, replicate, set, Result, Ok, Err}
use Rattle.rules.specs.Refusals as rules
use Rattle.rules.specs.Refusals.{refused, crossed_at, out_of_place}
use Rattle.rules.specs.Points as points
use Rattle.rules.specs.Rings.{Corner}
use Rattle.rules.specs.Fields as fields
use Rattle.rules.specs.FieldAnswers.{field_read}
use Rattle.rules.specs.JobFile.{State, no_field, gathering, accepted, gathering_inner, Step, print, text, decimal, whole, begun, cornered, inner_cornered, closed, inner_closed, inner_begun, queried, pointed}
use Rattle.terms.specs.declared.refusals.Refusal.{Refusal}
use Rattle.terms.specs.declared.refusals.Refusal.TheVariants.{OutOfPlace}
use Rattle.terms.specs.Papers.{refusal_paper}
use Rattle.projection.specs.declared.Point as projected
use Rattle.records.specs.declared.Record as records
use Rattle.records.specs.declared.Record.TheVariants as record_case
use Rattle.job_state.specs.declared.state.Phase as phases
use Rattle.job_state.specs.declared.state.Phase.TheVariants.{Idle, Gathering, Accepted, Inner}
use Rattle.terms.specs.declared.positions.Position as positions
use Rattle.terms.specs.declared.positions.Position.TheVariants.{Open, Border, Shut}
use Rattle.job_state.specs.declared.state.Answer as answers
use Rattle.job_state.specs.declared.state.Answer.TheVariants as answer_case
use Rattle.job_state.specs.declared.state.Answer.TheVariants.{Silent, Field, Nozzle, Point, Refused}
use Rattle.job_state.specs.declared.state.Job.{Job}
use Rattle.job_state.specs.declared.state.Taken.{Taken}
use Rattle.job_state.specs.Gathered.{at_most, ring_of, ring_from, flat, field_or_none}

-- ---- the phases: whether a ring is gathered, how many corners it may have, how many rings come before it, and where it starts. An inner ring comes behind the
-- accepted ones: at most sixteen rings with 2,944 corners, so that there is room for its 128
abbrev pub gathers : phases.Phase → Bool
gathers Idle = false
gathers Gathering = true
gathers Accepted = false
gathers Inner = true

abbrev pub most : phases.Phase → ℕ
most Idle = 1024
most Gathering = 1024
most Accepted = 1024
most Inner = 128

abbrev pub rings_before : phases.Phase → ℕ → ℕ
rings_before Idle rings = 0
rings_before Gathering rings = 0
rings_before Accepted rings = 0
rings_before Inner rings = at_most 16 rings

abbrev pub starting : phases.Phase → ℕ → ℕ
starting Idle total = 0
starting Gathering total = 0
starting Accepted total = 0
starting Inner total = at_most 2944 total

-- ---- the state. An accepted field whose rings the checks 6, 8 or 16 refuse, which no job hands back, is none.
abbrev pub gathered_count : phases.Phase → Job → ℕ
gathered_count p j = at_most (most p) j.count

abbrev pub gathered_ring : phases.Phase → Job → List Corner
gathered_ring p j = ring_from (starting p j.total) (gathered_count p j) j.corners

-- the field of the first rings, whose corners are so many in all
abbrev pub field_of : ℕ → ℕ → Job → rules.Answer fields.Field
field_of rings total j = field_read (take rings j.counts) (flat (ring_of total j.corners))

abbrev pub accepted_by : rules.Answer fields.Field → State
accepted_by (rules.answered f) = accepted f
accepted_by (refused n) = no_field
accepted_by (crossed_at pair) = no_field

abbrev pub field_before : Job → fields.Field
field_before j = field_or_none (field_of (rings_before Inner j.rings) (starting Inner j.total) j)

abbrev pub view_by : phases.Phase → Job → State
view_by Idle j = no_field
view_by Gathering j = gathering j.code (gathered_ring Gathering j)
view_by Accepted j = accepted_by (field_of j.rings j.total j)
view_by Inner j = gathering_inner (field_before j) (gathered_ring Inner j)

abbrev pub view : Job → State
view j = view_by j.phase j

-- ---- the answers
abbrev pub word : positions.Position → List ℕ
word Open = text "open"
word Border = text "border"
word Shut = text "shut"

-- the line that an answer prints, none for a refusal (its line has the record's offset in it: Printed of job_lines)
unfoldable pub line : answers.Answer → List ℕ
line Silent = []
line (Field c n a) = text "field " ++ decimal c ++ text " corners " ++ decimal n ++ text " area2 " ++ whole a ++ text "\n"
line (answer_case.Inner k n a) = text "inner " ++ decimal k ++ text " corners " ++ decimal n ++ text " area2 " ++ whole a ++ text "\n"
line (Nozzle X Y p) = text "nozzle " ++ whole X ++ text " " ++ whole Y ++ text " " ++ word p ++ text "\n"
line (Point X Y s c) = text "point " ++ whole X ++ text " " ++ whole Y ++ text " " ++ whole s ++ text " " ++ whole c ++ text "\n"
line (Refused r) = []

-- the paper's answer: the state after the record with its line, or the refusal
abbrev pub paper : answers.Answer → State → rules.Answer Step
paper Silent s = print s (line Silent)
paper (Field c n a) s = print s (line (Field c n a))
paper (answer_case.Inner k n a) s = print s (line (answer_case.Inner k n a))
paper (Nozzle X Y p) s = print s (line (Nozzle X Y p))
paper (Point X Y k c) s = print s (line (Point X Y k c))
paper (Refused r) s = refusal_paper r

abbrev pub query_said : Result positions.Position Refusal → ℤ → ℤ → answers.Answer
query_said (Ok p) X Y = Nozzle X Y p
query_said (Err r) X Y = Refused OutOfPlace

abbrev pub point_said : Result projected.Point Refusal → answers.Answer
point_said (Ok p) = Point p.x p.y p.scale p.convergence
point_said (Err r) = Refused r

-- ---- a record, by the rules: JobFile's `step`, of a record that has been read (`step_of_lem` of job's Whole shows them equal)
module _ (forward_at : ℕ → ℤ → ℤ → rules.Answer points.Point) where
  abbrev pub stepped : State → records.Record → rules.Answer Step
  stepped no_field (record_case.Begin c) = begun c
  stepped no_field (record_case.Corner X Y) = refused out_of_place
  stepped no_field record_case.Close = refused out_of_place
  stepped no_field (record_case.Query X Y) = refused out_of_place
  stepped no_field (record_case.Point c B L) = pointed no_field (forward_at c B L)
  stepped no_field record_case.Inner = refused out_of_place
  stepped (gathering d r) (record_case.Begin c) = refused out_of_place
  stepped (gathering d r) (record_case.Corner X Y) = cornered d r X Y
  stepped (gathering d r) record_case.Close = closed d r
  stepped (gathering d r) (record_case.Query X Y) = refused out_of_place
  stepped (gathering d r) (record_case.Point c B L) = refused out_of_place
  stepped (gathering d r) record_case.Inner = refused out_of_place
  stepped (accepted f) (record_case.Begin c) = begun c
  stepped (accepted f) (record_case.Corner X Y) = refused out_of_place
  stepped (accepted f) record_case.Close = refused out_of_place
  stepped (accepted f) (record_case.Query X Y) = queried f X Y
  stepped (accepted f) (record_case.Point c B L) = pointed (accepted f) (forward_at c B L)
  stepped (accepted f) record_case.Inner = inner_begun f
  stepped (gathering_inner f r) (record_case.Begin c) = refused out_of_place
  stepped (gathering_inner f r) (record_case.Corner X Y) = inner_cornered f r X Y
  stepped (gathering_inner f r) record_case.Close = inner_closed f r
  stepped (gathering_inner f r) (record_case.Query X Y) = refused out_of_place
  stepped (gathering_inner f r) (record_case.Point c B L) = refused out_of_place
  stepped (gathering_inner f r) record_case.Inner = refused out_of_place

-- ---- the struct itself, its places too that no ring has
abbrev pub new_job : Job
new_job = record {
  corners = replicate 3072 (record { x = pos 0; y = pos 0 });
  counts = replicate 17 0;
  rings = 0;
  total = 0;
  count = 0;
  code = 0;
  phase = Idle;
}

-- the ring of the corners from a place on is accepted behind so many others
abbrev pub joined_job : Job → ℕ → ℕ → ℕ → Job
joined_job j rings start count = record {
  corners = j.corners;
  counts = set j.counts rings count;
  rings = rings + 1;
  total = start + count;
  count = 0;
  code = j.code;
  phase = Accepted;
}

-- what a record that is not refused makes of a job: kind 1 drops the old field, kind 2 stores the corner behind the others, kind 3 accepts the ring, an inner ring is
-- begun behind the accepted ones; a query and a point change nothing
abbrev pub after_record : records.Record → Job → Job
after_record (record_case.Begin c) j = record { corners = j.corners; counts = j.counts; rings = 0; total = 0; count = 0; code = c; phase = Gathering }
after_record (record_case.Corner X Y) j = record {
  corners = set j.corners (starting j.phase j.total + j.count) (record { x = X; y = Y });
  counts = j.counts;
  rings = j.rings;
  total = j.total;
  count = j.count + 1;
  code = j.code;
  phase = j.phase;
}
after_record record_case.Close j = joined_job j (rings_before j.phase j.rings) (starting j.phase j.total) (gathered_count j.phase j)
after_record (record_case.Query X Y) j = j
after_record (record_case.Point c B L) j = j
after_record record_case.Inner j = record {
  corners = j.corners;
  counts = j.counts;
  rings = j.rings;
  total = j.total;
  count = 0;
  code = j.code;
  phase = Inner;
}

-- the job that a record leaves, by what the rules say of it: a refusal leaves the job as it was
abbrev pub left : rules.Answer Step → records.Record → Job → Job
left (rules.answered d) i j = after_record i j
left (refused n) i j = j
left (crossed_at pair) i j = j

-- what a record makes of a job, by the rules' answer `s` to it: their state and line, or their refusal; and the job that comes back
pub record Stepping (s : rules.Answer Step) (i : records.Record) (j : Job) (t : Taken) : Type 0 where
  pub says : paper t.answer (view t.job) ≡ s
  pub leaves : t.job ≡ left s i j

-- 02 (v): the same by a forward whose answers are right, so that a point (kind 5) lies in the band by the job's own promise
pub record RightStepping (i : records.Record) (j : Job) (t : Taken) : Type 0 where
  pub forward_at : ℕ → ℤ → ℤ → rules.Answer points.Point
  pub forward_right : points.ForwardRight forward_at
  pub steps : Stepping (stepped forward_at (view j) i) i j t
