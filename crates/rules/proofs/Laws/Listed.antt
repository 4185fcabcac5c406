-- Every refusal has a number of the table: those of the calls, ring by ring and point by point, and those of a job's records. So none is 0, and none is 10, which is
-- withdrawn. Of forward, inverse, plane to plane and ring conversion it follows from `Right`, what the projection owes; the others owe nothing more. Assumes nothing.
use Rattle.std.specs.Prelude.{Bool, ◌≡◌, ℕ, suc, T, eqb, ℤ, length, take}
use Rattle.std.proofs.Math.Bool.{true, false, not}
use Rattle.std.proofs.Common.{sym, subst}
use Rattle.std.proofs.Math.Option.{Option, none, some}
use mathlib.Core.List.{List, [], ◌∷◌}
use Rattle.std.proofs.Math.Dec.{ltb, leb}
use Rattle.rules.specs.Refusals.{Answer, answered, refused, crossed_at, ◌>>=◌, ◌>>◌, ◌if◌, in_ring, in_use, among, Listed}
use Rattle.rules.specs.Systems.{System, table, find, system, same_ellipsoid}
use Rattle.rules.specs.Points.{Point, Ticks, latitude_bad, longitude_bad, plane_bad, forward_checks, inverse_checks, judged, RightForwardBy, RightInverseBy, Right, plane_by}
use Rattle.rules.specs.Rings.{Corner, EdgePair}
use Rattle.rules.specs.Crossing.{crossed}
use Rattle.rules.specs.RingAnswers.{corners, count_bad, number_bad, any_bad, span_bad, ring_checks, looked_through, not_crossed, area_answer, turning_answer, crossing_answer, nozzle_answer}
use Rattle.rules.specs.Fields.{Field}
use Rattle.rules.specs.Placing.{misplaced}
use Rattle.rules.specs.FieldAnswers.{alone, with_ring, inner_count_bad, inner_checks, placed, outer_accepted, inner_accepted, rings_accepted, inner_read, rings_read, uneven, cut, field_accepted, field_read, accept_answer, field_nozzle_answer, field_position_answer}
use Rattle.rules.specs.Conversion.{converted, conversion_by}
use Rattle.rules.specs.JobFile.{Kind, begin_field, corner, close_ring, nozzle_query, point_to_plane, begin_inner, Row, kinds, find_kind, State, no_field, gathering, accepted, gathering_inner, begun, gathered, cornered, inner_cornered, closed, inner_closed, inner_begun, queried, pointed, code_of, number_at, step, read}

-- ---- 02 (xii): "10 withdrawn for good"
pub never_10 : {A : Type 0} (a : Answer A) → Listed a → a ≡ refused 10 → ⊥
never_10 a h e = subst Listed e h

-- ---- answers one after the other
test : (n : ℕ) (b : Bool) → T (among n in_use) → Listed (n if b)
test n true h = h
test n false h = tt

bind : {A B : Type 0} (a : Answer A) (f : A → Answer B) → Listed a → ((x : A) → Listed (f x)) → Listed (a >>= f)
bind (answered x) f h k = k x
bind (refused n) f h k = h
bind (crossed_at pair) f h k = tt

after : {A B : Type 0} (a : Answer A) (b : Answer B) → Listed a → Listed b → Listed (a >> b)
after (answered x) b h k = k
after (refused n) b h k = h
after (crossed_at pair) b h k = tt

-- ---- rings
corners_listed : (numbers : List ℤ) → Listed (corners numbers)
unfolding corners
corners_listed [] = tt
corners_listed (X ∷ []) = tt
corners_listed (X ∷ Y ∷ numbers) = bind (corners numbers) _ (corners_listed numbers) (λ r. tt)

ring_listed : (numbers : List ℤ) → Listed (ring_checks numbers)
unfolding ring_checks
ring_listed numbers =
    bind (corners numbers) _ (corners_listed numbers) λ r.
    after (6 if count_bad r) _ (test 6 (count_bad r) tt) (after (7 if any_bad r) _ (test 7 (any_bad r) tt) (after (8 if span_bad r) _ (test 8 (span_bad r) tt) tt))

crossing_listed : (r : List Corner) → Listed (not_crossed r)
unfolding not_crossed
crossing_listed r = go (crossed r)
  where
    go : (t : Option EdgePair) → Listed (looked_through (length r) t)
    go none = tt
    go (some t) = tt

module _ (numbers : List ℤ) where
  pub area_listed : Listed (area_answer numbers)
  unfolding area_answer
  area_listed = bind (ring_checks numbers) _ (ring_listed numbers) (λ r. tt)

  pub turning_listed : (p : Corner) → Listed (turning_answer numbers p)
  unfolding turning_answer
  turning_listed p = bind (ring_checks numbers) _ (ring_listed numbers) (λ r. tt)

  pub crossing_answer_listed : Listed (crossing_answer numbers)
  unfolding crossing_answer
  crossing_answer_listed = bind (ring_checks numbers) _ (ring_listed numbers) crossing_listed

  pub nozzle_listed : (p : Corner) → Listed (nozzle_answer numbers p)
  unfolding nozzle_answer
  nozzle_listed p = bind (ring_checks numbers) _ (ring_listed numbers) (λ r. after (not_crossed r) _ (crossing_listed r) tt)

-- ---- a field
in_ring_listed : {A : Type 0} (k : ℕ) (a : Answer A) → Listed a → Listed (in_ring k a)
in_ring_listed k (answered x) h = tt
in_ring_listed k (refused n) h = h
in_ring_listed k (crossed_at pair) h = h

inner_checks_listed : (before : ℕ) (numbers : List ℤ) → Listed (inner_checks before numbers)
unfolding inner_checks
inner_checks_listed before numbers =
    after (16 if leb 16 before) _ (test 16 (leb 16 before) tt)
    (bind (corners numbers) _ (corners_listed numbers) λ r.
    after (6 if inner_count_bad r) _ (test 6 (inner_count_bad r) tt) (after (7 if any_bad r) _ (test 7 (any_bad r) tt) (after (8 if span_bad r) _ (test 8 (span_bad r) tt) tt)))

placed_listed : (f : Field) (r : List Corner) → Listed (placed f r)
unfolding placed
placed_listed f r =
    after (in_ring (suc (length f.inner_rings)) (not_crossed r)) _ (in_ring_listed (suc (length f.inner_rings)) (not_crossed r) (crossing_listed r))
    (after (15 if misplaced f r) _ (test 15 (misplaced f r) tt) tt)

inner_accepted_listed : (f : Field) (rest : List (List ℤ)) → Listed (inner_accepted f rest)
unfolding inner_accepted
inner_accepted_listed f [] = tt
inner_accepted_listed f (numbers ∷ rest) =
    bind (inner_checks (length f.inner_rings) numbers) _ (inner_checks_listed (length f.inner_rings) numbers) λ r.
    bind (placed f r) _ (placed_listed f r) (λ g. inner_accepted_listed g rest)

inner_read_listed : (f : Field) (rest : List (List ℤ)) → Listed (inner_read f rest)
unfolding inner_read
inner_read_listed f [] = tt
inner_read_listed f (numbers ∷ rest) =
    bind (inner_checks (length f.inner_rings) numbers) _ (inner_checks_listed (length f.inner_rings) numbers) (λ r. inner_read_listed (with_ring f r) rest)

accepted_listed : (rings : List (List ℤ)) → Listed (rings_accepted rings)
unfolding rings_accepted outer_accepted
accepted_listed [] = tt
accepted_listed (numbers ∷ rest) =
    bind (outer_accepted numbers) _ (bind (ring_checks numbers) _ (ring_listed numbers) (λ r. after (not_crossed r) _ (crossing_listed r) tt)) (λ f. inner_accepted_listed f rest)

rings_read_listed : (rings : List (List ℤ)) → Listed (rings_read rings)
unfolding rings_read
rings_read_listed [] = tt
rings_read_listed (numbers ∷ rest) = bind (ring_checks numbers) _ (ring_listed numbers) (λ r. inner_read_listed (alone r) rest)

module _ (counts : List ℕ) (numbers : List ℤ) where
  field_listed : Listed (field_accepted counts numbers)
  unfolding field_accepted
  field_listed = after (6 if uneven counts numbers) _ (test 6 (uneven counts numbers) tt) (accepted_listed (cut counts numbers))

  pub accept_listed : Listed (accept_answer counts numbers)
  unfolding accept_answer
  accept_listed = after (field_accepted counts numbers) _ field_listed tt

  pub field_nozzle_listed : (p : Corner) → Listed (field_nozzle_answer counts numbers p)
  unfolding field_nozzle_answer
  field_nozzle_listed p = bind (field_accepted counts numbers) _ field_listed (λ f. tt)

  pub field_position_listed : (p : Corner) → Listed (field_position_answer counts numbers p)
  unfolding field_position_answer field_read
  field_position_listed p =
      bind (field_read counts numbers) _ (after (6 if uneven counts numbers) _ (test 6 (uneven counts numbers) tt) (rings_read_listed (cut counts numbers))) (λ f. tt)

-- ---- points
system_listed : (code : ℕ) → Listed (system code)
unfolding system find
system_listed code = go table
  where
    go : (rows : List System) → Listed (find code rows)
    go [] = tt
    go (s ∷ rows) = here (eqb code s.code) (go rows)
      where
        here : (b : Bool) → Listed (find code rows) → Listed {A = System} (elim b [ true ↦ answered s | false ↦ find code rows ])
        here true h = tt
        here false h = h

checks_listed : (code : ℕ) (B L : ℤ) → Listed (forward_checks code B L)
unfolding forward_checks
checks_listed code B L =
    bind (system code) _ (system_listed code) λ s. after (2 if latitude_bad B) _ (test 2 (latitude_bad B) tt) (after (3 if longitude_bad s L) _ (test 3 (longitude_bad s L) tt) tt)

checks_back_listed : (code : ℕ) (X Y : ℤ) → Listed (inverse_checks code X Y)
unfolding inverse_checks
checks_back_listed code X Y = bind (system code) _ (system_listed code) λ s. after (4 if plane_bad s X Y) _ (test 4 (plane_bad s X Y) tt) tt

judged_listed : (s : System) (t : Ticks) → Listed (judged s t)
unfolding judged
judged_listed s t = after (2 if latitude_bad t.B) _ (test 2 (latitude_bad t.B) tt) (after (3 if longitude_bad s t.L) _ (test 3 (longitude_bad s t.L) tt) tt)

right_forward : (B L : ℤ) (checks : Answer System) (a : Answer Point) → Listed checks → RightForwardBy B L checks a → Listed a
right_forward B L (answered s) a h r = subst Listed (sym r.1) tt
right_forward B L (refused n) a h r = subst Listed (sym r) h
right_forward B L (crossed_at pair) a h r = subst Listed (sym r) tt

right_inverse : (X Y : ℤ) (checks : Answer System) (a : Answer Ticks) → Listed checks → RightInverseBy X Y checks a → Listed a
right_inverse X Y (answered s) a h r = subst Listed (sym r.1) (judged_listed s r.0)
right_inverse X Y (refused n) a h r = subst Listed (sym r) h
right_inverse X Y (crossed_at pair) a h r = subst Listed (sym r) tt

module _ {forward_at : ℕ → ℤ → ℤ → Answer Point} {inverse_at : ℕ → ℤ → ℤ → Answer Ticks} (right : Right forward_at inverse_at) where
  pub forward_listed : (code : ℕ) (B L : ℤ) → Listed (forward_at code B L)
  forward_listed code B L = right_forward B L (forward_checks code B L) (forward_at code B L) (checks_listed code B L) (right.forward_right code B L)

  pub inverse_listed : (code : ℕ) (X Y : ℤ) → Listed (inverse_at code X Y)
  inverse_listed code X Y = right_inverse X Y (inverse_checks code X Y) (inverse_at code X Y) (checks_back_listed code X Y) (right.inverse_right code X Y)

  pub plane_listed : (source target : ℕ) (X Y : ℤ) → Listed (plane_by forward_at inverse_at source target X Y)
  unfolding plane_by
  plane_listed source target X Y =
      bind (system source) _ (system_listed source) λ s. bind (system target) _ (system_listed target) λ t.
      after (5 if not (same_ellipsoid s.ellipsoid t.ellipsoid)) _ (test 5 (not (same_ellipsoid s.ellipsoid t.ellipsoid)) tt)
      (bind (inverse_at source X Y) _ (inverse_listed source X Y) (λ ticks. go (eqb source target) ticks))
    where
      go : (b : Bool) (ticks : Ticks)
          → Listed {A = Corner} (elim b [ true ↦ answered (record { x = X; y = Y }) | false ↦ (forward_at target ticks.B ticks.L >>= λ p. answered (record { x = p.X; y = p.Y })) ])
      go true ticks = tt
      go false ticks = bind (forward_at target ticks.B ticks.L) _ (forward_listed target ticks.B ticks.L) (λ p. tt)

  corners_converted : (source target : ℕ) (r : List Corner) → Listed (converted (plane_by forward_at inverse_at source target) r)
  unfolding converted
  corners_converted source target [] = tt
  corners_converted source target (c ∷ r) =
      bind (plane_by forward_at inverse_at source target c.x c.y) _ (plane_listed source target c.x c.y) λ p.
      bind (converted (plane_by forward_at inverse_at source target) r) _ (corners_converted source target r) (λ l. tt)

  pub conversion_listed : (source target : ℕ) (numbers output : List ℤ) → Listed (conversion_by (plane_by forward_at inverse_at) source target numbers output)
  unfolding conversion_by
  conversion_listed source target numbers output =
      bind (system source) _ (system_listed source) λ s. bind (system target) _ (system_listed target) λ t.
      after (5 if not (same_ellipsoid s.ellipsoid t.ellipsoid)) _ (test 5 (not (same_ellipsoid s.ellipsoid t.ellipsoid)) tt)
      (bind (ring_checks numbers) _ (ring_listed numbers) λ r.
      after (14 if ltb (length output) (length numbers)) _ (test 14 (ltb (length output) (length numbers)) tt) (corners_converted source target r))

  -- ---- a job's records
  begun_listed : (code : ℕ) → Listed (begun code)
  unfolding begun
  begun_listed code = bind (system code) _ (system_listed code) (λ s. tt)

  gathered_listed : (most : ℕ) (r : List Corner) (X Y : ℤ) → Listed (gathered most r X Y)
  unfolding gathered
  gathered_listed most r X Y =
      after (6 if leb most (length r)) _ (test 6 (leb most (length r)) tt) (after (7 if number_bad X) _ (test 7 (number_bad X) tt) (after (7 if number_bad Y) _ (test 7 (number_bad Y) tt) tt))

  cornered_listed : (code : ℕ) (r : List Corner) (X Y : ℤ) → Listed (cornered code r X Y)
  unfolding cornered
  cornered_listed code r X Y = bind (gathered 1024 r X Y) _ (gathered_listed 1024 r X Y) (λ s. tt)

  inner_cornered_listed : (f : Field) (r : List Corner) (X Y : ℤ) → Listed (inner_cornered f r X Y)
  unfolding inner_cornered
  inner_cornered_listed f r X Y = bind (gathered 128 r X Y) _ (gathered_listed 128 r X Y) (λ s. tt)

  inner_closed_listed : (f : Field) (r : List Corner) → Listed (inner_closed f r)
  unfolding inner_closed
  inner_closed_listed f r =
      after (6 if inner_count_bad r) _ (test 6 (inner_count_bad r) tt) (after (8 if span_bad r) _ (test 8 (span_bad r) tt) (bind (placed f r) _ (placed_listed f r) (λ g. tt)))

  inner_begun_listed : (f : Field) → Listed (inner_begun f)
  unfolding inner_begun
  inner_begun_listed f = after (16 if leb 16 (length f.inner_rings)) _ (test 16 (leb 16 (length f.inner_rings)) tt) tt

  closed_listed : (code : ℕ) (r : List Corner) → Listed (closed code r)
  unfolding closed
  closed_listed code r =
      after (6 if count_bad r) _ (test 6 (count_bad r) tt) (after (8 if span_bad r) _ (test 8 (span_bad r) tt) (after (not_crossed r) _ (crossing_listed r) tt))

  pointed_listed : (s : State) (b : List ℕ) → Listed (pointed s (forward_at (code_of b) (number_at 1 b) (number_at 9 b)))
  unfolding pointed
  pointed_listed s b = bind (forward_at (code_of b) (number_at 1 b) (number_at 9 b)) _ (forward_listed (code_of b) (number_at 1 b) (number_at 9 b)) (λ p. tt)

  queried_listed : (f : Field) (X Y : ℤ) → Listed (queried f X Y)
  unfolding queried
  queried_listed f X Y = tt

  step_listed : (s : State) (k : Kind) (b : List ℕ) → Listed (step forward_at s k b)
  unfolding step
  step_listed no_field begin_field b = begun_listed (code_of b)
  step_listed no_field corner b = tt
  step_listed no_field close_ring b = tt
  step_listed no_field nozzle_query b = tt
  step_listed no_field point_to_plane b = pointed_listed no_field b
  step_listed no_field begin_inner b = tt
  step_listed (gathering c r) begin_field b = tt
  step_listed (gathering c r) corner b = cornered_listed c r (number_at 0 b) (number_at 8 b)
  step_listed (gathering c r) close_ring b = closed_listed c r
  step_listed (gathering c r) nozzle_query b = tt
  step_listed (gathering c r) point_to_plane b = tt
  step_listed (gathering c r) begin_inner b = tt
  step_listed (accepted f) begin_field b = begun_listed (code_of b)
  step_listed (accepted f) corner b = tt
  step_listed (accepted f) close_ring b = tt
  step_listed (accepted f) nozzle_query b = queried_listed f (number_at 0 b) (number_at 8 b)
  step_listed (accepted f) point_to_plane b = pointed_listed (accepted f) b
  step_listed (accepted f) begin_inner b = inner_begun_listed f
  step_listed (gathering_inner f r) begin_field b = tt
  step_listed (gathering_inner f r) corner b = inner_cornered_listed f r (number_at 0 b) (number_at 8 b)
  step_listed (gathering_inner f r) close_ring b = inner_closed_listed f r
  step_listed (gathering_inner f r) nozzle_query b = tt
  step_listed (gathering_inner f r) point_to_plane b = tt
  step_listed (gathering_inner f r) begin_inner b = tt

  kind_listed : (byte : ℕ) (rows : List Row) → Listed (find_kind byte rows)
  unfolding find_kind
  kind_listed byte [] = tt
  kind_listed byte (k ∷ ks) = here (eqb byte k.byte) (kind_listed byte ks)
    where
      here : (b : Bool) → Listed (find_kind byte ks) → Listed {A = Row} (elim b [ true ↦ answered k | false ↦ find_kind byte ks ])
      here true h = tt
      here false h = h

  pub read_listed : (s : State) (byte : ℕ) (rest : List ℕ) → Listed (read forward_at s byte rest)
  unfolding read
  read_listed s byte rest =
      bind (find_kind byte kinds) _ (kind_listed byte kinds) λ k.
      after (12 if ltb (length rest) k.body_length) _ (test 12 (ltb (length rest) k.body_length) tt)
      (bind (step forward_at s k.kind (take k.body_length rest)) _ (step_listed s k.kind (take k.body_length rest)) (λ d. tt))
