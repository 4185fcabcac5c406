-- Conversion of a whole ring: by what the checks said, and what its loops keep. Assumes nothing.
use Rattle.std.specs.Prelude.{Ok, Err, not, ◌≡◌, ℕ, suc, ◌+◌, ◌*◌, ◌<◌, ◌≤◌, ltb, ℤ, pos, length, get_or, set}
use Rattle.std.proofs.Math.Path.{refl, ap, ap₂}
use Rattle.std.proofs.Common.{sym, ◌∙◌, arith, add-one, lt-ltb, le-ltb, take-append-drop, length-set, take-suc, drop-cons, take-suc-set, take_all, length-take-le}
use mathlib.Core.List.{List, [], ◌∷◌, ◌++◌, append_assoc}
use Rattle.std.proofs.Math.ListN.{take, drop}
use Rattle.std.proofs.lemmas.List.{set_at}
use Rattle.rules.specs.Refusals.{Answer, answered, refused, crossed_at, Passed, passed, ◌>>=◌, ◌>>◌, ◌if◌, ellipsoids_differ, output_too_short}
use Rattle.rules.specs.Systems.{System, system, same_ellipsoid}
use Rattle.rules.specs.Rings.{Corner, origin}
use Rattle.rules.specs.RingAnswers.{ring_checks}
use Rattle.rules.specs.Conversion.{converted, conversion_by, verdict, held}
use Rattle.terms.specs.Papers.{refusal_paper}
use Rattle.terms.specs.declared.refusals.Refusal.{Refusal}
use Rattle.ring_checks.proofs.Laws.Steps.{refused_bind, not_answered}
use Rattle.conversion.specs.Codes.{code_checks}
use Rattle.conversion.specs.Plane.{worked_plane, carried}
use Rattle.conversion.specs.Laws.Plane.{codes_passed}
use Rattle.conversion.specs.Ring.{worked_conversion, ring_carried, outcome}

-- the same by the points as the call answers them, codes checked each time
abbrev pub ring_moved : ℕ → ℕ → List ℤ → List ℤ → Answer (List ℤ)
ring_moved source target numbers output =
    ring_checks numbers >>= λ r. (output_too_short if ltb (length output) (length numbers)) >> converted (worked_plane source target) r

pub ring_steps : (source target : ℕ) (numbers output : List ℤ)
    → worked_conversion source target numbers output ≡ (code_checks source target >> ring_moved source target numbers output)
unfolding conversion_by code_checks
ring_steps source target numbers output = go (system source) (system target)
  where
    go : (a b : Answer System)
        → (a >>= λ s. b >>= λ t. (ellipsoids_differ if not (same_ellipsoid s.ellipsoid t.ellipsoid)) >> ring_moved source target numbers output)
        ≡ ((a >>= λ s. b >>= λ t. (ellipsoids_differ if not (same_ellipsoid s.ellipsoid t.ellipsoid))) >> ring_moved source target numbers output)
    go (answered s) (answered t) = refl
    go (answered s) (refused n) = refl
    go (answered s) (crossed_at pair) = refl
    go (refused n) b = refl
    go (crossed_at pair) b = refl

-- ---- the corners one after the other
module _ (taken : ℤ → ℤ → Answer Corner) where
  converted_append : (a b : List Corner) → converted taken (a ++ b) ≡ (converted taken a >>= λ l. converted taken b >>= λ k. answered (l ++ k))
  unfolding converted
  converted_append [] b = go (converted taken b)
    where
      go : (x : Answer (List ℤ)) → x ≡ (x >>= λ k. answered k)
      go (answered l) = refl
      go (refused n) = refl
      go (crossed_at pair) = refl
  converted_append (c ∷ a) b =
      ap (λ x. taken c.x c.y >>= λ p. x >>= λ l. answered (p.x ∷ p.y ∷ l)) (converted_append a b)
      ∙ go (taken c.x c.y) (converted taken a) (converted taken b)
    where
      go : (x : Answer Corner) (y z : Answer (List ℤ))
          → (x >>= λ p. (y >>= λ l. z >>= λ k. answered (l ++ k)) >>= λ l. answered (p.x ∷ p.y ∷ l))
          ≡ ((x >>= λ p. y >>= λ l. answered (p.x ∷ p.y ∷ l)) >>= λ l. z >>= λ k. answered (l ++ k))
      go (answered p) (answered l) (answered k) = refl
      go (answered p) (answered l) (refused n) = refl
      go (answered p) (answered l) (crossed_at pair) = refl
      go (answered p) (refused n) z = refl
      go (answered p) (crossed_at pair) z = refl
      go (refused n) y z = refl
      go (crossed_at pair) y z = refl

  -- the first m corners are taken, to `done`: the next one, taken to p or refused
  pub one_more : (r : List Corner) (m : ℕ) (done : List ℤ) (p : Corner) → m < length r → converted taken (take m r) ≡ answered done
      → taken (get_or r m origin).x (get_or r m origin).y ≡ answered p → converted taken (take (suc m) r) ≡ answered (done ++ (p.x ∷ p.y ∷ []))
  unfolding converted
  one_more r m done p h e f =
      ap (converted taken) (take-suc r m origin h)
      ∙ converted_append (take m r) (get_or r m origin ∷ [])
      ∙ ap₂ (λ x y. x >>= λ l. (y >>= λ p. answered (p.x ∷ p.y ∷ [])) >>= λ k. answered (l ++ k)) e f

  pub one_refused : (r : List Corner) (m : ℕ) (done : List ℤ) (n : ℕ) → m < length r → converted taken (take m r) ≡ answered done
      → taken (get_or r m origin).x (get_or r m origin).y ≡ refused n → converted taken r ≡ refused n
  unfolding converted
  one_refused r m done n h e f =
      ap (converted taken) (sym (take-append-drop m r) ∙ ap (λ l. take m r ++ l) (drop-cons r m origin h))
      ∙ converted_append (take m r) (get_or r m origin ∷ drop (suc m) r)
      ∙ ap₂ (λ x y. x >>= λ l. (y >>= λ p. converted taken (drop (suc m) r) >>= λ k. answered (p.x ∷ p.y ∷ k)) >>= λ k. answered (l ++ k)) e f

  pub one_stopped : (r : List Corner) (m : ℕ) (done : List ℤ) (q : Refusal) → m < length r → converted taken (take m r) ≡ answered done
      → refusal_paper q ≡ taken (get_or r m origin).x (get_or r m origin).y → refusal_paper q ≡ converted taken r
  unfolding converted
  one_stopped r m done q h e f =
      refused_bind q (λ k. answered (done ++ k)) (refused_bind q (λ p. converted taken (drop (suc m) r) >>= λ k. answered (p.x ∷ p.y ∷ k)) f)
      ∙ sym (ap (λ x. x >>= λ l. (taken (get_or r m origin).x (get_or r m origin).y >>= λ p. converted taken (drop (suc m) r) >>= λ k. answered (p.x ∷ p.y ∷ k)) >>= λ k. answered (l ++ k)) e)
      ∙ sym (ap (converted taken) (sym (take-append-drop m r) ∙ ap (λ l. take m r ++ l) (drop-cons r m origin h)) ∙ converted_append (take m r) (get_or r m origin ∷ drop (suc m) r))

pub outcome_refused : (count : ℕ) (r : Refusal) → outcome count (Err r) ≡ refusal_paper r
outcome_refused count r = refl

pub outcome_answered : (count : ℕ) (numbers : List ℤ) → outcome count (Ok numbers) ≡ answered (take count numbers)
outcome_answered count numbers = refl

-- the first i corners of a ring r are taken, and their numbers stand at the front of an array of 2,048
pub record Converting (taken : ℤ → ℤ → Answer Corner) (r : List Corner) (numbers : List ℤ) (i : ℕ) : Type 0 where
  pub room : length numbers ≡ 2048
  pub in_ring : i ≤ length r
  pub so_far : converted taken (take i r) ≡ answered (take (2 * i) numbers)

module _ (taken : ℤ → ℤ → Answer Corner) (r : List Corner) where
  pub start_converting : (numbers : List ℤ) → length numbers ≡ 2048 → Converting taken r numbers 0
  unfolding converted
  start_converting numbers e = record { room = e; in_ring = omega arith; so_far = refl }

  -- two numbers more
  two_more : (numbers : List ℤ) (k : ℕ) (X Y : ℤ) → suc k < length numbers
      → take (suc (suc k)) (set (set numbers k X) (suc k) Y) ≡ take k numbers ++ (X ∷ Y ∷ [])
  two_more numbers k X Y h =
      take-suc-set (set numbers k X) (suc k) Y (rw (length-set numbers k X) h)
      ∙ ap (λ l. l ++ (Y ∷ [])) (take-suc-set numbers k X (omega arith))
      ∙ append_assoc (take k numbers) (X ∷ []) (Y ∷ [])

  pub convert_more : (numbers : List ℤ) (i : ℕ) (X Y : ℤ) → Converting taken r numbers i → i < length r → length r ≤ 1024
      → taken (get_or r i origin).x (get_or r i origin).y ≡ answered (record { x = X; y = Y })
      → Converting taken r (set (set numbers (2 * i) X) (2 * i + 1) Y) (i + 1)
  convert_more numbers i X Y c h m e =
      let k : 2 * i + 1 ≡ suc (2 * i) = omega arith in
      let j : i + 1 ≡ suc i = omega arith in
      let d : 2 * suc i ≡ suc (suc (2 * i)) = omega arith in
      let l = c.room in
      rw (k, j) record {
        room = simp length-set c.room;
        in_ring = h;
        so_far = rw d (one_more taken r i (take (2 * i) numbers) (record { x = X; y = Y }) h c.so_far e ∙ ap answered (sym (two_more numbers (2 * i) X Y (omega arith))));
      }

  -- a corner that is refused ends the ring
  pub convert_stopped : (numbers : List ℤ) (i : ℕ) (q : Refusal) → Converting taken r numbers i → i < length r
      → refusal_paper q ≡ taken (get_or r i origin).x (get_or r i origin).y → refusal_paper q ≡ converted taken r
  convert_stopped numbers i q c h e = one_stopped taken r i (take (2 * i) numbers) q h c.so_far e

  pub convert_refused : (numbers : List ℤ) (i n : ℕ) → Converting taken r numbers i → i < length r
      → taken (get_or r i origin).x (get_or r i origin).y ≡ refused n → converted taken r ≡ refused n
  convert_refused numbers i n c h e = one_refused taken r i (take (2 * i) numbers) n h c.so_far e

  pub convert_end : (numbers : List ℤ) (i n : ℕ) → Converting taken r numbers i → length r ≤ i → n ≡ 2 * length r → converted taken r ≡ answered (take n numbers)
  convert_end numbers i n c h e =
      let j : i ≡ length r = let w = c.in_ring in omega arith in
      let f : n ≡ 2 * i = omega arith in
      sym (ap (converted taken) (ap (λ k. take k r) j ∙ take_all (length r) r (omega arith))) ∙ c.so_far ∙ ap (λ k. answered (take k numbers)) (sym f)

-- ---- the output: the first i of the new numbers stand at its front, and the others are as they were
pub record Copying (numbers before now : List ℤ) (count i : ℕ) : Type 0 where
  pub in_count : i ≤ count
  pub is : now ≡ take i numbers ++ drop i before
  pub size : length now ≡ length before

pub start_copying : (numbers before : List ℤ) (count : ℕ) → Copying numbers before before count 0
start_copying numbers before count = record { in_count = omega arith; is = refl; size = refl }

pub copy_more : (numbers before now : List ℤ) (count i : ℕ) → Copying numbers before now count i → i < count → count ≤ length numbers → count ≤ length before
    → Copying numbers before (set now i (get_or numbers i (pos 0))) count (i + 1)
copy_more numbers before now count i c g x y =
    let h : i < length numbers = omega arith in
    let k : i < length before = omega arith in
    rw (add-one i) record {
      in_count = g;
      is =
          ap (λ l. set l i (get_or numbers i (pos 0))) (c.is ∙ ap (λ l. take i numbers ++ l) (drop-cons before i (pos 0) k))
          ∙ set_at (take i numbers) (get_or before i (pos 0)) (drop (suc i) before) (get_or numbers i (pos 0)) i (length-take-le i numbers (omega arith))
          ∙ sym (append_assoc (take i numbers) (get_or numbers i (pos 0) ∷ []) (drop (suc i) before))
          ∙ ap (λ l. l ++ drop (suc i) before) (sym (take-suc numbers i (pos 0) h));
      size = simp length-set c.size;
    }

pub copy_end : (numbers before now : List ℤ) (count i : ℕ) → Copying numbers before now count i → count ≤ i → now ≡ take count numbers ++ drop count before
copy_end numbers before now count i c h = let e : i ≡ count = let g = c.in_count in omega arith in c.is ∙ ap (λ n. take n numbers ++ drop n before) e

-- ---- the call, by what the codes' checks said
same_corners : (f g : ℤ → ℤ → Answer Corner) (r : List Corner) → ((X Y : ℤ) → f X Y ≡ g X Y) → converted f r ≡ converted g r
unfolding converted
same_corners f g [] h = refl
same_corners f g (c ∷ r) h = ap₂ (λ x y. x >>= λ p. y >>= λ l. answered (p.x ∷ p.y ∷ l)) (h c.x c.y) (same_corners f g r h)

module _ (source target : ℕ) (numbers output : List ℤ) where
  pub ring_codes_refused : (n : ℕ) → code_checks source target ≡ refused n → worked_conversion source target numbers output ≡ refused n
  ring_codes_refused n e = ring_steps source target numbers output ∙ ap (λ a. a >> ring_moved source target numbers output) e

  pub ring_codes_passed : code_checks source target ≡ answered passed → worked_conversion source target numbers output ≡ ring_carried source target numbers output
  ring_codes_passed e =
      ring_steps source target numbers output
      ∙ ap (λ a. a >> ring_moved source target numbers output) e
      ∙ go (ring_checks numbers) (output_too_short if ltb (length output) (length numbers))
    where
      go : (a : Answer (List Corner)) (b : Answer Passed)
          → (a >>= λ r. b >> converted (worked_plane source target) r) ≡ (a >>= λ r. b >> converted (carried source target) r)
      go (answered r) (answered x) = same_corners (worked_plane source target) (carried source target) r (λ X Y. codes_passed source target X Y e)
      go (answered r) (refused n) = refl
      go (answered r) (crossed_at pair) = refl
      go (refused n) b = refl
      go (crossed_at pair) b = refl

  -- and by what the ring's checks and the output's length said
  pub ring_refused : (n : ℕ) → ring_checks numbers ≡ refused n → ring_carried source target numbers output ≡ refused n
  ring_refused n e = ap (λ a. a >>= λ r. (output_too_short if ltb (length output) (length numbers)) >> converted (carried source target) r) e

  pub output_short : (r : List Corner) → ring_checks numbers ≡ answered r → length output < length numbers → ring_carried source target numbers output ≡ refused output_too_short
  output_short r e h =
      ap (λ a. a >>= λ r. (output_too_short if ltb (length output) (length numbers)) >> converted (carried source target) r) e
      ∙ ap (λ b. (output_too_short if b) >> converted (carried source target) r) (lt-ltb (length output) (length numbers) h)

  pub all_corners : (r : List Corner) → ring_checks numbers ≡ answered r → length numbers ≤ length output → ring_carried source target numbers output ≡ converted (carried source target) r
  all_corners r e h =
      ap (λ a. a >>= λ r. (output_too_short if ltb (length output) (length numbers)) >> converted (carried source target) r) e
      ∙ ap (λ b. (output_too_short if b) >> converted (carried source target) r) (le-ltb (length output) (length numbers) h)

-- ---- both promises of a call at once: what it answers, and what the output holds
pub on_refusal : {a : Answer (List ℤ)} (n : ℕ) (out : List ℤ) → a ≡ refused n → (refused n ≡ verdict a) × (out ≡ held a out)
on_refusal n out e = (sym (ap verdict e), sym (ap (λ x. held x out) e))

pub on_stop : {a : Answer (List ℤ)} (q : Refusal) (out : List ℤ) → refusal_paper q ≡ a → (refusal_paper q ≡ verdict a) × (out ≡ held a out)
on_stop {a} q out e = (refused_bind q _ e, go a e)
  where
    go : (a : Answer (List ℤ)) → refusal_paper q ≡ a → out ≡ held a out
    go (answered l) e = absurd (not_answered q l e)
    go (refused n) e = refl
    go (crossed_at pair) e = refl

pub on_success : {a : Answer (List ℤ)} (l out after : List ℤ) → a ≡ answered l → after ≡ l ++ drop (length l) out → (answered passed ≡ verdict a) × (after ≡ held a out)
on_success l out after e f = (sym (ap verdict e), f ∙ sym (ap (λ x. held x out) e))

pub on_same : {a b : Answer (List ℤ)} {v : Answer Passed} (out after : List ℤ) → a ≡ b → (v ≡ verdict b) × (after ≡ held b out) → (v ≡ verdict a) × (after ≡ held a out)
on_same {v = v} out after e h = (h.0 ∙ sym (ap verdict e), h.1 ∙ sym (ap (λ x. held x out) e))
