-- alt60 and ser60 meet their relations over a table that falls, and what the loops of src/, which go from a table's end to its start, need of it. Assumes nothing.
use Rattle.std.specs.Prelude.{Bool, true, false, cond, ◌≡◌, refl, List, [], ◌∷◌, ◌++◌, ℕ, zero, suc, ◌+◌, ◌*◌, ◌-◌, ◌<◌, ◌≤◌, T, leb, length, drop, get_or}
use Rattle.std.proofs.Common.{sym, ◌∙◌, ap, subst, arith, leb→le, append-nil, append_assoc, drop-cons}
use Rattle.fixed.specs.Worked.{S60, mul60, alt60, ser60}
use Rattle.fixed.specs.Relations.{Mul60, Alternating60, Summed60, none, step, falls}
use Rattle.fixed.proofs.Laws.Words.{prod, mul60_is}

pub both : (a b : Bool) → T (cond a b false) → T a × T b
both true b t = (tt, t)
both false b t = absurd t

-- ---- the relations, and the sizes: a nest is at most the table's first number, a sum at most twice that
pub record AltIs (q : ℕ) (cs : List ℕ) (m : ℕ) : Type 0 where
  pub is : Alternating60 q cs (alt60 q cs)
  pub high : alt60 q cs ≤ m

pub alt60_is : (q m : ℕ) (cs : List ℕ) → m ≤ S60 → T (falls m cs) → q ≤ S60 → AltIs q cs m
unfolding alt60
alt60_is q m [] hm t h = record { is = none; high = omega arith }
alt60_is q m (c ∷ cs) hm t h =
    let k : c ≤ m = leb→le c m (both (leb c m) (falls c cs) t).0 in
    let r = alt60_is q c cs (omega arith) (both (leb c m) (falls c cs) t).1 h in
    let u = r.high in
    let p = mul60_is q (alt60 q cs) (omega arith) (omega arith) in
    let e : c - mul60 q (alt60 q cs) + mul60 q (alt60 q cs) ≡ c = omega arith in
    record { is = step r.is p e; high = omega arith }

pub record SerIs (q : ℕ) (cs : List ℕ) (m : ℕ) : Type 0 where
  pub is : Summed60 q cs (ser60 q cs)
  pub high : ser60 q cs ≤ 2 * m

pub mul_half : {q v m : ℕ} → Mul60 q v m → 2 * q ≤ S60 → 2 * m ≤ v
mul_half {q} {v} {m} h k = go (prod (2 * q) S60 v v k (omega arith))
  where
    go : 2 * q * v ≤ S60 * v → 2 * m ≤ v
    go l = omega (arith, h.lo)

pub ser60_is : (q m : ℕ) (cs : List ℕ) → m ≤ S60 → T (falls m cs) → 2 * q ≤ S60 → SerIs q cs m
unfolding ser60
ser60_is q m [] hm t h = record { is = none; high = omega arith }
ser60_is q m (c ∷ cs) hm t h =
    let k : c ≤ m = leb→le c m (both (leb c m) (falls c cs) t).0 in
    let r = ser60_is q c cs (omega arith) (both (leb c m) (falls c cs) t).1 h in
    let u = r.high in
    let p = mul60_is q (ser60 q cs) (omega arith) (omega arith) in
    let l = mul_half p h in
    record { is = step r.is p refl; high = omega arith }

-- a product by a number up to 1 is at most the other factor; a square of a number up to 1/2 is at most half of it
pub mul_small : {a b m : ℕ} → Mul60 a b m → b ≤ S60 → m ≤ a
mul_small {a} {b} {m} h k = go (prod a a b S60 (omega arith) k)
  where
    go : a * b ≤ a * S60 → m ≤ a
    go l = omega (arith, h.lo)

-- ---- the loops, which take the numbers from the table's end: s is f of those that are taken, and the others are left
pub record Taken (f : List ℕ → ℕ) (tab rest : List ℕ) (s : ℕ) : Type 0 where
  pub done : List ℕ
  pub splits : rest ++ done ≡ tab
  pub is : s ≡ f done

pub taken_none : {f : List ℕ → ℕ} {tab rest : List ℕ} {s : ℕ} → rest ≡ tab → s ≡ f [] → Taken f tab rest s
taken_none {rest} h e = record { done = []; splits = append-nil rest ∙ h; is = e }

pub taken_all : {f : List ℕ → ℕ} {tab rest : List ℕ} {s : ℕ} → Taken f tab rest s → length rest ≡ 0 → s ≡ f tab
taken_all {f} {rest = []} t e = t.is ∙ ap f t.splits
taken_all {rest = c ∷ rest} t e = absurd (omega arith)

-- what `falls` tests, of a number and those behind it
falls_at : (m : ℕ) (xs : List ℕ) (c : ℕ) (ys : List ℕ) → T (falls m (xs ++ c ∷ ys)) → (c ≤ m) × T (falls c ys)
falls_at m [] c ys t = let h = both (leb c m) (falls c ys) t in (leb→le c m h.0, h.1)
falls_at m (x ∷ xs) c ys t =
    let h = both (leb x m) (falls x (xs ++ c ∷ ys)) t in
    let l = leb→le x m h.0 in
    let r = falls_at x xs c ys h.1 in
    (omega arith, r.1)

-- the next number, c, comes before those that are taken
module _ {f : List ℕ → ℕ} {tab rest : List ℕ} {s : ℕ} (t : Taken f tab rest s) (left : List ℕ) (c : ℕ) (e : rest ≡ left ++ c ∷ []) where
  before : left ++ c ∷ t.done ≡ tab
  before = sym (append_assoc left (c ∷ []) t.done) ∙ ap (λ l. l ++ t.done) (sym e) ∙ t.splits

  pub taken_next : {r : ℕ} → r ≡ f (c ∷ t.done) → Taken f tab left r
  taken_next is = record { done = c ∷ t.done; splits = before; is = is }

  pub taken_falls : (m : ℕ) → T (falls m tab) → (c ≤ m) × T (falls c t.done)
  taken_falls m h = falls_at m left c t.done (subst (λ l. T (falls m l)) (sym before) h)

-- how large s is beside the next number
pub alt_taken : (q c : ℕ) (left : List ℕ) {s : ℕ} {tab rest : List ℕ} → Taken (alt60 q) tab rest s → rest ≡ left ++ c ∷ [] → T (falls S60 tab) → q ≤ S60 → (s ≤ c) × (c ≤ S60)
alt_taken q c left t e h k =
    let f = taken_falls t left c e S60 h in
    let b = alt60_is q c t.done f.0 f.1 k in
    (omega (arith, t.is, b.high), f.0)

pub ser_taken : (q c : ℕ) (left : List ℕ) {s : ℕ} {tab rest : List ℕ} → Taken (ser60 q) tab rest s → rest ≡ left ++ c ∷ [] → T (falls S60 tab) → 2 * q ≤ S60 → (s ≤ 2 * c) × (c ≤ S60)
ser_taken q c left t e h k =
    let f = taken_falls t left c e S60 h in
    let b = ser60_is q c t.done f.0 f.1 k in
    (omega (arith, t.is, b.high), f.0)

-- one turn of each loop
pub alt_turn : (q c : ℕ) (left : List ℕ) {s m : ℕ} {tab rest : List ℕ} → Taken (alt60 q) tab rest s → rest ≡ left ++ c ∷ [] → m ≡ mul60 q s → Taken (alt60 q) tab left (c - m)
unfolding alt60
alt_turn q c left t e h = taken_next t left c e (ap (λ k. c - k) (h ∙ ap (mul60 q) t.is))

pub ser_turn : (q c : ℕ) (left : List ℕ) {s m : ℕ} {tab rest : List ℕ} → Taken (ser60 q) tab rest s → rest ≡ left ++ c ∷ [] → m ≡ mul60 q s → Taken (ser60 q) tab left (c + m)
unfolding ser60
ser_turn q c left t e h = taken_next t left c e (ap (λ k. c + k) (h ∙ ap (mul60 q) t.is))

-- ---- a table by its indices: what `falls` tests at one, and what lies from one on
pub record Fall (m : ℕ) (cs : List ℕ) (i : ℕ) : Type 0 where
  pub top : get_or cs i 0 ≤ m
  pub next : get_or cs (suc i) 0 ≤ get_or cs i 0

pub fall : (m : ℕ) (cs : List ℕ) → T (falls m cs) → (i : ℕ) → Fall m cs i
fall m [] t i = record { top = omega arith; next = omega arith }
fall m (c ∷ cs) t zero = record { top = leb→le c m (both (leb c m) (falls c cs) t).0; next = (fall c cs (both (leb c m) (falls c cs) t).1 zero).top }
fall m (c ∷ cs) t (suc i) = go (leb→le c m (both (leb c m) (falls c cs) t).0) (fall c cs (both (leb c m) (falls c cs) t).1 i)
  where
    go : c ≤ m → Fall c cs i → Fall m (c ∷ cs) (suc i)
    go h f = record { top = omega (arith, f.top); next = f.next }

-- at the index before i
pub fall_before : (m : ℕ) (cs : List ℕ) → T (falls m cs) → (i : ℕ) → 0 < i → (get_or cs i 0 ≤ get_or cs (i - 1) 0) × (get_or cs (i - 1) 0 ≤ m)
fall_before m cs t zero h = absurd (omega arith)
fall_before m cs t (suc j) h = subst (λ k. (get_or cs (suc j) 0 ≤ get_or cs k 0) × (get_or cs k 0 ≤ m)) (sub j) ((fall m cs t j).next, (fall m cs t j).top)
  where
    sub : (j : ℕ) → j ≡ suc j - 1
    sub j = omega arith

drop_before : (cs : List ℕ) (i : ℕ) → 0 < i → i ≤ length cs → get_or cs (i - 1) 0 ∷ drop i cs ≡ drop (i - 1) cs
drop_before cs zero h k = absurd (omega arith)
drop_before cs (suc j) h k = subst (λ n. get_or cs n 0 ∷ drop (suc j) cs ≡ drop n cs) (sub j) (sym (drop-cons cs j 0 k))
  where
    sub : (j : ℕ) → j ≡ suc j - 1
    sub j = omega arith

-- one turn from a table's end to its start, by the index of the number
pub alt_before : {s m : ℕ} (q : ℕ) (cs : List ℕ) (i : ℕ) → 0 < i → i ≤ length cs → s ≡ alt60 q (drop i cs) → m ≡ mul60 q s → get_or cs (i - 1) 0 - m ≡ alt60 q (drop (i - 1) cs)
unfolding alt60
alt_before {s} {m} q cs i h k a b = subst (λ d. get_or cs (i - 1) 0 - m ≡ alt60 q d) (drop_before cs i h k) (ap (λ t. get_or cs (i - 1) 0 - t) (b ∙ ap (mul60 q) a))

pub ser_before : {s m : ℕ} (q : ℕ) (cs : List ℕ) (i : ℕ) → 0 < i → i ≤ length cs → s ≡ ser60 q (drop i cs) → m ≡ mul60 q s → get_or cs (i - 1) 0 + m ≡ ser60 q (drop (i - 1) cs)
unfolding ser60
ser_before {s} {m} q cs i h k a b = subst (λ d. get_or cs (i - 1) 0 + m ≡ ser60 q d) (drop_before cs i h k) (ap (λ t. get_or cs (i - 1) 0 + t) (b ∙ ap (mul60 q) a))
