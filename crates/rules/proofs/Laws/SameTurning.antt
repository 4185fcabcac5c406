-- Two points whose line meets no edge of a ring have one turning number. Assumes nothing.
--
-- `under p q v` is 1 where v lies below the line p-q, p's side of the strip open and q's closed. An edge that shares no point with p-q
-- enters and leaves that strip only below p and below q, where the turning numbers of p and of q count it. Round a ring it comes back.
use Rattle.std.specs.Prelude.{◌≡◌, refl, Bool, true, false, not, ◌&&◌, T, ℤ, pos, ◌+ℤ◌, ◌-ℤ◌, neg_ℤ, ◌≤ℤ◌, ◌<ℤ◌}
use Rattle.std.proofs.Common.{sym, ◌∙◌, ap, arith, T_not}
use mathlib.Core.List.{List, [], ◌∷◌, ◌++◌, Memᴰ}
use Rattle.std.proofs.Math.IntN.{+ℤ_idr}
use Rattle.std.specs.Int.Signed.{le_z, lt_z, lt_z_no, lt_z_yes, le_z_yes, <ℤ-≤ℤ_trans, clash_ℤ}
use Rattle.arith.specs.Laws.Diff.{Z·ℕ, lin}
use Rattle.rules.specs.Rings.{Corner, Edge, ◌to◌, onward, line, edges, total, D, turn, turning_number, bit, Share}
use Rattle.rules.proofs.Laws.Sums.{turn_turns}
use Rattle.rules.proofs.Laws.Lines.{agree, net, side_b, share_ab, share_pq, key_3, key_4, key_5, key_6}

-- ---- order
≤ℤ-<ℤ_trans : (x y z : ℤ) → x ≤ℤ y → y <ℤ z → x <ℤ z
≤ℤ-<ℤ_trans x y z = lin (x ∷ y ∷ z ∷ []) λ u v ex ey ez. simp (Z·ℕ, ex, ey, ez) (omega arith)

lt→le : (x y : ℤ) → x <ℤ y → x ≤ℤ y
lt→le x y = lin (x ∷ y ∷ []) λ u v ex ey. simp (Z·ℕ, ex, ey) (omega arith)

yes_not : (b : Bool) → T (not (not b)) → T b
yes_not true t = tt
yes_not false t = t

pub le_is : (x y : ℤ) → le_z x y ≡ not (lt_z y x)
le_is x y = agree (le_z x y) (not (lt_z y x))
    (λ h n. let k : y <ℤ x = lt_z_yes (yes_not (lt_z y x) n) in let l : x ≤ℤ y = le_z_yes h in clash_ℤ k l)
    (λ n h. let k : x ≤ℤ y = lt_z_no h in T_not (le_z x y) n k.le)

-- ---- the tests of one edge: u: p is left of a; v: p is left of b; m: q is left of a; n: q is left of b
over : (x : Bool) → (bit x -ℤ pos 0) +ℤ pos 0 ≡ (pos 0 -ℤ pos 0) +ℤ bit x
over true = refl
over false = refl

bits : (u v m n P⁺ P⁻ Q⁺ Q⁻ A⁻ B⁻ : Bool) → (T u → T v) → (T m → T n) → (T m → T u) → (T n → T v)
    → (T (not u) → T n → P⁺ ≡ Q⁺) → (T (not u) → T v → T (not n) → P⁺ ≡ B⁻) → (T u → T (not m) → T n → Q⁺ ≡ A⁻) → (T u → T (not n) → A⁻ ≡ B⁻)
    → (bit (not u && (v && P⁺)) -ℤ bit (not v && (u && P⁻))) +ℤ bit (u && (not m && A⁻))
    ≡ (bit (not m && (n && Q⁺)) -ℤ bit (not n && (m && Q⁻))) +ℤ bit (v && (not n && B⁻))
bits false false false false P⁺ P⁻ Q⁺ Q⁻ A⁻ B⁻ uv mn mu nv k3 k4 k5 k6 = refl
bits true true true true P⁺ P⁻ Q⁺ Q⁻ A⁻ B⁻ uv mn mu nv k3 k4 k5 k6 = refl
bits false true false true P⁺ P⁻ Q⁺ Q⁻ A⁻ B⁻ uv mn mu nv k3 k4 k5 k6 = ap (λ z. (bit z -ℤ pos 0) +ℤ pos 0) (k3 tt tt)
bits false true false false P⁺ P⁻ Q⁺ Q⁻ A⁻ B⁻ uv mn mu nv k3 k4 k5 k6 = over P⁺ ∙ ap (λ z. (pos 0 -ℤ pos 0) +ℤ bit z) (k4 tt tt tt)
bits true true false true P⁺ P⁻ Q⁺ Q⁻ A⁻ B⁻ uv mn mu nv k3 k4 k5 k6 = sym (ap (λ z. (bit z -ℤ pos 0) +ℤ pos 0) (k5 tt tt tt) ∙ over A⁻)
bits true true false false P⁺ P⁻ Q⁺ Q⁻ A⁻ B⁻ uv mn mu nv k3 k4 k5 k6 = ap (λ z. (pos 0 -ℤ pos 0) +ℤ bit z) (k6 tt tt)
bits true false m n P⁺ P⁻ Q⁺ Q⁻ A⁻ B⁻ uv mn mu nv k3 k4 k5 k6 = absurd (uv tt)
bits false false false true P⁺ P⁻ Q⁺ Q⁻ A⁻ B⁻ uv mn mu nv k3 k4 k5 k6 = absurd (nv tt)
bits false false true n P⁺ P⁻ Q⁺ Q⁻ A⁻ B⁻ uv mn mu nv k3 k4 k5 k6 = absurd (mu tt)
bits false true true n P⁺ P⁻ Q⁺ Q⁻ A⁻ B⁻ uv mn mu nv k3 k4 k5 k6 = absurd (mu tt)
bits true true true false P⁺ P⁻ Q⁺ Q⁻ A⁻ B⁻ uv mn mu nv k3 k4 k5 k6 = absurd (mn tt)

-- whether v lies in the strip below the line p-q
pub under : Corner → Corner → Corner → ℤ
under p q v = bit (lt_z p.x v.x && (le_z v.x q.x && lt_z (D p q v) (pos 0)))

-- ---- one edge, run to the right
step_right : (a b p q : Corner) → a.x ≤ℤ b.x → p.x ≤ℤ q.x → ¬ Share a b p q
    → turn p (a to b) +ℤ under p q a ≡ turn q (a to b) +ℤ under p q b
unfolding turn under
step_right a b p q ab pq apart =
    rw (le_is a.x p.x, le_is b.x p.x, le_is a.x q.x, le_is b.x q.x, side_b a b p q)
    (bits (lt_z p.x a.x) (lt_z p.x b.x) (lt_z q.x a.x) (lt_z q.x b.x) _ _ _ _ _ _
    (λ u. (<ℤ-≤ℤ_trans {a = p.x} (lt_z_yes u) ab).lt)
    (λ m. (<ℤ-≤ℤ_trans {a = q.x} (lt_z_yes m) ab).lt)
    (λ m. (≤ℤ-<ℤ_trans p.x q.x a.x pq (lt_z_yes m)).lt)
    (λ n. (≤ℤ-<ℤ_trans p.x q.x b.x pq (lt_z_yes n)).lt)
    (λ u n. key_3 (net a b p q) apart (lt_z_no u) pq (lt_z_yes n))
    (λ u v n. key_4 (net a b p q) apart (lt_z_no u) (lt_z_yes v) (lt_z_no n))
    (λ u m n. key_5 (net a b p q) apart (lt_z_yes u) (lt_z_no m) (lt_z_yes n))
    (λ u n. key_6 (net a b p q) apart (lt_z_yes u) ab (lt_z_no n)))

-- ---- one edge, whichever way it runs
move : (t s g h : ℤ) → neg_ℤ t +ℤ h ≡ neg_ℤ s +ℤ g → t +ℤ g ≡ s +ℤ h
move t s g h = lin (t ∷ s ∷ g ∷ h ∷ []) λ u v et es eg eh. simp (Z·ℕ, et, es, eg, eh) (omega arith)

pub step : (a b p q : Corner) → p.x ≤ℤ q.x → ¬ Share a b p q
    → turn p (a to b) +ℤ under p q a ≡ turn q (a to b) +ℤ under p q b
step a b p q pq apart = go (lt_z b.x a.x) refl
  where
    go : (c : Bool) → lt_z b.x a.x ≡ c → turn p (a to b) +ℤ under p q a ≡ turn q (a to b) +ℤ under p q b
    go false e = step_right a b p q (lt_z_no (rw e tt)) pq apart
    go true e = move (turn p (a to b)) (turn q (a to b)) (under p q a) (under p q b)
        (ap (λ z. z +ℤ under p q b) (sym (turn_turns p a b))
        ∙ step_right b a p q (lt→le b.x a.x (lt_z_yes (rw e tt))) pq (λ s. apart (share_ab s))
        ∙ ap (λ z. z +ℤ under p q a) (turn_turns q a b))

-- ---- round the ring
abbrev Clear : List Edge → Corner → Corner → Type 0
Clear l p q = (e : Edge) → Memᴰ e l → ¬ Share e.tail e.head p q

chain : (t s g h u v k : ℤ) → t +ℤ g ≡ s +ℤ h → u +ℤ h ≡ v +ℤ k → (t +ℤ u) +ℤ g ≡ (s +ℤ v) +ℤ k
chain t s g h u v k = lin (t ∷ s ∷ g ∷ h ∷ u ∷ v ∷ k ∷ []) λ x y et es eg eh eu ev ek. simp (Z·ℕ, et, es, eg, eh, eu, ev, ek) (omega arith)

cancel : (t s g : ℤ) → t +ℤ g ≡ s +ℤ g → t ≡ s
cancel t s g = lin (t ∷ s ∷ g ∷ []) λ u v et es eg. simp (Z·ℕ, et, es, eg) (omega arith)

-- from a along l to c
along : (p q : Corner) → p.x ≤ℤ q.x → (c a : Corner) (l : List Corner) → Clear (onward a (l ++ c ∷ [])) p q
    → total (turn p) (onward a (l ++ c ∷ [])) +ℤ under p q a ≡ total (turn q) (onward a (l ++ c ∷ [])) +ℤ under p q c
unfolding onward total
along p q pq c a [] clear =
    ap (λ z. z +ℤ under p q a) (+ℤ_idr (turn p (a to c))) ∙ step a c p q pq (clear (a to c) (Memᴰ.head refl)) ∙ ap (λ z. z +ℤ under p q c) (sym (+ℤ_idr (turn q (a to c))))
along p q pq c a (b ∷ l) clear =
    chain (turn p (a to b)) (turn q (a to b)) (under p q a) (under p q b)
    (total (turn p) (onward b (l ++ c ∷ []))) (total (turn q) (onward b (l ++ c ∷ []))) (under p q c)
    (step a b p q pq (clear (a to b) (Memᴰ.head refl)))
    (along p q pq c b l (λ e m. clear e (Memᴰ.tail m)))

around : (r : List Corner) (p q : Corner) → p.x ≤ℤ q.x → Clear (edges r) p q → turning_number r p ≡ turning_number r q
unfolding turning_number edges line total
around [] p q pq clear = refl
around (a ∷ l) p q pq clear =
    cancel (total (turn p) (onward a (l ++ a ∷ []))) (total (turn q) (onward a (l ++ a ∷ []))) (under p q a) (along p q pq a a l clear)

-- two points whose line meets no edge of the ring have one turning number
pub same_turning : (r : List Corner) (p q : Corner) → ((e : Edge) → Memᴰ e (edges r) → ¬ Share e.tail e.head p q) → turning_number r p ≡ turning_number r q
same_turning r p q clear = go (lt_z q.x p.x) refl
  where
    go : (c : Bool) → lt_z q.x p.x ≡ c → turning_number r p ≡ turning_number r q
    go false e = around r p q (lt_z_no (rw e tt)) clear
    go true e = sym (around r q p (lt→le q.x p.x (lt_z_yes (rw e tt))) (λ e m s. clear e m (share_pq s)))
