-- A row's rule by one computed test: `row-right z s` computes to true only where z stands for s and is of size. Assumes nothing.
use Rattle.std.specs.Prelude.{Ok, Bool, true, ◌&&◌, List, [], ◌∷◌, ◌≡◌, refl, ℕ, ◌^◌, T, leb, ℤ, pos, nat_abs, ◌*ℤ◌}
use Rattle.std.proofs.Common.{leb→le}
use Rattle.std.specs.Int.Signed.{le_z}
use Rattle.arith.specs.Laws.Order.{≤ℤ_antisym}
use Rattle.rules.specs.Units.{millimetres_in_metre}
use Rattle.rules.specs.Refusals.{answered}
use Rattle.rules.specs.Systems.{System, Ellipsoid, GRS_80, Krasovsky, same_ellipsoid, system}
use Rattle.rules.proofs.Laws.Meeting.{T_and}
use Rattle.systems.specs.Zones.{Stands, Sized, Found}
use Rattle.terms.specs.Papers.{ellipsoid_of}
use Rattle.systems.specs.declared.Zone.{Zone}

abbrev pub same : ℤ → ℤ → Bool
same a b = le_z a b && le_z b a

same_is : (a b : ℤ) → T (same a b) → a ≡ b
same_is a b t = let u = T_and (le_z a b) (le_z b a) t in ≤ℤ_antisym (record { le = u.0 }) (record { le = u.1 })

same_ellipsoid_is : (e f : Ellipsoid) → T (same_ellipsoid e f) → e ≡ f
same_ellipsoid_is GRS_80 GRS_80 t = refl
same_ellipsoid_is GRS_80 Krasovsky t = absurd t
same_ellipsoid_is Krasovsky GRS_80 t = absurd t
same_ellipsoid_is Krasovsky Krasovsky t = refl

-- every test of a list is met
abbrev pub met : List Bool → Bool
met [] = true
met (b ∷ bs) = b && met bs

abbrev Each : List Bool → Type 0
Each [] = Unit
Each (b ∷ bs) = T b × Each bs

each : (bs : List Bool) → T (met bs) → Each bs
each [] t = tt
each (b ∷ bs) t = let u = T_and b (met bs) t in (u.0, each bs u.1)

abbrev pub stands_tests : Zone → System → List Bool
stands_tests z s =
    same_ellipsoid s.ellipsoid (ellipsoid_of z.ellipsoid)
    ∷ same s.L0 z.meridian
    ∷ same (pos s.half_width) z.reach
    ∷ same s.m0 (z.millionths *ℤ pos (10 ^ 18))
    ∷ same (pos millimetres_in_metre *ℤ s.x0) z.north
    ∷ same (pos millimetres_in_metre *ℤ s.y0) z.east
    ∷ []

stands : (z : Zone) (s : System) → Each (stands_tests z s) → Stands z s
stands z s (e, (l, (h, (m, (x, (y, u)))))) = record {
  ellipsoid = same_ellipsoid_is _ _ e;
  meridian = same_is _ _ l;
  reach = same_is _ _ h;
  scale = same_is _ _ m;
  north = same_is _ _ x;
  east = same_is _ _ y;
}

abbrev pub sized_tests : Zone → List Bool
sized_tests z =
    leb (nat_abs z.meridian) 100_000_000_000
    ∷ leb (nat_abs z.reach) 19_800_000_000
    ∷ le_z (pos 0) z.reach
    ∷ leb (nat_abs z.millionths) 1_000_000
    ∷ le_z (pos 999_000) z.millionths
    ∷ leb (nat_abs z.north) 10_000_000_000
    ∷ leb (nat_abs z.east) 10_000_000_000
    ∷ []

sized : (z : Zone) → Each (sized_tests z) → Sized z
sized z (l, (h, (p, (m, (q, (x, (y, u))))))) = record {
  meridian = leb→le _ _ l;
  reach = leb→le _ _ h;
  reach_positive = record { le = p };
  millionths = leb→le _ _ m;
  millionths_positive = record { le = q };
  north = leb→le _ _ x;
  east = leb→le _ _ y;
}

-- a row by its tests
pub row : (k : ℕ) (z : Zone) {s : System} → system k ≡ answered s → T (met (stands_tests z s)) → T (met (sized_tests z)) → Found k (Ok z)
row k z {s} e t u = (s, e, stands z s (each (stands_tests z s) t), sized z (each (sized_tests z) u))
