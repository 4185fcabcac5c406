-- Two points, worked out by antt: the worked ticks, and the definition's values in ticks at the same p and q, on either side of the central meridian. Assumes nothing.
use Rattle.std.specs.Prelude.{◌≡◌, refl, ◌+◌, ◌*◌, ◌^◌, pos, neg_ℤ}
use Rattle.rules.specs.Systems.{GRS_80, Krasovsky, constants}
use Rattle.rules.specs.Projection as Projection
use Rattle.fixed_inverse.specs.Worked.{latitude_ticks, difference_ticks}
use Rattle.fixed_inverse.specs.Examples.{defined, worked}

-- x = 5,780,000 m and y = 120,000 m on GRS-80: 52°11' north, 1°45' from the meridian
latitude_there : latitude_ticks GRS_80 (5780000 * 2 ^ 30) (120000 * 2 ^ 30) ≡ 187859461935
unfolding worked
latitude_there = refl

difference_there : difference_ticks GRS_80 (5780000 * 2 ^ 30) (120000 * 2 ^ 30) ≡ 6313698218
unfolding worked
difference_there = refl

defined_there : Projection.inverse_from (constants GRS_80) (pos 907741839420710605739220) (pos 18845851337454199427111) ≡ record { B = pos 187859461934784591671473342281743411; d = pos 6313698218150473495304102234680017 }
unfolding defined
defined_there = refl

defined_opposite : Projection.inverse_from (constants GRS_80) (pos 907741839420710605739220) (neg_ℤ (pos 18845851337454199427111)) ≡ record { B = pos 187859461934784591671473342281743411; d = neg_ℤ (pos 6313698218150473495304721029098760) }
unfolding defined
defined_opposite = refl

-- x about 6,100,000 m and y about 350,000 m on Krasovsky: 54°56' north, 5°27' from the meridian
latitude_here : latitude_ticks Krasovsky 6549825249856789 375810626054321 ≡ 197807390589
unfolding worked
latitude_here = refl

difference_here : difference_ticks Krasovsky 6549825249856789 375810626054321 ≡ 19661811702
unfolding worked
difference_here = refl

defined_here : Projection.inverse_from (constants Krasovsky) (pos 957981009200274365597229) (pos 54966266897514117518826) ≡ record { B = pos 197807390588652282570345328472678729; d = pos 19661811702141082516899058923989423 }
unfolding defined
defined_here = refl
