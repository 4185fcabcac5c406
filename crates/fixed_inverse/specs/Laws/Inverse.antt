-- How near the latitude in ticks is shown to be to the definition's; proofs/Laws/Inverse shows it. Assumes nothing.
use Rattle.std.specs.Prelude.{ℕ}

-- how near the latitude is shown to be, in thousandths of a tick
abbrev pub latitude_gap : ℕ
latitude_gap = 518
