-- What sampling carries along: how many samples were tried. Definitions only, to be believed.
use Rattle.std.specs.Prelude.{ℕ, zero, suc, ◌+◌, ltb}
use Rattle.prelude.specs.Prelude.{when◌then◌else◌}
use Rattle.sample_tree.specs.declared.Meter.{Meter}

-- one more sample; at the highest number that 64 bits hold the count stays
abbrev pub increment : Meter → Meter
increment m = when ltb m.tried 18446744073709551615 then record { tried = m.tried + 1 } else m

-- n more samples
unfoldable pub increment_by : ℕ → Meter → Meter
increment_by zero m = m
increment_by (suc n) m = increment_by n (increment m)
