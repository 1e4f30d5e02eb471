-- Saturating counts.
use Rattle.std.specs.Prelude.{◌≡◌, ℕ, ◌+◌, ◌<◌, ◌⊎◌, Bool, min, if◌then◌else◌}

-- the maximum of a count, 2^64 - 1
abbrev pub last_count : ℕ
last_count = 18446744073709551615

-- the count after one more event
abbrev pub count_after : ℕ → ℕ
count_after count = min (count + 1) last_count

-- the count rose: it is greater than before, or at its maximum
abbrev pub Rose : ℕ → ℕ → Type 0
Rose before now = (before < now) ⊎ (now ≡ last_count)

-- the count after a call that succeeded (unchanged) or failed (one more)
abbrev pub count_unless : Bool → ℕ → ℕ
count_unless done count = if done then count else count_after count
