-- The sizes of a generated job, derived from its number. All of this is plateroom's own.
use Rattle.std.specs.Prelude.{ℕ, ◌+◌, ◌*◌, ◌/◌, ◌%◌}

-- the number of print sites: 1 to 4
abbrev pub site_count : ℕ → ℕ
site_count n = n % 4 + 1

-- the number of pages of the section: 4 or 8
abbrev pub page_count : ℕ → ℕ
page_count n = 4 + 4 * (n / 4 % 2)

-- the factor by which everything exceeds its smallest size: 1 to 16
abbrev pub size_of : ℕ → ℕ
size_of n = 1 + n / 8 % 16

-- the sides of its images in pixels
abbrev pub image_width : ℕ → ℕ
image_width n = 16 * size_of n

abbrev pub image_length : ℕ → ℕ
image_length n = 12 * size_of n
