-- The tags of the fields that plateroom reads or writes, by their names in TIFF 6.0 (Sections 8, 15 and 16).
use Rattle.std.specs.Prelude.{ℕ}

abbrev pub image_width : ℕ
image_width = 256

abbrev pub image_length : ℕ
image_length = 257

abbrev pub bits_per_sample : ℕ
bits_per_sample = 258

abbrev pub compression : ℕ
compression = 259

abbrev pub photometric_interpretation : ℕ
photometric_interpretation = 262

abbrev pub fill_order : ℕ
fill_order = 266

abbrev pub strip_offsets : ℕ
strip_offsets = 273

abbrev pub orientation : ℕ
orientation = 274

abbrev pub samples_per_pixel : ℕ
samples_per_pixel = 277

abbrev pub rows_per_strip : ℕ
rows_per_strip = 278

abbrev pub strip_byte_counts : ℕ
strip_byte_counts = 279

abbrev pub x_resolution : ℕ
x_resolution = 282

abbrev pub y_resolution : ℕ
y_resolution = 283

abbrev pub planar_configuration : ℕ
planar_configuration = 284

abbrev pub resolution_unit : ℕ
resolution_unit = 296

abbrev pub tile_width : ℕ
tile_width = 322

abbrev pub tile_length : ℕ
tile_length = 323

abbrev pub tile_offsets : ℕ
tile_offsets = 324

abbrev pub tile_byte_counts : ℕ
tile_byte_counts = 325

abbrev pub ink_set : ℕ
ink_set = 332

abbrev pub dot_range : ℕ
dot_range = 336
