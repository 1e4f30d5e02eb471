-- The forms of texts in a plan.
use Rattle.std.specs.Prelude.{ℕ, ◌==◌, ◌&&◌, ◌||◌, Bool, true, false, not, if◌then◌else◌, nat_le, List, []}
use Rattle.std.specs.Prelude.{◌∷◌, length}
use Rattle.std.specs.List.{list_all}

-- a byte of a name: A to Z, a to z, 0 to 9 or `_`
unfoldable pub is_name_byte : ℕ → Bool
is_name_byte b =
    nat_le 65 b && nat_le b 90 || nat_le 97 b && nat_le b 122 || nat_le 48 b && nat_le b 57 || b == 95

-- a name: 1 to 16 such bytes
unfoldable pub is_name : List ℕ → Bool
is_name text = nat_le 1 (length text) && nat_le (length text) 16 && list_all is_name_byte text

-- a byte before the first part of a text
abbrev pub put_before : ℕ → List (List ℕ) → List (List ℕ)
put_before b [] = (b ∷ []) ∷ []
put_before b (part ∷ parts) = (b ∷ part) ∷ parts

-- the parts of a text between `/`
unfoldable pub parts : List ℕ → List (List ℕ)
parts [] = [] ∷ []
parts (b ∷ text) = if b == 47 then [] ∷ parts text else put_before b (parts text)

-- a part of a path that names a file: it is not empty, `.` or `..`
unfoldable pub names_a_file : List ℕ → Bool
names_a_file [] = false
names_a_file (b ∷ []) = not (b == 46)
names_a_file (a ∷ b ∷ []) = not (a == 46 && b == 46)
names_a_file (a ∷ b ∷ c ∷ rest) = true

-- a file name: 1 to 255 bytes, none of them a control code, in parts that all name files
unfoldable pub is_file_name : List ℕ → Bool
is_file_name text =
    nat_le 1 (length text) && nat_le (length text) 255 && list_all (nat_le 32) text
    && list_all names_a_file (parts text)
