-- A number among the arguments of a command line.
use Rattle.std.specs.Prelude.{◌≡◌, ◌≤◌, ◌⊎◌, ℕ, ◌+◌, ◌-◌, ◌*◌, ◌^◌, ◌==◌, ◌&&◌, not, nat_le, if◌then◌else◌}
use Rattle.std.specs.Prelude.{Bool, true, false, List, [], ◌∷◌, Option, Some, None}
use Rattle.std.specs.Char.{is_ascii_digit}
use Rattle.std.specs.List.{list_all}

-- the value of the digits, after digits with value n
abbrev pub value_behind : ℕ → List ℕ → ℕ
value_behind n [] = n
value_behind n (digit ∷ digits) = value_behind (10 * n + (digit - 48)) digits

-- one digit, or several of which the first isn't 0
abbrev pub is_number : List ℕ → Bool
is_number [] = false
is_number (digit ∷ []) = list_all is_ascii_digit (digit ∷ [])
is_number (digit ∷ next ∷ digits) = not (digit == 48) && list_all is_ascii_digit (digit ∷ next ∷ digits)

-- the number that an argument spells, if it is one from `least` to `most`
unfoldable pub number_within : ℕ → ℕ → List ℕ → Option ℕ
number_within least most word =
    let number = value_behind 0 word in
    if is_number word && nat_le least number && nat_le number most then Some number else None

-- what holds of an argument whose value is parsed into 32 bits
abbrev pub IsValue : List ℕ → Option ℕ → Type 0
IsValue word None = (is_number word ≡ false) ⊎ (2 ^ 32 ≤ value_behind 0 word)
IsValue word (Some number) = (is_number word ≡ true) × (number ≡ value_behind 0 word)
