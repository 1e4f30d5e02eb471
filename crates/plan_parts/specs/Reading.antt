-- The vocabulary of reading: an object with these keys, the value of a key, a list of a stated length, a
-- number in a range, a text, a name. Each reads a value, or the first fault with its path.
use Rattle.std.specs.Prelude.{ℕ, suc, ◌&&◌, Bool, true, false, not, if◌then◌else◌, nat_le, List, [], ◌∷◌}
use Rattle.std.specs.Prelude.{◌++◌, length, Option, Some, None, Result, Ok, Err, option_and_then, is_some}
use Rattle.std.specs.Prelude.{decimal, codes}
use Rattle.std.specs.List.{list_any, position_from}
use Rattle.std.specs.Str.{bytes_eq}
use Rattle.serde_json.specs.Data.{Data, null, boolean, number as number_data, string, array, object, Items}
use Rattle.serde_json.specs.Data.{no_items, item, Members, no_members, member as member_data}
use Rattle.serde_json.specs.Find.{as_number, as_u64, get, get_item}
use Rattle.plan_parts.specs.declared.fault.PlanFault.{PlanFault}
use Rattle.plan_parts.specs.declared.fault.PlanFault.TheVariants.{Missing, Kind, Range, Unknown, Repeat}
use Rattle.plan_parts.specs.Forms.{is_name, is_file_name}

-- ---- steps in order

-- a value, or the first fault
abbrev pub Read : Type 0 → Type 0
Read A = Result A PlanFault

infixl 10 ◌>>=◌
abbrev pub ◌>>=◌ : {A B : Type 0} → Read A → (A → Read B) → Read B
(Ok x) >>= rest = rest x
(Err fault) >>= rest = Err fault

infixl 10 ◌>>◌
abbrev pub ◌>>◌ : {A B : Type 0} → Read A → Read B → Read B
(Ok x) >> rest = rest
(Err fault) >> rest = Err fault

-- nothing where the condition holds, and this fault otherwise
abbrev pub must : Bool → PlanFault → Read (Unit {0})
must true fault = Ok tt
must false fault = Err fault

-- the value, or this fault where there is none
abbrev pub some_or : {A : Type 0} → PlanFault → Option A → Read A
some_or fault None = Err fault
some_or fault (Some x) = Ok x

-- ---- paths

-- a path with one more step: a key, or an index from 0
abbrev pub at_key : List ℕ → List ℕ → List ℕ
at_key path key = path ++ 47 ∷ key

abbrev pub at_item : List ℕ → ℕ → List ℕ
at_item path i = path ++ 47 ∷ decimal i

-- ---- reading the value at a path

abbrev pub Reader : Type 0 → Type 0
Reader A = List ℕ → Data → Read A

-- whether the text is one of these
abbrev pub is_among : List (List ℕ) → List ℕ → Bool
is_among texts s = list_any (bytes_eq s) texts

-- the first key that is none of these; the members of an object are in byte order
abbrev pub first_unknown : List (List ℕ) → Members → Option (List ℕ)
first_unknown keys no_members = None
first_unknown keys (member_data key d more) = if is_among keys key then first_unknown keys more else Some key

-- the value, or a fault where a key is unknown
abbrev pub all_known : List ℕ → Data → Option (List ℕ) → Read Data
all_known path d None = Ok d
all_known path d (Some key) = Err (Unknown (at_key path key))

-- an object that has no keys but these
unfoldable pub object_with : List (List ℕ) → Reader Data
object_with keys path (object all) = all_known path (object all) (first_unknown keys all)
object_with keys path null = Err (Kind path)
object_with keys path (boolean b) = Err (Kind path)
object_with keys path (number_data n) = Err (Kind path)
object_with keys path (string s) = Err (Kind path)
object_with keys path (array _) = Err (Kind path)

-- the keys of `screens` and `curves`: one for each ink, S only in plan 2
abbrev pub ink_keys : Bool → List (List ℕ)
ink_keys true = codes "C" ∷ codes "M" ∷ codes "Y" ∷ codes "K" ∷ codes "S" ∷ []
ink_keys false = codes "C" ∷ codes "M" ∷ codes "Y" ∷ codes "K" ∷ []

-- what a reader reads from a value, or the fault `Missing` where the value is absent
abbrev pub required_in : {A : Type 0} → Reader A → List ℕ → Option Data → Read A
required_in read path found = some_or (Missing path) found >>= read path

-- the value of a required key
unfoldable pub required : {A : Type 0} → List ℕ → Reader A → Reader A
required key read path d = required_in read (at_key path key) (get key d)

-- the value of a key, or a default where the key is absent
abbrev pub optional_in : {A : Type 0} → A → Reader A → List ℕ → Option Data → Read A
optional_in absent read path None = Ok absent
optional_in absent read path (Some d) = read path d

unfoldable pub optional : {A : Type 0} → List ℕ → A → Reader A → Reader A
optional key absent read path d = optional_in absent read (at_key path key) (get key d)

-- ---- numbers and texts

-- a whole number of 0 to 2^64 - 1 that is from `low` to `high`
abbrev pub whole_number : List ℕ → ℕ → ℕ → Option ℕ → Read ℕ
whole_number path low high None = Err (Kind path)
whole_number path low high (Some n) = if nat_le low n && nat_le n high then Ok n else Err (Range path)

unfoldable pub number : ℕ → ℕ → Reader ℕ
number low high path d = whole_number path low high (option_and_then as_u64 (as_number d))

-- a text
abbrev pub text : Reader (List ℕ)
text path (string s) = Ok s
text path null = Err (Kind path)
text path (boolean b) = Err (Kind path)
text path (number_data n) = Err (Kind path)
text path (array _) = Err (Kind path)
text path (object _) = Err (Kind path)

-- a text of the required form
abbrev pub text_of : (List ℕ → Bool) → Reader (List ℕ)
text_of form path d = do
  s ← text path d
  must (form s) (Range path)
  Ok s

unfoldable pub name : Reader (List ℕ)
name = text_of is_name

unfoldable pub file_name : Reader (List ℕ)
file_name = text_of is_file_name

-- the index of a name in a list of names
abbrev pub index_in : List (List ℕ) → List ℕ → Option ℕ
index_in names s = position_from (λ n. bytes_eq n s) 0 names

-- a name that no earlier item has
unfoldable pub new_name : List (List ℕ) → Reader (List ℕ)
new_name earlier path d = do
  s ← name path d
  must (not (is_some (index_in earlier s))) (Repeat path)
  Ok s

-- the index of the item with this name
unfoldable pub defined : List (List ℕ) → Reader ℕ
defined names path d = do
  s ← name path d
  some_or (Unknown path) (index_in names s)

-- ---- lists

abbrev pub count_of : Items → ℕ
count_of no_items = 0
count_of (item d items) = suc (count_of items)

-- the items of a list
unfoldable pub items_in : Reader Items
items_in path (array all) = Ok all
items_in path null = Err (Kind path)
items_in path (boolean b) = Err (Kind path)
items_in path (number_data n) = Err (Kind path)
items_in path (string s) = Err (Kind path)
items_in path (object _) = Err (Kind path)

-- the items of a list that has `low` to `high` of them
unfoldable pub items_within : ℕ → ℕ → Reader Items
items_within low high path d = do
  items ← items_in path d
  must (nat_le low (count_of items) && nat_le (count_of items) high) (Range path)
  Ok items

-- the items in order, each read with access to the items before it
unfoldable pub each_after : {A : Type 0} → List A → (List A → Reader A) → List ℕ → Items → Read (List A)
each_after earlier read path no_items = Ok earlier
each_after earlier read path (item d items) =
    read earlier (at_item path (length earlier)) d >>= λ x. each_after (earlier ++ x ∷ []) read path items

-- a list of `low` to `high` items
abbrev pub list_of : {A : Type 0} → ℕ → ℕ → (List A → Reader A) → Reader (List A)
list_of low high read path d = items_within low high path d >>= each_after [] read path

-- the item at an index of a list
unfoldable pub nth : {A : Type 0} → ℕ → Reader A → List ℕ → Items → Read A
nth i read path items = required_in read (at_item path i) (get_item i items)
