-- The arguments of a command line.
use Rattle.std.specs.Prelude.{ℕ, if◌then◌else◌, ◌&&◌, not, ◌==◌, Bool, List, [], ◌∷◌, Option, Some, None}
use Rattle.std.specs.Prelude.{option_map, option_and_then, codes, map, length, nat_eq, String, string_bytes}
use Rattle.std.specs.Cmp.Lexicographic.{pointwise}
use Rattle.plate_room.specs.Number.{number_within}
use Rattle.cmd_run.specs.Edition.{Edition}
use Rattle.cmd_verify.specs.Check.{Asked}
use Rattle.cmd_replate.specs.Change.{Change}

-- the command that a command line asks for
pub data Command : Type 0 where
  -- the black plate of one file
  One : List ℕ → Command
  -- the plates of all sites of an edition
  Run : Edition → Command
  -- as `run`, with the counts of this many ink keys of each plate
  Keys : Edition → ℕ → Command
  -- the generated job with this number, over a ring of this many places, with this patience
  Drill : ℕ → ℕ → ℕ → Command
  -- whether the stored plates are those of an edition
  Verify : Asked → Command
  -- the plates of an edition that changed
  Replate : Change → Command

-- the argument isn't empty
abbrev pub is_given : List ℕ → Bool
is_given word = not (length word == 0)

-- the arguments after `one`: a file
abbrev pub one_of : List (List ℕ) → Option Command
one_of [] = None
one_of (file ∷ []) = if is_given file then Some (One file) else None
one_of (file ∷ word ∷ words) = None

-- the last arguments of a run or a drill: the number of places of the ring and the patience, by default
-- 64 and 1024
abbrev pub numbers_of : List (List ℕ) → Option (ℕ × ℕ)
numbers_of [] = Some (64, 1024)
numbers_of (ring ∷ []) = option_map (λ places. (places, 1024)) (number_within 1 1024 ring)
numbers_of (ring ∷ patience ∷ []) =
    option_and_then (λ places. option_map (λ turns. (places, turns)) (number_within 1 65536 patience))
    (number_within 1 1024 ring)
numbers_of (ring ∷ patience ∷ word ∷ words) = None

-- an edition with these numbers
abbrev pub edition_with : List ℕ → List ℕ → List ℕ → ℕ × ℕ → Edition
edition_with plan files out numbers =
    record { plan = plan; files = files; out = out; ring = numbers.0; patience = numbers.1 }

-- the edition with these paths and the numbers that the last arguments give
abbrev pub edition_in : List ℕ → List ℕ → List ℕ → List (List ℕ) → Option Edition
edition_in plan files out numbers =
    if is_given plan && is_given files && is_given out
    then option_map (edition_with plan files out) (numbers_of numbers)
    else None

-- the arguments after `run`: a plan, two folders, and numbers
abbrev pub edition_of : List (List ℕ) → Option Edition
edition_of [] = None
edition_of (plan ∷ []) = None
edition_of (plan ∷ files ∷ []) = None
edition_of (plan ∷ files ∷ out ∷ numbers) = edition_in plan files out numbers

-- the arguments after `keys`: a plan, two folders, the number of keys, and numbers
abbrev pub keys_of : List (List ℕ) → Option Command
keys_of [] = None
keys_of (plan ∷ []) = None
keys_of (plan ∷ files ∷ []) = None
keys_of (plan ∷ files ∷ out ∷ []) = None
keys_of (plan ∷ files ∷ out ∷ keys ∷ numbers) =
    option_and_then (λ edition. option_map (Keys edition) (number_within 1 64 keys))
    (edition_in plan files out numbers)

-- the arguments after `drill`: the number of a job, and numbers
abbrev pub drill_of : List (List ℕ) → Option Command
drill_of [] = None
drill_of (number ∷ numbers) =
    option_and_then (λ n. option_map (λ turns. Drill n turns.0 turns.1) (numbers_of numbers))
    (number_within 0 4294967295 number)

-- the arguments after `verify`: a plan and two folders
abbrev pub asked_of : List (List ℕ) → Option Asked
asked_of [] = None
asked_of (plan ∷ []) = None
asked_of (plan ∷ files ∷ []) = None
asked_of (plan ∷ files ∷ out ∷ []) =
    if is_given plan && is_given files && is_given out
    then Some (record { plan = plan; files = files; out = out })
    else None
asked_of (plan ∷ files ∷ out ∷ word ∷ words) = None

-- the change from an old plan and its files to this edition
abbrev pub change_with : List ℕ → List ℕ → Asked → Change
change_with old_plan old_files asked = record {
  old_plan = old_plan;
  old_files = old_files;
  plan = asked.plan;
  files = asked.files;
  out = asked.out;
}

-- the arguments after `replate`: an old plan and the folder of its files, a plan and two folders
abbrev pub change_of : List (List ℕ) → Option Change
change_of [] = None
change_of (old_plan ∷ []) = None
change_of (old_plan ∷ old_files ∷ words) =
    if is_given old_plan && is_given old_files
    then option_map (change_with old_plan old_files) (asked_of words)
    else None

-- the command that the arguments spell, if any
unfoldable pub command_of : List (List ℕ) → Option Command
command_of [] = None
command_of (name ∷ words) =
    if pointwise nat_eq name (codes "one") then one_of words
    else if pointwise nat_eq name (codes "run") then option_map Run (edition_of words)
    else if pointwise nat_eq name (codes "keys") then keys_of words
    else if pointwise nat_eq name (codes "drill") then drill_of words
    else if pointwise nat_eq name (codes "verify") then option_map Verify (asked_of words)
    else if pointwise nat_eq name (codes "replate") then option_map Replate (change_of words)
    else None

-- the command is a drill
abbrev pub AsksDrill : Option Command → Type 0
AsksDrill None = ⊥
AsksDrill (Some (One file)) = ⊥
AsksDrill (Some (Run edition)) = ⊥
AsksDrill (Some (Keys edition keys)) = ⊥
AsksDrill (Some (Drill number ring patience)) = Unit {0}
AsksDrill (Some (Verify asked)) = ⊥
AsksDrill (Some (Replate change)) = ⊥

-- the command verifies plates
abbrev pub AsksVerify : Option Command → Type 0
AsksVerify None = ⊥
AsksVerify (Some (One file)) = ⊥
AsksVerify (Some (Run edition)) = ⊥
AsksVerify (Some (Keys edition keys)) = ⊥
AsksVerify (Some (Drill number ring patience)) = ⊥
AsksVerify (Some (Verify asked)) = Unit {0}
AsksVerify (Some (Replate change)) = ⊥

-- the bytes of each argument
abbrev pub words_of : {Z : Type 0} → List (String Z) → List (List ℕ)
words_of words = map string_bytes words
