-- The files of a job's plates, and the contents of a rack after the plates that were made are stored.
use Rattle.std.specs.Prelude.{ℕ, Bool, if◌then◌else◌, List, [], map, Option, None, option_map}
use Rattle.std.specs.List.{find, list_any}
use Rattle.std.specs.Option.{option_or}
use Rattle.std.specs.Str.{bytes_eq}
use Rattle.plan_rows.specs.Plates.{file_of, site_files}
use Rattle.press_job.specs.Rows.{plate_rows}
use Rattle.replate.specs.Inputs.{JobData}
use Rattle.replate.specs.Picks.{dropped_of}
use Rattle.replate.specs.Plates.{PlateAt, group_at, plates_of}
use Rattle.replate.specs.Remade.{Making, files_for}

-- a path and its bytes
abbrev pub File : Type 0
File = List ℕ × List ℕ

-- the file of a plate among the files of its site, below a folder
abbrev pub entry_of : JobData → List ℕ → PlateAt → File
entry_of job out plate =
    file_of job.plan (plate_rows job.plan job.files) out plate.site (group_at job.plan plate.group, plate.ink)

-- the bytes of a plate's file
abbrev pub bytes_of_plate : JobData → PlateAt → List ℕ
bytes_of_plate job plate = (entry_of job [] plate).1

-- the files of a site
abbrev pub files_of_site : JobData → List ℕ → ℕ → List File
files_of_site job out site = site_files job.plan (plate_rows job.plan job.files) out site

-- the task of making the plates of a job that pass a test, with paths below the folder `out`
abbrev pub making_for : JobData → List ℕ → (PlateAt → Bool) → Making
making_for job out made = record {
  plan = job.plan;
  rows = plate_rows job.plan job.files;
  out = out;
  bits = λ site. map made (plates_of job.plan site);
}

-- the files of a site's plates that pass a test, in the same order, as a delivery makes them
abbrev pub picked_files : JobData → List ℕ → ℕ → (PlateAt → Bool) → List File
picked_files job out site made = files_for (making_for job out made) site

-- ---- files as a map from paths to bytes

-- the bytes at a path: those of the first file with this path
abbrev pub held_in : List File → List ℕ → Option (List ℕ)
held_in files path = option_map (λ file. file.1) (find (λ file. bytes_eq file.0 path) files)

-- whether an old plate that is dropped has this path
abbrev pub is_dropped_path : JobData → JobData → List ℕ → List ℕ → Bool
is_dropped_path before after out path =
    list_any (λ old. bytes_eq (entry_of before out old).0 path) (dropped_of before.plan after.plan)

-- the bytes at a path of a rack that had the files of an old site, after the picked files are stored and the
-- dropped paths deleted
abbrev pub remade_at : JobData → JobData → List ℕ → ℕ → ℕ → (PlateAt → Bool) → List ℕ → Option (List ℕ)
remade_at before after out old_site site made path =
    option_or (held_in (picked_files after out site made) path)
    (if is_dropped_path before after out path then None else held_in (files_of_site before out old_site) path)
