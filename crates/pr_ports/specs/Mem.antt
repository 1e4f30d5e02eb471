-- The models of the shelves and of the sink in memory.
use Rattle.std.specs.Prelude.{◌≡◌, ℕ, List, ◌++◌, map, Option, Some, Result, Ok, Err}
use Rattle.std.specs.Global.{Vec}
use Rattle.pr_base.specs.Count.{count_after}
use Rattle.pr_ports.specs.declared.shelf.LoadFault.{LoadFault}
use Rattle.pr_ports.specs.declared.shelf.LoadFault.TheVariants.{Failed, TooLong, Memory}
use Rattle.pr_ports.specs.declared.sink.SinkFault.{SinkFault}
use Rattle.pr_ports.specs.declared.sink.SinkFault.TheVariants as sink_faults

-- the files of a shelf, each as its path and bytes
abbrev pub files_of : List (List ℕ × Vec ℕ) → List (List ℕ × List ℕ)
files_of files = map (λ file. (file.0, file.1.items)) files

-- the model of a shelf in memory
pub record ShelfState : Type 0 where
  -- each file's path and bytes
  pub files : List (List ℕ × List ℕ)
  -- the numbers of the calls that fail
  pub failing : List ℕ
  -- the number of the next call
  pub calls : ℕ
  pub faults : ℕ
  pub longs : ℕ
  -- the path of the last call that failed
  pub missed : Option (List ℕ)

-- the model of a sink in memory
pub record SinkState : Type 0 where
  -- all bytes accepted so far
  pub bytes : List ℕ
  -- the numbers of the calls that fail
  pub failing : List ℕ
  -- the number of the next call
  pub calls : ℕ
  pub faults : ℕ

-- the shelf after a failing call at this path, by the error that the call returns
abbrev pub Misses : ShelfState → ShelfState → List ℕ → LoadFault → Type 0
Misses old new path Failed = new ≡ record old { faults = count_after old.faults; missed = Some path }
Misses old new path (TooLong limit) = ⊥
Misses old new path Memory = new ≡ old

-- the shelf after a call of load at path, by the call's result
abbrev pub shelf_after : {T : Type 0} → ShelfState → List ℕ → Result T LoadFault → ShelfState
shelf_after shelf path (Ok bytes) = record shelf { calls = count_after shelf.calls }
shelf_after shelf path (Err Failed) =
    record shelf { calls = count_after shelf.calls; faults = count_after shelf.faults; missed = Some path }
shelf_after shelf path (Err (TooLong limit)) =
    record shelf { calls = count_after shelf.calls; longs = count_after shelf.longs }
shelf_after shelf path (Err Memory) = record shelf { calls = count_after shelf.calls }

-- the sink after a call of put, by the call's result
abbrev pub sink_after : {T : Type 0} → SinkState → List ℕ → Result T SinkFault → SinkState
sink_after sink bytes (Ok done) = record sink { calls = count_after sink.calls; bytes = sink.bytes ++ bytes }
sink_after sink bytes (Err sink_faults.Failed) =
    record sink { calls = count_after sink.calls; faults = count_after sink.faults }
sink_after sink bytes (Err sink_faults.Memory) = record sink { calls = count_after sink.calls }

-- the model of the shelf of host files
pub record Counts : Type 0 where
  pub faults : ℕ
  pub longs : ℕ

-- the counts of the shelf of host files after a call of load, by the call's result
abbrev pub counts_after : {T : Type 0} → Counts → Result T LoadFault → Counts
counts_after counts (Ok bytes) = counts
counts_after counts (Err Failed) = record counts { faults = count_after counts.faults }
counts_after counts (Err (TooLong limit)) = record counts { longs = count_after counts.longs }
counts_after counts (Err Memory) = counts
