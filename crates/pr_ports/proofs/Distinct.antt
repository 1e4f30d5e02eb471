-- A shelf of at most one file has distinct paths.
use Rattle.std.proofs.Common.{ℕ, ◌≤◌, List, [], ◌∷◌, length, map, nat_eq, arith}
use Rattle.std.specs.Global.{Vec}
use Rattle.std.specs.Cmp.Lexicographic.{pointwise}
use Rattle.std.specs.List.{IsDistinct}
use Rattle.pr_ports.specs.Mem.{files_of}

-- the paths of at most one file are distinct
pub one_is_distinct : (files : List (List ℕ × Vec ℕ)) → length files ≤ 1
    → IsDistinct (pointwise nat_eq) (map {A = List ℕ × List ℕ} (λ file. file.0) (files_of files))
unfolding IsDistinct
one_is_distinct [] h = tt
one_is_distinct (file ∷ []) h = (tt, tt)
one_is_distinct (file ∷ other ∷ files) h = absurd (omega arith)
