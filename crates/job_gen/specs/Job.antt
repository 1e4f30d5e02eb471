-- What contracts see of a generated job's files.
use Rattle.std.specs.Prelude.{ℕ, List, map}
use Rattle.std.specs.Global.{Vec}

-- each path with its bytes
abbrev pub shown : List (List ℕ × Vec ℕ) → List (List ℕ × List ℕ)
shown files = map (λ file. (file.0, file.1.items)) files
