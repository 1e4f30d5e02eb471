-- Implications between facts about a result.
use Rattle.std.proofs.Common.{Result, Ok, Err, IfOk, OnErr}

-- a fact about the value, from another that implies it
pub if_ok : {T E : Type 0} (result : Result T E) (P Q : T → Type 0) → ((value : T) → P value → Q value)
    → IfOk result P → IfOk result Q
if_ok (Ok value) P Q f p = f value p
if_ok (Err fault) P Q f p = tt

-- a fact that holds anyway holds for a refusal
pub on_err : {T E : Type 0} (result : Result T E) (P : Type 0) → P → OnErr result P
on_err (Ok value) P p = tt
on_err (Err fault) P p = p

-- a fact about a refusal, from another that implies it
pub if_err : {T E : Type 0} (result : Result T E) (P Q : Type 0) → (P → Q) → OnErr result P → OnErr result Q
if_err (Ok value) P Q f p = tt
if_err (Err fault) P Q f p = f p
