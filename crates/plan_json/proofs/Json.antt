-- The value of a text, by whether the text is UTF-8.
use Rattle.std.proofs.Common.{◌≡◌, ℕ, Bool, true, false, cond, List, Option, Some, None, Ok, Err, refl}
use Rattle.std.specs.Str.{IsUtf8, is_utf8}
use Rattle.std.proofs.lemmas.Str.{IsUtf8-from_is_utf8, is_utf8-from_IsUtf8}
use Rattle.serde_json.specs.Data.{Data}
use Rattle.serde_json.specs.Read.{read}
use Rattle.plan_parts.specs.declared.fault.PlanFault.TheVariants.{NotJson}
use Rattle.plan_parts.specs.Reading.{some_or}
use Rattle.plan_json.specs.PlanOf.{json_of}

pub json-some : (bytes : List ℕ) (d : Data) → IsUtf8 bytes → read bytes ≡ Some d
    → some_or NotJson (json_of bytes) ≡ Ok d
unfolding json_of
json-some bytes d utf8 e = rw (is_utf8-from_IsUtf8 bytes utf8, e) refl

none_case : (b : Bool) (found : Option Data) → (b ≡ true → found ≡ None)
    → some_or NotJson (cond b found None) ≡ Err NotJson
none_case true found h = rw (h refl) refl
none_case false found h = refl

pub json-none : (bytes : List ℕ) → (IsUtf8 bytes → read bytes ≡ None)
    → some_or NotJson (json_of bytes) ≡ Err NotJson
unfolding json_of
json-none bytes h = none_case (is_utf8 bytes) (read bytes) (λ e. h (IsUtf8-from_is_utf8 bytes e))
