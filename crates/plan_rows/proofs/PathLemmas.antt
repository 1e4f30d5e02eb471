-- The text of a path.
use Rattle.std.proofs.Common.{◌≡◌, ℕ, ◌+◌, ◌/◌, ◌%◌, List, [], ◌∷◌, ◌++◌, ap, ◌∙◌, append_assoc, arith}
use Rattle.std.specs.Prelude.{codes, Result, Ok, Err, IfOk}
use Rattle.std.specs.Fmt.{decimal}
use Rattle.std.proofs.lemmas.Fmt.{decimal_digit}
use Rattle.plan_rows.specs.Paths.{path_text, plate_text}

-- what holds for the value in an `Ok`, if it follows from another fact about it
pub if_ok : {T E : Type 0} (r : Result T E) (P Q : T → Type 0) → IfOk r P → ((x : T) → P x → Q x) → IfOk r Q
if_ok (Ok x) P Q has so = so x has
if_ok (Err e) P Q has so = tt

-- a digit in decimal notation
pub digit_is : (n : ℕ) → decimal (n % 10) ≡ (48 + n % 10) ∷ []
digit_is n = decimal_digit (n % 10) (omega arith)

-- the parts of a name as they are formatted, with the digits of the pair
abbrev written : List ℕ → List ℕ → List ℕ → List ℕ → List ℕ → List ℕ
written section letter a b c = section ++ (codes "-" ++ (a ++ (b ++ (c ++ (codes "-" ++ letter)))))

regroup : (n d a b c l : List ℕ) → n ++ (d ++ (a ++ (b ++ (c ++ (d ++ l))))) ≡ n ++ d ++ (a ++ (b ++ c)) ++ d ++ l
regroup n d a b c l = simp append_assoc

pub parts_are : (section letter : List ℕ) (pair : ℕ) →
    written section letter (decimal (pair / 100 % 10)) (decimal (pair / 10 % 10)) (decimal (pair % 10)) ≡ plate_text section pair letter
parts_are section letter pair =
    let all = written section letter in
    ap (λ a. all a (decimal (pair / 10 % 10)) (decimal (pair % 10))) (digit_is (pair / 100))
    ∙ ap (λ b. all ((48 + pair / 100 % 10) ∷ []) b (decimal (pair % 10))) (digit_is (pair / 10))
    ∙ ap (λ c. all ((48 + pair / 100 % 10) ∷ []) ((48 + pair / 10 % 10) ∷ []) c) (digit_is pair)
    ∙ regroup section (codes "-") ((48 + pair / 100 % 10) ∷ []) ((48 + pair / 10 % 10) ∷ []) ((48 + pair % 10) ∷ []) letter

-- the parts of a path as they are formatted
pub joined_are : (out site edition name : List ℕ) →
    out ++ (codes "/" ++ (site ++ (codes "/" ++ (edition ++ (codes "-" ++ (name ++ codes ".tif")))))) ≡ path_text out site (edition ++ codes "-" ++ name ++ codes ".tif")
joined_are out site edition name = regroup_path out (codes "/") site edition (codes "-") name (codes ".tif")
  where
    regroup_path : (o s i e d n t : List ℕ) → o ++ (s ++ (i ++ (s ++ (e ++ (d ++ (n ++ t)))))) ≡ o ++ s ++ i ++ s ++ (e ++ d ++ n ++ t)
    regroup_path o s i e d n t = simp append_assoc
