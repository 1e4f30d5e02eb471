-- The files of a job, one after the other.
use Rattle.std.proofs.Common.{◌≡◌, ℕ, ◌+◌, List, [], ◌∷◌, ◌++◌, map, sym, ap, ◌∙◌, arith}
use Rattle.std.specs.List.{range_with_len}
use Rattle.std.proofs.lemmas.List.{append_assoc}
use Rattle.std.proofs.lemmas.List.FromFn.{map-range_with_len_more}
use Rattle.job_gen.specs.Images.{contone_bytes, files_of, files_with, line_bytes, mask_bytes, other_entries, page_entry, path_of}
use Rattle.job_gen.specs.Numbers.{page_count}
use Rattle.job_gen.specs.Plan.{line_file, mask_file, other_file, page_file}

-- one more page's file
pub page_more : (n k : ℕ) (old new : List (List ℕ × List ℕ)) (name bytes : List ℕ) → old ≡ map (page_entry n) (range_with_len 1 k)
    → new ≡ old ++ (path_of name, bytes) ∷ [] → name ≡ page_file (k + 1) → bytes ≡ contone_bytes n (k + 1)
    → new ≡ map (page_entry n) (range_with_len 1 (k + 1))
page_more n k old new name bytes is is_new is_name is_bytes =
    is_new ∙ ap (λ xs. xs ++ (path_of name, bytes) ∷ []) is
    ∙ ap (λ s. map (page_entry n) (range_with_len 1 k) ++ (path_of s, bytes) ∷ []) is_name
    ∙ ap (λ b. map (page_entry n) (range_with_len 1 k) ++ (path_of (page_file (k + 1)), b) ∷ []) is_bytes
    ∙ sym (map-range_with_len_more (page_entry n) 1 k (k + 1) (omega arith))

-- the other three
pub others_put : (n : ℕ) (old a b c : List (List ℕ × List ℕ)) (other line mask : List ℕ)
    → a ≡ old ++ (path_of other_file, other) ∷ [] → other ≡ contone_bytes n 0
    → b ≡ a ++ (path_of line_file, line) ∷ [] → line ≡ line_bytes n
    → c ≡ b ++ (path_of mask_file, mask) ∷ [] → mask ≡ mask_bytes n
    → c ≡ old ++ other_entries n
others_put n old a b c other line mask is_a is_other is_b is_line is_c is_mask =
    is_c ∙ ap (λ xs. xs ++ (path_of mask_file, mask) ∷ []) (is_b ∙ ap (λ xs. xs ++ (path_of line_file, line) ∷ []) is_a)
    ∙ ap (λ xs. xs ++ (path_of mask_file, mask) ∷ []) (append_assoc old _ _) ∙ append_assoc old _ _
    ∙ ap (λ x. old ++ (path_of other_file, x) ∷ (path_of line_file, line) ∷ (path_of mask_file, mask) ∷ []) is_other
    ∙ ap (λ x. old ++ (path_of other_file, contone_bytes n 0) ∷ (path_of line_file, x) ∷ (path_of mask_file, mask) ∷ []) is_line
    ∙ ap (λ x. old ++ (path_of other_file, contone_bytes n 0) ∷ (path_of line_file, line_bytes n) ∷ (path_of mask_file, x) ∷ []) is_mask

-- all of them
pub files_are : (n pages : ℕ) (old new : List (List ℕ × List ℕ)) → pages ≡ page_count n → old ≡ map (page_entry n) (range_with_len 1 pages)
    → new ≡ old ++ other_entries n → new ≡ files_of n
unfolding files_with
files_are n pages old new is_pages is_old is_new =
    is_new ∙ ap (λ xs. xs ++ other_entries n) (is_old ∙ ap (λ k. map (page_entry n) (range_with_len 1 k)) is_pages)
