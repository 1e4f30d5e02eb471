-- Bytes that were read at offsets of a file, or behind others.
use Rattle.std.proofs.Common.{◌≡◌, ℕ, ◌+◌, ◌*◌, ◌/◌, ◌<◌, ◌≤◌, List, ◌++◌, length, take, drop, Option, None, Some, ap, ap₂, refl, sym, subst, ◌∙◌, arith, append_assoc}
use Rattle.std.specs.Option.{option_map}
use Rattle.std.specs.Io.KnownBytes.{Consumes, IsAtEnd}
use Rattle.std.proofs.Math.Seq.{take-add, take-append-add}
use Rattle.std.proofs.lemmas.Nat.{div-add-mod', mul-le}
use Rattle.std.proofs.lemmas.List.{drop-drop, drop_all, length-take-le, take_all, take-append-drop}
use Rattle.pr_ports.specs.Offset.{HasFront, IsReadAt}

-- two runs of bytes that a reader delivered, one after the other
pub consumes_more : (old between new : Option (List ℕ)) (first then_ : List ℕ) → Consumes old between first
    → Consumes between new then_ → Consumes old new (first ++ then_)
consumes_more None between new first then_ one two = tt
consumes_more (Some xs) None new first then_ one two = absurd one
consumes_more (Some xs) (Some ys) None first then_ one two = absurd two
consumes_more (Some xs) (Some ys) (Some zs) first then_ one two = rw append_assoc (one ∙ ap (λ l. first ++ l) two)

-- the reader from an offset on delivered what the read at the offset gave
pub read_consumes : (whole : Option (List ℕ)) (offset next : ℕ) (into : List ℕ) (count : ℕ)
    → next ≡ offset + count → IsReadAt whole offset into count
    → Consumes (option_map (λ (all : List ℕ). drop offset all) whole)
    (option_map (λ (all : List ℕ). drop next all) whole) (take count into)
    × (count ≡ 0 → 0 < length into → IsAtEnd (option_map (λ (all : List ℕ). drop next all) whole))
read_consumes None offset next into count is read = (tt, λ none some. tt)
read_consumes (Some all) offset next into count is read =
    let rest : drop count (drop offset all) ≡ drop next all = drop-drop count offset all ∙ ap (λ n. drop n all) (sym is) in (
      sym (take-append-drop count (drop offset all)) ∙ ap₂ ◌++◌ (sym read.0) rest,
      λ none some. let end : length all ≤ offset = read.1 none some in drop_all next all (omega arith),
    )

-- a read behind those bytes that were read before it
pub front_more : (whole : Option (List ℕ)) (offset : ℕ) (before after : List ℕ) (at count : ℕ)
    → HasFront whole offset before at → take at after ≡ take at before
    → HasFront whole (offset + at) (drop at after) count → HasFront whole offset after (at + count)
front_more None offset before after at count front kept more = tt
front_more (Some all) offset before after at count front kept more =
    take-add at count after ∙ ap₂ ◌++◌ (kept ∙ front) (more ∙ ap (take count) (sym (drop-drop at offset all))) ∙ sym (take-add at count (drop offset all))

-- a buffer's bytes that the file has, and those behind them
pub front_behind : (whole : Option (List ℕ)) (offset : ℕ) (bytes : List ℕ) (at count : ℕ)
    → HasFront whole offset bytes at → HasFront whole (offset + at) (drop at bytes) count
    → HasFront whole offset bytes (at + count)
front_behind whole offset bytes at count front more = front_more whole offset bytes bytes at count front refl more

-- what was read at an offset, where it is equal to the front of other bytes
pub front_equal : (whole : Option (List ℕ)) (offset : ℕ) (bytes read : List ℕ) (count : ℕ)
    → take count bytes ≡ take count read → HasFront whole offset read count
    → HasFront whole offset bytes count
front_equal None offset bytes read count same front = tt
front_equal (Some all) offset bytes read count same front = same ∙ front

-- the whole front share, and a front of the share behind it
pub both_read : (whole : Option (List ℕ)) (offset middle half : ℕ) (front back : List ℕ) (one other : ℕ)
    → length front ≡ half → middle ≡ offset + half → one ≡ half
    → HasFront whole offset front one → HasFront whole middle back other
    → HasFront whole offset (front ++ back) (half + other)
both_read None offset middle half front back one other long at full first then_ = tt
both_read (Some all) offset middle half front back one other long at full first then_ =
    let filled : front ≡ take half (drop offset all) =
    sym (take_all one front (omega arith)) ∙ first ∙ ap (λ n. take n (drop offset all)) full in
    let behind : take other back ≡ take other (drop half (drop offset all)) =
    then_ ∙ ap (λ n. take other (drop n all)) at ∙ ap (take other) (sym (drop-drop half offset all)) in
    subst (λ n. take (n + other) (front ++ back) ≡ take (half + other) (drop offset all)) long
    (take-append-add front back other ∙ ap₂ ◌++◌ filled behind ∙ sym (take-add half other (drop offset all)))

-- the bytes that a buffer's front gives, once the rest of the buffer is cut off
pub front_cut : (whole : Option (List ℕ)) (into cut : List ℕ) (count : ℕ) → cut ≡ take count into
    → count ≤ length into → HasFront whole 0 into count → HasFront whole 0 cut (length cut)
front_cut None into cut count is within front = tt
front_cut (Some all) into cut count is within front =
    let long : length cut ≡ count = ap length is ∙ length-take-le count into within in
    take_all (length cut) cut (omega arith) ∙ is ∙ front ∙ ap (λ n. take n (drop 0 all)) (sym long)

-- the share of half of the threads is within the bytes
pub half_within : (long threads : ℕ) → long / threads * (threads / 2) ≤ long
half_within long threads =
    omega (arith, mul-le (long / threads) (threads / 2) (long / threads) threads (omega arith) (omega arith), div-add-mod' long threads)
