use Rattle.std.proofs.Common.{◌≡◌, ◌≤◌, ◌++◌, ℕ, suc, ◌+◌, ◌-◌, List, [], ◌∷◌, length, take, drop, set, arith, refl, sym, ap, ◌∙◌}
use Rattle.std.proofs.lemmas.List.{append-nil, drop_all, length-set, length-drop, take_all, take_rest}
use borrow.Rule.Slice.PartMut.{put_mid}
use Rattle.tif_packbits.proofs.pack.write_literal.Goals as goal

-- a header followed by the bytes
behind : (byte header m n : ℕ) (into from part : List ℕ) → m ≡ length into → part ≡ from ++ drop n (take m into)
    → put_mid 1 m (header ∷ into) part ≡ (header ∷ from) ++ drop (suc n) (byte ∷ into)
behind byte header m n into from part whole is =
    let all : take m into ≡ into = take_all m into (omega arith) in
    let none : drop m into ≡ [] = drop_all m into (omega arith) in
    rw (none, is, all, append-nil) refl

written : (into from part : List ℕ) (header n : ℕ) → n + 1 ≤ length into → part ≡ from ++ drop n (take (length (set into 0 header) - 1) (drop 1 (set into 0 header)))
    → put_mid 1 (length (set into 0 header) - 1) (set into 0 header) part ≡ (header ∷ from) ++ drop (n + 1) into
written [] from part header n room is = absurd (omega arith)
written (byte ∷ into) from part header n room is =
    let more : n + 1 ≡ suc n = omega arith in
    behind byte header _ n into from part (omega arith) is ∙ ap (λ k. (header ∷ from) ++ drop k (byte ∷ into)) (sym more)

pub copy_front-requires-clause-into : goal.copy_front-requires-clause-into
copy_front-requires-clause-into c =
    let into : List ℕ = set c.args.into.now 0 (c.args.n - 1) in
    rw (take_rest into 1) (omega (arith, c.requires.room, length-drop 1 into, length-set c.args.into.now 0 (c.args.n - 1)))

pub returns : goal.returns
returns c = written c.args.into.now (take c.args.n c.args.row.now) _ (c.args.n - 1) c.args.n c.requires.room c.copy_front.ensures
