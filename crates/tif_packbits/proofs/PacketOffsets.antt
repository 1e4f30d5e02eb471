-- The offset of the packets behind one packet.
use Rattle.std.proofs.Common.{◌≡◌, ℕ, ◌+◌, ◌-◌, ◌<◌, ◌≤◌, List, length, drop, take, refl, sym, ap, ◌∙◌, arith}
use Rattle.std.proofs.lemmas.List.{drop-drop, length-drop, take_rest}
use Rattle.tif_packbits.specs.PacketCursor.{Packets}

-- the bytes behind the first packet of a rest begin as far from the end as they are long
pub behind-drop : (packed rest behind : List ℕ) (next : ℕ) → next ≤ length packed → rest ≡ take (length packed - next) (drop next packed) → behind ≡ drop (length rest - length behind) rest → length behind < length rest
    → drop (length packed - length behind) packed ≡ behind
behind-drop packed rest behind next within rest_is behind_is shorter =
    let same : rest ≡ drop next packed = rest_is ∙ take_rest packed next in
    let long : length rest ≡ length packed - next = ap length same ∙ length-drop next packed in
    let at : next + (length rest - length behind) ≡ length packed - length behind = omega arith in
    sym (behind_is ∙ ap (drop (length rest - length behind)) same ∙ drop-drop (length rest - length behind) next packed ∙ ap (λ n. drop n packed) at)

pub packets-same : (packed ahead own left : List ℕ) → packed ≡ own → ahead ≡ left → ◌≡◌ {A = Packets} (record { packed = packed; ahead = ahead }) (record { packed = own; ahead = left })
packets-same packed ahead own left same is = rw (same, is) refl
