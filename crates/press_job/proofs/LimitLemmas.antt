-- The ink limit of a pixel.
use Rattle.std.proofs.Common.{◌≡◌, ℕ, ap, ◌∙◌}
use Rattle.page_tone.specs.Limit.{limited}

-- equal inks have equal limited values
pub limited-same : (c c' m m' y y' k k' limit : ℕ) → c ≡ c' → m ≡ m' → y ≡ y' → k ≡ k'
    → limited c m y k limit ≡ limited c' m' y' k' limit
limited-same c c' m m' y y' k k' limit cyan magenta yellow black =
    ap (λ n. limited n m y k limit) cyan ∙ ap (λ n. limited c' n y k limit) magenta ∙ ap (λ n. limited c' m' n k limit) yellow ∙ ap (λ n. limited c' m' y' n limit) black
