-- Bytes round a separator (our own).
use Rattle.std.specs.Prelude.{ℕ, ◌+◌, ◌==◌, List, Option, option_map, position, take, drop}

-- a text round the first byte c, where there is one
unfoldable pub cut_at : ℕ → List ℕ → Option (List ℕ × List ℕ)
cut_at c bs = option_map (λ n. (take n bs, drop (n + 1) bs)) (position (λ b. b == c) bs)
