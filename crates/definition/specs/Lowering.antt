-- No grey above 240: `none_high` is whether greys keep to that, and `lowered` are greys made so that they do.
use Rattle.std.specs.Prelude.{Bool, true, ◌&&◌, List, [], ◌∷◌, map, ℕ, min, leb}

-- the highest grey of a low map (S 2.2)
abbrev pub highest : ℕ
highest = 240

-- none of these greys is above it (S 2.2)
unfoldable pub none_high : List ℕ → Bool
none_high [] = true
none_high (grey ∷ greys) = leb grey highest && none_high greys

-- each grey above it lowered to it (S 12.4)
unfoldable pub lowered : List ℕ → List ℕ
lowered greys = map (λ grey. min grey highest) greys
