-- Two macroblocks of a round share no cell (`apart_of`).
use Rattle.std.specs.Prelude.{◌≡◌, ℕ, ◌+◌, ◌*◌}
use Rattle.std.proofs.Common.{arith}
use Rattle.head_order.specs.Promise.{Apart}

-- no two share a cell
pub apart_of : (o u a b c d : ℕ) → ((a ≡ c) → (b ≡ d) → ⊥) → Apart (o + 2 * a, u + 2 * b) (o + 2 * c, u + 2 * d)
apart_of o u a b c d ne =
    record { none = λ x y h k. ne (omega (arith, h.row, k.row)) (omega (arith, h.column, k.column)) }
