-- Two plates of a shelf, as parts of it (`part_is`); and what their comparison says of their order
-- (`parts_say`).
use Rattle.std.specs.Prelude.{◌≡◌, Bool, List, ℕ, ◌+◌, ◌*◌, ◌-◌, take, drop}
use Rattle.std.proofs.Common.{ap, ap₂, ◌∙◌, arith}
use Rattle.definition.specs.Answers.{Compared}
use Rattle.definition.specs.Pyramid.{cell_count}
use Rattle.definition.specs.Shelf.{compared, plate_at, is_before}

-- the places from x × N² on, N² of them, are plate x
part_is : (plates : List ℕ) (r x cells : ℕ) → cells ≡ cell_count r
    → take (x * cells + cells - x * cells) (drop (x * cells) plates) ≡ plate_at r plates x
unfolding plate_at
part_is plates r x cells e = let z : x * cells + cells - x * cells ≡ cells = omega arith in rw (z, e)

-- the answer a of the two parts says it of the two plates
pub parts_say : (plates : List ℕ) (r x y cells : ℕ) {a : Compared} {b : Bool} → cells ≡ cell_count r
    → a
    ≡ compared r (take (x * cells + cells - x * cells) (drop (x * cells) plates))
    (take (y * cells + cells - y * cells) (drop (y * cells) plates))
    → b ≡ is_before a → b ≡ is_before (compared r (plate_at r plates x) (plate_at r plates y))
parts_say plates r x y cells e h s =
    s ∙ ap is_before h
    ∙ ap₂ (λ (p q : List ℕ). is_before (compared r p q)) (part_is plates r x cells e) (part_is plates r y cells e)
