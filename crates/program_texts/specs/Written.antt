-- What a program writes of a text in an array: no more than the array has (`within`, `part`).
use Rattle.std.specs.Prelude.{◌≡◌, List, map, ℕ, ◌≤◌, length, take}
use Rattle.std.proofs.Common.{sym, arith, length-take-le}
use Rattle.std.proofs.lemmas.List.{length-map}

module _ (bytes : List ℕ) {n room : ℕ} (most : n ≤ room)
    (whole : length (map (λ (b : ℕ). b) bytes) ≡ room) where
  pub within : n ≤ length bytes
  within = omega (arith, length-map bytes (λ (b : ℕ). b))

  pub part : n ≡ length (take n bytes)
  part = sym (length-take-le n bytes within)
