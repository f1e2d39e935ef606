-- Texts, which are lists of bytes: numbers and lines written (`decimal`, `line`, `right_aligned`) and read
-- (`field_of`), and a text in a lent output (`text_into`).
use Rattle.std.specs.Prelude.{Bool, true, false, not, ◌&&◌, List, [], ◌∷◌, ◌++◌, ℕ, zero, suc, ◌+◌, ◌*◌, ◌-◌, ◌/◌, ◌%◌}
use Rattle.std.specs.Prelude.{leb, ltb, eqb, length, replicate, drop}
use Rattle.definition.specs.Answers.{Said, returned, refused}

abbrev pub comma : ℕ
comma = 44

-- byte 10 ends a line (S 6.1)
abbrev pub newline : ℕ
newline = 10

-- at most `most` decimal digits of n, without a leading zero; 0 is one digit (S 6.1)
unfoldable pub digits_up_to : ℕ → ℕ → List ℕ
digits_up_to zero n = []
digits_up_to (suc most) n =
    elim (ltb n 10) [ true ↦ (48 + n) ∷ [] | false ↦ digits_up_to most (n / 10) ++ (48 + n % 10) ∷ [] ]

-- all of them: n + 1 are enough (S 6.1)
unfoldable pub decimal : ℕ → List ℕ
decimal n = digits_up_to (suc n) n

abbrev pub space : ℕ
space = 32

-- a number in `width` places, right aligned with spaces (S 6.5)
unfoldable pub right_aligned : ℕ → ℕ → List ℕ
right_aligned width n = replicate (width - length (decimal n)) space ++ decimal n

-- numbers with a comma between two of them, and byte 10 behind the last (S 6.1)
unfoldable pub line : List ℕ → List ℕ
line [] = newline ∷ []
line (v ∷ []) = decimal v ++ newline ∷ []
line (v ∷ w ∷ rest) = decimal v ++ comma ∷ line (w ∷ rest)

-- the bytes behind the numbers of such a line of n (S 6.1)
unfoldable pub line_ends : ℕ → List ℕ
line_ends n = replicate (n - 1) comma ++ newline ∷ []

-- What a text begins with: a number and its end, and what is left behind them; or neither.
pub data Field : Type 0 where
  field : ℕ → List ℕ → Field
  malformed : Field

unfoldable pub is_digit : ℕ → Bool
is_digit b = leb 48 b && leb b 57

-- Digits with the value v have been read: further ones, then the byte `end`, and no other byte. A leading zero takes no
-- digit more; a number above `most` is none (S 6.1).
unfoldable pub digits_then : ℕ → ℕ → ℕ → List ℕ → Field
digits_then most end v [] = malformed
digits_then most end v (b ∷ rest) =
    let next = 10 * v + (b - 48) in
    elim (eqb b end) [
      | true ↦ field v rest
      | false ↦ elim (is_digit b && not (eqb v 0) && leb next most)
          [ true ↦ digits_then most end next rest | false ↦ malformed ]
    ]

-- a number of at most `most`, then the byte `end` (S 6.1)
unfoldable pub field_of : ℕ → ℕ → List ℕ → Field
field_of most end [] = malformed
field_of most end (b ∷ rest) = elim (is_digit b) [ true ↦ digits_then most end (b - 48) rest | false ↦ malformed ]

-- what a call that writes a text says, and the output afterwards
pub record TextOutcome : Type 0 where
  pub said : Said
  pub output : List ℕ

-- For a refusal's number, 0 where there is none: the text stands at the front of the output, the bytes past it stay,
-- and its length is answered (S 6.6); a refusal leaves the output unchanged (S 5.1).
unfoldable pub text_into : ℕ → List ℕ → List ℕ → TextOutcome
text_into zero text output = record { said = returned (length text ∷ []); output = text ++ drop (length text) output }
text_into (suc n) text output = record { said = refused (suc n); output = output }
