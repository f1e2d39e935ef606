-- What is printed: a text at the start of a buffer that has room for it (`Printed`, `wrote_printed`).
use Rattle.std.specs.Prelude.{◌≡◌, List, ◌++◌, ℕ, ◌≤◌, length, take, drop}
use Rattle.std.proofs.Common.{◌∙◌, zero-add, arith, take_at}
use Rattle.decimals.specs.Writing.{Wrote, sets_front}

-- the first n bytes are the text, and what lay behind them stays (S 6.6)
pub record Printed (text before : List ℕ) (n : ℕ) (after : List ℕ) : Type 0 where
  pub room : length text ≤ length before
  pub count : n ≡ length text
  pub written : after ≡ text ++ drop (length text) before

pub wrote_printed : {text before after : List ℕ} {n : ℕ} → length text ≤ length before → Wrote before 0 text n after
    → Printed text before n after
wrote_printed {text} {before} room w =
    record {
      room = room;
      count = w.place ∙ zero-add (length text);
      written = w.stored ∙ sets_front text before room;
    }

module _ {text before after : List ℕ} {n : ℕ} (h : Printed text before n after) where
  pub printed_text : take n after ≡ text
  printed_text = rw h.written (take_at text (drop (length text) before) n (omega (arith, h.count)))

  pub printed_in_lem : n ≤ length before
  printed_in_lem = omega (arith, h.count, h.room)
