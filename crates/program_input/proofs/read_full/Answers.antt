-- `program_input::read_full`: a read fills the buffer on from what is filled, and at the input's end that is all of it.
use Rattle.std.proofs.Common.{◌≡◌, ℕ, ◌+◌, ◌-◌, ◌≤◌, List, ◌++◌, length, take, length-take-le}
use Rattle.std.proofs.Common.{rules, sym, ap, ◌∙◌, subst}
use Rattle.std.specs.Prelude.{Option}
use Rattle.std.specs.Io.KnownBytes.{Consumes}
use Rattle.std.proofs.KnownBytes.{Consumes-trans}
use borrow.Rule.Slice.PartMut.{put_mid, post_of}
use lib.Seq.{take-append-add, take-append-le}
use Rattle.program_input.proofs.read_full.Goals as goal

-- the buffer's front after a read: what was filled, and behind it what was read
front : (a k n : ℕ) (xs ys : List ℕ) → a ≤ length xs → n ≤ length ys
    → take (a + n) (put_mid a k xs ys) ≡ take a xs ++ take n ys
front a k n xs ys within fits =
    ap (λ m. take (m + n) (put_mid a k xs ys)) (sym (length-take-le a xs within))
    ∙ take-append-add (take a xs) (ys ++ post_of a k xs) n
    ∙ ap (λ l. take a xs ++ l) (take-append-le n ys (post_of a k xs) fits)

filled_on : (old mid new : Option (List ℕ)) (a n : ℕ) (xs ys : List ℕ) → a ≤ length xs → n ≤ length ys
    → Consumes old mid (take a xs) → Consumes mid new (take n ys)
    → Consumes old new (take (a + n) (put_mid a (length xs - a) xs ys))
filled_on old mid new a n xs ys within fits before read =
    subst (Consumes old new) (sym (front a (length xs - a) n xs ys within fits)) (Consumes-trans _ _ _ _ _ before read)

pub loop-at-preserved : goal.loop-at-preserved
loop-at-preserved g c =
    let before = c.loop-at.invariant in (
      search rules,
      search rules,
      filled_on _ _ _ c.loop-at.at c.in_ok-n.n c.loop-at.buf c.read.new.buf before.1 c.in_ok-n.ensures.bound.0 before.2
          c.in_ok-n.ensures.bytes.0,
    )
