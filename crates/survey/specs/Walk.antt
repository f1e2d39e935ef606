-- The walk over the blocks: a cell alone (`cell_walked`), and a block from its four quarters (`block_walked`).
use Rattle.std.specs.Prelude.{◌≡◌, refl, Bool, true, false, cond, List, ℕ, suc, ◌+◌, ◌*◌, ◌-◌, ◌^◌, ◌≤◌, ◌<◌, eqb}
use Rattle.std.specs.Prelude.{length, get_or, set, ℤ, ◌+ℤ◌, nat_abs}
use Rattle.std.proofs.Common.{sym, ap, ◌∙◌, arith, add-one, mul-le-mul, mul-le-mul_right, eq-eqb, ne_eqb, length-set}
use Rattle.std.proofs.Common.{get_or-set_same, get_or-set_other, pow_mono}
use Rattle.std.proofs.Math.Nat.{pow-succ'}
use Rattle.std.proofs.Math.Decide.{ℕ_discrete}
use Rattle.definition.specs.Blocks.{block_sum_z, grey_at, burnt_at}
use Rattle.definition.specs.Survey.{error_at, squared}
use Rattle.integers.specs.Totals.{TotalZ, add_z, read}
use Rattle.quadtree.specs.Levels.{quadruple, cells_few}
use Rattle.quadtree.specs.Quarters.{block_z_quarters, block_z_cell}
use Rattle.blocks.specs.Blocks.{BlockAsked}
use Rattle.survey.specs.Errors.{cell_error, word}
use Rattle.survey.specs.BlockErrors.{cells, share, quarter_most, added}
use Rattle.survey.specs.BlockErrors.{Room, WalkAsked, AddAsked, JoinAsked, Joined, Walked}
use Rattle.survey.specs.Within.{within, square_of, within_quarters, within_coarser, within_quarters_lem, within_cell}

length_added : (l : List ℕ) (k v : ℕ) → length (added l k v) ≡ length l
unfolding added
length_added l k v = length-set l k (get_or l k 0 + v)

added_at : (l : List ℕ) (k v : ℕ) → k < length l → (i : ℕ) → get_or (added l k v) i 0 ≡ get_or l i 0
    + cond (eqb i k) v 0
unfolding added
added_at l k v h i = go (ℕ_discrete i k)
  where
    go : Dec (i ≡ k) → get_or (set l k (get_or l k 0 + v)) i 0 ≡ get_or l i 0 + cond (eqb i k) v 0
    go (yes e) = rw (e, eq-eqb k k refl) (get_or-set_same l k (get_or l k 0 + v) 0 h)
    go (no e) = rw (ne_eqb i k e) (get_or-set_other l k i (get_or l k 0 + v) 0 e ∙ omega arith)

-- the square of a small number is small
squared_most : (e : ℤ) (m : ℕ) → nat_abs e ≤ m → squared e ≤ m * m
unfolding squared
squared_most e m h = mul-le-mul h h

-- what a square adds to the sum of its level, where its error is at most 255 for each of n cells
own_most : (e : ℤ) (n : ℕ) → n ≤ 65536 → nat_abs e ≤ 255 * n → squared e ≤ share * n
own_most e n few h = omega (arith, squared_most e (255 * n) h, mul-le-mul_right n few)

-- a number in a place of the list, or none
cond_most : (t : Bool) {v m : ℕ} → v ≤ m → cond t v 0 ≤ m
cond_most true h = h
cond_most false h = omega arith

-- a walk whose error is returned, as a word
pub returned : {lent r k a b : ℕ} {f : ℕ → ℕ → ℤ} {before after : List ℕ} {e : ℤ} → BlockAsked lent r k a b
    → Walked r f k a b before e after → Walked r f k a b before (word e) after
returned {r = r} {k} h w =
    let few = cells_few (r - k) (omega (arith, h.powers)) in
    record { error = read w.error (omega arith); long = w.long; sums = w.sums; most = w.most }

-- ════ a cell alone

cells_one : (r : ℕ) → cells r r ≡ 1
cells_one r = let z : r - r ≡ 0 = omega arith in rw z

pub cell_add : {lent r a b : ℕ} {sums : List ℕ} (e : ℤ) → BlockAsked lent r r a b → Room r r sums → nat_abs e ≤ 255
    → AddAsked sums r e
cell_add {r = r} e h room small =
    record {
      level = h.powers;
      small = omega arith;
      fits = omega (arith, room.room r, own_most e 1 (omega arith) small, cells_one r);
    }

pub cell_walked : {lent r a b side : ℕ} (greys serials : List ℕ) {before after : List ℕ} {e : ℤ}
    → BlockAsked lent r r a b → Room r r before → side ≡ 2 ^ r
    → TotalZ (cell_error (get_or greys (a * side + b) 0) (get_or serials (a * side + b) 0)) 255 e
    → after ≡ added before r (squared e)
    → Walked r (error_at r greys serials) r a b before e after
unfolding error_at grey_at burnt_at
cell_walked {r = r} {a} {b} greys serials {before} {e = e} h room es d s =
    let f = error_at r greys serials in
    let is : e ≡ block_sum_z r f r a b = d.is ∙ rw es (sym (block_z_cell r f a b)) in
    let own : squared e ≡ square_of r f r a b = ap squared is in
    let at = added_at before r (squared e) (omega (arith, room.nine, h.powers)) in
    rw s
    (record {
      error = record { is = is; small = omega (arith, d.small, cells_one r) };
      long = length_added before r (squared e);
      sums = λ i. at i ∙ rw (own, within_cell r f a b i);
      most = λ i.
          omega (arith, at i, cond_most (eqb i r) (own_most e 1 (omega arith) d.small), cells_one r);
    })

-- ════ a block of level k, from its four quarters, which are blocks of the level below

-- the quarters are no cells, and have quarters
pub deeper : {lent r k a b : ℕ} {sums : List ℕ} → BlockAsked lent r k a b → Room r k sums → (k ≡ r → ⊥)
    → WalkAsked lent r k (k + 1) a b sums
deeper {r = r} {k} h room n =
    record { block = h; next = refl; level = omega (arith, h.level); room = room }

module _ {lent r k below a b : ℕ} {l₀ : List ℕ} (h : WalkAsked lent r k below a b l₀) where
  cells_four : cells r k ≡ 4 * cells r below
  cells_four =
      let e : r - k ≡ suc (r - below) = omega (arith, h.next, h.level) in
      rw e (quadruple (r - below))

  cells_quarter : cells r below ≤ 16384
  cells_quarter =
      let e : r - below ≤ 7 = omega (arith, h.next, h.level, h.block.powers) in
      let side : 2 ^ (r - below) ≤ 128 = pow_mono {i = r - below} {j = 7} e in
      mul-le-mul side side

  -- its quarters
  pub quarter_asked : (x y : ℕ) → x < 2 * a + 2 → y < 2 * b + 2 → BlockAsked lent r below x y
  quarter_asked x y u v =
      let two : 2 ^ below ≡ 2 * 2 ^ k = rw (h.next, add-one k) (pow-succ' 2 k) in
      record {
        power = h.block.power;
        powers = h.block.powers;
        level = h.level;
        above = omega (arith, two, h.block.above);
        before = omega (arith, two, h.block.before);
        room = h.block.room;
      }

  -- room for each of them, after those before it
  pub room_first : Room r below l₀
  room_first = record { nine = h.room.nine; room = λ i. omega (arith, h.room.room i, cells_four) }

  module _ {f : ℕ → ℕ → ℤ} {a₁ b₁ : ℕ} {p : ℤ} {l₁ : List ℕ} (hp : Walked r f below a₁ b₁ l₀ p l₁) where
    pub room_second : Room r below l₁
    room_second =
        record {
          nine = hp.long ∙ h.room.nine;
          room = λ i. omega (arith, h.room.room i, hp.most i, cells_four);
        }

    module _ {a₂ b₂ : ℕ} {q : ℤ} {l₂ : List ℕ} (hq : Walked r f below a₂ b₂ l₁ q l₂) where
      pub room_third : Room r below l₂
      room_third =
          record {
            nine = hq.long ∙ room_second.nine;
            room = λ i. omega (arith, h.room.room i, hp.most i, hq.most i, cells_four);
          }

      module _ {a₃ b₃ : ℕ} {s : ℤ} {l₃ : List ℕ} (hs : Walked r f below a₃ b₃ l₂ s l₃) where
        pub room_fourth : Room r below l₃
        room_fourth =
            record {
              nine = hs.long ∙ room_third.nine;
              room = λ i. omega (arith, h.room.room i, hp.most i, hq.most i, hs.most i, cells_four);
            }

        module _ {a₄ b₄ : ℕ} {t : ℤ} {l₄ : List ℕ} (ht : Walked r f below a₄ b₄ l₃ t l₄) where
          -- the errors of the quarters, as words, and their sum
          as_word : {v z : ℤ} → TotalZ v (255 * cells r below) z → TotalZ v (255 * cells r below) (word z)
          as_word d = read d (omega (arith, cells_quarter))

          small : {v z : ℤ} → TotalZ v (255 * cells r below) z → nat_abs (word z) ≤ quarter_most
          small d = omega (arith, (as_word d).small, cells_quarter)

          abbrev four : ℤ
          four = word p +ℤ word q +ℤ word s +ℤ word t

          abbrev sums_of : ℤ
          sums_of =
              block_sum_z r f below a₁ b₁ +ℤ block_sum_z r f below a₂ b₂
              +ℤ block_sum_z r f below a₃ b₃ +ℤ block_sum_z r f below a₄ b₄

          four_error : TotalZ sums_of (255 * cells r k) four
          four_error =
              let two = add_z (as_word hp.error) (as_word hq.error) in
              let all = add_z (add_z two (as_word hs.error)) (as_word ht.error) in
              record { is = all.is; small = omega (arith, all.small, cells_four) }

          own : squared four ≤ share * cells r k
          own = own_most four (cells r k) (omega (arith, cells_four, cells_quarter)) four_error.small

          -- the quarters add nothing to the sum of the block's own level
          kept : get_or l₄ k 0 ≡ get_or l₀ k 0
          kept =
              let none = within_coarser r f below in
              let lt : k < below = omega (arith, h.next) in
              omega (
                arith,
                hp.sums k,
                hq.sums k,
                hs.sums k,
                ht.sums k,
                none a₁ b₁ k lt,
                none a₂ b₂ k lt,
                none a₃ b₃ k lt,
                none a₄ b₄ k lt,
              )

          pub join_asked : JoinAsked l₄ k (word p) (word q) (word s) (word t)
          join_asked =
              record {
                level = omega (arith, h.block.level, h.block.powers);
                small_p = small hp.error;
                small_q = small hq.error;
                small_s = small hs.error;
                small_t = small ht.error;
                fits = omega (arith, kept, own, h.room.room k);
              }

          module _ {e : ℤ} {after : List ℕ} (j : Joined l₄ k (word p) (word q) (word s) (word t) e after) where
            long : length after ≡ length l₀
            long = ap length j.sums ∙ length_added l₄ k (squared e) ∙ ht.long ∙ hs.long ∙ hq.long ∙ hp.long

            at : (i : ℕ) → get_or after i 0 ≡ get_or l₄ i 0 + cond (eqb i k) (squared e) 0
            at i =
                let nine = ht.long ∙ room_fourth.nine in
                let lt : k < length l₄ = omega (arith, nine, h.block.level, h.block.powers) in
                ap (λ (l : List ℕ). get_or l i 0) j.sums ∙ added_at l₄ k (squared e) lt i

            most : (i : ℕ) → Dec (i ≡ k) → get_or after i 0 ≤ get_or l₀ i 0 + share * cells r k
            most i (yes z) =
                let few : squared e ≤ share * cells r k = rw j.error own in
                rw z (omega (arith, at k, cond_most (eqb k k) few, kept))
            most i (no z) =
                let other : cond (eqb i k) (squared e) 0 ≡ 0 = rw (ne_eqb i k z) in
                omega (arith, at i, other, hp.most i, hq.most i, hs.most i, ht.most i, cells_four)

  -- the block, of which these are the quarters
  module _ {f : ℕ → ℕ → ℤ} {p q s t e : ℤ} {l₁ l₂ l₃ l₄ after : List ℕ}
      (hp : Walked r f below (2 * a) (2 * b) l₀ p l₁)
      (hq : Walked r f below (2 * a) (2 * b + 1) l₁ q l₂)
      (hs : Walked r f below (2 * a + 1) (2 * b) l₂ s l₃)
      (ht : Walked r f below (2 * a + 1) (2 * b + 1) l₃ t l₄)
      (j : Joined l₄ k (word p) (word q) (word s) (word t) e after) where
    error : TotalZ (block_sum_z r f k a b) (255 * cells r k) e
    error =
        let d = four_error hp hq hs ht in
        let whole = block_z_quarters r f k a b (omega (arith, h.next, h.level)) in
        rw j.error (record { is = d.is ∙ rw (h.next, add-one k) (sym whole); small = d.small })

    quarters : (i : ℕ) → get_or l₄ i 0 ≡ get_or l₀ i 0 + within_quarters r f k a b i
    quarters i = rw (← h.next) (omega (arith, hp.sums i, hq.sums i, hs.sums i, ht.sums i))

    sums : (i : ℕ) → get_or l₄ i 0 + cond (eqb i k) (square_of r f k a b) 0 ≡ get_or l₀ i 0 + within r f k a b i
    sums i = omega (arith, quarters i, within_quarters_lem r f k a b i h.block.level)

    pub block_walked : Walked r f k a b l₀ (word e) after
    block_walked =
        let own_square : squared e ≡ square_of r f k a b = ap squared error.is in
        returned h.block
        (record {
          error = error;
          long = long hp hq hs ht j;
          sums = λ i. at hp hq hs ht j i ∙ rw own_square (sums i);
          most = λ i. most hp hq hs ht j i (ℕ_discrete i k);
        })
