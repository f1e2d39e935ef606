-- A level renewed at some places, and all that is over them: as stores into the pyramid (`four_made`, `one_made`), and
-- as the renewal by place (`layouts`) has it (`renewed_is`, `all_made`).
use Rattle.std.specs.Prelude.{◌≡◌, refl, ◌⊎◌, Bool, true, false, not, ◌||◌, drop, set, ℤ, pos}
use Rattle.std.proofs.Common.{sym, ◌∙◌, length-set, take-append-drop, get_or-set_same, set-set, length-take-le}
use Rattle.std.proofs.Common.{get_or-drop, ext_get_or, take_at, drop_at}
use Rattle.std.proofs.Math.Path.{ap, ap₂}
use Rattle.std.proofs.Math.Logic.{inl, inr}
use Rattle.std.proofs.Math.Bool.{cond}
use mathlib.Core.List.{List, ◌++◌, append_assoc}
use Prim.Native.Nat.{ℕ, zero, suc, ◌+◌, ◌*◌, ◌-◌, ◌^◌, ◌≤◌, ◌<◌}
use native.Mathlib.Omega.{arith}
use Rattle.std.proofs.Math.Decide.{ℕ_discrete, dec_lt}
use Rattle.std.proofs.Math.Dec.{T, eqb}
use Rattle.std.proofs.Math.ListN.{length, get_or, take, length-append, length-drop, get_or-append}
use Rattle.std.proofs.Math.Seq.{get_or-take, get_or-append-add, take-take}
use Rattle.std.proofs.lemmas.List.{drop-append-le}
use Rattle.std.proofs.Math.IntN.{◌+ℤ◌}
use Rattle.definition.specs.Lists.{tabulate}
use Rattle.definition.specs.Pyramid.{start}
use Rattle.integers.specs.Lists.{length_tabulate, get_d_tabulate, tabulate_ext}
use Rattle.integers.specs.Tests.{tests, T_or, or_T, T_or_not, cond_T, cond_not}
use Rattle.quadtree.specs.Levels.{start_suc}
use Rattle.layouts.specs.Sums.{four_from}
use Rattle.layouts.specs.Renewed.{over_chosen, quarters_renewed}
use Rattle.pyramid.specs.PyramidPart.{four_at}
use Rattle.renewal.specs.OverPlaces.{either_of, chosen_of, at, below, level_made, made, made_up, four_renewed, InLevel}
use Rattle.renewal.specs.Places.{elsewhere}
use Rattle.renewal.specs.Chosen.{start_four}

-- ---- the entries of a pyramid with one level made, place by place
module _ (k : ℕ) (chosen : ℕ → Bool) (p : List ℤ) (room : start (suc k) ≤ length p) where
  abbrev level : List ℤ
  level = level_made k chosen p

  abbrev back : List ℤ
  back = drop (start (suc k)) p

  level_long : length level ≡ 2 ^ k * 2 ^ k
  unfolding level_made
  level_long = length_tabulate 0 (2 ^ k * 2 ^ k) _

  head_long : length (take (start k) p) ≡ start k
  head_long = length-take-le (start k) p (omega (arith, start_suc k))

  pub made_long : length (made k chosen p) ≡ length p
  unfolding made
  made_long =
      omega (
        arith,
        length-append (take (start k) p) (level ++ back),
        length-append level back,
        head_long,
        level_long,
        length-drop (start (suc k)) p,
        start_suc k,
      )

  pub made_before : (i : ℕ) → i < start k → at (made k chosen p) i ≡ at p i
  unfolding made
  made_before i lt =
      get_or-append (take (start k) p) (level ++ back) (pos 0) i (omega (arith, head_long))
      ∙ get_or-take (start k) p i (pos 0) lt

  made_behind : (i : ℕ) → at (made k chosen p) (start k + i) ≡ get_or (level ++ back) i (pos 0)
  unfolding made
  made_behind i =
      let e : start k + i ≡ length (take (start k) p) + i = omega (arith, head_long) in
      ap (λ (n : ℕ). get_or (take (start k) p ++ (level ++ back)) n (pos 0)) e
      ∙ get_or-append-add (take (start k) p) (level ++ back) i (pos 0)

  pub made_level : (j : ℕ) → j < 2 ^ k * 2 ^ k
      → at (made k chosen p) (start k + j) ≡ cond (chosen j) (below p (start k + j)) (at p (start k + j))
  unfolding level_made
  made_level j lt =
      made_behind j ∙ get_or-append level back (pos 0) j (omega (arith, level_long))
      ∙ get_d_tabulate (2 ^ k * 2 ^ k) _ j (pos 0) lt

  pub made_after : (i : ℕ) → start (suc k) ≤ i → at (made k chosen p) i ≡ at p i
  made_after i le =
      let j = i - start (suc k) in
      let e : i ≡ start k + (length level + j) = omega (arith, level_long, start_suc k) in
      let f : start (suc k) + j ≡ i = omega arith in
      ap (at (made k chosen p)) e ∙ made_behind (length level + j) ∙ get_or-append-add level back j (pos 0)
      ∙ get_or-drop (start (suc k)) p j (pos 0) ∙ ap (at p) f

  -- a list that has these entries is that pyramid
  pub made_is : (l : List ℤ) → length l ≡ length p → ((i : ℕ) → i < start k → at l i ≡ at p i)
      → ((j : ℕ) → j < 2 ^ k * 2 ^ k
      → at l (start k + j) ≡ cond (chosen j) (below p (start k + j)) (at p (start k + j)))
      → ((i : ℕ) → start (suc k) ≤ i → at l i ≡ at p i)
      → l ≡ made k chosen p
  made_is l long before level after = ext_get_or (pos 0) l (made k chosen p) (long ∙ sym made_long) (λ i lt. go i)
    where
      inner : (i : ℕ) → start k ≤ i → Dec (i < start (suc k)) → at l i ≡ at (made k chosen p) i
      inner i le (yes m) =
          let e : start k + (i - start k) ≡ i = omega arith in
          let lt : i - start k < 2 ^ k * 2 ^ k = omega (arith, start_suc k) in
          rw e at (level (i - start k) lt ∙ sym (made_level (i - start k) lt))
      inner i le (no m) = after i (omega arith) ∙ sym (made_after i (omega arith))

      outer : (i : ℕ) → Dec (i < start k) → at l i ≡ at (made k chosen p) i
      outer i (yes m) = before i m ∙ sym (made_before i m)
      outer i (no m) = inner i (omega arith) (dec_lt i (start (suc k)))

      go : (i : ℕ) → at l i ≡ at (made k chosen p) i
      go i = outer i (dec_lt i (start k))

both : (b : Bool) → T b → T (not b) → ⊥
both true t u = u
both false t u = t

-- ---- four entries of a level stored are that level made
module _ (k : ℕ) (p : List ℤ) (room : start (suc k) ≤ length p) (a b c d : ℕ)
    (a_in : InLevel k a) (b_in : InLevel k b) (c_in : InLevel k c) (d_in : InLevel k d) where
  abbrev chosen : ℕ → Bool
  chosen = chosen_of (a - start k) (b - start k) (c - start k) (d - start k)

  abbrev p₁ : List ℤ
  p₁ = set p a (below p a)

  abbrev p₂ : List ℤ
  p₂ = set p₁ b (below p b)

  abbrev p₃ : List ℤ
  p₃ = set p₂ c (below p c)

  abbrev p₄ : List ℤ
  p₄ = four_renewed p a b c d

  long₁ : length p₁ ≡ length p
  long₁ = length-set p a (below p a)

  long₂ : length p₂ ≡ length p
  long₂ = length-set p₁ b (below p b) ∙ long₁

  long₃ : length p₃ ≡ length p
  long₃ = length-set p₂ c (below p c) ∙ long₂

  long₄ : length p₄ ≡ length p
  long₄ = length-set p₃ d (below p d) ∙ long₃

  -- a place that is none of the four
  others : (i : ℕ) → (i ≡ a → ⊥) → (i ≡ b → ⊥) → (i ≡ c → ⊥) → (i ≡ d → ⊥) → at p₄ i ≡ at p i
  others i w x y z =
      elsewhere p₃ d (below p d) i z ∙ elsewhere p₂ c (below p c) i y ∙ elsewhere p₁ b (below p b) i x
      ∙ elsewhere p a (below p a) i w

  -- a place that is one of them
  abbrev One : ℕ → Type 0
  One i = (i ≡ a) ⊎ ((i ≡ b) ⊎ ((i ≡ c) ⊎ (i ≡ d)))

  stored : (i : ℕ) → One i → at p₄ i ≡ below p i
  stored i one = go (ℕ_discrete i d) (ℕ_discrete i c) (ℕ_discrete i b) one
    where
      last : (i ≡ d → ⊥) → at p₄ i ≡ at p₃ i
      last x = elsewhere p₃ d (below p d) i x

      third : (i ≡ c → ⊥) → at p₃ i ≡ at p₂ i
      third x = elsewhere p₂ c (below p c) i x

      second : (i ≡ b → ⊥) → at p₂ i ≡ at p₁ i
      second x = elsewhere p₁ b (below p b) i x

      go : Dec (i ≡ d) → Dec (i ≡ c) → Dec (i ≡ b) → One i → at p₄ i ≡ below p i
      go (yes e) s t one =
          rw e (get_or-set_same p₃ d (below p d) (pos 0) (omega (arith, long₃, d_in.to)))
      go (no x) (yes e) t one =
          last x ∙ rw e (get_or-set_same p₂ c (below p c) (pos 0) (omega (arith, long₂, c_in.to)))
      go (no x) (no y) (yes e) one =
          last x ∙ third y ∙ rw e (get_or-set_same p₁ b (below p b) (pos 0) (omega (arith, long₁, b_in.to)))
      go (no x) (no y) (no z) (inl e) =
          last x ∙ third y ∙ second z ∙ rw e (get_or-set_same p a (below p a) (pos 0) (omega (arith, a_in.to)))
      go (no x) (no y) (no z) (inr (inl e)) = absurd (z e)
      go (no x) (no y) (no z) (inr (inr (inl e))) = absurd (y e)
      go (no x) (no y) (no z) (inr (inr (inr e))) = absurd (x e)

  chosen_one : (j : ℕ) → T (chosen j) → One (start k + j)
  unfolding chosen_of either_of
  chosen_one j t = four (T_or (eqb j (a - start k) || eqb j (b - start k)) _ t)
    where
      top : T (eqb j (a - start k)) ⊎ T (eqb j (b - start k)) → One (start k + j)
      top (inl e) = inl (omega (tests, a_in.from))
      top (inr e) = inr (inl (omega (tests, b_in.from)))

      low : T (eqb j (c - start k)) ⊎ T (eqb j (d - start k)) → One (start k + j)
      low (inl e) = inr (inr (inl (omega (tests, c_in.from))))
      low (inr e) = inr (inr (inr (omega (tests, d_in.from))))

      four : T (eqb j (a - start k) || eqb j (b - start k)) ⊎ T (eqb j (c - start k) || eqb j (d - start k))
          → One (start k + j)
      four (inl e) = top (T_or (eqb j (a - start k)) (eqb j (b - start k)) e)
      four (inr e) = low (T_or (eqb j (c - start k)) (eqb j (d - start k)) e)

  one_chosen : (j : ℕ) → One (start k + j) → T (chosen j)
  unfolding chosen_of either_of
  one_chosen j one =
      or_T (eqb j (a - start k) || eqb j (b - start k)) (eqb j (c - start k) || eqb j (d - start k)) (go one)
    where
      go : One (start k + j)
          → T (eqb j (a - start k) || eqb j (b - start k)) ⊎ T (eqb j (c - start k) || eqb j (d - start k))
      go (inl e) = inl (or_T (eqb j (a - start k)) (eqb j (b - start k)) (inl (omega tests)))
      go (inr (inl e)) = inl (or_T (eqb j (a - start k)) (eqb j (b - start k)) (inr (omega tests)))
      go (inr (inr (inl e))) = inr (or_T (eqb j (c - start k)) (eqb j (d - start k)) (inl (omega tests)))
      go (inr (inr (inr e))) = inr (or_T (eqb j (c - start k)) (eqb j (d - start k)) (inr (omega tests)))

  unchosen : (j : ℕ) → T (not (chosen j)) → at p₄ (start k + j) ≡ at p (start k + j)
  unchosen j t =
      let none : One (start k + j) → ⊥ = λ one. both (chosen j) (one_chosen j one) t in
      others (start k + j) (λ e. none (inl e)) (λ e. none (inr (inl e))) (λ e. none (inr (inr (inl e))))
      (λ e. none (inr (inr (inr e))))

  pub four_made : p₄ ≡ made k chosen p
  four_made =
      made_is k chosen p room p₄ long₄
      (λ i lt.
      others i (λ e. omega (arith, a_in.from)) (λ e. omega (arith, b_in.from)) (λ e. omega (arith, c_in.from))
      (λ e. omega (arith, d_in.from)))
      (λ j lt. go j (T_or_not (chosen j)))
      (λ i le.
      others i (λ e. omega (arith, a_in.to)) (λ e. omega (arith, b_in.to)) (λ e. omega (arith, c_in.to))
      (λ e. omega (arith, d_in.to)))
    where
      go : (j : ℕ) → T (chosen j) ⊎ T (not (chosen j))
          → at p₄ (start k + j) ≡ cond (chosen j) (below p (start k + j)) (at p (start k + j))
      go j (inl t) = stored (start k + j) (chosen_one j t) ∙ sym (cond_T (chosen j) _ _ t)
      go j (inr t) = unchosen j t ∙ sym (cond_not (chosen j) _ _ t)

-- so is one by itself
pub one_made : (k : ℕ) (p : List ℤ) → start (suc k) ≤ length p → (a : ℕ) → InLevel k a
    → set p a (below p a) ≡ made k (chosen_of (a - start k) (a - start k) (a - start k) (a - start k)) p
one_made k p room a a_in =
    let v = below p a in
    let once : set (set p a v) a v ≡ set p a v = set-set p a v v in
    sym (rw (once, once, once) refl) ∙ four_made k p room a a a a a_in a_in a_in a_in

-- ---- made up to the top is the renewal by place
first_long : (k : ℕ) (chosen : ℕ → Bool) (p : List ℤ) → start (suc (suc k)) ≤ length p
    → length (take (start (suc k)) p ++ level_made (suc k) chosen p) ≡ start (suc (suc k))
first_long k chosen p room =
    omega (
      arith,
      length-append (take (start (suc k)) p) (level_made (suc k) chosen p),
      head_long (suc k) chosen p room,
      level_long (suc k) chosen p room,
      start_suc (suc k),
    )

module _ (k : ℕ) (chosen : ℕ → Bool) (p : List ℤ) (room : start (suc (suc k)) ≤ length p) where
  -- the pyramid of power k + 1 with which p begins
  abbrev head : List ℤ
  head = take (start (suc (suc k))) p

  abbrev cells : List ℤ
  cells = drop (start (suc k)) head

  abbrev tail : List ℤ
  tail = drop (start (suc (suc k))) p

  abbrev up : ℕ → Bool
  up = over_chosen chosen

  cells_at : (i : ℕ) → start (suc k) + i < start (suc (suc k)) → get_or cells i (pos 0) ≡ at p (start (suc k) + i)
  cells_at i lt = get_or-drop (start (suc k)) head i (pos 0) ∙ get_or-take (start (suc (suc k))) p _ (pos 0) lt

  finer : start (suc (suc k)) ≡ start (suc k) + 4 * (2 ^ k * 2 ^ k)
  finer = omega (arith, start_four (suc k), start_four k, start_suc k)

  one : (i n m : ℕ) → i < 2 ^ k * 2 ^ k → n ≤ 4 * i + 3 → m ≡ start (suc k) + n → get_or cells n (pos 0) ≡ at p m
  one i n m lt le e = cells_at n (omega (arith, finer)) ∙ ap (at p) (sym e)

  four_same : (i : ℕ) → i < 2 ^ k * 2 ^ k → four_from cells i ≡ below p (start k + i)
  unfolding four_from four_at
  four_same i lt =
      let e = start_four k in
      ap₂ ◌+ℤ◌
      (ap₂ ◌+ℤ◌
      (ap₂ ◌+ℤ◌ (one i (4 * i) _ lt (omega arith) (omega arith)) (one i (4 * i + 1) _ lt (omega arith) (omega arith)))
      (one i (4 * i + 2) _ lt (omega arith) (omega arith)))
      (one i (4 * i + 3) _ lt (omega arith) (omega arith))

  level_same :
      tabulate (2 ^ k * 2 ^ k) (λ i. cond (up i) (four_from cells i) (get_or head (start k + i) (pos 0)))
      ≡ level_made k up p
  unfolding level_made
  level_same =
      tabulate_ext (2 ^ k * 2 ^ k) _ _ (λ i lt.
      ap₂ (cond (up i)) (four_same i lt)
      (get_or-take (start (suc (suc k))) p (start k + i) (pos 0) (omega (arith, finer, start_suc k))))

  -- the renewed pyramid of power k + 1, with what lies behind it
  whole_long : length head ≡ start (suc (suc k))
  whole_long = length-take-le (start (suc (suc k))) p room

  behind : cells ++ tail ≡ drop (start (suc k)) p
  behind =
      sym (drop-append-le (start (suc k)) head tail (omega (arith, whole_long, finer)))
      ∙ ap (drop (start (suc k))) (take-append-drop (start (suc (suc k))) p)

  pub renewed_is : quarters_renewed (suc k) chosen head ++ tail
      ≡ quarters_renewed k up (take (start k) p ++ level_made k up p) ++ drop (start (suc k)) p
  unfolding quarters_renewed
  renewed_is =
      let shorter : take (start k) head ≡ take (start k) p =
      take-take (start k) (start (suc (suc k))) p (omega (arith, finer, start_suc k)) in
      append_assoc
      (quarters_renewed k up
      (take (start k) head
      ++ tabulate (2 ^ k * 2 ^ k) (λ i. cond (up i) (four_from cells i) (get_or head (start k + i) (pos 0)))))
      cells tail
      ∙ ap₂ ◌++◌ (ap₂ (λ (x y : List ℤ). quarters_renewed k up (x ++ y)) shorter level_same) behind

pub all_made : (k : ℕ) (chosen : ℕ → Bool) (p : List ℤ) → start (suc (suc k)) ≤ length p
    → quarters_renewed (suc k) chosen (take (start (suc (suc k))) p) ++ drop (start (suc (suc k))) p
    ≡ made_up k (over_chosen chosen) p
unfolding made_up made
all_made zero chosen p room =
    renewed_is zero chosen p room
    ∙ unfold quarters_renewed in append_assoc (take (start zero) p) (level_made zero (over_chosen chosen) p) _
all_made (suc k) chosen p room =
    let over = over_chosen chosen in
    let next = made (suc k) over p in
    let first = take (start (suc k)) p ++ level_made (suc k) over p in
    let rest = drop (start (suc (suc k))) p in
    let enough : start (suc (suc k)) ≤ length p = omega (arith, start_suc (suc (suc k))) in
    let split : next ≡ first ++ rest = sym (append_assoc (take (start (suc k)) p) (level_made (suc k) over p) rest) in
    let long : length first ≡ start (suc (suc k)) = first_long k over p enough in
    let front : take (start (suc (suc k))) next ≡ first =
    ap (take (start (suc (suc k)))) split ∙ take_at first rest _ long in
    let back : drop (start (suc (suc k))) next ≡ rest =
    ap (drop (start (suc (suc k)))) split ∙ drop_at first rest _ long in
    let room' : start (suc (suc k)) ≤ length next = omega (arith, made_long (suc k) over p enough) in
    renewed_is (suc k) chosen p room
    ∙ sym (ap₂ (λ (x y : List ℤ). quarters_renewed (suc k) over x ++ y) front back)
    ∙ all_made k over next room'
