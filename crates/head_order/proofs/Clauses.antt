-- Each clause of what is promised by itself, with its figures written out: no field can be taken out of `HeadsHold` or
-- `OwnCells`, and no figure in them changed, unseen. The last law, `everyone`, says what is accepted.
use Rattle.std.specs.Prelude.{◌≡◌, ◌≢◌, true, List, [], ◌∷◌, ℕ, suc, ◌+◌, ◌*◌, ◌-◌, ◌/◌, ◌^◌, ◌≤◌, ◌<◌, length, get_or}
use Rattle.std.specs.Prelude.{take, drop, ℤ, pos, ◌+ℤ◌}
use Rattle.std.proofs.Common.{sym, ap, ◌∙◌, arith, pow_mono}
use Rattle.definition.specs.Answers.{returned}
use Rattle.definition.specs.Pyramid.{needed, cell_count, entry}
use Rattle.definition.specs.Blocks.{burnt_at, grey_total, all_dots}
use Rattle.definition.specs.Diffusion.{kernel_of}
use Rattle.definition.specs.Model.{Halftone, top_of}
use Rattle.definition.specs.Sound.{is_sound}
use Rattle.definition.specs.Refusals.{power_of}
use Rattle.definition.specs.Load.{low_map}
use Rattle.definition.specs.DrillList.{drill_text}
use Rattle.definition.specs.Quarters.{quarters_from}
use Rattle.definition.specs.ByQuarters.{drill_list_by_quarters}
use Rattle.definition.specs.Text.{TextOutcome}
use Rattle.integers.specs.Tests.{true_T}
use Rattle.refusals.specs.Powers.{power_of_pow}
use Rattle.dots.specs.SoundTest.{sound_test}
use Rattle.guarantee.proofs.Start.{accepted_loaded}
use Rattle.guarantee.proofs.Clauses as guarantee
use Rattle.shares.specs.Kernels.{knit_fit}
use Rattle.dots.proofs.Steps.{Sheet}
use Rattle.heads.specs.TwoHeads.{
  Macroblock,
  wanted,
  burns,
  work,
  work_all,
  macroblocks,
  two_heads_in,
  two_heads,
  TwoHeadsOutcome,
  two_heads_by_quarters,
}
use Rattle.head_order.specs.Promise.{Has, Agree, OwnCells, Reordered, HeadsAccepted, HeadsHold}
use Rattle.head_order.proofs.OwnCells.{own_cells, round_places_apart}
use Rattle.head_order.proofs.Checks.{heads_none}
use Rattle.head_order.proofs.Call.{none_accepted, heads_hold}

module _ (side knit : ℕ) (greys : List ℕ) (pyramid : List ℤ) (serials order : List ℕ)
    (h : HeadsAccepted side knit greys pyramid serials order) where
  abbrev r : ℕ
  r = power_of side

  abbrev out : TwoHeadsOutcome
  out = two_heads_by_quarters side knit greys pyramid serials order

  abbrev run : Halftone
  run = two_heads (kernel_of knit) (power_of side) greys

  holds : HeadsHold side knit (power_of side) greys pyramid serials order
      (two_heads_by_quarters side knit greys pyramid serials order) (two_heads (kernel_of knit) (power_of side) greys)
  holds = heads_hold side knit greys pyramid serials order h

  -- a side of 16, 32, 64, 128 or 256, and one of two knits
  pub large : 16 ≤ side
  large = omega (arith, holds.side_is, pow_mono {i = 4} {j = power_of side} holds.power)

  pub knit_known : knit ≤ 1
  knit_known = holds.known

  -- the answer
  pub record_is : out.progress ≡ record { side = side; dots = out.made; knit = knit }
  record_is = holds.progress

  pub debt_is_top : out.debt ≡ top_of out.pyramid
  debt_is_top = holds.top

  -- holes and debt together are the greys (S 15.15)
  pub adds_up : pos (65280 * out.made) +ℤ out.debt ≡ pos (256 * grey_total r greys)
  adds_up = holds.debt

  -- no cell is burnt twice, and no hole is missing on the sheet (S 15.15)
  pub no_cell_twice : (i j : ℕ) → i < j → j < out.made → get_or out.order i 0 ≢ get_or out.order j 0
  no_cell_twice = holds.once

  pub burnt_cells : all_dots r out.serials ≡ out.made
  burnt_cells = holds.all_dots_lem

  -- the buffers are the run's, and past their needed lengths as they were lent
  pub pyramid_is : take (needed r) out.pyramid ≡ quarters_from r run.pyramid
  pyramid_is = holds.pyramid

  pub serials_are : take (cell_count r) out.serials ≡ run.serials
  serials_are = holds.serials

  pub order_is : take (cell_count r) out.order ≡ run.order
  order_is = holds.order

  pub rest_stays : (drop (needed r) out.pyramid ≡ drop (needed r) pyramid)
      × (drop (cell_count r) out.serials ≡ drop (cell_count r) serials)
      × (drop (cell_count r) out.order ≡ drop (cell_count r) order)
  rest_stays = (holds.pyramid_rest, holds.serials_rest, holds.order_rest)

  -- it has come to its end: no round would make another hole (S 15.15)
  pub nothing_left : (t : ℕ) → work_all (kernel_of knit) r run (macroblocks r t) ≡ run
  nothing_left = holds.stopped

  -- every order: the macroblocks of each round in any permutation, another one each round
  module _ (turns : ℕ → List Macroblock) (each : (t : ℕ) → Reordered (macroblocks r t) (turns t)) where
    pub same_pyramid : quarters_from r (two_heads_in (kernel_of knit) r turns greys).pyramid
        ≡ take (needed r) out.pyramid
    same_pyramid = ap (quarters_from r) (holds.any_order turns each).pyramid ∙ sym holds.pyramid

    pub same_cells : (x y : ℕ) → x < 2 ^ r → y < 2 ^ r
        → burnt_at r (two_heads_in (kernel_of knit) r turns greys).serials x y
        ≡ burnt_at r (take (cell_count r) out.serials) x y
    same_cells x y i j =
        (holds.any_order turns each).cells x y i j
        ∙ ap (λ (l : List ℕ). burnt_at r l x y) (sym holds.serials)

  -- the sheet is sound, and Drill List prints it (S 15.15)
  pub sound_sheet : is_sound r run ≡ true
  sound_sheet = true_T (is_sound r run) (sound_test r run holds.sound)

  pub prints : (output : List ℕ) → length (drill_text r run) ≤ length output
      → (drill_list_by_quarters out.progress out.pyramid out.serials out.order output).said
      ≡ returned (length (drill_text r run) ∷ [])
  prints output room = ap (λ (o : TextOutcome). o.said) (holds.listed output room)

-- ---- two heads at the same time: the 64 cells of a macroblock written out
abbrev Inside : Macroblock → ℕ → ℕ → Type 0
Inside m x y = (4 * m.0 ≤ x) × (x < 4 * m.0 + 8) × (4 * m.1 ≤ y) × (y < 4 * m.1 + 8)

has_inside : (m : Macroblock) (x y : ℕ) → Inside m x y → Has m x y
has_inside m x y h =
    record { row = (omega (arith, h.0), omega (arith, h.1)); column = (omega (arith, h.2), omega (arith, h.3)) }

inside_has : (m : Macroblock) (x y : ℕ) → Has m x y → Inside m x y
inside_has m x y h =
    (omega (arith, h.row), omega (arith, h.row), omega (arith, h.column), omega (arith, h.column))

-- two macroblocks of one round have no cell in common
pub no_common_cell : (r t i j : ℕ) → i < j → j < length (macroblocks r t) → (x y : ℕ)
    → Inside (get_or (macroblocks r t) i (0, 0)) x y → Inside (get_or (macroblocks r t) j (0, 0)) x y → ⊥
no_common_cell r t i j lt k x y h l =
    (round_places_apart r t i j lt k).none x y (has_inside _ x y h) (has_inside _ x y l)

module _ (knit r : ℕ) (four≤ : 4 ≤ r) (s : Halftone) (sheet : Sheet r s) (m : Macroblock)
    (row : m.0 + 2 ≤ 2 ^ (r - 2)) (column : m.1 + 2 ≤ 2 ^ (r - 2)) where
  own : OwnCells (kernel_of knit) r s m
  own = own_cells (kernel_of knit) (knit_fit knit) r four≤ s sheet m (record { row = row; column = column })

  -- on another sheet with the same residuals in these cells it does the same, and leaves the same there
  module _ (t : Halftone) (sheet' : Sheet r t)
      (same : (x y : ℕ) → Inside m x y → entry s.pyramid r x y ≡ entry t.pyramid r x y) where
    agree : Agree r m s t
    agree x y h = same x y (inside_has m x y h)

    pub same_choice : (burns r s.pyramid m ≡ burns r t.pyramid m)
        × (wanted r s.pyramid m ≡ wanted r t.pyramid m)
    same_choice = own.reads t sheet' agree

    pub same_left : (x y : ℕ) → Inside m x y
        → entry (work (kernel_of knit) r s m).pyramid r x y ≡ entry (work (kernel_of knit) r t m).pyramid r x y
    same_left x y h = own.leaves t sheet' agree x y (has_inside m x y h)

    pub same_marks : (x y : ℕ) → Inside m x y → burnt_at r s.serials x y ≡ burnt_at r t.serials x y
        → burnt_at r (work (kernel_of knit) r s m).serials x y ≡ burnt_at r (work (kernel_of knit) r t m).serials x y
    same_marks x y h = own.marks t sheet' agree x y (has_inside m x y h)

  -- and it changes no other cell
  pub others_stay : (x y : ℕ) → x < 2 ^ r → y < 2 ^ r → (Inside m x y → ⊥)
      → (entry (work (kernel_of knit) r s m).pyramid r x y ≡ entry s.pyramid r x y)
      × (burnt_at r (work (kernel_of knit) r s m).serials x y ≡ burnt_at r s.serials x y)
  others_stay x y i j out = own.writes x y i j (λ h. out (inside_has m x y h))

-- the five sides, either knit, greys that are bytes and on the map at most 240, and buffers that are long enough
pub everyone : (r knit : ℕ) → 4 ≤ r → r ≤ 8 → knit ≤ 1
    → (greys : List ℕ) (pyramid : List ℤ) (serials order : List ℕ)
    → 2 ^ r * 2 ^ r ≤ length greys → (4 ^ suc r - 1) / 3 ≤ length pyramid
    → 2 ^ r * 2 ^ r ≤ length serials → 2 ^ r * 2 ^ r ≤ length order
    → ((i : ℕ) → i < length greys → get_or greys i 0 ≤ 255)
    → ((i : ℕ) → i < 2 ^ r * 2 ^ r → get_or greys i 0 ≤ 240)
    → HeadsAccepted (2 ^ r) knit greys pyramid serials order
everyone r knit least most known greys pyramid serials order g p s o bytes low =
    let loads = guarantee.everyone r knit (omega arith) most known greys pyramid serials order g p s o bytes low in
    let power : 4 ≤ power_of (2 ^ r) = rw (power_of_pow r (omega arith) most) least in
    let none = (accepted_loaded (2 ^ r) knit greys pyramid serials order loads).none in
    record {
      bytes = loads.bytes;
      said =
          none_accepted (2 ^ r) knit greys pyramid serials order
          ((heads_none (2 ^ r) knit (length greys) (length pyramid) (length serials) (length order)
          (low_map (power_of (2 ^ r)) greys)).1 (power, none));
    }
