-- The price list for every map that Load took before greys above 240 were refused (`loaded_before`), for either knit
-- and every list of calls. `Promised` has it from here for what Load accepts.
use Rattle.std.specs.Prelude.{◌≡◌, refl, ◌≢◌, ◌↔◌, false, ℕ, ◌+◌, ◌*◌, ◌-◌, ◌^◌, ◌≤◌, ◌<◌, get_or, drop, ℤ, pos}
use Rattle.std.proofs.Math.Path.{sym, ap}
use Rattle.std.proofs.Common.{◌∙◌, zero-add, add-sub_cancel, pow_mono, take_at, drop_at}
use mathlib.Core.List.{List, [], ◌∷◌, ◌++◌}
use native.Mathlib.Omega.{arith}
use Rattle.std.proofs.Math.Nat.{zero-mul}
use Rattle.std.proofs.Math.ListN.{get_or-append}
use Rattle.definition.specs.Lists.{sum_to}
use Rattle.definition.specs.Answers.{finished}
use Rattle.definition.specs.Pyramid.{cell_count, cell_number, needed}
use Rattle.definition.specs.Blocks.{grey_at, burnt, burnt_at, grey_sum, grey_total, total_of, dots_in, all_dots}
use Rattle.definition.specs.Diffusion.{kernel_of}
use Rattle.definition.specs.Model.{Halftone, top_of, model_start}
use Rattle.definition.specs.Refusals.{power_of}
use Rattle.definition.specs.Advance.{dots_due}
use Rattle.definition.specs.Quarters.{quarters_from}
use Rattle.definition.specs.AdvanceList.{
  Call,
  call_of,
  outcomes_of,
  replies_of,
  model_call,
  model_reply,
  model_after_calls,
  model_replies,
  is_refusal,
}
use Rattle.integers.specs.Linear.{zz, ints}
use Rattle.integers.specs.Sums.{sum_to_rows, sum_to_ext}
use Rattle.refusals.specs.Powers.{power_small, power_of_pow}
use Rattle.quadtree.specs.Areas.{span, area, area_ext, block_area}
use Rattle.quadtree.specs.Levels.{start_suc, cell_lt, block_side_lem, block_on_map}
use Rattle.layouts.specs.Relaid.{length_quarters, quarters_top}
use Rattle.shares.specs.Kernels.{knit_fit}
use Rattle.dots.proofs.Steps.{Sheet, steps_keep}
use Rattle.guarantee.specs.PriceList.{Each, EachBlock, UnderCap, Ends, Holds, HoldsFrom}
use Rattle.guarantee.proofs.Floor.{floor}
use Rattle.guarantee.proofs.Quote.{figures_fit, under_quote}
use Rattle.guarantee.proofs.Capped.{Capped, capped_kept}
use Rattle.guarantee.proofs.Start.{grey_byte, start_sheet, start_dots, start_capped, start_due}
use Rattle.guarantee.proofs.Lent.{held_of}
use Rattle.guarantee.proofs.OneCall.{call_same, held_same}
use Rattle.guarantee.proofs.ManyCalls.{
  call_sheet,
  calls_sheet,
  calls_keep,
  calls_held,
  calls_replies,
  calls_number,
  calls_first,
  reply_finished,
  call_due,
}

-- ---- dots and greys of a block, on a sheet in front of what isn't its own
module _ (r : ℕ) (t : Halftone) (sheet : Sheet r t) (s : List ℕ) where
  burnt_front : (x y : ℕ) → x < 2 ^ r → y < 2 ^ r → burnt_at r (t.serials ++ s) x y ≡ burnt_at r t.serials x y
  unfolding burnt_at
  burnt_front x y p q =
      ap burnt
      (get_or-append t.serials s 0 (cell_number r x y)
      (omega (arith, sheet.sized.serials, cell_lt (2 ^ r) x y p q)))

  dots_area : (j k a b : ℕ) → j + k ≡ r → a < 2 ^ k → b < 2 ^ k
      → dots_in r (t.serials ++ s) k a b ≡ area (a * 2 ^ j) (b * 2 ^ j) (2 ^ j) (burnt_at r t.serials)
  unfolding dots_in
  dots_area j k a b e u v =
      block_area r (burnt_at r (t.serials ++ s)) k a b
      ∙ rw (block_side_lem r j k e)
      (area_ext (a * 2 ^ j) (b * 2 ^ j) (2 ^ j) _ _
      (λ x y m n. burnt_front x y (omega (arith, block_on_map r j k a e u)) (omega (arith, block_on_map r j k b e v))))

  -- all dots are as many as the sheet says
  map_area : (f : ℕ → ℕ) → area 0 0 (2 ^ r) (λ x y. f (cell_number r x y)) ≡ sum_to (cell_count r) f
  unfolding area span
  map_area f =
      sum_to_ext (2 ^ r) _ _ (λ x. sum_to_ext (2 ^ r) _ _ (λ y. simp zero-add)) ∙ sym (sum_to_rows (2 ^ r) (2 ^ r) f)

  pub all_dots_is : all_dots r (t.serials ++ s) ≡ t.dots
  unfolding all_dots
  all_dots_is =
      dots_area r 0 0 0 (omega arith) (omega arith) (omega arith) ∙ rw zero-mul (all_area ∙ sheet.sound.count)
    where
      all_area : area 0 0 (2 ^ r) (burnt_at r t.serials) ≡ sum_to (cell_count r) (λ i. burnt (get_or t.serials i 0))
      all_area = unfold burnt_at in map_area (λ i. burnt (get_or t.serials i 0))

grey_area : (r : ℕ) (greys : List ℕ) (j k a b : ℕ) → j + k ≡ r
    → grey_sum r greys k a b ≡ area (a * 2 ^ j) (b * 2 ^ j) (2 ^ j) (grey_at r greys)
unfolding grey_sum
grey_area r greys j k a b e = block_area r (grey_at r greys) k a b ∙ rw (block_side_lem r j k e)

module _ (knit : ℕ) (known : knit ≤ 1) (r : ℕ) (big : 2 ≤ 2 ^ r) (power : power_of (2 ^ r) ≡ r)
    (greys : List ℕ) (bytes : Each (λ grey. grey ≤ 255) greys) where
  abbrev fresh : Halftone
  fresh = model_start r greys

  abbrev total : ℕ
  total = total_of (grey_total r greys)

  no_dots : fresh.dots ≡ 0
  no_dots = start_dots r greys bytes

  due_total : fresh.dots + dots_due (top_of fresh.pyramid) ≡ total
  due_total = start_due r greys bytes

  -- ---- each call says finished exactly if all dots are made
  ends_one : (p : List ℤ) (s o : List ℕ) (t : Halftone) → Sheet r t → (c : Call)
      → t.dots + dots_due (top_of t.pyramid) ≡ total → Ends r total (call_of (held_of knit r t p s o) c)
  ends_one p s o t sheet c h = rw (call_same knit known r big power t sheet p s o c) ends
    where
      after : Halftone
      after = model_call knit r t c

      made : all_dots r ((model_call knit r t c).serials ++ s) ≡ (model_call knit r t c).dots
      made = all_dots_is r (model_call knit r t c) (call_sheet knit known r big power t sheet c) s

      ends : is_refusal (model_reply knit r t c).said ≡ false → ((model_reply knit r t c).said ≡ finished)
          ↔ (all_dots r ((model_call knit r t c).serials ++ s) ≡ total)
      ends e =
          let f = reply_finished knit known r big power t sheet c e in
          let d = call_due knit known r big power t sheet c in
          ((λ x. omega (arith, f.0 x, d, made)), (λ x. f.1 (omega (arith, d, made))))

  ends_all : (p : List ℤ) (s o : List ℕ) (cs : List Call) (t : Halftone) → Sheet r t
      → t.dots + dots_due (top_of t.pyramid) ≡ total
      → Each (Ends r total) (outcomes_of (held_of knit r t p s o) cs)
  unfolding outcomes_of
  ends_all p s o [] t sheet h = tt
  ends_all p s o (c ∷ cs) t sheet h = (
    ends_one p s o t sheet c h,
    rw (held_same knit known r big power t sheet p s o c)
        (ends_all p s o cs (model_call knit r t c) (call_sheet knit known r big power t sheet c)
        (call_due knit known r big power t sheet c ∙ h)),
  )

  module _ (cs : List Call) (lent_pyramid : List ℤ) (lent_serials lent_order : List ℕ) where
    abbrev last : Halftone
    last = model_after_calls knit r fresh cs

    sheet : Sheet r last
    sheet = calls_sheet knit known r big power cs fresh (start_sheet r greys bytes)

    capped : Capped r greys last
    capped =
        calls_keep knit known r big power (Capped r greys)
        (λ n t sheet h. steps_keep (kernel_of knit) (knit_fit knit) r big (Capped r greys)
        (λ u sheet due k. capped_kept (kernel_of knit)
        (knit_fit knit) r big greys u sheet due k) n t sheet h) cs fresh (start_sheet r greys bytes)
        (start_capped r greys bytes)

    abbrev p : List ℤ
    p = drop (needed r) lent_pyramid

    abbrev s : List ℕ
    s = drop (cell_count r) lent_serials

    abbrev o : List ℕ
    o = drop (cell_count r) lent_order

    at_order : (i : ℕ) → i < last.dots → get_or (last.order ++ o) i 0 ≡ get_or last.order i 0
    at_order i h = get_or-append last.order o 0 i (omega (arith, sheet.sized.order, sheet.sound.few_dots_lem))

    at_top : top_of (quarters_from r last.pyramid ++ p) ≡ top_of last.pyramid
    unfolding top_of
    at_top =
        get_or-append (quarters_from r last.pyramid) p (pos 0) 0
        (omega (
          arith,
          length_quarters r last.pyramid,
          start_suc r,
          cell_lt (2 ^ r) 0 0 (omega arith) (omega arith),
        ))
        ∙ quarters_top r last.pyramid

    -- two places of the order list have two serials
    different : (i j : ℕ) → i < j → j < last.dots → get_or last.order i 0 ≢ get_or last.order j 0
    different i j h k e =
        let a = (sheet.sound.in_order (i + 1) (omega arith) (omega arith)).1 in
        let b = (sheet.sound.in_order (j + 1) (omega arith) (omega arith)).1 in
        omega (
          arith,
          rw (add-sub_cancel i 1) at a,
          rw (add-sub_cancel j 1)
              at b,
          ap (λ (c : ℕ). get_or last.serials c 0) e,
        )

    capped_blocks : EachBlock r (UnderCap r greys (last.serials ++ s))
    capped_blocks k a b h u v =
        omega (
          arith,
          dots_area r last sheet s (r - k) k a b (omega arith) u v,
          grey_area r greys (r - k) k a b (omega arith),
          block_side_lem r (r - k) k (omega arith),
          capped.cap (r - k) k a b (omega arith) u v,
        )

    -- on a finished map all dots are made
    all_made : 2 * grey_total r greys < 510 * last.dots + 255 → all_dots r (last.serials ++ s) ≡ total
    all_made h =
        let number = calls_number knit known r big power cs fresh (start_sheet r greys bytes) in
        omega (arith, all_dots_is r last sheet s, number, no_dots, due_total)

    pub holds :
        Holds knit r (grey_total r greys) greys lent_pyramid lent_serials lent_order cs (held_of knit r last p s o)
        (outcomes_of (held_of knit r fresh p s o) cs) (replies_of (held_of knit r fresh p s o) cs)
        last (model_replies knit r fresh cs)
    holds =
        record {
          pyramid = take_at (quarters_from r last.pyramid) p (needed r) (length_quarters r last.pyramid);
          serials = take_at last.serials s (cell_count r) sheet.sized.serials;
          order = take_at last.order o (cell_count r) sheet.sized.order;
          progress = refl;
          answered = calls_replies knit known r big power p s o cs fresh (start_sheet r greys bytes);
          pyramid_rest = drop_at (quarters_from r last.pyramid) p (needed r) (length_quarters r last.pyramid);
          serials_rest = drop_at last.serials s (cell_count r) sheet.sized.serials;
          order_rest = drop_at last.order o (cell_count r) sheet.sized.order;
          first_dots = calls_first knit known r big power cs fresh (start_sheet r greys bytes) no_dots;
          all_dots_lem = all_dots_is r last sheet s;
          number =
              rw (calls_replies knit known r big power p s o cs fresh (start_sheet r greys bytes))
              (let number = calls_number knit known r big power cs fresh (start_sheet r greys bytes) in
              omega (arith, number, no_dots, due_total));
          once = λ i j h k e. different i j h k (sym (at_order i (omega arith)) ∙ e ∙ at_order j k);
          cap = capped_blocks;
          floor = λ low.
              let t = capped.total in
              let u = rw at_top at low in
              floor r greys (last.serials ++ s) capped_blocks (all_made (omega (ints, simp zz at t, simp zz at u)));
          quotes = λ k a b h u v.
              record {
                within = under_quote r greys (last.serials ++ s) k a b (capped_blocks k a b h u v);
                fits =
                    figures_fit r greys (last.serials ++ s) k a b (power_small (2 ^ r) (sym power)) h u v
                    (grey_byte greys bytes);
              };
          debt = rw at_top capped.total;
          ends = ends_all p s o cs fresh (start_sheet r greys bytes) due_total;
        }

-- A sheet that was loaded when greys still went up to 255 may be burnt to its end under its own total (S 7.5): of the
-- model's start of such greys, in buffers with anything behind it, every list of calls keeps all that the price list
-- says.
pub loaded_before : (r knit : ℕ) → 1 ≤ r → r ≤ 8 → knit ≤ 1 → (greys : List ℕ) → Each (λ grey. grey ≤ 255) greys
    → (pyramid : List ℤ) (serials order : List ℕ) (calls : List Call)
    → HoldsFrom
    (held_of knit r (model_start r greys)
    (drop (needed r) pyramid) (drop (cell_count r) serials) (drop (cell_count r) order))
    knit r greys pyramid serials order calls
loaded_before r knit some most known greys bytes pyramid serials order calls =
    let big : 2 ≤ 2 ^ r = pow_mono {i = 1} {j = r} some in
    let power : power_of (2 ^ r) ≡ r = power_of_pow r some most in
    rw (calls_held knit known r big power (drop (needed r) pyramid) (drop (cell_count r) serials)
    (drop (cell_count r) order) calls (model_start r greys) (start_sheet r greys bytes))
    (holds knit known r big power greys bytes calls pyramid serials order)
