-- The call with two heads, where it is accepted (`HeadsHold`, `heads_hold`): what it gives back and leaves in every
-- buffer, holes and debt, that Drill List prints the sheet, and that the order within a round does not matter.
use Rattle.std.specs.Prelude.{◌≡◌, refl, List, [], ◌++◌, ℕ, zero, suc, ◌^◌, ◌≤◌, ◌<◌, length, get_or, drop, ℤ, pos}
use Rattle.std.proofs.Common.{sym, ap, ◌∙◌, pow_pos, take_at, drop_at}
use native.Mathlib.Omega.{arith}
use Rattle.std.proofs.Math.ListN.{get_or-append}
use Rattle.definition.specs.Answers.{returned, refused}
use Rattle.definition.specs.Pyramid.{needed, cell_count}
use Rattle.definition.specs.Diffusion.{kernel_of}
use Rattle.definition.specs.Model.{Halftone, top_of}
use Rattle.definition.specs.Refusals.{power_of}
use Rattle.definition.specs.Load.{low_map}
use Rattle.definition.specs.Quarters.{quarters_from, as_rows, as_quarters}
use Rattle.heads.specs.TwoHeads.{two_heads, TwoHeadsOutcome, two_heads_refusal, two_heads_of, two_heads_by_quarters}
use Rattle.refusals.specs.Lowest.{load_none}
use Rattle.refusals.specs.Powers.{side_pow}
use Rattle.quadtree.specs.Levels.{start_suc, cell_lt}
use Rattle.layouts.specs.Relaid.{length_quarters, quarters_top}
use Rattle.layouts.specs.Lent.{rows_length, rows_drop, as_quarters_part, quarters_rows}
use Rattle.shares.specs.Kernels.{knit_fit}
use Rattle.dots.proofs.Steps.{Sheet}
use Rattle.guarantee.specs.PriceList.{Each}
use Rattle.guarantee.proofs.Theorem.{all_dots_is}
use Rattle.head_order.specs.Promise.{TwoHeads, HeadsAccepted, HeadsHold}
use Rattle.head_order.proofs.Run.{run_sheet, two_heads_lem}
use Rattle.head_order.proofs.Checks.{heads_none}
use Rattle.guarantee.proofs.Listed.{lists}

-- ---- the call
module _ (side knit : ℕ) (greys : List ℕ) (pyramid : List ℤ) (serials order : List ℕ) where
  abbrev r : ℕ
  r = power_of side

  abbrev refusal : ℕ
  refusal =
      two_heads_refusal side knit (length greys) (length pyramid) (length serials) (length order)
      (low_map r greys)

  abbrev out : TwoHeadsOutcome
  out = two_heads_by_quarters side knit greys pyramid serials order

  abbrev run : Halftone
  run = two_heads (kernel_of knit) r greys

  abbrev p : List ℤ
  p = drop (needed r) pyramid

  abbrev s : List ℕ
  s = drop (cell_count r) serials

  abbrev o : List ℕ
  o = drop (cell_count r) order

  -- refused, it leaves every buffer as it was
  pub out_refused : (n : ℕ) → refusal ≡ suc n
      → out ≡ record {
        progress = record { side = 0; dots = 0; knit = 0 };
        made = 0;
        debt = pos 0;
        said = refused (suc n);
        pyramid = pyramid;
        serials = serials;
        order = order;
      }
  unfolding two_heads_by_quarters two_heads_of
  out_refused n e = rw (rows_length r pyramid, e, two_heads_of, quarters_rows r pyramid)

  said_no : (n : ℕ) → refusal ≡ suc n → out.said ≡ refused (suc n)
  said_no n e = ap (λ (o : TwoHeadsOutcome). o.said) (out_refused n e)

  pub accepted_none : out.said ≡ returned [] → refusal ≡ 0
  accepted_none t = go refusal refl
    where
      go : (k : ℕ) → refusal ≡ k → refusal ≡ 0
      go zero e = e
      go (suc n) e = let s = said_no n e in let z : ◌≡◌ {A = ℕ} 0 1 = cc in absurd (omega arith)

  pub none_accepted : refusal ≡ 0 → out.said ≡ returned []
  unfolding two_heads_by_quarters two_heads_of
  none_accepted e = rw (rows_length r pyramid, e, two_heads_of)

  -- accepted, it leaves the run in front of what lay past the needed lengths
  abbrev pub expected : TwoHeadsOutcome
  expected = record {
    progress = record { side = side; dots = run.dots; knit = knit };
    made = run.dots;
    debt = top_of run.pyramid;
    said = returned [];
    pyramid = quarters_from r run.pyramid ++ p;
    serials = run.serials ++ s;
    order = run.order ++ o;
  }

  module _ (bytes : Each (λ grey. grey ≤ 255) greys) (four≤ : 4 ≤ power_of side) where
    sheet : Sheet r run
    sheet = run_sheet (kernel_of knit) (knit_fit knit) r four≤ greys bytes

    all : TwoHeads (kernel_of knit) r greys run
    all = two_heads_lem (kernel_of knit) (knit_fit knit) r four≤ greys bytes

    by_quarters : as_quarters r (run.pyramid ++ drop (needed r) (as_rows r pyramid))
        ≡ quarters_from r run.pyramid ++ p
    by_quarters =
        ap (λ (l : List ℤ). as_quarters r (run.pyramid ++ l)) (rows_drop r pyramid)
        ∙ as_quarters_part r run.pyramid p sheet.sized.pyramid

    pub out_is : refusal ≡ 0 → out ≡ expected
    unfolding two_heads_by_quarters two_heads_of
    out_is e = rw (rows_length r pyramid, e, two_heads_of, by_quarters)

    at_order : (i : ℕ) → i < run.dots → get_or (run.order ++ o) i 0 ≡ get_or run.order i 0
    at_order i h = get_or-append run.order o 0 i (omega (arith, sheet.sized.order, sheet.sound.few_dots_lem))

    at_top : top_of (quarters_from r run.pyramid ++ p) ≡ top_of run.pyramid
    unfolding top_of
    at_top =
        get_or-append (quarters_from r run.pyramid) p (pos 0) 0
        (omega (
          arith,
          length_quarters r run.pyramid,
          start_suc r,
          cell_lt (2 ^ r) 0 0 (pow_pos r) (pow_pos r),
        ))
        ∙ quarters_top r run.pyramid

    expected_hold : knit ≤ 1
        → HeadsHold side knit r greys pyramid serials order expected run
    expected_hold known =
        record {
          power = four≤;
          side_is = side_pow side (omega arith);
          known = known;
          progress = refl;
          made = refl;
          top = sym at_top;
          pyramid =
              take_at (quarters_from r run.pyramid) p (needed r)
              (length_quarters r run.pyramid);
          serials = take_at run.serials s (cell_count r) sheet.sized.serials;
          order = take_at run.order o (cell_count r) sheet.sized.order;
          pyramid_rest =
              drop_at (quarters_from r run.pyramid) p (needed r)
              (length_quarters r run.pyramid);
          serials_rest = drop_at run.serials s (cell_count r) sheet.sized.serials;
          order_rest = drop_at run.order o (cell_count r) sheet.sized.order;
          debt = all.debt;
          once = λ i j h k e. all.once i j h k (sym (at_order i (omega arith)) ∙ e ∙ at_order j k);
          all_dots_lem = all_dots_is r run sheet s;
          stopped = all.stopped;
          any_order = all.any_order;
          sound = all.sound;
          listed = λ output room. lists side knit known (omega arith) run sheet p s o output room;
        }

  -- what the call promises (S 13.5, S 15.15)
  pub heads_hold : HeadsAccepted side knit greys pyramid serials order
      → HeadsHold side knit r greys pyramid serials order out run
  heads_hold h =
      let none = accepted_none h.said in
      let low = low_map r greys in
      let is = (heads_none side knit (length greys) (length pyramid) (length serials) (length order) low).0 none in
      let lent = (load_none r knit (length greys) (length pyramid) (length serials) (length order) low).0
      is.1 in
      rw (out_is h.bytes is.0 none) (expected_hold h.bytes is.0 lent.0.known)
