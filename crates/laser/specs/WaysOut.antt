-- The call's ways out: refused before Load (`refused_early`) or by Load (`refused_late`), with nothing changed, and run
-- to the end (`ran_all`).
use Rattle.std.specs.Prelude.{◌≡◌, Bool, List, [], ◌∷◌, ◌++◌, ℕ, zero, suc, ◌-◌, ◌≤◌, ◌<◌, ltb, eqb, length, get_or}
use Rattle.std.specs.Prelude.{take, drop, ℤ, pos, Result, Ok, Err}
use Rattle.std.proofs.Math.Path.{refl, ap}
use Rattle.std.proofs.Common.{sym, ◌∙◌, inr, arith, length-append, take_at, drop_at}
use borrow.Author.Tests.{lt-ltb, le-ltb, ltb-false, eqb-false, eq-eqb, ne_eqb}
use Rattle.definition.specs.Answers.{returned, load_record, done_says, two_heads_answer, number_of}
use Rattle.definition.specs.Answers as Answers
use Rattle.definition.specs.Pyramid.{needed, cell_count}
use Rattle.definition.specs.Quarters.{rows_from, quarters_from}
use Rattle.definition.specs.Model.{Halftone, model_start}
use Rattle.definition.specs.Refusals.{power_of, side_unknown, side_small, knit_unknown, lowest}
use Rattle.definition.specs.Load.{LoadOutcome, low_map, load_refusal, loaded, load_of}
use Rattle.definition.specs.ByQuarters.{load_by_quarters}
use Rattle.definition.specs.AdvanceList.{Held, held_after_load}
use Rattle.definition.specs.declared.Progress.{Progress}
use Rattle.definition.specs.declared.Refusal.{Refusal}
use Rattle.definition.specs.declared.Refusal.TheVariants.{SideUnknown, SideSmall, KnitUnknown}
use Rattle.definition.specs.declared.TwoHeadsAnswer.{TwoHeadsAnswer}
use Rattle.refusals.specs.Numbers.{number_positive}
use Rattle.refusals.specs.Powers.{power_small}
use Rattle.refusals.specs.Lowest.{lowest_none, lowest_before}
use Rattle.layouts.specs.Relaid.{length_quarters, rows_back}
use Rattle.layouts.specs.Lent.{rows_length, rows_taken, quarters_rows}
use Rattle.dots.proofs.Steps.{Sheet}
use Rattle.guarantee.specs.PriceList.{Each}
use Rattle.guarantee.proofs.Lent.{held_of}
use Rattle.guarantee.proofs.Start.{each_of, start_sheet, Loaded, accepted_loaded, loaded_held}
use Rattle.checks.specs.Checks.{checked, passed_none, failed_number}
use Rattle.heads.specs.TwoHeads.{two_heads_refusal, TwoHeadsOutcome, two_heads_by_quarters, two_heads_in, two_heads}
use Rattle.head_order.proofs.Checks.{power_large, heads_load}
use Rattle.head_order.proofs.Call.{out_refused, out_is, expected}
use Rattle.laser.specs.SheetLent.{sheet_of, SheetLent, ran_of}

-- ---- the checks up to the knit
module _ (r side knit : ℕ) where
  abbrev first : ℕ
  first = lowest (side_unknown r ∷ side_small side ∷ knit_unknown knit ∷ [])

  pub side_fails : r ≡ 0 → checked (Err SideUnknown) ≡ first
  unfolding checked number_of lowest
  side_fails e = rw (eq-eqb r 0 e)

  module _ (some : r ≡ 0 → ⊥) where
    pub small_fails : side < 16 → checked (Err SideSmall) ≡ first
    unfolding checked number_of lowest
    small_fails h = rw (ne_eqb r 0 some, lt-ltb side 16 h)

    module _ (large : 16 ≤ side) where
      pub knit_fails : 1 < knit → checked (Err KnitUnknown) ≡ first
      unfolding checked number_of lowest
      knit_fails h = rw (ne_eqb r 0 some, le-ltb side 16 large, lt-ltb 1 knit h)

      pub none_fails : knit ≤ 1 → checked (Ok tt) ≡ first
      unfolding checked lowest
      none_fails h = rw (ne_eqb r 0 some, le-ltb side 16 large, le-ltb 1 knit h)

-- ---- the call: greys that are bytes, and what the check has said
module _ (side knit : ℕ) {r : ℕ} (er : r ≡ power_of side) (g : List ℕ) (p : List ℤ) (s o : List ℕ) where
  abbrev first_refusal : ℕ
  first_refusal = lowest (side_unknown r ∷ side_small side ∷ knit_unknown knit ∷ [])

  abbrev low : Bool
  low = low_map (power_of side) g

  abbrev heads : ℕ
  heads = two_heads_refusal side knit (length g) (length p) (length s) (length o) low

  abbrev load : ℕ
  load = load_refusal (power_of side) knit (length g) (length p) (length s) (length o) low

  -- a refusal, which leaves the buffers as they were
  no_answer : (why : Refusal) → heads ≡ suc (number_of why - 1) → {a : Result TwoHeadsAnswer Refusal} → a ≡ Err why
      → record {
        progress = (two_heads_answer a).progress;
        made = (two_heads_answer a).made;
        debt = (two_heads_answer a).debt;
        said = done_says a;
        pyramid = p;
        serials = s;
        order = o;
      }
      ≡ two_heads_by_quarters side knit g p s o
  unfolding done_says
  no_answer why n ea = rw (ea, out_refused side knit g p s o (number_of why - 1) n, ← number_positive why) refl

  -- by the check
  pub refused_early : (why : Refusal) {a : Result TwoHeadsAnswer Refusal} → checked (Err why) ≡ first_refusal
      → a ≡ Err why
      → record {
        progress = (two_heads_answer a).progress;
        made = (two_heads_answer a).made;
        debt = (two_heads_answer a).debt;
        said = done_says a;
        pyramid = p;
        serials = s;
        order = o;
      }
      ≡ two_heads_by_quarters side knit g p s o
  refused_early why e ea = no_answer why heads_is ea
    where
      heads_is : heads ≡ suc (number_of why - 1)
      heads_is =
          let n = rw er at (failed_number why e) in
          unfold two_heads_refusal in
          lowest_before (side_unknown (power_of side) ∷ side_small side ∷ knit_unknown knit ∷ []) _ (number_of why - 1)
          n

  module _ (e : checked (Ok tt) ≡ first_refusal) where
    some_side : 0 < power_of side
    some_side =
        let n = passed_none e in
        let h = lowest_none 1 (eqb r 0) _ (omega arith) n in
        omega (arith, eqb-false r 0 h.0, er)

    large_side : 16 ≤ side
    large_side =
        let n = passed_none e in
        let h = lowest_none 1 (eqb r 0) _ (omega arith) n in
        ltb-false side 16 (lowest_none 14 (ltb side 16) _ (omega arith) h.1).0

    heads_is_load : heads ≡ load
    heads_is_load = heads_load side knit (length g) (length p) (length s) (length o) low (inr large_side)

    -- a refused Load changes nothing
    load_out : (n : ℕ) → load ≡ suc n
        → load_by_quarters side knit g p s o
        ≡ record {
          progress = record { side = 0; dots = 0; knit = 0 };
          said = Answers.refused (suc n);
          pyramid = p;
          serials = s;
          order = o;
        }
    unfolding load_by_quarters load_of
    load_out n z = rw (rows_length (power_of side) p, z, load_of, quarters_rows (power_of side) p)

    load_none : load ≡ 0 → (load_by_quarters side knit g p s o).said ≡ returned []
    unfolding load_by_quarters load_of loaded
    load_none z = rw (rows_length (power_of side) p, z, load_of)

    -- the number that it says is the call's
    load_number : (why : Refusal) → (load_by_quarters side knit g p s o).said ≡ Answers.refused (number_of why)
        → load ≡ suc (number_of why - 1)
    load_number why t = go load refl
      where
        go : (k : ℕ) → load ≡ k → load ≡ suc (number_of why - 1)
        go zero z = let u = load_none z in let w : ◌≡◌ {A = ℕ} 0 1 = cc in absurd (omega arith)
        go (suc n) z =
            let u = ap (λ (out : LoadOutcome). out.said) (load_out n z) in
            let w : suc n ≡ number_of why = cc in
            z ∙ w ∙ number_positive why

    -- what Load has answered and left
    module _ {a : Result Progress Refusal} {p₁ : List ℤ} {s₁ o₁ : List ℕ}
        (q : record { progress = load_record a; said = done_says a; pyramid = p₁; serials = s₁; order = o₁ }
        ≡ load_by_quarters side knit g p s o) where
      -- it refuses
      module _ {why : Refusal} (refuses : a ≡ Err why) where
        says_why : (load_by_quarters side knit g p s o).said ≡ Answers.refused (number_of why)
        unfolding done_says
        says_why =
            ap (λ (out : LoadOutcome). out.said) (sym q)
            ∙ ap (λ (b : Result Progress Refusal). done_says b) refuses

        left : load_by_quarters side knit g p s o
            ≡ record {
              progress = record { side = 0; dots = 0; knit = 0 };
              said = Answers.refused (suc (number_of why - 1));
              pyramid = p;
              serials = s;
              order = o;
            }
        left = load_out (number_of why - 1) (load_number why says_why)

        same_pyramid : p₁ ≡ p
        same_pyramid = ap (λ (out : LoadOutcome). out.pyramid) (q ∙ left)

        same_serials : s₁ ≡ s
        same_serials = ap (λ (out : LoadOutcome). out.serials) (q ∙ left)

        same_order : o₁ ≡ o
        same_order = ap (λ (out : LoadOutcome). out.order) (q ∙ left)

        pub refused_late : {b : Result TwoHeadsAnswer Refusal} → b ≡ Err why
            → record {
              progress = (two_heads_answer b).progress;
              made = (two_heads_answer b).made;
              debt = (two_heads_answer b).debt;
              said = done_says b;
              pyramid = p₁;
              serials = s₁;
              order = o₁;
            }
            ≡ two_heads_by_quarters side knit g p s o
        refused_late eb =
            rw (same_pyramid, same_serials, same_order)
            (no_answer why (heads_is_load ∙ load_number why says_why) eb)

      -- it has loaded the map
      module _ {loaded : Progress} (loads : a ≡ Ok loaded) (bytes : (i : ℕ) → get_or g i 0 ≤ 255) where
        each_byte : Each (λ grey. grey ≤ 255) g
        each_byte = each_of (λ grey. grey ≤ 255) g 0 (λ i l. bytes i)

        says_loaded : (load_by_quarters side knit g p s o).said ≡ returned []
        unfolding done_says
        says_loaded =
            ap (λ (out : LoadOutcome). out.said) (sym q)
            ∙ ap (λ (b : Result Progress Refusal). done_says b) loads

        accepted : Loaded side knit g p s o
        accepted = accepted_loaded side knit g p s o (record { bytes = each_byte; said = says_loaded })

        abbrev fresh : Halftone
        fresh = model_start (power_of side) g

        sheet : Sheet (power_of side) (model_start (power_of side) g)
        sheet = start_sheet (power_of side) g each_byte

        held : record { progress = load_record a; pyramid = p₁; serials = s₁; order = o₁ }
            ≡ held_of knit (power_of side) (model_start (power_of side) g) (drop (needed (power_of side)) p)
            (drop (cell_count (power_of side)) s) (drop (cell_count (power_of side)) o)
        held = after ∙ loaded_held side knit g p s o accepted
          where
            after : record { progress = load_record a; pyramid = p₁; serials = s₁; order = o₁ }
                ≡ held_after_load side knit g p s o
            after = unfold held_after_load in rw (← q)

        pyramid_is : p₁ ≡ quarters_from (power_of side) fresh.pyramid ++ drop (needed (power_of side)) p
        pyramid_is = ap (λ (h : Held). h.pyramid) held

        serials_is : s₁ ≡ fresh.serials ++ drop (cell_count (power_of side)) s
        serials_is = ap (λ (h : Held). h.serials) held

        order_is : o₁ ≡ fresh.order ++ drop (cell_count (power_of side)) o
        order_is = ap (λ (h : Held). h.order) held

        rows_are : rows_from (power_of side) p₁ ≡ fresh.pyramid
        rows_are =
            let quarters = quarters_from (power_of side) fresh.pyramid in
            sym (rows_taken (power_of side) p₁)
            ∙ ap (λ (l : List ℤ). rows_from (power_of side) (take (needed (power_of side)) l)) pyramid_is
            ∙ ap (rows_from (power_of side))
            (take_at quarters _ (needed (power_of side)) (length_quarters (power_of side) fresh.pyramid))
            ∙ rows_back (power_of side) fresh.pyramid sheet.sized.pyramid

        serials_are : take (cell_count (power_of side)) s₁ ≡ fresh.serials
        serials_are = rw serials_is (take_at fresh.serials _ (cell_count (power_of side)) sheet.sized.serials)

        order_are : take (cell_count (power_of side)) o₁ ≡ fresh.order
        order_are = rw order_is (take_at fresh.order _ (cell_count (power_of side)) sheet.sized.order)

        sheet_is : sheet_of (power_of side) p₁ s₁ o₁ ≡ model_start (power_of side) g
        sheet_is = λ i.
            record { pyramid = rows_are i; serials = serials_are i; order = order_are i; dots = no_dots i }
          where
            no_dots : ◌≡◌ {A = ℕ} 0 (model_start (power_of side) g).dots
            no_dots = unfold model_start in refl

        four≤ : 4 ≤ power_of side
        four≤ = power_large side some_side large_side

        long_pyramid : needed (power_of side) ≤ length p₁
        long_pyramid =
            let quarters = quarters_from (power_of side) fresh.pyramid in
            let rest = drop (needed (power_of side)) p in
            rw pyramid_is
            (omega (arith, length-append quarters rest, length_quarters (power_of side) fresh.pyramid))

        long_serials : cell_count (power_of side) ≤ length s₁
        long_serials =
            let rest = drop (cell_count (power_of side)) s in
            rw serials_is (omega (arith, length-append fresh.serials rest, sheet.sized.serials))

        long_order : cell_count (power_of side) ≤ length o₁
        long_order =
            let rest = drop (cell_count (power_of side)) o in
            rw order_is (omega (arith, length-append fresh.order rest, sheet.sized.order))

        pub sheet_lent : SheetLent r p₁ s₁ o₁
        sheet_lent =
            rw er
            (record {
              least = four≤;
              most = power_small side refl;
              pyramid_long = long_pyramid;
              serials_long = long_serials;
              order_long = long_order;
              sheet = rw sheet_is sheet;
            })

        -- the run of that sheet is the run of the map
        rest_pyramid : drop (needed (power_of side)) p₁ ≡ drop (needed (power_of side)) p
        rest_pyramid =
            rw pyramid_is
            (drop_at (quarters_from (power_of side) fresh.pyramid) _ (needed (power_of side))
            (length_quarters (power_of side) fresh.pyramid))

        rest_serials : drop (cell_count (power_of side)) s₁ ≡ drop (cell_count (power_of side)) s
        rest_serials = rw serials_is (drop_at fresh.serials _ (cell_count (power_of side)) sheet.sized.serials)

        rest_order : drop (cell_count (power_of side)) o₁ ≡ drop (cell_count (power_of side)) o
        rest_order = rw order_is (drop_at fresh.order _ (cell_count (power_of side)) sheet.sized.order)

        ran_expected : ran_of side knit (power_of side) p₁ s₁ o₁ ≡ expected side knit g p s o
        unfolding two_heads two_heads_in
        ran_expected = rw (sheet_is, rest_pyramid, rest_serials, rest_order) refl

        pub ran_all : (answer : TwoHeadsAnswer) {p₂ : List ℤ} {s₂ o₂ : List ℕ}
            → record {
              progress = answer.progress;
              made = answer.made;
              debt = answer.debt;
              said = returned [];
              pyramid = p₂;
              serials = s₂;
              order = o₂;
            }
            ≡ ran_of side knit r p₁ s₁ o₁
            → record {
              progress = (two_heads_answer (Ok answer)).progress;
              made = (two_heads_answer (Ok answer)).made;
              debt = (two_heads_answer (Ok answer)).debt;
              said = done_says {A = TwoHeadsAnswer} (Ok answer);
              pyramid = p₂;
              serials = s₂;
              order = o₂;
            }
            ≡ two_heads_by_quarters side knit g p s o
        unfolding done_says
        ran_all answer e₁ =
            (rw er at e₁) ∙ ran_expected
            ∙ sym (out_is side knit g p s o each_byte four≤ (heads_is_load ∙ accepted.none))
