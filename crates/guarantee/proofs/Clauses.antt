-- What is signed, clause by clause, for every list of calls after an accepted Load. Each clause is written out with its
-- own figures and taken from a field of `price_list`, so none of them can go, or say less, unnoticed. The last law,
-- `everyone`, says who may ask: nobody is left out.
use Rattle.std.specs.Prelude.{◌≡◌, ◌≢◌, ◌↔◌, true, false, ℕ, suc, ◌+◌, ◌*◌, ◌-◌, ◌/◌, ◌^◌, ◌≤◌, ◌<◌, min, length}
use Rattle.std.specs.Prelude.{get_or, take, drop, ℤ, pos, ◌+ℤ◌, ◌<ℤ◌}
use Rattle.std.proofs.Math.Path.{sym, ap}
use Rattle.std.proofs.Common.{◌∙◌}
use mathlib.Core.List.{List, []}
use Rattle.definition.specs.Answers.{returned, finished}
use Rattle.definition.specs.Pyramid.{start, entry}
use Rattle.definition.specs.Blocks.{grey_sum, grey_total, dots_in, all_dots}
use Rattle.definition.specs.Diffusion.{kernel_of}
use Rattle.definition.specs.Model.{Halftone, top_of, model_start, steps}
use Rattle.definition.specs.Refusals.{power_of}
use Rattle.definition.specs.Load.{low_map, load_refusal, loaded, load_of}
use Rattle.definition.specs.Quarters.{interleaved, quarter_entry, quarters_from}
use Rattle.definition.specs.ByQuarters.{load_by_quarters}
use Rattle.definition.specs.Advance.{Reply, AdvanceOutcome}
use Rattle.definition.specs.QuotePage.{quote_cap, figures}
use Rattle.definition.specs.AdvanceList.{
  Call,
  Held,
  held_after_load,
  outcomes_of,
  held_after_calls,
  replies_of,
  model_after_calls,
  model_replies,
  is_refusal,
  granted,
}
use Rattle.refusals.specs.Powers.{power_of_pow}
use Rattle.refusals.specs.Lowest.{LoadLent, load_none}
use Rattle.layouts.specs.Relaid.{quarters_entry}
use Rattle.layouts.specs.Lent.{rows_length, quarter_taken}
use Rattle.guarantee.specs.PriceList.{Each, Accepted, PriceList}
use Rattle.guarantee.proofs.Start.{each_of, at_low_map}
use Rattle.guarantee.proofs.Promised.{price_list}

module _ (side knit : ℕ) (greys : List ℕ) (pyramid : List ℤ) (serials order : List ℕ)
    (accepted : Accepted side knit greys pyramid serials order) (calls : List Call) where
  -- the power, N, and the sum of all greys
  abbrev r : ℕ
  r = power_of side

  abbrev N : ℕ
  N = 2 ^ r

  abbrev G : ℕ
  G = grey_total r greys

  -- what the caller holds after Load and after all calls, and what each call left and answered
  abbrev fresh : Held
  fresh = held_after_load side knit greys pyramid serials order

  abbrev held : Held
  held = held_after_calls fresh calls

  abbrev outcomes : List AdvanceOutcome
  outcomes = outcomes_of fresh calls

  abbrev replies : List Reply
  replies = replies_of fresh calls

  -- the model, fed with the same calls
  abbrev model : Halftone
  model = model_after_calls knit r (model_start r greys) calls

  abbrev dots : ℕ
  dots = held.progress.dots

  promised : PriceList side knit greys pyramid serials order calls
  promised = price_list side knit greys pyramid serials order accepted calls

  -- buffers, record and answers are the model's, the pyramid by quarters: entry by entry as well as whole (S 15.2)
  pub pyramid_as_model : take ((4 ^ suc r - 1) / 3) held.pyramid ≡ quarters_from r model.pyramid
  unfolding start
  pyramid_as_model = promised.pyramid

  pub entry_as_model : (k a b : ℕ) → k ≤ r → a < 2 ^ k → b < 2 ^ k
      → get_or held.pyramid ((4 ^ k - 1) / 3 + interleaved k a b) (pos 0) ≡ entry model.pyramid k a b
  unfolding start quarter_entry
  entry_as_model k a b h p q =
      sym (quarter_taken r held.pyramid k a b h)
      ∙ ap (λ (l : List ℤ). quarter_entry l k a b) promised.pyramid
      ∙ quarters_entry r model.pyramid k a b h p q

  pub serials_as_model : take (N * N) held.serials ≡ model.serials
  serials_as_model = promised.serials

  pub order_as_model : take (N * N) held.order ≡ model.order
  order_as_model = promised.order

  -- the record has the side, the holes so far and the knit (S 2.8)
  pub record_as_model : (held.progress.side ≡ N) × (dots ≡ model.dots) × (held.progress.knit ≡ knit)
  record_as_model = (
    ap (λ p. p.side) promised.progress,
    ap (λ p. p.dots) promised.progress,
    ap (λ p. p.knit) promised.progress,
  )

  -- each call has answered as the model does (S 15.2)
  pub answers_as_model : replies ≡ model_replies knit r (model_start r greys) calls
  answers_as_model = promised.answered

  -- and what the model has is its first dots for these greys and this knit (S 15.2)
  pub first_dots : model ≡ steps (kernel_of knit) r dots (model_start r greys)
  first_dots = promised.first_dots

  -- past the needed lengths nothing has changed (S 2.9)
  pub pyramid_untouched : drop ((4 ^ suc r - 1) / 3) held.pyramid ≡ drop ((4 ^ suc r - 1) / 3) pyramid
  unfolding start
  pyramid_untouched = promised.pyramid_rest

  pub serials_untouched : drop (N * N) held.serials ≡ drop (N * N) serials
  serials_untouched = promised.serials_rest

  pub order_untouched : drop (N * N) held.order ≡ drop (N * N) order
  order_untouched = promised.order_rest

  -- the number of dots, counted on the whole map: the total, or the budgets of the calls not refused if less (S 15.3)
  pub number_of_dots : all_dots r held.serials ≡ min ((2 * G + 255) / 510) (granted calls replies)
  number_of_dots = promised.all_dots_lem ∙ promised.number

  -- and the record counts the same
  pub dots_counted : all_dots r held.serials ≡ dots
  dots_counted = promised.all_dots_lem

  -- no cell is burnt twice (S 15.6)
  pub no_cell_twice : (i j : ℕ) → i < j → j < dots → get_or held.order i 0 ≢ get_or held.order j 0
  no_cell_twice = promised.once

  -- what is left at the top (S 15.7)
  pub residual_left : pos (65280 * dots) +ℤ top_of held.pyramid ≡ pos (256 * G)
  residual_left = promised.debt

  -- of a call that isn't refused: it says finished just if all dots are made (S 15.3)
  pub finished_just_then : Each
      (λ out. is_refusal out.reply.said ≡ false
      → (out.reply.said ≡ finished) ↔ (all_dots r out.serials ≡ (2 * G + 255) / 510))
      outcomes
  finished_just_then = promised.ends

  -- every aligned square, with s cells along its side and the grey sum g
  module _ (k a b : ℕ) (level : k ≤ r) (row : a < 2 ^ k) (column : b < 2 ^ k) where
    abbrev s : ℕ
    s = N / 2 ^ k

    abbrev g : ℕ
    g = grey_sum r greys k a b

    abbrev block_dots : ℕ
    block_dots = dots_in r held.serials k a b

    -- the cap (S 15.4)
    pub under_the_cap : 765 * block_dots < 3 * g + 765 + 1020 * s
    under_the_cap = promised.cap k a b level row column

    -- the floor of a finished map (S 15.5)
    pub over_the_floor : top_of held.pyramid <ℤ pos 32640
        → 2 * g < 510 * block_dots + 255 + 1530 * k + 2040 * (N - s)
    over_the_floor low = promised.floor low k a b level row column

    -- on the quote page the dots are at most the cap (S 8.3, S 15.4), and every figure fits its column (S 8.4)
    pub printed_under_cap : block_dots ≤ min (s * s) ((3 * g + 764 + 1020 * s) / 765)
    unfolding figures quote_cap
    printed_under_cap = (promised.quotes k a b level row column).within

    pub columns_wide_enough :
        (a < 10 ^ 3) × (b < 10 ^ 3) × (g < 10 ^ 8) × (block_dots < 10 ^ 5)
        × (min (s * s) ((3 * g + 764 + 1020 * s) / 765) < 10 ^ 5)
    unfolding figures quote_cap
    columns_wide_enough =
        let fits = (promised.quotes k a b level row column).fits in
        (fits.0, fits.1.0, fits.1.1.0, fits.1.1.1.0, fits.1.1.1.1.0)

-- ---- who may ask: each of the eight sides and either knit, with bytes as greys, those of the map at most 240, and
-- buffers that are long enough, whatever they hold
pub everyone : (r knit : ℕ) → 1 ≤ r → r ≤ 8 → knit ≤ 1
    → (greys : List ℕ) (pyramid : List ℤ) (serials order : List ℕ)
    → 2 ^ r * 2 ^ r ≤ length greys → (4 ^ suc r - 1) / 3 ≤ length pyramid
    → 2 ^ r * 2 ^ r ≤ length serials → 2 ^ r * 2 ^ r ≤ length order
    → ((i : ℕ) → i < length greys → get_or greys i 0 ≤ 255)
    → ((i : ℕ) → i < 2 ^ r * 2 ^ r → get_or greys i 0 ≤ 240)
    → Accepted (2 ^ r) knit greys pyramid serials order
everyone r knit some most known greys pyramid serials order g p s o bytes low =
    record { bytes = each_of (λ grey. grey ≤ 255) greys 0 bytes; said = said }
  where
    lent : LoadLent r knit (length greys) (length pyramid) (length serials) (length order)
    lent =
        record {
          power = some;
          known = known;
          greys_long = g;
          pyramid_long = unfold start in p;
          serials_long = s;
          order_long = o;
        }

    low_front : low_map r greys ≡ true
    low_front = at_low_map r greys low

    none : load_refusal (power_of (2 ^ r)) knit (length greys) (length pyramid) (length serials) (length order)
        (low_map (power_of (2 ^ r)) greys) ≡ 0
    none =
        rw (power_of_pow r some most)
        ((load_none r knit (length greys) (length pyramid) (length serials) (length order) (low_map r greys)).1
        (lent, low_front))

    said : (load_by_quarters (2 ^ r) knit greys pyramid serials order).said ≡ returned []
    said =
        unfold load_by_quarters load_of loaded in
        rw (rows_length (power_of (2 ^ r)) pyramid, none, load_of)
