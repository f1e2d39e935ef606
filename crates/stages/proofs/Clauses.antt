-- What is promised of names, clause by clause, for every list of calls after an accepted Load. Each clause is written
-- out with its own figures and taken from a field of `names_hold`, so none of them can go, or say less, unnoticed.
use Rattle.std.specs.Prelude.{◌≡◌, ◌≢◌, List, [], ◌∷◌, ◌++◌, map, ℕ, suc, ◌+◌, ◌*◌, ◌-◌, ◌/◌, ◌^◌, ◌≤◌, ◌<◌, min}
use Rattle.std.specs.Prelude.{get_or, take, drop, ℤ, pos, ◌+ℤ◌, ◌<ℤ◌}
use Rattle.std.proofs.Math.Path.{ap}
use Rattle.definition.specs.Answers.{returned}
use Rattle.definition.specs.Pyramid.{start}
use Rattle.definition.specs.Blocks.{grey_sum, grey_total, dots_in, all_dots}
use Rattle.definition.specs.Diffusion.{kernel_of}
use Rattle.definition.specs.Model.{top_of, model_start, steps}
use Rattle.definition.specs.Refusals.{power_of}
use Rattle.definition.specs.QuotePage.{quote_cap, figures}
use Rattle.definition.specs.Quarters.{quarters_from}
use Rattle.definition.specs.Stages.{
  Return,
  Action,
  keeping,
  returning,
  Caller,
  caller_at_first,
  return_of,
  caller_after_all,
  answers_of,
  Memory,
  memory_at_first,
  memory_after_all,
  model_answers,
  count_of,
  counts_of,
}
use Rattle.guarantee.specs.PriceList.{Each, Accepted}
use Rattle.stages.specs.Promise.{NamesHold}
use Rattle.stages.proofs.Theorem.{names_hold}

module _ (side knit : ℕ) (greys : List ℕ) (pyramid : List ℤ) (serials order : List ℕ)
    (accepted : Accepted side knit greys pyramid serials order) (actions : List Action) where
  -- the power, N, and the sum of all greys
  abbrev r : ℕ
  r = power_of side

  abbrev N : ℕ
  N = 2 ^ r

  abbrev G : ℕ
  G = grey_total r greys

  -- what the caller holds after Load with all names empty, and after these calls or others
  abbrev first : Caller
  first = caller_at_first side knit greys pyramid serials order

  abbrev after : List Action → Caller
  after calls = caller_after_all greys first calls

  abbrev caller : Caller
  caller = after actions

  abbrev dots : ℕ
  dots = caller.held.progress.dots

  -- the model, fed with the same calls
  abbrev model : Memory
  model = memory_after_all knit r (memory_at_first r greys) actions

  promise : NamesHold side knit greys pyramid serials order actions
  promise = names_hold side knit greys pyramid serials order accepted actions

  -- buffers, record, value and answers are the model's
  pub pyramid_as_model : take ((4 ^ suc r - 1) / 3) caller.held.pyramid ≡ quarters_from r model.sheet.pyramid
  unfolding start
  pyramid_as_model = promise.pyramid

  pub serials_as_model : take (N * N) caller.held.serials ≡ model.sheet.serials
  serials_as_model = promise.serials

  pub order_as_model : take (N * N) caller.held.order ≡ model.sheet.order
  order_as_model = promise.order

  pub record_as_model :
      (caller.held.progress.side ≡ N) × (dots ≡ model.sheet.dots) × (caller.held.progress.knit ≡ knit)
  record_as_model = (
    ap (λ p. p.side) promise.progress,
    ap (λ p. p.dots) promise.progress,
    ap (λ p. p.knit) promise.progress,
  )

  pub value_as_model : caller.checkpoints.kept ≡ map count_of model.names
  unfolding counts_of
  value_as_model = ap (λ c. c.kept) promise.checkpoints

  pub answers_as_model : answers_of greys first actions ≡ model_answers knit r (memory_at_first r greys) actions
  answers_as_model = promise.answered

  -- past the needed lengths nothing has changed
  pub pyramid_untouched : drop ((4 ^ suc r - 1) / 3) caller.held.pyramid ≡ drop ((4 ^ suc r - 1) / 3) pyramid
  unfolding start
  pyramid_untouched = promise.pyramid_rest

  pub serials_untouched : drop (N * N) caller.held.serials ≡ drop (N * N) serials
  serials_untouched = promise.serials_rest

  pub order_untouched : drop (N * N) caller.held.order ≡ drop (N * N) order
  order_untouched = promise.order_rest

  -- the sheet is the model's with that many dots, as counted on the map, and they are at most the total
  pub sheet_of_its_dots : model.sheet ≡ steps (kernel_of knit) r dots (model_start r greys)
  sheet_of_its_dots = promise.so_many

  pub within_the_total : dots ≤ (2 * G + 255) / 510
  within_the_total = promise.most

  pub dots_counted : all_dots r caller.held.serials ≡ dots
  dots_counted = promise.all_dots_lem

  -- a return that isn't refused leaves record and buffers as they were when the name was last kept (S 15.9) ..
  pub as_last_kept : (before between : List Action) (b : Return)
      → actions ≡ (before ++ (keeping b.name ∷ between)) ++ (returning b ∷ [])
      → Each (λ a. a ≢ keeping b.name) between
      → (return_of greys (after (before ++ (keeping b.name ∷ between))) b).said ≡ returned []
      → caller.held ≡ (after before).held
  as_last_kept = promise.last_kept

  -- .. and one that is lent enough isn't refused
  pub can_return : (before between : List Action) (b : Return) → actions ≡ before ++ (keeping b.name ∷ between)
      → Each (λ a. a ≢ keeping b.name) between → 1 ≤ b.name → b.name ≤ 8
      → N * N ≤ b.greys_lent → (4 ^ suc r - 1) / 3 ≤ b.pyramid_lent
      → N * N ≤ b.serials_lent → N * N ≤ b.order_lent
      → (return_of greys caller b).said ≡ returned []
  unfolding start
  can_return = promise.returns

  -- no cell is burnt twice (S 15.6, S 15.9)
  pub no_cell_twice : (i j : ℕ) → i < j → j < dots
      → get_or caller.held.order i 0 ≢ get_or caller.held.order j 0
  no_cell_twice = promise.once

  -- what is left at the top (S 15.7, S 15.9)
  pub residual_left : pos (65280 * dots) +ℤ top_of caller.held.pyramid ≡ pos (256 * G)
  residual_left = promise.debt

  -- every aligned square, with s cells along its side and the grey sum g
  module _ (k a b : ℕ) (level : k ≤ r) (row : a < 2 ^ k) (column : b < 2 ^ k) where
    abbrev s : ℕ
    s = N / 2 ^ k

    abbrev g : ℕ
    g = grey_sum r greys k a b

    abbrev block_dots : ℕ
    block_dots = dots_in r caller.held.serials k a b

    -- the cap (S 15.4, S 15.9)
    pub under_the_cap : 765 * block_dots < 3 * g + 765 + 1020 * s
    under_the_cap = promise.cap k a b level row column

    -- the floor of a finished map (S 15.5, S 15.9)
    pub over_the_floor : top_of caller.held.pyramid <ℤ pos 32640
        → 2 * g < 510 * block_dots + 255 + 1530 * k + 2040 * (N - s)
    over_the_floor low = promise.floor low k a b level row column

    pub printed_under_cap : block_dots ≤ min (s * s) ((3 * g + 764 + 1020 * s) / 765)
    unfolding figures quote_cap
    printed_under_cap = (promise.quotes k a b level row column).within
