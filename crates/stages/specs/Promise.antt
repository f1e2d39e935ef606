-- What is promised of names, as one statement about a whole list of Advance, Keep and Restore calls after an accepted
-- Load (`StagesHold`). `Theorem` proves it, and `Clauses` says it again field by field.
use Rattle.std.specs.Prelude.{◌≡◌, ◌≢◌, List, [], ◌∷◌, ◌++◌, ℕ, ◌*◌, ◌^◌, ◌≤◌, ◌<◌, get_or, take, drop, ℤ, pos, ◌+ℤ◌}
use Rattle.std.specs.Prelude.{◌<ℤ◌}
use Rattle.definition.specs.Answers.{returned}
use Rattle.definition.specs.Pyramid.{one_dot, half_dot, needed, cell_count}
use Rattle.definition.specs.Blocks.{grey_total, total_of, all_dots}
use Rattle.definition.specs.Diffusion.{kernel_of}
use Rattle.definition.specs.Model.{top_of, model_start, steps}
use Rattle.definition.specs.Refusals.{power_of}
use Rattle.definition.specs.Quarters.{quarters_from}
use Rattle.definition.specs.Stages.{
  Return,
  Action,
  keeping,
  returning,
  Answer,
  Caller,
  caller_at_first,
  return_of,
  caller_after_all,
  answers_of,
  Memory,
  memory_at_first,
  memory_after_all,
  model_answers,
  counts_of,
}
use Rattle.guarantee.specs.PriceList.{Each, EachBlock, UnderCap, OverFloor, Quoted}

-- What holds after a list of calls: of the buffers as Load was lent them, of what the caller held at first and then
-- holds and was answered, and of the model's memory and answers. N = 2^r is the side, G the sum of the greys.
pub record StagesHold (knit r G : ℕ) (greys : List ℕ)
    (lent_pyramid : List ℤ) (lent_serials lent_order : List ℕ) (actions : List Action)
    (first caller : Caller) (answers : List Answer) (model : Memory) (modelled : List Answer) : Type 0 where
  -- the buffers, each over its needed length, the record and the value are the model's, the pyramid by quarters
  -- (S 15.2)
  pub pyramid : take (needed r) caller.held.pyramid ≡ quarters_from r model.sheet.pyramid
  pub serials : take (cell_count r) caller.held.serials ≡ model.sheet.serials
  pub order : take (cell_count r) caller.held.order ≡ model.sheet.order
  pub progress : caller.held.progress ≡ record { side = 2 ^ r; dots = model.sheet.dots; knit = knit }
  pub checkpoints : caller.checkpoints ≡ counts_of model
  -- all answers, those of refused calls too, are the model's (S 15.2)
  pub answered : answers ≡ modelled
  -- past the needed lengths nothing has changed (S 2.9)
  pub pyramid_rest : drop (needed r) caller.held.pyramid ≡ drop (needed r) lent_pyramid
  pub serials_rest : drop (cell_count r) caller.held.serials ≡ drop (cell_count r) lent_serials
  pub order_rest : drop (cell_count r) caller.held.order ≡ drop (cell_count r) lent_order
  -- the sheet is the one that the model of these greys has with so many dots, and these are at most the total (S 10.2)
  pub so_many : model.sheet ≡ steps (kernel_of knit) r caller.held.progress.dots (model_start r greys)
  pub most : caller.held.progress.dots ≤ total_of G
  pub all_dots_lem : all_dots r caller.held.serials ≡ caller.held.progress.dots
  -- a list that ends with a return that isn't refused: record and buffers, whole, are as they were when its name was
  -- last kept (S 15.9)
  pub last_kept : (before between : List Action) (b : Return)
      → actions ≡ (before ++ (keeping b.name ∷ between)) ++ (returning b ∷ [])
      → Each (λ a. a ≢ keeping b.name) between
      → (return_of greys
      (caller_after_all greys first (before ++ (keeping b.name ∷ between))) b).said ≡ returned []
      → caller.held ≡ (caller_after_all greys first before).held
  -- and after a keep there is such a return: any that is lent enough (S 10.3)
  pub returns : (before between : List Action) (b : Return) → actions ≡ before ++ (keeping b.name ∷ between)
      → Each (λ a. a ≢ keeping b.name) between → 1 ≤ b.name → b.name ≤ 8
      → cell_count r ≤ b.greys_lent → needed r ≤ b.pyramid_lent
      → cell_count r ≤ b.serials_lent → cell_count r ≤ b.order_lent
      → (return_of greys caller b).said ≡ returned []
  -- the price list of the dots then on the sheet (S 15.9): no cell twice (S 15.6), the cap of every aligned square
  -- (S 15.4), the floor once the map is finished (S 15.5), the quote page, and what is left at the top (S 15.7)
  pub once : (i j : ℕ) → i < j → j < caller.held.progress.dots
      → get_or caller.held.order i 0 ≢ get_or caller.held.order j 0
  pub cap : EachBlock r (UnderCap r greys caller.held.serials)
  pub floor : top_of caller.held.pyramid <ℤ pos half_dot → EachBlock r (OverFloor r greys caller.held.serials)
  pub quotes : EachBlock r (Quoted r greys caller.held.serials)
  pub debt : pos (one_dot * caller.held.progress.dots) +ℤ top_of caller.held.pyramid ≡ pos (256 * G)

-- The promise for one list of calls on the buffers that Load was lent.
abbrev pub NamesHold : ℕ → ℕ → List ℕ → List ℤ → List ℕ → List ℕ → List Action → Type 0
NamesHold side knit greys pyramid serials order actions =
    let r = power_of side in
    let first = caller_at_first side knit greys pyramid serials order in
    let memory = memory_at_first r greys in
    StagesHold knit r (grey_total r greys) greys pyramid serials order actions
    first (caller_after_all greys first actions) (answers_of greys first actions)
    (memory_after_all knit r memory actions) (model_answers knit r memory actions)
