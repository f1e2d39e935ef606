-- What the plates are told in: equal lists, what was said, and a map loaded and run.
use Rattle.std.specs.Prelude.{Bool, true, false, cond, ◌&&◌, List, [], ◌∷◌, ◌++◌, map, ℕ, zero, suc, ◌^◌, eqb, take}
use Rattle.std.specs.Prelude.{replicate, ℤ, pos, neg_ℤ}
use Rattle.definition.specs.Lists.{eq_z}
use Rattle.definition.specs.Answers.{Said, returned, finished, more, comparison, refused, Compared}
use Rattle.definition.specs.Answers as Answers
use Rattle.definition.specs.Pyramid.{needed, cell_count}
use Rattle.definition.specs.Diffusion.{Kernel, plain, kernel_of, weight_at, share}
use Rattle.definition.specs.Model.{Halftone, model_start}
use Rattle.definition.specs.Advance.{Reply}
use Rattle.definition.specs.Quarters.{as_rows}
use Rattle.definition.specs.AdvanceList.{
  Call,
  Held,
  held_after_load,
  held_after_calls,
  replies_of,
  model_after_calls,
  model_replies,
}
use Rattle.definition.specs.declared.Progress.{Progress}

-- ---- equal lists; what was said, as a list
unfoldable pub same : List ℕ → List ℕ → Bool
same [] [] = true
same [] (y ∷ ys) = false
same (x ∷ xs) [] = false
same (x ∷ xs) (y ∷ ys) = eqb x y && same xs ys

unfoldable pub same_z : List ℤ → List ℤ → Bool
same_z [] [] = true
same_z [] (y ∷ ys) = false
same_z (x ∷ xs) [] = false
same_z (x ∷ xs) (y ∷ ys) = eq_z x y && same_z xs ys

unfoldable pub compared_as : Compared → List ℕ
compared_as Answers.before = 0 ∷ []
compared_as (Answers.before_at row column) = 1 ∷ row ∷ column ∷ []
compared_as Answers.same = 2 ∷ []
compared_as (Answers.after_at row column) = 3 ∷ row ∷ column ∷ []
compared_as Answers.after = 4 ∷ []

unfoldable pub said_as : Said → List ℕ
said_as (returned values) = 0 ∷ values
said_as finished = 1 ∷ []
said_as more = 2 ∷ []
said_as (refused n) = 3 ∷ n ∷ []
said_as (comparison c) = 4 ∷ compared_as c

-- the number of a refusal
unfoldable pub refuses : Said → ℕ → Bool
refuses said n = same (said_as said) (3 ∷ n ∷ [])

abbrev pub minus : ℕ → ℤ
minus n = neg_ℤ (pos n)

-- ---- a run: a map loaded for cloth of a knit, into buffers one place longer than needed, with 9s in them, then calls
-- with these budgets, all lent whole
unfoldable pub loaded_on : ℕ → ℕ → List ℕ → Held
loaded_on knit r greys =
    let nines : List ℕ = replicate (suc (cell_count r)) 9 in
    held_after_load (2 ^ r) knit greys (replicate (suc (needed r)) (pos 9)) nines nines

unfoldable pub calls_of : ℕ → List ℕ → List Call
calls_of r budgets =
    let cells = suc (cell_count r) in
    map (λ n. record { budget = n; pyramid_lent = suc (needed r); serials_lent = cells; order_lent = cells }) budgets

unfoldable pub after_on : ℕ → ℕ → List ℕ → List ℕ → Held
after_on knit r greys budgets = held_after_calls (loaded_on knit r greys) (calls_of r budgets)

unfoldable pub model_after_on : ℕ → ℕ → List ℕ → List ℕ → Halftone
model_after_on knit r greys budgets = model_after_calls knit r (model_start r greys) (calls_of r budgets)

-- the calls make and say this, each in turn, and so does the model
unfoldable pub replied : List (ℕ × Said) → List Reply → Bool
replied [] [] = true
replied [] (reply ∷ replies) = false
replied (e ∷ es) [] = false
replied (e ∷ es) (reply ∷ replies) =
    eqb e.0 reply.made && same (said_as e.1) (said_as reply.said) && replied es replies

unfoldable pub answers_on : ℕ → ℕ → List ℕ → List ℕ → List (ℕ × Said) → Bool
answers_on knit r greys budgets expected =
    replied expected (replies_of (loaded_on knit r greys) (calls_of r budgets))
    && replied expected (model_replies knit r (model_start r greys) (calls_of r budgets))

-- they leave this pyramid, written row after row, these serials, this order, with the 9s behind them, and so does the
-- model; and the record keeps its side and knit
unfoldable pub leaves_on : ℕ → ℕ → List ℕ → List ℕ → List ℤ → List ℕ → List ℕ → Bool
leaves_on knit r greys budgets pyramid serials order =
    let held = after_on knit r greys budgets in
    let model = model_after_on knit r greys budgets in
    same_z (as_rows r held.pyramid) (pyramid ++ pos 9 ∷ []) && same_z model.pyramid pyramid
    && same held.serials (serials ++ 9 ∷ []) && same model.serials serials
    && same held.order (order ++ 9 ∷ []) && same model.order order
    && eqb held.progress.side (2 ^ r) && eqb held.progress.knit knit

-- the shares of d around a cell, in their order, without the places of weight 0
unfoldable pub shares_from : Kernel → ℕ → ℕ → ℕ → ℕ → ℕ → ℕ → List ℕ
shares_from kernel r row column d n zero = []
shares_from kernel r row column d n (suc left) =
    let rest = shares_from kernel r row column d (suc n) left in
    let weight = weight_at kernel r row column in
    cond (eqb (weight n) 0) rest (share 9 weight d n ∷ rest)

unfoldable pub shares_on : ℕ → ℕ → ℕ → ℕ → ℕ → List ℕ
shares_on knit r row column d = shares_from (kernel_of knit) r row column d 0 9

-- the same on plain cloth
abbrev pub loaded_map : ℕ → List ℕ → Held
loaded_map r greys = loaded_on plain r greys

abbrev pub after : ℕ → List ℕ → List ℕ → Held
after r greys budgets = after_on plain r greys budgets

abbrev pub answers : ℕ → List ℕ → List ℕ → List (ℕ × Said) → Bool
answers r greys budgets expected = answers_on plain r greys budgets expected

abbrev pub leaves : ℕ → List ℕ → List ℕ → List ℤ → List ℕ → List ℕ → Bool
leaves r greys budgets pyramid serials order = leaves_on plain r greys budgets pyramid serials order

abbrev pub shares : ℕ → ℕ → ℕ → ℕ → List ℕ
shares r row column d = shares_on plain r row column d

-- a record on plain cloth
abbrev pub on_plain : ℕ → ℕ → Progress
on_plain side dots = record { side = side; dots = dots; knit = plain }

-- ---- the maps of the plates, side 2
unfoldable pub p1 : List ℕ
p1 = 0 ∷ 0 ∷ 0 ∷ 0 ∷ []

unfoldable pub p2 : List ℕ
p2 = 240 ∷ 240 ∷ 240 ∷ 240 ∷ []

unfoldable pub p3 : List ℕ
p3 = 128 ∷ 128 ∷ 128 ∷ 128 ∷ []

unfoldable pub p6 : List ℕ
p6 = 128 ∷ 0 ∷ 0 ∷ 0 ∷ []

-- a call that isn't refused says these values
unfoldable pub says : Said → List ℕ → Bool
says said values = same (said_as said) (0 ∷ values)

-- a pyramid of side 2 with nothing in it but its top, of which p places are lent
abbrev pub top_only : ℕ → ℕ → List ℤ
top_only p top = take p (pos top ∷ replicate 4 (pos 0))
