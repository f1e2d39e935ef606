-- The rows for names, `stage_plates`: Keep, Restore, and lists of calls with them.
use Rattle.std.specs.Prelude.{Bool, ◌&&◌, List, [], ◌∷◌, ◌++◌, ℕ, eqb, take, replicate, pos}
use Rattle.definition.specs.Answers.{Said}
use Rattle.definition.specs.Diffusion.{plain, ribbed}
use Rattle.definition.specs.Refusals.{Row}
use Rattle.definition.specs.Checkpoints.{keep_of, RestoreOutcome}
use Rattle.definition.specs.ByQuarters.{restore_by_quarters}
use Rattle.definition.specs.Stages.{
  Action,
  advancing,
  keeping,
  returning,
  caller_at_first,
  caller_after_all,
  memory_at_first,
  memory_after_all,
  counts_of,
}
use Rattle.definition.specs.PlateTools.{same, same_z, refuses, says, after_on, p1, p3, top_only}
use Rattle.definition.specs.declared.Progress.{Progress}
use Rattle.definition.specs.declared.Checkpoints.{Checkpoints}

-- Keep with the record (side, dots, 7) under a name, on this value, leaves this value, and the record as given: it does
-- not look at the knit
unfoldable pub keeps : ℕ → ℕ → List ℕ → ℕ → List ℕ → Bool
keeps side dots kept name then =
    let outcome = keep_of (record { side = side; dots = dots; knit = 7 }) (record { kept = kept }) name in
    says outcome.said [] && same outcome.checkpoints.kept then
    && eqb outcome.progress.side side && eqb outcome.progress.dots dots && eqb outcome.progress.knit 7

-- it refuses with a number, and gives back record and value
unfoldable pub keep_refuses : ℕ → ℕ → List ℕ → ℕ → ℕ → Bool
keep_refuses side dots kept name number =
    let outcome = keep_of (record { side = side; dots = dots; knit = 7 }) (record { kept = kept }) name in
    refuses outcome.said number && same outcome.checkpoints.kept kept
    && eqb outcome.progress.side side && eqb outcome.progress.dots dots && eqb outcome.progress.knit 7

-- Restore on P3 for a knit after these budgets, given these greys, this value and a name
unfoldable pub restores_p3 : ℕ → List ℕ → List ℕ → List ℕ → ℕ → RestoreOutcome
restores_p3 knit budgets greys kept name =
    let held = after_on knit 1 p3 budgets in
    restore_by_quarters held.progress (record { kept = kept }) name greys held.pyramid held.serials held.order

-- all its buffers, whole, and its record are those of these greys after these budgets, and the value stays
unfoldable pub is_after : RestoreOutcome → ℕ → List ℕ → List ℕ → List ℕ → Bool
is_after outcome knit greys budgets kept =
    let held = after_on knit 1 greys budgets in
    same_z outcome.pyramid held.pyramid && same outcome.serials held.serials
    && same outcome.order held.order && eqb outcome.progress.side held.progress.side
    && eqb outcome.progress.dots held.progress.dots && eqb outcome.progress.knit knit
    && same outcome.checkpoints.kept kept

-- it goes back to so many dots of these greys
unfoldable pub goes_back_on : ℕ → List ℕ → List ℕ → List ℕ → ℕ → ℕ → Bool
goes_back_on knit budgets greys kept name dots =
    let outcome = restores_p3 knit budgets greys kept name in
    says outcome.said [] && is_after outcome knit greys (dots ∷ []) kept

abbrev pub goes_back : List ℕ → List ℕ → List ℕ → ℕ → ℕ → Bool
goes_back budgets greys kept name dots = goes_back_on plain budgets greys kept name dots

-- it refuses with a number, and gives back everything
unfoldable pub stays_there_on : ℕ → List ℕ → List ℕ → ℕ → ℕ → Bool
stays_there_on knit budgets kept name number =
    let outcome = restores_p3 knit budgets p3 kept name in
    refuses outcome.said number && is_after outcome knit p3 budgets kept

abbrev pub stays_there : List ℕ → List ℕ → ℕ → ℕ → Bool
stays_there budgets kept name number = stays_there_on plain budgets kept name number

-- Restore of the record (side, 0, knit) with white greys and buffers of these lengths, all unburnt, with this top,
-- and with
-- this kept under name 1
unfoldable pub restores : ℕ → ℕ → ℕ → ℕ → ℕ → ℕ → ℕ → ℕ → ℕ → Said
restores side knit g p s o top kept name =
    let record₀ : Progress = record { side = side; dots = 0; knit = knit } in
    let value : Checkpoints = record { kept = kept ∷ replicate 7 0 } in
    (restore_by_quarters record₀ value name (replicate g 0) (top_only p top) (replicate s 0) (replicate o 0)).said

-- eight names, of which only the last two are kept: with no dot, and with one
unfoldable pub two_kept : List ℕ
two_kept = replicate 6 0 ++ 1 ∷ 2 ∷ []

-- Lists of calls on P3 for a knit, all lent one place more than needed, and the model fed with them
abbrev pub advancing1 : ℕ → Action
advancing1 budget = advancing (record { budget = budget; pyramid_lent = 6; serials_lent = 5; order_lent = 5 })

abbrev pub returning1 : ℕ → Action
returning1 name =
    returning (record { name = name; greys_lent = 5; pyramid_lent = 6; serials_lent = 5; order_lent = 5 })

-- they leave P3 after these budgets, with these counts under the names, and so does the model
unfoldable pub leaves_stage_on : ℕ → List Action → List ℕ → List ℕ → Bool
leaves_stage_on knit actions budgets kept =
    let buffer : List ℕ = replicate 5 9 in
    let caller = caller_after_all p3 (caller_at_first 2 knit p3 (replicate 6 (pos 9)) buffer buffer) actions in
    let memory = memory_after_all knit 1 (memory_at_first 1 p3) actions in
    let held = after_on knit 1 p3 budgets in
    same_z caller.held.pyramid held.pyramid && same_z memory.sheet.pyramid (take 5 held.pyramid)
    && same caller.held.serials held.serials && same memory.sheet.serials (take 4 held.serials)
    && same caller.held.order held.order && same memory.sheet.order (take 4 held.order)
    && eqb caller.held.progress.dots held.progress.dots && eqb memory.sheet.dots held.progress.dots
    && eqb caller.held.progress.knit knit
    && same caller.checkpoints.kept kept && same (counts_of memory).kept kept

abbrev pub leaves_stage : List Action → List ℕ → List ℕ → Bool
leaves_stage actions budgets kept = leaves_stage_on plain actions budgets kept

-- kept with no dot as name 1, with one as name 8, with two as name 2; the names 0 and 9 are refused
unfoldable pub kept_three : List Action
kept_three = keeping 1 ∷ advancing1 1 ∷ keeping 8 ∷ keeping 0 ∷ keeping 9 ∷ advancing1 5 ∷ keeping 2 ∷ []

unfoldable pub stage_plates : List Row
stage_plates =
    -- Keep under the first name and the last, where something is kept already, of no dot, of any count (S 10.1, S 2.11)
    (83, keeps 2 1 (replicate 8 0) 1 (2 ∷ replicate 7 0) && keeps 2 0 (replicate 8 7) 8 (replicate 7 7 ++ 1 ∷ []))
    ∷ (83, keeps 256 4294967295 (replicate 8 0) 2 (0 ∷ 4294967296 ∷ replicate 6 0))
    -- its refusals, the lowest number first (S 5.2, S 10.1)
    ∷ (84, keep_refuses 3 7 two_kept 9 1 && keep_refuses 2 7 two_kept 9 10 && keep_refuses 2 7 two_kept 0 10)
    -- Restore on P3 finished: to no dot, to one, to the total; forwards from a fresh sheet; to one dot of other greys
    -- (S 10.2)
    ∷ (85, goes_back (9 ∷ []) p3 two_kept 7 0 && goes_back (9 ∷ []) p3 two_kept 8 1)
    ∷ (85, goes_back (9 ∷ []) p3 (3 ∷ replicate 7 0) 1 2 && goes_back [] p3 two_kept 8 1)
    ∷ (85, goes_back (9 ∷ []) (240 ∷ 143 ∷ 0 ∷ 0 ∷ 9 ∷ []) two_kept 8 1)
    -- its refusals in turn, each buffer one place short, and all behind it bad too (S 5.2)
    ∷ (86, refuses (restores 3 2 3 4 3 3 1 0 9) 1 && refuses (restores 2 2 3 4 3 3 1 0 9) 11)
    ∷ (86, refuses (restores 2 0 3 4 3 3 1 0 9) 2)
    ∷ (86, refuses (restores 2 0 4 4 3 3 1 0 9) 3 && refuses (restores 2 0 4 5 3 3 1 0 9) 4)
    ∷ (86, refuses (restores 2 0 4 5 4 3 1 0 9) 4 && refuses (restores 2 0 4 5 4 4 1 0 9) 5)
    -- then the names 9 and 0, an empty one, one with a dot too many, and the only one left (S 10.3)
    ∷ (87, refuses (restores 2 0 4 5 4 4 0 1 9) 10 && refuses (restores 2 0 4 5 4 4 0 1 0) 10)
    ∷ (87, refuses (restores 2 0 4 5 4 4 0 0 1) 10 && refuses (restores 2 0 4 5 4 4 0 2 1) 10)
    ∷ (87, says (restores 2 0 4 5 4 4 0 1 1) [])
    -- refused, it gives back everything: an empty name, and one with a dot more than P3 comes to; greys past the map do
    -- not raise its total (S 10.3)
    ∷ (88, stays_there (1 ∷ []) two_kept 1 10 && stays_there (1 ∷ []) (4 ∷ replicate 7 0) 1 10)
    ∷ (88, stays_there_on ribbed (1 ∷ []) two_kept 1 10)
    ∷ (88, refuses (restores_p3 plain [] (p1 ++ 255 ∷ 255 ∷ []) two_kept 8).said 10)
    -- lists of calls: three names kept; back to each of them and forwards again; to an empty one and to none; a name
    -- kept anew (S 15.9)
    ∷ (89, leaves_stage kept_three (9 ∷ []) (1 ∷ 3 ∷ replicate 5 0 ++ 2 ∷ []))
    ∷ (89, leaves_stage (kept_three ++ returning1 8 ∷ []) (1 ∷ []) (1 ∷ 3 ∷ replicate 5 0 ++ 2 ∷ []))
    ∷ (
      89,
      leaves_stage (kept_three ++ returning1 1 ∷ returning1 2 ∷ returning1 1 ∷ []) []
          (1 ∷ 3 ∷ replicate 5 0 ++ 2 ∷ []),
    )
    ∷ (
      89,
      leaves_stage (kept_three ++ returning1 1 ∷ returning1 2 ∷ returning1 3 ∷ returning1 9 ∷ []) (2 ∷ [])
          (1 ∷ 3 ∷ replicate 5 0 ++ 2 ∷ []),
    )
    ∷ (
      89,
      leaves_stage (kept_three ++ returning1 1 ∷ keeping 2 ∷ advancing1 1 ∷ returning1 2 ∷ []) []
          (1 ∷ 1 ∷ replicate 5 0 ++ 2 ∷ []),
    )
    -- the same on ribbed cloth: back and forwards, and in a list of calls
    ∷ (89, goes_back_on ribbed (9 ∷ []) p3 two_kept 8 1 && goes_back_on ribbed [] p3 (3 ∷ replicate 7 0) 1 2)
    ∷ (89, leaves_stage_on ribbed (kept_three ++ returning1 8 ∷ []) (1 ∷ []) (1 ∷ 3 ∷ replicate 5 0 ++ 2 ∷ []))
    ∷ []
