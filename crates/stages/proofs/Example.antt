-- An instance of `names_hold`, so that it is seen to speak of something (`holds_here`): P3 on ribbed cloth, kept with
-- no dot under name 1 and with one dot under name 8, run to its end, and returned to. The buffers are one place longer
-- than needed.
use Rattle.std.specs.Prelude.{◌≡◌, refl, List, [], ◌∷◌, ℕ, replicate, ℤ, pos}
use Rattle.std.proofs.Common.{arith}
use Rattle.definition.specs.Lists.{sum_to, all_to, tabulate_from, joined, eq_z}
use Rattle.definition.specs.Answers.{Said, returned, finished, more, refused}
use Rattle.definition.specs.Pyramid.{
  start,
  place_in,
  row_at,
  column_at,
  level_of,
  in_level,
  entry,
  four,
  coarser,
  pyramid_over,
}
use Rattle.definition.specs.Blocks.{block_sum, grey_at, burnt, burnt_at, grey_sum, grey_total}
use Rattle.definition.specs.Descent.{
  candidate,
  first_of_equals,
  last_of_equals,
  of_equals,
  choice_of,
  better,
  largest,
  descend,
}
use Rattle.definition.specs.Diffusion.{
  ribbed,
  weights_of,
  places_in_turn,
  kernel_of,
  within,
  on_map,
  weight_at,
  share,
  diffuse,
}
use Rattle.definition.specs.Model.{top_of, model_start, missing, place_dot, step, steps}
use Rattle.definition.specs.Sound.{
  burnt_near,
  every_entry,
  few_dots,
  numbered,
  counted,
  unused,
  summed,
  bounded,
  owing,
  is_sound,
}
use Rattle.definition.specs.Refusals.{power_up_to, power_of, lowest}
use Rattle.definition.specs.Lowering.{none_high}
use Rattle.definition.specs.Load.{low_map, load_refusal, loaded, load_of}
use Rattle.definition.specs.Advance.{dots_due, said_at, sheet_in, advance_refusal, advanced, advance_of}
use Rattle.definition.specs.Quarters.{
  interleaved,
  row_of,
  column_of,
  quarter_entry,
  quarter_level,
  rows_from,
  quarters_from,
  relaid,
  as_rows,
  as_quarters,
}
use Rattle.definition.specs.ByQuarters.{load_by_quarters, advance_by_quarters, restore_by_quarters}
use Rattle.definition.specs.AdvanceList.{held_after_load, call_of, held_after}
use Rattle.definition.specs.Checkpoints.{is_name, kept_at, keep_refusal, keep_of}
use Rattle.definition.specs.Checkpoints.{can_restore, restore_refusal, restored, restore_of}
use Rattle.definition.specs.Stages.{
  Action,
  advancing,
  keeping,
  returning,
  Answer,
  replied,
  noted,
  back,
  caller_at_first,
  return_of,
  caller_after,
  act,
  answer_of,
  caller_after_all,
  answers_of,
}
use Rattle.guarantee.specs.PriceList.{Accepted}
use Rattle.stages.specs.Promise.{NamesHold}
use Rattle.stages.proofs.Theorem.{names_hold}

abbrev greys : List ℕ
greys = 128 ∷ 128 ∷ 128 ∷ 128 ∷ []

abbrev pyramid : List ℤ
pyramid = replicate 6 (pos 9)

abbrev sheet : List ℕ
sheet = replicate 5 9

abbrev advance : ℕ → Action
advance budget = advancing (record { budget = budget; pyramid_lent = 6; serials_lent = 4; order_lent = 5 })

-- a return to a name, lent so many places of the greys and of the pyramid
abbrev return : ℕ → ℕ → ℕ → Action
return name g p =
    returning (record { name = name; greys_lent = g; pyramid_lent = p; serials_lent = 4; order_lent = 9 })

-- kept, one dot, kept, no such name, run to the end; then returns: to an empty name, with a pyramid one place short,
-- with too few greys, to name 8, and from there back to name 1
abbrev actions : List Action
actions =
    keeping 1 ∷ advance 1 ∷ keeping 8 ∷ keeping 9 ∷ advance 5
    ∷ return 3 4 5 ∷ return 8 4 4 ∷ return 8 3 5 ∷ return 8 9 5 ∷ return 1 4 6 ∷ []

accepted : Accepted 2 ribbed greys pyramid sheet sheet
unfolding load_by_quarters as_rows relaid rows_from joined level_of tabulate_from load_of load_refusal low_map none_high
    loaded lowest power_of power_up_to start
accepted =
    record { bytes = (omega arith, (omega arith, (omega arith, (omega arith, tt)))); said = refl }

pub holds_here : NamesHold 2 ribbed greys pyramid sheet sheet actions
holds_here = names_hold 2 ribbed greys pyramid sheet sheet accepted actions

-- what they answer, by computing
abbrev made : ℕ → ℕ → Said → Answer
made dots n said = replied
    (record { progress = record { side = 2; dots = dots; knit = ribbed }; made = n; said = said })

abbrev returns : ℕ → Said → Answer
returns dots said = back (record { side = 2; dots = dots; knit = ribbed }) said

pub answers_here : answers_of greys (caller_at_first 2 ribbed greys pyramid sheet sheet) actions
    ≡ noted (returned []) ∷ made 1 1 more ∷ noted (returned []) ∷ noted (refused 10) ∷ made 2 1 finished
    ∷ returns 2 (refused 10) ∷ returns 2 (refused 3) ∷ returns 2 (refused 2) ∷ returns 1 (returned [])
    ∷ returns 0 (returned []) ∷ []
unfolding sum_to all_to tabulate_from eq_z start place_in row_at column_at level_of in_level entry four coarser
    pyramid_over block_sum grey_at burnt burnt_at grey_sum grey_total candidate first_of_equals last_of_equals of_equals
    choice_of better largest descend weights_of places_in_turn kernel_of within on_map weight_at share diffuse top_of
    model_start missing place_dot step steps burnt_near every_entry few_dots numbered counted unused summed
    bounded owing is_sound power_up_to power_of lowest load_refusal low_map none_high loaded load_of dots_due said_at
    sheet_in advance_refusal
    advanced advance_of held_after_load call_of held_after is_name kept_at keep_refusal keep_of can_restore
    restore_refusal restored restore_of caller_at_first return_of caller_after act answer_of caller_after_all answers_of
    interleaved row_of column_of quarter_entry quarter_level rows_from quarters_from relaid as_rows as_quarters joined
    load_by_quarters advance_by_quarters restore_by_quarters
answers_here = refl
