-- An instance of the price list, so that it is seen to speak of something (`holds_here`): P3, side 2 and greys 128,
-- with budgets 0, 1, 1 and, after the first of them, a call that is lent a pyramid of four places, one too few. The
-- buffers are one place longer than needed.
use Rattle.std.specs.Prelude.{◌≡◌, refl, List, [], ◌∷◌, ℕ, drop, replicate, ℤ, pos}
use Rattle.std.proofs.Common.{arith}
use Rattle.definition.specs.Lists.{sum_to, all_to, tabulate_from, joined, eq_z}
use Rattle.definition.specs.Answers.{Said, finished, more, refused}
use Rattle.definition.specs.Pyramid.{needed, cell_count, start, place_in, row_at, column_at}
use Rattle.definition.specs.Pyramid.{level_of, in_level, entry, four, coarser, pyramid_over}
use Rattle.definition.specs.Blocks.{grey_at, burnt, burnt_at}
use Rattle.definition.specs.Descent.{
  candidate,
  first_of_equals,
  last_of_equals,
  of_equals,
  choice_of,
  better,
  largest,
  descend,
}
use Rattle.definition.specs.Diffusion.{
  plain,
  ribbed,
  weights_of,
  places_in_turn,
  kernel_of,
  within,
  on_map,
  weight_at,
  share,
  diffuse,
}
use Rattle.definition.specs.Model.{top_of, model_start, missing, place_dot, step, steps}
use Rattle.definition.specs.Sound.{
  burnt_near,
  every_entry,
  few_dots,
  numbered,
  counted,
  unused,
  summed,
  bounded,
  owing,
  is_sound,
}
use Rattle.definition.specs.Refusals.{power_up_to, power_of, lowest}
use Rattle.definition.specs.Lowering.{none_high}
use Rattle.definition.specs.Load.{low_map, load_refusal, loaded, load_of}
use Rattle.definition.specs.Advance.{Reply, dots_due, said_at, sheet_in, advance_refusal, advanced, advance_of}
use Rattle.definition.specs.Quarters.{
  interleaved,
  row_of,
  column_of,
  quarter_entry,
  quarter_level,
  rows_from,
  quarters_from,
  relaid,
  as_rows,
  as_quarters,
}
use Rattle.definition.specs.ByQuarters.{load_by_quarters, advance_by_quarters}
use Rattle.definition.specs.AdvanceList.{Call, held_after_load, call_of, held_after, outcomes_of, replies_of}
use Rattle.guarantee.specs.PriceList.{Accepted, HoldsFrom, PriceList}
use Rattle.guarantee.proofs.Lent.{held_of}
use Rattle.guarantee.proofs.Theorem.{loaded_before}
use Rattle.guarantee.proofs.Promised.{price_list}

abbrev greys : List ℕ
greys = 128 ∷ 128 ∷ 128 ∷ 128 ∷ []

abbrev pyramid : List ℤ
pyramid = replicate 6 (pos 9)

abbrev sheet : List ℕ
sheet = replicate 5 9

abbrev call : ℕ → ℕ → Call
call budget lent = record { budget = budget; pyramid_lent = lent; serials_lent = 5; order_lent = 5 }

abbrev calls : List Call
calls = call 0 6 ∷ call 1 4 ∷ call 1 6 ∷ call 1 5 ∷ []

accepted : Accepted 2 plain greys pyramid sheet sheet
unfolding load_by_quarters as_rows relaid rows_from joined level_of tabulate_from load_of load_refusal low_map none_high
    loaded lowest power_of power_up_to start
accepted = record { bytes = (omega arith, (omega arith, (omega arith, (omega arith, tt)))); said = refl }

accepted_ribbed : Accepted 2 ribbed greys pyramid sheet sheet
unfolding load_by_quarters as_rows relaid rows_from joined level_of tabulate_from load_of load_refusal low_map none_high
    loaded lowest power_of power_up_to start
accepted_ribbed = record { bytes = accepted.bytes; said = refl }

pub holds_here : PriceList 2 plain greys pyramid sheet sheet calls
holds_here = price_list 2 plain greys pyramid sheet sheet accepted calls

pub holds_ribbed : PriceList 2 ribbed greys pyramid sheet sheet calls
holds_ribbed = price_list 2 ribbed greys pyramid sheet sheet accepted_ribbed calls

-- the same calls on a sheet that was loaded when greys went up to 255, of four such greys (S 7.5)
abbrev dark : List ℕ
dark = 255 ∷ 255 ∷ 255 ∷ 255 ∷ []

pub holds_before :
    HoldsFrom
    (held_of plain 1 (model_start 1 dark) (drop (needed 1) pyramid) (drop (cell_count 1) sheet)
    (drop (cell_count 1) sheet))
    plain 1 dark pyramid sheet sheet calls
holds_before =
    loaded_before 1 plain (omega arith) (omega arith) (omega arith) dark
    (omega arith, (omega arith, (omega arith, (omega arith, tt)))) pyramid sheet sheet calls

-- what the calls reply on either cloth, by computing: more; refused, 3; more; finished
abbrev reply : ℕ → ℕ → ℕ → Said → Reply
reply knit dots made said =
    record { progress = record { side = 2; dots = dots; knit = knit }; made = made; said = said }

abbrev replies : ℕ → List Reply
replies knit = reply knit 0 0 more ∷ reply knit 0 0 (refused 3) ∷ reply knit 1 1 more ∷ reply knit 2 1 finished
    ∷ []

abbrev given : ℕ → List Reply
given knit = replies_of (held_after_load 2 knit greys pyramid sheet sheet) calls

pub replies_here : (given plain ≡ replies plain) × (given ribbed ≡ replies ribbed)
unfolding sum_to all_to tabulate_from eq_z start place_in row_at column_at level_of in_level entry four coarser
    pyramid_over grey_at burnt burnt_at candidate first_of_equals last_of_equals of_equals choice_of better largest
    descend weights_of places_in_turn kernel_of within on_map weight_at share diffuse top_of model_start missing
    place_dot step steps burnt_near every_entry few_dots numbered counted unused summed bounded owing is_sound
    power_up_to power_of lowest load_refusal low_map none_high loaded load_of dots_due said_at sheet_in advance_refusal
    advanced advance_of held_after_load call_of
    held_after outcomes_of replies_of interleaved row_of column_of quarter_entry quarter_level rows_from quarters_from
    relaid as_rows as_quarters joined load_by_quarters advance_by_quarters
replies_here = (refl, refl)
