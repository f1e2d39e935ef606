-- The price list as one statement about a whole list of calls, with its own figures: `Holds`, where Load has accepted
-- (`Accepted`). `Promised` proves it, and `Clauses` says it again field by field.
use Rattle.std.specs.Prelude.{◌≡◌, ◌≢◌, ◌↔◌, false, List, [], ◌∷◌, ℕ, ◌+◌, ◌*◌, ◌-◌, ◌^◌, ◌≤◌, ◌<◌, min, get_or, take}
use Rattle.std.specs.Prelude.{drop, ℤ, pos, ◌+ℤ◌, ◌<ℤ◌}
use Rattle.definition.specs.Answers.{returned, finished}
use Rattle.definition.specs.Pyramid.{one_dot, half_dot, needed, cell_count}
use Rattle.definition.specs.Blocks.{block_side, grey_sum, grey_total, total_of, dots_in, all_dots}
use Rattle.definition.specs.Diffusion.{kernel_of}
use Rattle.definition.specs.Model.{Halftone, top_of, model_start, steps}
use Rattle.definition.specs.Refusals.{power_of}
use Rattle.definition.specs.Quarters.{quarters_from}
use Rattle.definition.specs.ByQuarters.{load_by_quarters}
use Rattle.definition.specs.Advance.{Reply, AdvanceOutcome}
use Rattle.definition.specs.QuotePage.{Figure, figures}
use Rattle.definition.specs.AdvanceList.{
  Call,
  Held,
  held_after_load,
  outcomes_of,
  held_after_calls,
  replies_of,
  model_after_calls,
  model_replies,
  is_refusal,
  granted,
}

-- P holds of each element
abbrev pub Each : {A : Type 0} → (A → Type 0) → List A → Type 0
Each P [] = Unit {0}
Each P (x ∷ xs) = P x × Each P xs

-- P holds of each aligned square, by its level k, row a and column b (S 2.10)
abbrev pub EachBlock : ℕ → (ℕ → ℕ → ℕ → Type 0) → Type 0
EachBlock r P = (k a b : ℕ) → k ≤ r → a < 2 ^ k → b < 2 ^ k → P k a b

-- Where the promise starts: Load has accepted a side, a knit and greys that are bytes
pub record Accepted (side knit : ℕ) (greys : List ℕ) (pyramid : List ℤ) (serials order : List ℕ) : Type 0 where
  pub bytes : Each (λ grey. grey ≤ 255) greys
  pub said : (load_by_quarters side knit greys pyramid serials order).said ≡ returned []

-- The holes of an aligned square of side s with grey sum g: the cap (S 15.4) ..
abbrev pub UnderCap : ℕ → List ℕ → List ℕ → ℕ → ℕ → ℕ → Type 0
UnderCap r greys serials k a b = 765 * dots_in r serials k a b < 3 * grey_sum r greys k a b + 765
    + 1020 * block_side r k

-- .. and the floor, for a finished map (S 15.5): 510 × holes > 2 × g − 255 − 1,530 × k − 2,040 × (N − s), with what is
-- taken away on the other side (s is at most N, so N − s is a natural number)
abbrev pub OverFloor : ℕ → List ℕ → List ℕ → ℕ → ℕ → ℕ → Type 0
OverFloor r greys serials k a b =
    2 * grey_sum r greys k a b < 510 * dots_in r serials k a b + 255 + 1530 * k + 2040 * (2 ^ r - block_side r k)

-- .. and the quote page (S 8.4), of which a figure is a number with the width of its column. A figure has no more
-- digits than places ..
abbrev pub InWidth : Figure → Type 0
InWidth (width, n) = n < 10 ^ width

-- .. and of a line's five figures the fourth, the holes, is at most the fifth, the cap (S 15.4)
abbrev pub printed : List Figure → ℕ → ℕ
printed line i = (get_or line i (0, 0)).1

pub record Quoted (r : ℕ) (greys serials : List ℕ) (k a b : ℕ) : Type 0 where
  pub within : printed (figures r greys serials k a b) 3 ≤ printed (figures r greys serials k a b) 4
  pub fits : Each InWidth (figures r greys serials k a b)

-- One call of the list (S 15.3): if it isn't refused, it says finished exactly when all holes then number the total.
abbrev pub Ends : ℕ → ℕ → AdvanceOutcome → Type 0
Ends r total out =
    is_refusal out.reply.said ≡ false → (out.reply.said ≡ finished) ↔ (all_dots r out.serials ≡ total)

-- What holds after a list of calls: of the buffers as Load was lent them, of what the caller then holds, of the
-- outcomes and replies of the calls, and of the model's state and replies. N = 2^r is the side, G the sum of the greys.
pub record Holds (knit r G : ℕ) (greys : List ℕ) (lent_pyramid : List ℤ) (lent_serials lent_order : List ℕ)
    (calls : List Call)
    (held : Held) (outcomes : List AdvanceOutcome) (replies : List Reply) (model : Halftone) (modelled : List Reply) :
    Type 0 where
  -- what is needed of each buffer is the model's, the pyramid's written by quarters; so is the record (S 15.2, S 2.8)
  pub pyramid : take (needed r) held.pyramid ≡ quarters_from r model.pyramid
  pub serials : take (cell_count r) held.serials ≡ model.serials
  pub order : take (cell_count r) held.order ≡ model.order
  pub progress : held.progress ≡ record { side = 2 ^ r; dots = model.dots; knit = knit }
  -- each call, also a refused one, answers as the model does (S 15.2)
  pub answered : replies ≡ modelled
  -- what lies past the needed lengths plays no part and stays (S 2.9)
  pub pyramid_rest : drop (needed r) held.pyramid ≡ drop (needed r) lent_pyramid
  pub serials_rest : drop (cell_count r) held.serials ≡ drop (cell_count r) lent_serials
  pub order_rest : drop (cell_count r) held.order ≡ drop (cell_count r) lent_order
  -- the holes and their order are the first ones that the model makes for that map (S 15.2)
  pub first_dots : model ≡ steps (kernel_of knit) r held.progress.dots (model_start r greys)
  -- the holes of the whole map, counted as Tally counts; they number the smaller of the total and the sum of the
  -- budgets of the calls not refused (S 15.3)
  pub all_dots_lem : all_dots r held.serials ≡ held.progress.dots
  pub number : held.progress.dots ≡ min (total_of G) (granted calls replies)
  -- no cell is burnt twice: the order list's first places, one for each hole, are all different (S 15.6)
  pub once : (i j : ℕ) → i < j → j < held.progress.dots → get_or held.order i 0 ≢ get_or held.order j 0
  -- the cap of every aligned square (S 15.4), and, once the map is finished, the top being below 32,640, its floor
  -- (S 15.5)
  pub cap : EachBlock r (UnderCap r greys held.serials)
  pub floor : top_of held.pyramid <ℤ pos half_dot → EachBlock r (OverFloor r greys held.serials)
  -- the quote page of every level (S 15.4)
  pub quotes : EachBlock r (Quoted r greys held.serials)
  -- the debt still stored at the top (S 15.7)
  pub debt : pos (one_dot * held.progress.dots) +ℤ top_of held.pyramid ≡ pos (256 * G)
  -- each call says finished where it should, and else doesn't (S 15.3)
  pub ends : Each (Ends r (total_of G)) outcomes

-- What a list of calls makes of a fresh sheet that the caller holds, beside what it makes of the model's start of these
-- greys.
abbrev pub HoldsFrom : Held → ℕ → ℕ → List ℕ → List ℤ → List ℕ → List ℕ → List Call → Type 0
HoldsFrom fresh knit r greys pyramid serials order calls =
    let model = model_start r greys in
    Holds knit r (grey_total r greys) greys pyramid serials order calls
    (held_after_calls fresh calls) (outcomes_of fresh calls) (replies_of fresh calls)
    (model_after_calls knit r model calls) (model_replies knit r model calls)

-- The price list of one list of calls on the buffers that Load was lent.
abbrev pub PriceList : ℕ → ℕ → List ℕ → List ℤ → List ℕ → List ℕ → List Call → Type 0
PriceList side knit greys pyramid serials order calls =
    HoldsFrom (held_after_load side knit greys pyramid serials order) knit (power_of side)
    greys pyramid serials order calls
