-- The price list, for either knit and every list of calls after an accepted Load (`price_list`).
use Rattle.std.specs.Prelude.{ℕ, ℤ}
use mathlib.Core.List.{List}
use Rattle.definition.specs.Refusals.{power_of}
use Rattle.definition.specs.AdvanceList.{Call}
use Rattle.refusals.specs.Powers.{power_of_small}
use Rattle.guarantee.specs.PriceList.{Accepted, PriceList}
use Rattle.guarantee.proofs.Start.{accepted_loaded, loaded_held}
use Rattle.guarantee.proofs.Theorem.{loaded_before}

-- The price list, for either knit (S 15.2, S 15.3, S 15.4, S 15.5, S 15.6, S 15.7): an accepted Load leaves such a
-- sheet
pub price_list : (side knit : ℕ) (greys : List ℕ) (pyramid : List ℤ) (serials order : List ℕ)
    → Accepted side knit greys pyramid serials order → (calls : List Call)
    → PriceList side knit greys pyramid serials order calls
price_list side knit greys pyramid serials order accepted calls =
    let h = accepted_loaded side knit greys pyramid serials order accepted in
    rw (loaded_held side knit greys pyramid serials order h)
    (loaded_before (power_of side) knit h.lent.power (power_of_small side) h.lent.known greys accepted.bytes
    pyramid serials order calls)
