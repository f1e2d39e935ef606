-- The laws of sketches for the code: any answer of Sketch Quote that keeps the call's promise has figures just if the
-- text is that of a sketch which it is to quote (`quotes_iff`), and they and the buffers then keep what is promised of
-- every map between low and high (`keeps_range`).
use Rattle.std.specs.Prelude.{◌≡◌, List, [], ◌∷◌, ◌↔◌, ℕ, length, Result, Ok, Err}
use Rattle.std.proofs.Common.{sym, ◌∙◌, suc-ne-zero}
use Rattle.std.proofs.Math.Path.{ap, subst}
use Rattle.definition.specs.Answers.{returned, sketch_says}
use Rattle.definition.specs.SketchQuote.{SketchOutcome, sketch_quote_of}
use Rattle.definition.specs.declared.SketchAnswer.{SketchAnswer}
use Rattle.definition.specs.declared.Refusal.{Refusal}
use Rattle.grammar.specs.Sketch.{QuotedSketch}
use Rattle.grammar.proofs.Sketch.{sketch_returned_iff}
use Rattle.sketch_range.specs.Promise.{Ranged}
use Rattle.sketch_range.proofs.Holds.{sketch_holds, ranges_left}

returned_figures : (a : Result SketchAnswer Refusal) (side least greatest : ℕ)
    → sketch_says a ≡ returned (side ∷ least ∷ greatest ∷ [])
    → a ≡ Ok (record { side = side; least = least; greatest = greatest })
unfolding sketch_says
returned_figures (Ok answer) side least greatest e =
    let n_is : answer.side ≡ side = cc in
    let l_is : answer.least ≡ least = cc in
    let g_is : answer.greatest ≡ greatest = cc in
    rw (← n_is, ← l_is, ← g_is)
returned_figures (Err why) side least greatest e = absurd (suc-ne-zero 0 (cc))

-- `low`, `high` and `cap` are what the call has left in the buffers
module _ (text : List ℕ) (k : ℕ) (lows highs caps low high cap : List ℕ) (a : Result SketchAnswer Refusal)
    (promise : record { said = sketch_says a; lows = low; highs = high; caps = cap }
    ≡ sketch_quote_of text k lows highs caps)
    (side least greatest : ℕ) where
  said : sketch_says a ≡ (sketch_quote_of text k lows highs caps).said
  said = ap (λ (o : SketchOutcome). o.said) promise

  -- the grammar of sketches, of the code's answer (S 6.3, S 9.4)
  pub quotes_iff : (a ≡ Ok (record { side = side; least = least; greatest = greatest }))
      ↔ QuotedSketch text k (length lows) (length highs) (length caps) side least greatest
  unfolding sketch_says
  quotes_iff = (
    λ e. (sketch_returned_iff text k lows highs caps side least greatest).0 (sym said ∙ ap sketch_says e),
    λ q.
        let returns = (sketch_returned_iff text k lows highs caps side least greatest).1 q in
        returned_figures a side least greatest (said ∙ returns),
  )

  -- what is promised, of the code's answer (S 15.11)
  pub keeps_range : a ≡ Ok (record { side = side; least = least; greatest = greatest })
      → Ranged side k low high least greatest cap
  unfolding sketch_says
  keeps_range e =
      let holds = sketch_holds text k lows highs caps side least greatest (sym said ∙ ap sketch_says e) in
      subst (λ (o : SketchOutcome). Ranged side k o.lows o.highs least greatest o.caps) (sym promise)
      (ranges_left holds)
