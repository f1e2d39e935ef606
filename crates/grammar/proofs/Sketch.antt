-- The grammar of sketches: pairs taken apart into lows and highs and put together again (`apart`); the text that the
-- call takes, told by its lows and highs (`sketch_read_iff`); what the call answers and leaves on such a text
-- (`sketch_outcome`), and that on no other it returns figures (`sketch_returned_iff`).
use Rattle.std.specs.Prelude.{◌≡◌, true, not, List, [], ◌∷◌, ◌++◌, ◌↔◌, ℕ, zero, suc, ◌*◌, ◌^◌, ◌<◌, ◌≤◌, min, leb, ltb}
use Rattle.std.specs.Prelude.{drop}
use Rattle.std.proofs.Math.Path.{refl}
use Rattle.std.proofs.Common.{ap, ◌∙◌, suc-ne-zero, ltb-false, le-ltb, leb-true, le-leb}
use native.Mathlib.Omega.{arith}
use Rattle.std.proofs.Math.ListN.{length, get_or}
use Rattle.std.proofs.lemmas.Bool.{not-false}
use Rattle.definition.specs.Answers.{returned}
use Rattle.definition.specs.Blocks.{grey_total, total_of}
use Rattle.definition.specs.Lowering.{none_high}
use Rattle.definition.specs.Refusals.{power_of, lowest}
use Rattle.definition.specs.MapText.{Reading, accepted, rejected, read_text}
use Rattle.definition.specs.SketchQuote.{
  paired,
  sketch_text,
  sketch_ends,
  lows_of,
  highs_of,
  pairs_rise,
  caps_of,
  SketchOutcome,
  sketch_kept,
  sketch_quoted,
  sketch_refusal,
  sketch_quote_of,
}
use Rattle.refusals.specs.Names.{both}
use Rattle.refusals.specs.Lowest.{lowest_past, lowest_none}
use Rattle.lowering.specs.Low.{low_at}
use Rattle.grammar.proofs.Grammar.{text_read_iff}
use Rattle.grammar.specs.Sketch.{Apart, SketchOf, SketchRead, Quotable, Passed, QuotedSketch}

-- ---- pairs
-- put together and taken apart
pub length_paired : (lows highs : List ℕ) → length lows ≡ length highs → length (paired lows highs) ≡ 2 * length lows
unfolding paired
length_paired [] highs e = refl
length_paired (low ∷ lows) [] e = absurd (omega arith)
length_paired (low ∷ lows) (high ∷ highs) e = omega (arith, length_paired lows highs (omega arith))

pub lows_paired : (lows highs : List ℕ) → length lows ≡ length highs → lows_of (paired lows highs) ≡ lows
unfolding paired lows_of
lows_paired [] highs e = refl
lows_paired (low ∷ lows) [] e = absurd (omega arith)
lows_paired (low ∷ lows) (high ∷ highs) e = ap (λ (l : List ℕ). low ∷ l) (lows_paired lows highs (omega arith))

pub highs_paired : (lows highs : List ℕ) → length lows ≡ length highs → highs_of (paired lows highs) ≡ highs
unfolding paired highs_of
highs_paired [] [] e = refl
highs_paired [] (high ∷ highs) e = absurd (omega arith)
highs_paired (low ∷ lows) [] e = absurd (omega arith)
highs_paired (low ∷ lows) (high ∷ highs) e = ap (λ (l : List ℕ). high ∷ l) (highs_paired lows highs (omega arith))

pub apart : (n : ℕ) (pairs : List ℕ) → length pairs ≡ 2 * n → Apart n pairs
unfolding lows_of highs_of paired
apart zero [] e = record { low_length = refl; high_length = refl; together = refl }
apart (suc n) [] e = absurd (omega arith)
apart n (low ∷ []) e = absurd (omega arith)
apart zero (low ∷ high ∷ pairs) e = absurd (omega arith)
apart (suc n) (low ∷ high ∷ pairs) e =
    let a = apart n pairs (omega arith) in
    record {
      low_length = ap suc a.low_length;
      high_length = ap suc a.high_length;
      together = ap (λ (l : List ℕ). low ∷ high ∷ l) a.together;
    }

-- the tests of pairs, cell by cell
pub rises_at : (lows highs : List ℕ) → pairs_rise (paired lows highs) ≡ true
    → (i : ℕ) → i < length lows → i < length highs → get_or lows i 0 ≤ get_or highs i 0
unfolding paired pairs_rise
rises_at [] highs e i h k = absurd (omega arith)
rises_at (low ∷ lows) [] e i h k = absurd (omega arith)
rises_at (low ∷ lows) (high ∷ highs) e zero h k = leb-true low high (both (leb low high) _ e).0
rises_at (low ∷ lows) (high ∷ highs) e (suc i) h k =
    rises_at lows highs (both (leb low high) _ e).1 i (omega arith) (omega arith)

pub at_rises : (lows highs : List ℕ) → ((i : ℕ) → i < length lows → get_or lows i 0 ≤ get_or highs i 0)
    → pairs_rise (paired lows highs) ≡ true
unfolding paired pairs_rise
at_rises [] highs rise = refl
at_rises (low ∷ lows) [] rise = refl
at_rises (low ∷ lows) (high ∷ highs) rise =
    rw (le-leb low high (rise 0 (omega arith))) (at_rises lows highs (λ i h. rise (suc i) (omega arith)))

pub low_highs_at : (lows highs : List ℕ) → none_high (paired lows highs) ≡ true
    → (i : ℕ) → i < length lows → i < length highs → get_or highs i 0 ≤ 240
unfolding paired none_high
low_highs_at [] highs e i h k = absurd (omega arith)
low_highs_at (low ∷ lows) [] e i h k = absurd (omega arith)
low_highs_at (low ∷ lows) (high ∷ highs) e zero h k =
    leb-true high 240 (both (leb high 240) _ (both (leb low 240) _ e).1).0
low_highs_at (low ∷ lows) (high ∷ highs) e (suc i) h k =
    low_highs_at lows highs (both (leb high 240) _ (both (leb low 240) _ e).1).1 i (omega arith) (omega arith)

pub at_low_highs : (lows highs : List ℕ) → ((i : ℕ) → i < length lows → get_or lows i 0 ≤ get_or highs i 0)
    → ((i : ℕ) → i < length lows → get_or highs i 0 ≤ 240) → none_high (paired lows highs) ≡ true
unfolding paired none_high
at_low_highs [] highs rise most = refl
at_low_highs (low ∷ lows) [] rise most = refl
at_low_highs (low ∷ lows) (high ∷ highs) rise most =
    let r = rise 0 (omega arith) in
    let m = most 0 (omega arith) in
    rw (le-leb low 240 (omega arith), le-leb high 240 m)
    (at_low_highs lows highs (λ i h. rise (suc i) (omega arith)) (λ i h. most (suc i) (omega arith)))

-- numbers on a line
abbrev double : ℕ → ℕ
double side = 2 * side

-- the pairs of an accepted text are as many as the cells
pub read_apart : (text : List ℕ) (room side : ℕ) (pairs : List ℕ) → read_text sketch_ends text room
    ≡ accepted side pairs
    → Apart (side * side) pairs
read_apart text room side pairs e =
    let t = (text_read_iff double (λ side p. omega arith) text room side pairs).0 e in
    apart (side * side) pairs (omega (arith, t.as_many))

module _ (text : List ℕ) (room_lows room_highs side : ℕ) (lows highs : List ℕ) where
  abbrev room : ℕ
  room = min room_lows room_highs

  sketch_read : SketchOf text room_lows room_highs side lows highs → SketchRead text room side (paired lows highs)
  unfolding sketch_text
  sketch_read s =
      let rise : (i : ℕ) → i < length lows → get_or lows i 0 ≤ get_or highs i 0
      = λ i h. omega (arith, s.rise i (omega arith)) in
      let most : (i : ℕ) → i < length lows → get_or highs i 0 ≤ 240 = λ i h. omega (arith, s.most i (omega arith)) in
      let low = at_low_highs lows highs rise most in
      record {
        read =
            (text_read_iff double (λ side p. omega arith) text room side (paired lows highs)).1
            (record {
              lines = s.bytes;
              known = omega arith;
              as_many = omega (arith, length_paired lows highs (omega arith));
              each_byte = λ i h. omega (arith, low_at (paired lows highs) low i h);
              enough = omega arith;
            });
        low = low;
        rise = at_rises lows highs rise;
      }

  read_sketch : length lows ≡ length highs → SketchRead text room side (paired lows highs)
      → SketchOf text room_lows room_highs side lows highs
  unfolding sketch_text
  read_sketch e s =
      let t = (text_read_iff double (λ side p. omega arith) text room side (paired lows highs)).0 s.read in
      let count : length lows ≡ side * side = omega (arith, t.as_many, length_paired lows highs e) in
      record {
        bytes = t.lines;
        one_of_eight = omega arith;
        low_count = omega arith;
        high_count = omega arith;
        rise = λ i h. omega (arith, rises_at lows highs s.rise i (omega arith) (omega arith));
        most = λ i h. omega (arith, low_highs_at lows highs s.low i (omega arith) (omega arith));
        fits_lows = omega arith;
        fits_highs = omega arith;
      }

  -- the reader accepts the pairs of these lows and highs, and they pass, exactly if the text is that of this sketch
  -- (S 6.3)
  pub sketch_read_iff : ((length lows ≡ length highs) × SketchRead text room side (paired lows highs))
      ↔ SketchOf text room_lows room_highs side lows highs
  sketch_read_iff = (
    λ r. read_sketch r.0 r.1,
    λ s. (omega (arith, s.low_count, s.high_count), sketch_read s),
  )

pub sketch_none : (r : ℕ) (pairs : List ℕ) (k room : ℕ)
    → (sketch_refusal r pairs k room ≡ 0) ↔ Passed r pairs k room
unfolding sketch_refusal
sketch_none r pairs k room = (
  λ e.
      let r₁ = lowest_none 12 (not (none_high pairs)) _ (omega arith) e in
      let r₂ = lowest_none 13 (not (pairs_rise pairs)) _ (omega arith) r₁.1 in
      let r₃ = lowest_none 6 (ltb r k) _ (omega arith) r₂.1 in
      let r₄ = lowest_none 8 (ltb room (2 ^ k * 2 ^ k)) _ (omega arith) r₃.1 in
      record {
        low = not-false (none_high pairs) r₁.0;
        rise = not-false (pairs_rise pairs) r₂.0;
        level = ltb-false r k r₃.0;
        enough = ltb-false room (2 ^ k * 2 ^ k) r₄.0;
      },
  λ p.
      lowest_past 12 (not (none_high pairs)) _ (ap not p.low)
      ∙ lowest_past 13 (not (pairs_rise pairs)) _ (ap not p.rise)
      ∙ lowest_past 6 (ltb r k) _ (le-ltb r k p.level)
      ∙ lowest_past 8 (ltb room (2 ^ k * 2 ^ k)) _ (le-ltb room (2 ^ k * 2 ^ k) p.enough)
      ∙ unfold lowest in refl,
)

module _ (text : List ℕ) (k : ℕ) (lows₀ highs₀ caps₀ : List ℕ) (side : ℕ) where
  -- the answer has the side and both totals; lows, highs and caps stand in front of what the buffers had behind them
  -- (S 9.4)
  pub sketch_outcome : (lows highs : List ℕ)
      → Quotable text k (length lows₀) (length highs₀) (length caps₀) side lows highs
      → sketch_quote_of text k lows₀ highs₀ caps₀
      ≡ record {
        said = returned
            (side ∷ total_of (grey_total (power_of side) lows) ∷ total_of (grey_total (power_of side) highs) ∷ []);
        lows = lows ++ drop (side * side) lows₀;
        highs = highs ++ drop (side * side) highs₀;
        caps = caps_of (power_of side) highs k ++ drop (2 ^ k * 2 ^ k) caps₀;
      }
  unfolding sketch_quote_of sketch_quoted
  sketch_outcome lows highs q =
      let r = (sketch_read_iff text (length lows₀) (length highs₀) side lows highs).1 q.sketch in
      let none : sketch_refusal (power_of side) (paired lows highs) k (length caps₀) ≡ 0
      = (sketch_none (power_of side) (paired lows highs) k (length caps₀)).1
      (record { low = r.1.low; rise = r.1.rise; level = omega arith; enough = omega arith }) in
      rw (
        r.1.read,
        none,
        sketch_quote_of,
        lows_paired lows highs r.0,
        highs_paired lows highs r.0,
        q.sketch.low_count,
        q.sketch.high_count,
      )

-- on no other text does it return figures
pub sketch_returned_iff : (text : List ℕ) (k : ℕ) (lows₀ highs₀ caps₀ : List ℕ) (side least greatest : ℕ)
    → ((sketch_quote_of text k lows₀ highs₀ caps₀).said ≡ returned (side ∷ least ∷ greatest ∷ []))
    ↔ QuotedSketch text k (length lows₀) (length highs₀) (length caps₀) side least greatest
unfolding sketch_quote_of sketch_quoted sketch_kept
sketch_returned_iff text k lows₀ highs₀ caps₀ side least greatest = (
  λ e. from (read_text sketch_ends text (min (length lows₀) (length highs₀))) refl e,
  λ q.
      rw (q.least_is, q.greatest_is)
      (ap (λ (o : SketchOutcome). o.said)
      (sketch_outcome text k lows₀ highs₀ caps₀ side q.lows q.highs q.quotable)),
)
  where
    from : (o : Reading) → read_text sketch_ends text (min (length lows₀) (length highs₀)) ≡ o
        → (sketch_quote_of text k lows₀ highs₀ caps₀).said ≡ returned (side ∷ least ∷ greatest ∷ [])
        → QuotedSketch text k (length lows₀) (length highs₀) (length caps₀) side least greatest
    from (rejected n) q e = absurd (suc-ne-zero 0 (cc (rw (q, sketch_quote_of) at e)))
    from (accepted n pairs) q e = passed (sketch_refusal (power_of n) pairs k (length caps₀)) refl
      where
        passed : (m : ℕ) → sketch_refusal (power_of n) pairs k (length caps₀) ≡ m
            → QuotedSketch text k (length lows₀) (length highs₀) (length caps₀) side least greatest
        passed (suc m) f = absurd (suc-ne-zero 0 (cc (rw (q, f, sketch_quote_of) at e)))
        passed zero f =
            let a = rw (q, f, sketch_quote_of) at e in
            let n_is : n ≡ side = cc in
            let p = (sketch_none (power_of n) pairs k (length caps₀)).0 f in
            let s = read_apart text (min (length lows₀) (length highs₀)) n pairs q in
            let together = s.together in
            rw (← n_is)
            (record {
              lows = lows_of pairs;
              highs = highs_of pairs;
              quotable = record {
                sketch = (sketch_read_iff text (length lows₀) (length highs₀) n (lows_of pairs) (highs_of pairs)).0 (
                  omega (arith, s.low_length, s.high_length),
                  rw together (record { read = q; low = p.low; rise = p.rise }),
                );
                level = omega arith;
                fits_caps = omega arith;
              };
              least_is = cc;
              greatest_is = cc;
            })
