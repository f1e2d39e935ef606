-- What the program prints: a text of at most 4,099 bytes (`sample_printed`), which is read back as the lowered sample,
-- so that the program `plate` prints its drill list (`sample_plate`).
use Rattle.std.specs.Prelude.{◌≡◌, refl, List, ℕ, ◌≤◌, ◌<◌, length, get_or, take}
use Rattle.std.proofs.Common.{ap, ◌∙◌, append-nil, arith, le-ltb, drop_of_length-le}
use Rattle.definition.specs.Answers.{Said, GreysOutcome}
use Rattle.definition.specs.Diffusion.{plain}
use Rattle.definition.specs.Refusals.{power_up_to, power_of}
use Rattle.definition.specs.Lowering.{lowered}
use Rattle.definition.specs.MapText.{map_text, accepted, read_low}
use Rattle.definition.specs.DrillList.{drill_text}
use Rattle.definition.specs.Sample.{sample_greys, sample_of, sample_text}
use Rattle.definition.specs.Plate.{finished_of, plate_of}
use Rattle.refusals.specs.Lowest.{greys_none}
use Rattle.lowering.specs.Low.{low_at, lowered_length, lowered_low}
use Rattle.grammar.proofs.MapText.{read_low_iff}
use Rattle.decimals.specs.Writing.{Wrote, length_decimal}
use Rattle.decimals.specs.Printed.{wrote_printed, printed_text}
use Rattle.map_text.specs.Written.{MapLent, map_length}
use Rattle.sample_runs.specs.Runs.{length_greys}
use Rattle.sample_runs.proofs.InTurn.{accepted_is}

-- the greys of the sample, and of the program
abbrev sampled : List ℕ
sampled = sample_greys 1024 1

abbrev greys : List ℕ
greys = lowered (sample_greys 1024 1)

greys_count : length greys ≡ 1024
greys_count = lowered_length sampled ∙ length_greys 1024 1

greys_low : (i : ℕ) → i < length greys → get_or greys i 0 ≤ 240
greys_low = low_at greys (lowered_low sampled)

-- the power of the side
power : power_of 32 ≡ 5
unfolding power_of power_up_to
power = refl

pub whole_lent : {count : ℕ} → count ≡ 1024 → MapLent 32 count
whole_lent e = record { some_side = omega arith; most = omega arith; whole = omega arith }

text_length : length sample_text ≤ 4099
unfolding sample_text
text_length =
    omega (
      arith,
      map_length greys (whole_lent greys_count) (λ i h. omega (arith, greys_low i h)),
      greys_count,
      length_decimal 2 32 (omega arith) (omega arith),
    )

-- a buffer of 1,024 places afterwards holds the lowered greys and nothing else
pub filled : (buffer : List ℕ) → length buffer ≡ 1024
    → {said : Said} {after low : List ℕ} → record { said = said; greys = after } ≡ sample_of 1 32 buffer
    → low ≡ lowered after → low ≡ greys
filled buffer whole {after = after} e q =
    let none = (greys_none (power_of 32) (length buffer)).1 (rw power (omega arith, omega arith)) in
    let after_is : after ≡ sample_greys 1024 1 = ap (λ (o : GreysOutcome). o.greys) (e ∙ accepted_is 1 32 buffer none)
    ∙ rw (power, drop_of_length-le buffer {i = 1024} (omega arith), append-nil) in
    q ∙ ap lowered after_is

pub sample_printed : {before after filled : List ℕ} {n : ℕ} → 4099 ≤ length before → filled ≡ greys
    → Wrote before 0 (map_text 32 filled) n after
    → (take n after ≡ sample_text) × (n ≤ 4099)
unfolding sample_text
sample_printed room e w =
    let p = wrote_printed (omega (arith, text_length)) (rw e at w) in
    (printed_text p, omega (arith, p.count, text_length))

-- ---- read back
text_read : read_low sample_text 1024 ≡ accepted 32 greys
text_read =
    (read_low_iff sample_text 1024 32 greys).1
    (record {
      map = record {
        bytes = unfold sample_text in refl;
        one_of_eight = rw power (omega arith);
        count = greys_count;
        small = λ i h. omega (arith, greys_low i h);
        fits = omega arith;
      };
      low = greys_low;
    })

-- the sample that is printed (S 14.3) is one that `plate` takes (S 14.1)
pub sample_plate : plate_of sample_text ≡ drill_text 5 (finished_of plain 5 (lowered (sample_greys 1024 1)))
unfolding plate_of
sample_plate = rw (le-ltb 4099 (length sample_text) text_length, text_read, power, plate_of)
