-- What the functions of this crate are asked (`CountAsked`, `AnewAsked`), and what the making of a sheet leaves
-- (`Restored`).
use Rattle.std.specs.Prelude.{◌≡◌, true, List, ◌++◌, ℕ, ◌^◌, ◌≤◌, length, get_or, drop, ℤ}
use Rattle.definition.specs.Pyramid.{needed, cell_count}
use Rattle.definition.specs.Diffusion.{kernel_of}
use Rattle.definition.specs.Model.{model_start, steps}
use Rattle.definition.specs.Quarters.{quarters_from}
use Rattle.definition.specs.Checkpoints.{is_name, kept_at}
use Rattle.definition.specs.declared.Checkpoints.{Checkpoints}
use Rattle.fresh_sheet.specs.Filling.{FillLent}

-- a name that is not empty, with a count of 32 bits
pub record CountAsked (checkpoints : Checkpoints) (name : ℕ) : Type 0 where
  pub is_name : is_name name ≡ true
  pub some : 1 ≤ kept_at checkpoints name
  pub few : kept_at checkpoints name ≤ 2 ^ 32

-- greys that are bytes, and all parts long enough
pub record AnewAsked (r : ℕ) (greys : List ℕ) (pyramid serials order : ℕ) : Type 0 where
  pub lent : FillLent r (length greys) pyramid serials order
  pub bytes : (i : ℕ) → get_or greys i 0 ≤ 255

-- the buffers with the model's sheet of so many dots over their needed lengths, its pyramid by quarters
pub record Restored (knit r dots : ℕ) (g : List ℕ) (p : List ℤ) (s o : List ℕ)
    (p' : List ℤ) (s' o' : List ℕ) : Type 0 where
  pub long : length (steps (kernel_of knit) r dots (model_start r g)).pyramid ≡ needed r
  pub pyramid : p' ≡ quarters_from r (steps (kernel_of knit) r dots (model_start r g)).pyramid ++ drop (needed r) p
  pub serials : s' ≡ (steps (kernel_of knit) r dots (model_start r g)).serials ++ drop (cell_count r) s
  pub order : o' ≡ (steps (kernel_of knit) r dots (model_start r g)).order ++ drop (cell_count r) o
