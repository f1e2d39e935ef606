-- Lists by place: `tabulate n f` is f 0, .., f (n − 1) (`length_tabulate`, `get_d_tabulate`, `eq_tabulate`), and what
-- the kit lacks on `replicate` and `set`.
--
-- A law that takes i and n is of `tabulate_from i n f`, so of `tabulate n f` at i = 0. The kit has, in lib.ListN:
-- `length-append`, `length-take`, `length-drop`, `length-set`, `length-replicate`, `length-map`, `get_or-replicate`,
-- `take-append-drop`, `drop_of_length-le`, `get_or-append`, `get_or-eq_default`, `get_or-map`; and in lib.Seq:
-- by elements `ext_get_or`; after a store `get_or-set_same`, `get_or-set_other`, `take-set-le`, `take-set-lt`,
-- `drop-set-lt`, `drop-set-add`, `set-set`, `set_comm`, `set-get_or`, `set_out`, `set_split`, `set-append_left`; at a
-- seam `take-append_seam`, `take-append-le`, `take-append-add`, `take_at` and the same of `drop`, `get_or-append-add`;
-- of parts `get_or-take`, `get_or-drop`, `take-take`, `drop-drop`, `take-add`, `take_all`, `take-suc`, `drop-cons`,
-- `length-take-le`.
use Rattle.std.specs.Prelude.{◌≡◌, List, [], ◌∷◌, ◌++◌, map, length, get_or, set, replicate}
use Rattle.std.proofs.Math.Path.{refl, ap}
use Rattle.std.proofs.Common.{sym, ◌∙◌, zero-add, suc-add, arith, ext_get_or}
use Prim.Native.Nat.{ℕ, zero, suc, ◌+◌, ◌≤◌, ◌<◌}
use Rattle.definition.specs.Lists.{tabulate_from, tabulate}

module _ {A : Type 0} where
  pub length_tabulate : (i n : ℕ) (f : ℕ → A) → length (tabulate_from i n f) ≡ n
  unfolding tabulate_from
  length_tabulate i zero f = refl
  length_tabulate i (suc n) f = ap suc (length_tabulate (suc i) n f)

  pub get_or_tabulate_from : (i n : ℕ) (f : ℕ → A) (k : ℕ) (d : A) → k < n → get_or (tabulate_from i n f) k d
      ≡ f (i + k)
  unfolding tabulate_from
  get_or_tabulate_from i zero f k d h = absurd (omega arith)
  get_or_tabulate_from i (suc n) f zero d h = ap f (omega arith)
  get_or_tabulate_from i (suc n) f (suc k) d h = get_or_tabulate_from (suc i) n f k d (omega arith) ∙ ap f (omega arith)

  pub get_d_tabulate : (n : ℕ) (f : ℕ → A) (k : ℕ) (d : A) → k < n → get_or (tabulate n f) k d ≡ f k
  get_d_tabulate n f k d h = get_or_tabulate_from 0 n f k d h ∙ ap f (zero-add k)

  -- functions that agree at the places of the list
  tabulate_from_ext : (i n : ℕ) (f g : ℕ → A) → ((m : ℕ) → i ≤ m → m < i + n → f m ≡ g m)
      → tabulate_from i n f ≡ tabulate_from i n g
  unfolding tabulate_from
  tabulate_from_ext i zero f g h = refl
  tabulate_from_ext i (suc n) f g h =
      rw (h i (omega arith) (omega arith), tabulate_from_ext (suc i) n f g (λ m p q. h m (omega arith) (omega arith)))

  pub tabulate_ext : (n : ℕ) (f g : ℕ → A) → ((m : ℕ) → m < n → f m ≡ g m) → tabulate n f ≡ tabulate n g
  tabulate_ext n f g h = tabulate_from_ext 0 n f g (λ m p q. h m (omega arith))

  -- a list is its elements by place
  pub tabulate_get_or : (n : ℕ) (l : List A) (d : A) → length l ≡ n → tabulate n (λ i. get_or l i d) ≡ l
  tabulate_get_or n l d e =
      ext_get_or d _ l (length_tabulate 0 n _ ∙ sym e)
      (λ i h. get_d_tabulate n (λ i. get_or l i d) i d (omega (arith, length_tabulate 0 n (λ i. get_or l i d))))

  -- and is known by them
  pub eq_tabulate : (n : ℕ) (l : List A) (f : ℕ → A) (d : A) → length l ≡ n → ((i : ℕ) → i < n → get_or l i d ≡ f i)
      → l ≡ tabulate n f
  eq_tabulate n l f d e h = sym (tabulate_get_or n l d e) ∙ tabulate_ext n (λ i. get_or l i d) f h

  pub map_tabulate : {B : Type 0} (g : A → B) (i n : ℕ) (f : ℕ → A)
      → map g (tabulate_from i n f) ≡ tabulate_from i n (λ m. g (f m))
  unfolding tabulate_from
  map_tabulate g i zero f = refl
  map_tabulate g i (suc n) f = rw (map_tabulate g (suc i) n f)

  -- `get_or-replicate` of the kit asks for a place below n
  pub get_or_replicate_self : (n i : ℕ) (a : A) → get_or (replicate n a) i a ≡ a
  get_or_replicate_self zero i a = refl
  get_or_replicate_self (suc n) zero a = refl
  get_or_replicate_self (suc n) (suc i) a = get_or_replicate_self n i a

  pub tabulate_const : (i n : ℕ) (a : A) → tabulate_from i n (λ m. a) ≡ replicate n a
  unfolding tabulate_from
  tabulate_const i zero a = refl
  tabulate_const i (suc n) a = rw (tabulate_const (suc i) n a)

  pub set_append_add : (xs ys : List A) (i : ℕ) (a : A) → set (xs ++ ys) (length xs + i) a ≡ xs ++ set ys i a
  set_append_add [] ys i a = rw zero-add
  set_append_add (x ∷ xs) ys i a = rw suc-add (ap (λ (l : List A). x ∷ l) (set_append_add xs ys i a))
