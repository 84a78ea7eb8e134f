-- A list whose first places are written one by one from another list.
-- Assumes nothing.
use mathlib.Core.Path.{◌≡◌, refl, sym, ◌∙◌, ap}
use Prim.Native.Nat.{ℕ, zero, suc, ◌+◌, ◌≤◌, ◌<◌}
use native.Mathlib.Nat.{not-suc-le-zero, le_of_suc-le-suc}
use native.Mathlib.Numerals.{add-one}
use mathlib.Core.List.{List, [], ◌∷◌, ◌++◌}
use lib.ListN.{length, take, drop, set, get_or}

module _ {X : Type 0} where
  -- ys with its first m places as rs has them
  abbrev pub upto : ℕ → List X → List X → List X
  upto m rs ys = take m rs ++ drop m ys

  pub upto_length : (m : ℕ) (rs ys : List X) → m ≤ length rs → m ≤ length ys → length (upto m rs ys) ≡ length ys
  upto_length zero rs ys a b = refl
  upto_length (suc m) [] ys a b = absurd (not-suc-le-zero a)
  upto_length (suc m) (r ∷ rs) [] a b = absurd (not-suc-le-zero b)
  upto_length (suc m) (r ∷ rs) (y ∷ ys) a b = ap suc (upto_length m rs ys (le_of_suc-le-suc a) (le_of_suc-le-suc b))

  -- the next place is written
  next : (m : ℕ) (rs ys : List X) (d : X) → m < length rs → m < length ys → set (upto m rs ys) m (get_or rs m d) ≡ upto (suc m) rs ys
  next zero [] ys d a b = absurd (not-suc-le-zero a)
  next zero (r ∷ rs) [] d a b = absurd (not-suc-le-zero b)
  next zero (r ∷ rs) (y ∷ ys) d a b = refl
  next (suc m) [] ys d a b = absurd (not-suc-le-zero a)
  next (suc m) (r ∷ rs) [] d a b = absurd (not-suc-le-zero b)
  next (suc m) (r ∷ rs) (y ∷ ys) d a b = ap (λ (l : List X). r ∷ l) (next m rs ys d (le_of_suc-le-suc a) (le_of_suc-le-suc b))

  pub upto_next : (m : ℕ) (rs ys : List X) (d : X) → m < length rs → m < length ys → set (upto m rs ys) m (get_or rs m d) ≡ upto (m + 1) rs ys
  upto_next m rs ys d a b = next m rs ys d a b ∙ ap (λ (k : ℕ). upto k rs ys) (sym (add-one m))
