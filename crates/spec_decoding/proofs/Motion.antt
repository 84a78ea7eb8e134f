-- A motion of words: a permutation of the places and an additive permutation of the symbols. Turning and multiplying is one; squaring is another.
-- Assumes nothing.
use mathlib.Core.Path.{◌≡◌, sym, ap, ◌∙◌, subst}
use mathlib.Core.List.{List}
use Prim.Native.Nat.{ℕ, ◌<◌}
use lib.ListN.{get_or}
use lib.Seq.{ext_get_or}
use Rattle.spec_field.specs.Field.{FieldOps}
use Rattle.spec_word.specs.Word.{at}
use Rattle.spec_word.proofs.Place.{SymbolList, at_lt}

pub record Motion (F : FieldOps) (n : ℕ) : Type 0 where
  pub place : ℕ → ℕ
  pub unplace : ℕ → ℕ
  pub place_lt : (j : ℕ) → j < n → place j < n
  pub unplace_lt : (j : ℕ) → j < n → unplace j < n
  pub unplace_place : (j : ℕ) → j < n → unplace (place j) ≡ j
  pub place_unplace : (j : ℕ) → j < n → place (unplace j) ≡ j
  pub symbol : ℕ → ℕ
  pub unsymbol : ℕ → ℕ
  pub symbol_lt : (i : ℕ) → i < F.q → symbol i < F.q
  pub unsymbol_lt : (i : ℕ) → i < F.q → unsymbol i < F.q
  pub unsymbol_symbol : (i : ℕ) → i < F.q → unsymbol (symbol i) ≡ i
  pub symbol_unsymbol : (i : ℕ) → i < F.q → symbol (unsymbol i) ≡ i
  pub symbol_zero : symbol 0 ≡ 0
  pub symbol_add : (a b : ℕ) → symbol (F.add a b) ≡ F.add (symbol a) (symbol b)

module _ {F : FieldOps} {n : ℕ} (M : Motion F n) where
  pub symbol_inj : {a b : ℕ} → a < F.q → b < F.q → M.symbol a ≡ M.symbol b → a ≡ b
  symbol_inj {a} {b} ha hb e = sym (M.unsymbol_symbol a ha) ∙ ap M.unsymbol e ∙ M.unsymbol_symbol b hb

  -- entry (i, j) of m is the entry of m' in the row and the column that i and j are moved to
  abbrev pub MovedMatrix : (ℕ → ℕ → ℕ) → (ℕ → ℕ → ℕ) → Type 0
  MovedMatrix m m' = (i : ℕ) → i < F.q → (j : ℕ) → j < n → m' (M.symbol i) (M.place j) ≡ m i j

  -- w' is w moved, and with v added
  abbrev pub MovedWord : (ℕ → ℕ) → (ℕ → ℕ) → (ℕ → ℕ) → Type 0
  MovedWord v w w' = (j : ℕ) → j < n → w' (M.place j) ≡ F.add (M.symbol (w j)) (v (M.place j))

  -- the places of a moved word determine it
  pub moved_unique : (v : ℕ → ℕ) (w : ℕ → ℕ) (a b : List ℕ) → SymbolList F n a → SymbolList F n b
      → MovedWord v w (at n a) → MovedWord v w (at n b) → a ≡ b
  moved_unique v w a b ha hb ma mb =
      ext_get_or 0 a b (ha.exact ∙ sym hb.exact) (λ k l. same k (subst (λ (x : ℕ). k < x) ha.exact l))
    where
      same : (k : ℕ) → k < n → get_or a k 0 ≡ get_or b k 0
      same k l =
          sym (at_lt n a l) ∙ ap (at n a) (sym (M.place_unplace k l)) ∙ ma (M.unplace k) (M.unplace_lt k l)
          ∙ sym (mb (M.unplace k) (M.unplace_lt k l)) ∙ ap (at n b) (M.place_unplace k l) ∙ at_lt n b l
