-- Words that are alike: what it says at every place, that being alike is an equivalence, by turns and multiples of lists, and where the turn fixes the factor.
-- Assumes nothing.
use mathlib.Core.Path.{◌≡◌, sym, ap, ◌∙◌, subst}
use mathlib.Core.Logic.{◌≢◌}
use mathlib.Core.Bool.{Bool, ◌&&◌}
use mathlib.Core.List.{List}
use Prim.Native.Nat.{ℕ, pred, ◌+◌, ◌*◌, ◌%◌, ◌<◌}
use native.Mathlib.Nat.{mod-lt, add-zero, zero-add, ne_of_gt, pos_of_ne-zero}
use native.Mathlib.Omega.{arith}
use lib.Dec.{T, eqb, eqb→eq}
use lib.ListN.{get_or}
use lib.Seq.{ext_get_or}
use Rattle.spec_range.specs.Fold.{any}
use Rattle.spec_range.proofs.Tests.{same_test, eq→eqb, and_left, and_right, and_both, not_of, not_at}
use Rattle.spec_range.proofs.Table.{all-at, all_of}
use Rattle.spec_range.proofs.Count.{any_found, any_of}
use Rattle.spec_field.specs.Field.{FieldOps, FieldLaws}
use Rattle.spec_field.proofs.Laws as L
use Rattle.spec_word.specs.Word.{at, nonzero, turn, scale}
use Rattle.spec_word.specs.Alike.{is_multiple_of_turn, alike}
use Rattle.spec_word.proofs.Place.{Word, SymbolList, period_mod, period_back, at_period, at_mod, at_lt, at_scaled_turn, list_word, scaled_symbols}

-- a symbol that is not zero
pub nonzero_pos : (c : ℕ) → T (nonzero c) → 0 < c
nonzero_pos c t = pos_of_ne-zero (λ e. not_at (eqb c 0) t (eq→eqb e))

pub pos_nonzero : {c : ℕ} → 0 < c → T (nonzero c)
pos_nonzero {c} l = not_of (eqb c 0) (λ t. ne_of_gt l (eqb→eq c 0 t))

-- w is v turned by t and multiplied by c, at every place
pub record MultipleOfTurn (F : FieldOps) (w v : ℕ → ℕ) : Type 0 where
  pub c : ℕ
  pub c_pos : 0 < c
  pub c_lt : c < F.q
  pub t : ℕ
  pub same : (j : ℕ) → w (j + t) ≡ F.mul c (v j)

module _ (F : FieldOps) (laws : FieldLaws F) (n : ℕ) (pos : 0 < n) where
  open F use {q, mul as ◌⊗◌, inv}
  open laws use {one_below, mul_below, mul_assoc, mul_zero, mul_one, inv_below, mul_inv}

  infixl 70 ◌⊗◌
  -- ---- the test, and what it says at every place

  module _ {w v : ℕ → ℕ} (w-word : Word F n w) (v-word : Word F n v) where
    -- the places below n tell of all
    multiple-places : (c t : ℕ) → T (is_multiple_of_turn F n c t w v) → (j : ℕ) → w (j + t) ≡ c ⊗ v j
    unfolding is_multiple_of_turn
    multiple-places c t h j =
        sym (period_mod n (λ i. w (i + t)) (λ i. ap w (omega arith) ∙ w-word.period (i + t)) j)
        ∙ eqb→eq _ _ (all-at n _ h (j % n) (mod-lt j pos)) ∙ ap (c ⊗◌) (period_mod n v v-word.period j)

    -- a turn counts modulo n
    places-multiple : (c t : ℕ) → ((j : ℕ) → w (j + t) ≡ c ⊗ v j) → T (is_multiple_of_turn F n c (t % n) w v)
    unfolding is_multiple_of_turn
    places-multiple c t h =
        all_of n _ (λ j l. eq→eqb (period_mod n (λ i. w (j + i)) (λ i. ap w (omega arith) ∙ w-word.period (j + i)) t ∙ h j))

    turns : ℕ → Bool
    turns c = any n (λ t. is_multiple_of_turn F n c t w v)

    pub alike-multiple : T (alike F n w v) → MultipleOfTurn F w v
    unfolding alike turns
    alike-multiple h =
        let f = any_found q (λ c. nonzero c && turns c) h in
        let g = any_found n (λ t. is_multiple_of_turn F n f.0 t w v) (and_right (nonzero f.0) (turns f.0) f.2) in
        record {
          c = f.0;
          c_pos = nonzero_pos f.0 (and_left (nonzero f.0) (turns f.0) f.2);
          c_lt = f.1;
          t = g.0;
          same = multiple-places f.0 g.0 g.2;
        }

    pub multiple-alike : MultipleOfTurn F w v → T (alike F n w v)
    unfolding alike turns
    multiple-alike m =
        any_of q (λ c. nonzero c && turns c) m.c m.c_lt
        (and_both (nonzero m.c) (turns m.c) (pos_nonzero m.c_pos)
        (any_of n (λ t. is_multiple_of_turn F n m.c t w v) (m.t % n) (mod-lt m.t pos) (places-multiple m.c m.t m.same)))

  -- ---- an equivalence

  pub alike_reflexive : {w : ℕ → ℕ} → Word F n w → T (alike F n w w)
  alike_reflexive {w} w-word =
      multiple-alike w-word w-word
      (record { c = 1; c_pos = omega arith; c_lt = one_below; t = 0; same = λ j. ap w (add-zero j) ∙ sym (L.one_mul F laws (w j) (w-word.symbol j)) })

  -- factors that are not zero
  inverse-pos : {c : ℕ} → 0 < c → c < q → 0 < inv c
  inverse-pos {c} h l = pos_of_ne-zero (λ e. one_not_zero (sym (mul_inv c h l) ∙ ap (c ⊗◌) e ∙ mul_zero c))
    where
      one_not_zero : ◌≢◌ {A = ℕ} 1 0
      one_not_zero = omega arith

  product-pos : {a b : ℕ} → 0 < a → a < q → 0 < b → b < q → 0 < a ⊗ b
  product-pos {a} {b} ha la hb lb = pos_of_ne-zero (λ e. ne_of_gt hb (L.mul-cancel F laws ha la lb (L.zero_below F laws) (e ∙ sym (mul_zero a))))

  -- what was turned by t comes back by n - 1 such turns
  pub alike_symmetric : {w v : ℕ → ℕ} → Word F n w → Word F n v → T (alike F n w v) → T (alike F n v w)
  alike_symmetric {w} {v} w-word v-word h =
      let m = alike-multiple w-word v-word h in
      multiple-alike v-word w-word
      (record {
        c = inv m.c;
        c_pos = inverse-pos m.c_pos m.c_lt;
        c_lt = inv_below m.c;
        t = m.t * pred n;
        same = λ j.
            sym (L.inv-mul-mul F laws m.c_pos m.c_lt (v (j + m.t * pred n)) (v-word.symbol _))
            ∙ ap (inv m.c ⊗◌) (sym (m.same (j + m.t * pred n)) ∙ period_back n w w-word.period pos m.t j);
      })

  pub alike_transitive : {w v u : ℕ → ℕ} → Word F n w → Word F n v → Word F n u → T (alike F n w v) → T (alike F n v u) → T (alike F n w u)
  alike_transitive {w} {v} {u} w-word v-word u-word h k =
      let m = alike-multiple w-word v-word h in
      let o = alike-multiple v-word u-word k in
      multiple-alike w-word u-word
      (record {
        c = m.c ⊗ o.c;
        c_pos = product-pos m.c_pos m.c_lt o.c_pos o.c_lt;
        c_lt = mul_below m.c o.c;
        t = o.t + m.t;
        same = λ j. ap w (omega arith) ∙ m.same (j + o.t) ∙ ap (m.c ⊗◌) (o.same j) ∙ sym (mul_assoc m.c o.c (u j));
      })

  -- ---- a word with 1 at place 0: the turn fixes the factor

  pub alike_normal : {w v : ℕ → ℕ} → Word F n w → Word F n v → v 0 ≡ 1
      → alike F n w v ≡ any n (λ t. nonzero (w t) && is_multiple_of_turn F n (w t) t w v)
  alike_normal {w} {v} w-word v-word one = same_test (alike F n w v) (any n fits) there back
    where
      fits : ℕ → Bool
      fits t = nonzero (w t) && is_multiple_of_turn F n (w t) t w v

      there : T (alike F n w v) → T (any n fits)
      there h =
          let m = alike-multiple w-word v-word h in
          let fixed : m.c ≡ w (m.t % n) =
          sym (mul_one m.c m.c_lt) ∙ ap (m.c ⊗◌) (sym one) ∙ sym (m.same 0) ∙ ap w (zero-add m.t) ∙ sym (period_mod n w w-word.period m.t) in
          any_of n fits (m.t % n) (mod-lt m.t pos)
          (subst (λ (c : ℕ). T (nonzero c && is_multiple_of_turn F n c (m.t % n) w v)) fixed
          (and_both (nonzero m.c) _ (pos_nonzero m.c_pos) (places-multiple w-word v-word m.c m.t m.same)))

      back : T (any n fits) → T (alike F n w v)
      back h =
          let f = any_found n fits h in
          let t = f.0 in
          multiple-alike w-word v-word
          (record {
            c = w t;
            c_pos = nonzero_pos (w t) (and_left (nonzero (w t)) _ f.2);
            c_lt = w-word.symbol t;
            t = t;
            same = multiple-places w-word v-word (w t) t (and_right (nonzero (w t)) _ f.2);
          })

  -- ---- lists: alike are just the multiples of turns

  pub scaled_turn-alike : {v : List ℕ} → SymbolList F n v → (c t : ℕ) → 0 < c → c < q → T (alike F n (at n (scale F n c (turn n t v))) (at n v))
  scaled_turn-alike {v} hv c t h l =
      multiple-alike (list_word (scaled_symbols F laws n c (turn n t v) pos)) (list_word hv)
      (record { c = c; c_pos = h; c_lt = l; t = t; same = λ j. sym (at_mod n _ (j + t)) ∙ at_scaled_turn F n c t v pos j })

  pub alike_scaled_turn : {w v : List ℕ} → SymbolList F n w → SymbolList F n v → T (alike F n (at n w) (at n v))
      → (m : MultipleOfTurn F (at n w) (at n v)) × (w ≡ scale F n m.c (turn n m.t v))
  alike_scaled_turn {w} {v} hw hv h =
      let m = alike-multiple (list_word hw) (list_word hv) h in
      (m, ext_get_or 0 w (moved m) (hw.exact ∙ sym (moved-symbols m).exact) (λ k l. listed m k (subst (λ (x : ℕ). k < x) hw.exact l)))
    where
      moved : MultipleOfTurn F (at n w) (at n v) → List ℕ
      moved m = scale F n m.c (turn n m.t v)

      moved-symbols : (m : MultipleOfTurn F (at n w) (at n v)) → SymbolList F n (moved m)
      moved-symbols m = scaled_symbols F laws n m.c (turn n m.t v) pos

      listed : (m : MultipleOfTurn F (at n w) (at n v)) (k : ℕ) → k < n → get_or w k 0 ≡ get_or (moved m) k 0
      listed m k l =
          let j = k + m.t * pred n in
          sym (at_lt n w l) ∙ sym (period_back n (at n w) (at_period n w) pos m.t k) ∙ m.same j
          ∙ sym (at_scaled_turn F n m.c m.t v pos j) ∙ at_mod n (moved m) (j + m.t)
          ∙ period_back n (at n (moved m)) (at_period n (moved m)) pos m.t k ∙ at_lt n (moved m) l
