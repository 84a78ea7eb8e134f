-- The conditions 7 and 8 of readable bytes: the dual words that are tested are those of the book, and the tests are the book's.
-- Assumes nothing.
use mathlib.Core.Path.{◌≡◌, refl, sym, ap, ◌∙◌, subst}
use mathlib.Core.Bool.{Bool, true, false, ◌&&◌}
use mathlib.Core.List.{List}
use Prim.Native.Nat.{ℕ, ◌≤◌, ◌<◌}
use native.Mathlib.Nat.{mod-eq_of_lt, le_of_eq}
use native.Mathlib.Omega.{arith}
use lib.Dec.{eqb, eqb→eq}
use lib.ListN.{length}
use Rattle.spec_range.specs.Fold.{all}
use Rattle.spec_range.proofs.Fold.{fold_cong, fold-op, tests}
use Rattle.spec_range.proofs.Tests.{and_left, and_right, true_test}
use Rattle.spec_range.proofs.Table.{all-at}
use Rattle.sizes.specs.Blocks.{stride}
use Rattle.spec_field.specs.Field.{FieldLaws}
use Rattle.spec_field.specs.Symbols.{gf}
use Rattle.spec_field.proofs.Gf.{gf_laws}
use Rattle.spec_word.specs.Word.{weight}
use Rattle.spec_word.proofs.Product.{product_cong}
use Rattle.spec_book.specs.Layout.{width, generator_at, dual_at, duals_in, body_place, field_of, book_of}
use Rattle.spec_book.specs.Conditions.{dual_ok, duals_ok, distinct_ok}
use Rattle.spec_book.proofs.Accepting.{body_symbol, body_zero}
use Rattle.book_duals.specs.Duals as duals
use Rattle.book_duals.specs.Duals.{generator_word, dual_word, weight_ok, product_ok, Lying, Table}
use Rattle.book_alike.specs.Compared.{differ, Comparable}
use Rattle.book.specs.Params.{Read, Tabulated}
use Rattle.book.proofs.Reading.{generator_at_lem, generator_body, dual_body, dual_kind, read_sizes, read_spanned}

-- the parts of a test change places
exchange : (a b c : Bool) → a && b && c ≡ a && c && b
exchange a b c = tests.assoc a b c ∙ ap (a &&◌) (tests.comm b c) ∙ sym (tests.assoc a c b)

module _ {bytes : List ℕ} {p n : ℕ} (h : Read bytes p n) {count : ℕ} (e : count ≡ duals_in bytes) where
  room : dual_at (width bytes) count ≤ length bytes
  room = subst (λ (k : ℕ). dual_at (width bytes) k ≤ length bytes) (sym e) (le_of_eq (sym h.sized.whole.size))

  -- the dual words where they lie
  pub lying : Lying bytes n count
  lying =
      record {
        n_low = h.sized.n_low;
        n_high = (read_sizes h).n_high;
        duals_low = omega (arith, h.sized.whole.count_low);
        duals_high = omega (arith, h.sized.whole.count_high);
        room = room;
        spanned = read_spanned h;
        kind = λ l b. dual_kind h.readable l (omega arith);
        zero = λ l j b a k. body_zero bytes (dual_at (width bytes) l) (dual_body h.readable l (omega arith)) j k (omega (arith, h.sized.n_is));
      }

  -- their symbols, and those of the generator
  pub tested : duals.Tested bytes p n count
  tested =
      record {
        sizes = read_sizes h;
        duals_high = omega (arith, h.sized.whole.count_high);
        room = room;
        spanned = read_spanned h;
        generator = λ j k. rw h.p_is (body_symbol bytes generator_at (generator_body h.readable) j (omega (arith, h.sized.n_high)));
        symbol = λ l j b k. rw h.p_is (body_symbol bytes (dual_at (width bytes) l) (dual_body h.readable l (omega arith)) j (omega (arith, read_spanned h)));
      }

  laws : FieldLaws (gf p)
  laws = gf_laws p (read_sizes h).p_low (read_sizes h).p_high

  generates : (u : ℕ) → u < n → generator_word n bytes u ≡ (book_of bytes).generator u
  unfolding generator_word
  generates u k = ap (body_place bytes generator_at) (mod-eq_of_lt k) ∙ sym (generator_at_lem bytes (omega (arith, h.sized.n_high)))

  test-is : (l : ℕ) → weight_ok n bytes l && product_ok p n bytes l ≡ dual_ok (field_of bytes) (book_of bytes) l
  unfolding weight_ok product_ok dual_ok book_of dual_word
  test-is l =
      exchange (eqb (dual_word n bytes l 0) 1) (eqb (weight n (dual_word n bytes l)) (weight n (dual_word n bytes 0))) (product_ok p n bytes l)
      ∙ ap (λ (t : Bool). eqb (dual_word n bytes l 0) 1 && t && eqb (weight n (dual_word n bytes l)) (weight n (dual_word n bytes 0)))
      (fold_cong ◌&&◌ true n (λ m k. ap (λ (x : ℕ). eqb x 0) (product_cong (gf p) laws n generates (λ j. refl) m)))
      ∙ rw (h.p_is, h.sized.n_is)

  duals-test : all count (weight_ok n bytes) && all count (product_ok p n bytes) ≡ duals_ok (field_of bytes) (book_of bytes)
  unfolding duals_ok book_of
  duals-test =
      sym (fold-op ◌&&◌ true tests count (weight_ok n bytes) (product_ok p n bytes)) ∙ fold_cong ◌&&◌ true count (λ l b. test-is l)
      ∙ ap (λ (m : ℕ). all m (dual_ok (field_of bytes) (book_of bytes))) e

  -- the first test fails
  pub weights_fail : false ≡ all count (weight_ok n bytes) → false ≡ duals_ok (field_of bytes) (book_of bytes)
  weights_fail f = ap (λ (t : Bool). t && all count (product_ok p n bytes)) f ∙ duals-test

  -- or the second decides
  pub products_decide : {v : Bool} → true ≡ all count (weight_ok n bytes) → v ≡ all count (product_ok p n bytes)
      → v ≡ duals_ok (field_of bytes) (book_of bytes)
  products_decide s d = d ∙ ap (λ (t : Bool). t && all count (product_ok p n bytes)) s ∙ duals-test

  -- what condition 8 is asked of, where 7 was passed
  pub comparable : duals_ok (field_of bytes) (book_of bytes) ≡ true → Comparable bytes p n count
  unfolding duals_ok dual_ok book_of dual_word
  comparable d =
      record { tested = tested; most = omega (arith, h.sized.whole.count_high); first = λ l b. first l (omega arith) }
    where
      first : (l : ℕ) → l < duals_in bytes → dual_word n bytes l 0 ≡ 1
      first l b =
          let t = all-at (duals_in bytes) (dual_ok (field_of bytes) (book_of bytes)) (true_test _ d) l b in
          rw h.sized.n_is (eqb→eq ((book_of bytes).dual l 0) 1 (search (and_left, and_right) depth 5))

  -- and its test
  pub distinct_test : all count (differ p n bytes) ≡ distinct_ok (field_of bytes) (book_of bytes)
  unfolding differ distinct_ok book_of dual_word
  distinct_test = rw (e, h.p_is, h.sized.n_is)

-- the table made
pub table : {bytes t : List ℕ} {p n : ℕ} → Tabulated bytes p n t → Table (stride n) bytes p n t
table {bytes} h = record { multiples = h.multiples; word = λ j k. h.word j ∙ ap (body_place bytes generator_at) (mod-eq_of_lt k) }
